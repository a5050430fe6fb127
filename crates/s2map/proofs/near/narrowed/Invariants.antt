use Rattle.s2map.proofs.Sifting.{Sifted}
use Rattle.s2map.proofs.near.narrowed.Given as goal

abbrev pub invariant-loop-e : goal.invariant-loop-e
invariant-loop-e l = Sifted l.from l.q l.fn.near.odd l.e-items l.e-index l.odd l.edges.items
