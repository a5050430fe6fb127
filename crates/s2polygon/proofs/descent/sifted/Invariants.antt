use Rattle.s2polygon.proofs.Picking.{Sifted}
use Rattle.s2polygon.proofs.descent.sifted.Given as goal

abbrev pub invariant-loop-n : goal.invariant-loop-n
invariant-loop-n l = Sifted l.all l.numbers l.s l.q l.n-index l.odd l.met.items
