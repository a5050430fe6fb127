use Rattle.s2map.proofs.Ringing.{RingsTo}
use Rattle.s2map.proofs.part.edges_of.Given as goal

abbrev pub invariant-loop-ring : goal.invariant-loop-ring
invariant-loop-ring l = RingsTo l.corners l.ends l.ring l.from l.edges.items
