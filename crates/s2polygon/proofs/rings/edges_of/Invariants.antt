use Rattle.s2polygon.proofs.Ringing.{RingsTo}
use Rattle.s2polygon.proofs.rings.edges_of.Given as goal

abbrev pub invariant-loop-ring : goal.invariant-loop-ring
invariant-loop-ring l = RingsTo l.corners l.ends l.ring l.from l.edges.items
