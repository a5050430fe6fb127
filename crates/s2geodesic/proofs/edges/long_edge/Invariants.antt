use Rattle.s2geodesic.proofs.Shortness.{ShortRings}
use Rattle.s2geodesic.proofs.edges.long_edge.Given as goal

abbrev pub invariant-loop-ring : goal.invariant-loop-ring
invariant-loop-ring l = ShortRings l.corners l.ends l.ring l.from
