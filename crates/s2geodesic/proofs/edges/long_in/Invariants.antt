use Rattle.s2geodesic.proofs.Shortness.{ShortTo}
use Rattle.s2geodesic.proofs.edges.long_in.Given as goal

abbrev pub invariant-loop-i : goal.invariant-loop-i
invariant-loop-i l = ShortTo l.corners l.from l.end l.i
