use Rattle.std.proofs.Common.{take}
use Rattle.s2written.specs.Working.Corners.{HasCorners}
use Rattle.s2written.proofs.geodesic.directions_of.Given as goal

abbrev pub invariant-loop-i : goal.invariant-loop-i
invariant-loop-i l = HasCorners (take l.i l.shape.positions.items) l.corners.items
