use Rattle.std.proofs.Common.{take}
use Rattle.s2geodesic.specs.Halves.{LieBefore}
use Rattle.s2geodesic.proofs.half.lie_before.Given as goal

abbrev pub invariant-loop-corner : goal.invariant-loop-corner
invariant-loop-corner l = LieBefore (record { x = l.fn.x; y = l.fn.y; z = l.fn.z }) (take l.corner-index l.corners)
