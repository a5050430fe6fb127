use Rattle.std.proofs.Common.{ℕ, ◌<◌}
use Rattle.s2geodesic.specs.Halves.{LieBefore}
use Rattle.s2geodesic.specs.Working.Places.{normal_at}
use Rattle.s2geodesic.proofs.half.outside_of.Given as goal

abbrev pub invariant-loop-k : goal.invariant-loop-k
invariant-loop-k l = (j : ℕ) → j < l.k → ¬ (LieBefore (normal_at j) l.corners)
