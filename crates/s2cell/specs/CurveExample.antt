-- What the curve gives for worked examples.
use Rattle.std.specs.Prelude.{ℕ, ◌+◌, List, [], ◌∷◌}
use Rattle.s2cell.specs.Curve.{At}

-- on a face that the curve enters at the orientation `o`, the leaves from `n` on are at these places, in order
abbrev pub StandAt : ℕ → ℕ → List (ℕ × ℕ) → Type 0
StandAt o n [] = Unit {0}
StandAt o n (place ∷ places) = At 30 o n place.0 place.1 × StandAt o (n + 1) places
