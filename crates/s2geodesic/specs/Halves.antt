-- Corners on one side of a plane through the center, and leaves on the other.
use Rattle.std.specs.Prelude.{ℕ, ◌/◌, ◌^◌, ◌≤◌, pos, ◌≤ℤ◌, ◌<ℤ◌, All, List, unsigned_abs}
use Rattle.s2cell.specs.Curve.{i_of, j_of}
use Rattle.s2polygon.specs.Cells.{square_of, widened}
use Rattle.s2polygon.specs.Directions.{Point}
use Rattle.s2polygon.specs.Frames.{in_frame}
use Rattle.s2polygon.specs.Meets.{InSquare}
use Rattle.s2polygon.specs.Moves.{product_of}

-- all corners lie before the plane through the center that is at right angles to `n`: on the side to which `n` points,
-- and none on the plane
abbrev pub LieBefore : Point → List Point → Type 0
LieBefore n corners = All (λ p. pos 0 <ℤ product_of n p) corners

-- no direction of the square of the leaf `x`, widened by a margin, lies before that plane
abbrev pub IsBehind : Point → ℕ → ℕ → Type 0
IsBehind n margin x =
    (p : Point) → InSquare (in_frame (x / 4 ^ 30) p) (widened margin (square_of 0 (i_of x) (j_of x)))
    → product_of n p ≤ℤ pos 0

-- the leaf `x` lies opposite the corners: a plane has all of them before it and the square of the leaf behind it, also
-- if that is widened by the greatest margin
pub record LiesOpposite (corners : List Point) (x : ℕ) : Type 0 where
  pub normal : Point
  pub before : LieBefore normal corners
  pub behind : IsBehind normal (2 ^ 60) x

-- the normal of one of the planes that are tried: each of its coordinates is -1, 0 or 1
pub record IsTried (n : Point) : Type 0 where
  pub x : unsigned_abs n.x ≤ 1
  pub y : unsigned_abs n.y ≤ 1
  pub z : unsigned_abs n.z ≤ 1

-- none of these planes has all corners before it
abbrev pub AreSpread : List Point → Type 0
AreSpread corners = (n : Point) → IsTried n → ¬ (LieBefore n corners)
