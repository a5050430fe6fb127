-- The leaf of a face that is farthest behind a plane.
use Rattle.std.specs.Prelude.{◌≡◌, ℕ, ◌-◌, ◌/◌, ◌%◌, ◌^◌, ◌⊎◌, ℤ, pos, neg_ℤ, ◌-ℤ◌, ◌*ℤ◌, ◌≤ℤ◌}
use Rattle.s2cell.specs.Curve.{i_of, j_of}
use Rattle.s2polygon.specs.Cells.{square_of, widened}
use Rattle.s2polygon.specs.Directions.{Point}
use Rattle.s2polygon.specs.Meets.{InSquare}
use Rattle.s2polygon.specs.declared.frames.Framed.{Framed}

-- -1, 0 or 1, by number
abbrev pub sign_at : ℕ → ℤ
sign_at t = pos t -ℤ pos 1

-- the normal of plane number `k`, of the 27 with such coordinates
abbrev pub normal_at : ℕ → Point
normal_at k = record { x = sign_at (k / 9); y = sign_at (k / 3 % 3); z = sign_at (k % 3) }

-- along a side of a face, a leaf is the first for 1, one in the middle for 0, and the last for -1
abbrev pub IsFarthest : ℤ → ℕ → Type 0
IsFarthest n i =
    ((n ≡ pos 1) × (i ≡ 0)) ⊎ ((n ≡ pos 0) × (i ≡ 2 ^ 29)) ⊎ ((n ≡ neg_ℤ (pos 1)) × (i ≡ 2 ^ 30 - 1))

-- a direction lies before a face, and along its side not before the plane through the middle whose normal this is
pub record LieFar (n w u : ℤ) : Type 0 where
  pub ahead : pos 0 ≤ℤ w
  pub off : (n *ℤ u) ≤ℤ pos 0

-- each direction of the square of the leaf `x` of a face, widened by the greatest margin, does so along both sides
pub record IsFarLeaf (face : ℕ) (u v : ℤ) (x : ℕ) : Type 0 where
  pub face_is : x / 4 ^ 30 ≡ face
  pub rows : (c : Framed) → InSquare c (widened (2 ^ 60) (square_of 0 (i_of x) (j_of x))) → LieFar u c.w c.u
  pub columns : (c : Framed) → InSquare c (widened (2 ^ 60) (square_of 0 (i_of x) (j_of x))) → LieFar v c.w c.v
