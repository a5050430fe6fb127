-- Leaves that share a side, on one face or over the border of two.
use Rattle.std.specs.Prelude.{◌≡◌, ◌⊎◌, ℕ, ◌+◌, ◌*◌, ◌/◌, ◌^◌}
use Rattle.s2cell.specs.Curve.{i_of, j_of}
use Rattle.s2polygon.specs.Directions.{Point}
use Rattle.s2polygon.specs.Frames.{in_frame}
use Rattle.s2polygon.specs.Places.{along, whole}
use Rattle.s2polygon.specs.declared.frames.Framed.{Framed}

-- a place of a face, by the numbers of borders and middles along its rows and its columns, in the frame of the face
abbrev pub place : ℕ → ℕ → Framed
place s t = record { w = whole; u = along s; v = along t }

-- the point is the middle of a side of the leaf at (i, j) of face `f`: of its left, right, lower or upper side
abbrev pub IsMiddleAt : ℕ → ℕ → ℕ → Point → Type 0
IsMiddleAt f i j p =
    (in_frame f p ≡ place (2 * i) (2 * j + 1)) ⊎ (in_frame f p ≡ place (2 * (i + 1)) (2 * j + 1))
    ⊎ (in_frame f p ≡ place (2 * i + 1) (2 * j)) ⊎ (in_frame f p ≡ place (2 * i + 1) (2 * (j + 1)))

-- it is the middle of a side of the leaf `x`
abbrev pub IsMiddleOfSide : ℕ → Point → Type 0
IsMiddleOfSide x p = IsMiddleAt (x / 4 ^ 30) (i_of x) (j_of x) p

-- the two leaves share a side: one point is the middle of a side of the one and of the other
pub record ShareASide (x y : ℕ) : Type 0 where
  pub point : Point
  pub first : IsMiddleOfSide x point
  pub second : IsMiddleOfSide y point
