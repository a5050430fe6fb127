-- Rectangles of leaves on a face.
use Rattle.std.specs.Prelude.{◌≡◌, ℕ, ◌/◌, ◌^◌, ◌<◌, ◌≤◌, Bool, ◌&&◌, ◌==◌, nat_le}
use Rattle.s2cell.specs.Curve.{i_of, j_of}

-- a face, and the least and the greatest value of each coordinate
pub record Rect : Type 0 where
  pub face : ℕ
  pub i0 : ℕ
  pub i1 : ℕ
  pub j0 : ℕ
  pub j1 : ℕ

-- the face and the coordinates are in range, and the rectangle has at least one place
pub record IsRect (r : Rect) : Type 0 where
  pub face : r.face ≤ 5
  pub i : (r.i0 ≤ r.i1) × (r.i1 < 2 ^ 30)
  pub j : (r.j0 ≤ r.j1) × (r.j1 < 2 ^ 30)

-- the place `i`, `j` of the face is in the rectangle
pub record IsInRect (r : Rect) (face i j : ℕ) : Type 0 where
  pub on : face ≡ r.face
  pub along : (r.i0 ≤ i) × (i ≤ r.i1)
  pub across : (r.j0 ≤ j) × (j ≤ r.j1)

-- whether the leaf `n` is in the rectangle
unfoldable pub rect_set : Rect → ℕ → Bool
unfolding i_of j_of
rect_set r n = (n / 4 ^ 30 == r.face) && (nat_le r.i0 (i_of n) && nat_le (i_of n) r.i1)
    && (nat_le r.j0 (j_of n) && nat_le (j_of n) r.j1)
