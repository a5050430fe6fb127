-- The rectangles of cells in a picture. Lengths are in units of the picture, measured from its left and its top; the
-- side of a face has 1024.
use Rattle.std.specs.Prelude.{◌≡◌, ℕ, ◌+◌, ◌-◌, ◌*◌, ◌/◌, ◌%◌, ◌^◌, Bool, cond, ◌==◌, nat_le, List, map}
use Rattle.std.specs.List.{dedup}
use Rattle.s2cell.specs.Cell.{level_of, place_of, face_of, parent_of}
use Rattle.s2cell.specs.Curve.{i_within, j_within}
use Rattle.s2cell.specs.Square.{IsSquareOf}

-- whether the cell is large enough to be seen: a cell of level 9 has a side of 2
abbrev pub can_be_seen : ℕ → Bool
can_be_seen c = nat_le (level_of c) 9

-- the cell, or its ancestor of level 9 if it is too small to be seen
abbrev pub seen : ℕ → ℕ
seen c = cond (can_be_seen c) c (parent_of c 9)

-- the cells that are drawn for a list: each cell as it is seen, and equal ones in a row once
abbrev pub drawn : List ℕ → List ℕ
drawn cells = dedup (λ a b. a == b) (map seen cells)

-- the column of a face in the picture, from the left: each row begins one face further right than the row under it
abbrev pub column : ℕ → ℕ
column face = (face + 1) / 2

-- the row of a face in the picture, from the bottom: there are two faces in each
abbrev pub row : ℕ → ℕ
row face = face / 2

-- the side of a cell's rectangle
abbrev pub side_of : ℕ → ℕ
side_of c = 2 ^ (10 - level_of c)

-- the left side of its rectangle; i grows to the right
abbrev pub left_of : ℕ → ℕ
left_of c = 1024 * column (face_of c) + side_of c * i_within (level_of c) (face_of c % 2) (place_of c % 4 ^ level_of c)

-- the top side of its rectangle; j grows upward
abbrev pub top_of : ℕ → ℕ
top_of c = 1024 * (3 - row (face_of c)) - side_of c
    * (j_within (level_of c) (face_of c % 2) (place_of c % 4 ^ level_of c) + 1)

-- the rectangle with this left side, top and side is exactly the square of the cell `c`, at 2^20 leaves a unit, moved
-- to the place of its face in the picture
pub record IsRectangleOf (c left top side : ℕ) : Type 0 where
  pub face : ℕ
  pub i : ℕ
  pub j : ℕ
  pub size : ℕ
  pub square : IsSquareOf c face i j size
  pub left_is : 2 ^ 20 * left ≡ 2 ^ 30 * column face + i
  pub top_is : 2 ^ 20 * top + j + size ≡ 2 ^ 30 * (3 - row face)
  pub side_is : 2 ^ 20 * side ≡ size

-- the rectangle that is drawn of a cell is exactly its square
abbrev pub IsDrawnExactly : ℕ → Type 0
IsDrawnExactly c = IsRectangleOf c (left_of c) (top_of c) (side_of c)
