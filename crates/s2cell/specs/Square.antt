-- The squares that cells cover on their faces.
use Rattle.std.specs.Prelude.{◌≡◌, ℕ, ◌+◌, ◌-◌, ◌^◌, ◌%◌, ◌<◌, ◌≤◌, true}
use Rattle.s2cell.specs.Cell.{IsCell, level_of, place_of, face_of, covers}
use Rattle.s2cell.specs.Curve.{IsPlaceOf, orientation_after}
use Rattle.s2cell.specs.declared.placed.PlacedCell.{PlacedCell}

-- the place `x`, `y` lies in the square whose least coordinates are `i` and `j`
pub record InSquare (i j size x y : ℕ) : Type 0 where
  pub first : (i ≤ x) × (x < i + size)
  pub second : (j ≤ y) × (y < j + size)

-- the cell `c` covers this square of its face: its leaves are at all places of the square, and at no others
pub record IsSquareOf (c face i j size : ℕ) : Type 0 where
  pub face_is : face ≡ face_of c
  pub size_is : size ≡ 2 ^ (30 - level_of c)
  pub fits : (i + size ≤ 2 ^ 30) × (j + size ≤ 2 ^ 30)
  -- each leaf of the cell has its place in the square
  pub leaves : (n : ℕ) → covers c n ≡ true → (x : ℕ) × (y : ℕ) × IsPlaceOf n face x y × InSquare i j size x y
  -- each place of the square is the place of a leaf of the cell
  pub places : (x y : ℕ) → InSquare i j size x y → (n : ℕ) × (covers c n ≡ true) × IsPlaceOf n face x y

-- the orientation at which the curve enters the cell `c`
unfoldable pub orientation_of : ℕ → ℕ
orientation_of c = orientation_after (level_of c) (face_of c % 2) (place_of c % 4 ^ level_of c)

-- the cell `c` has this square and this orientation
pub record IsPlaced (c face i j size orientation : ℕ) : Type 0 where
  pub cell : IsCell c
  pub square : IsSquareOf c face i j size
  pub orientation_is : orientation ≡ orientation_of c

-- the square and the orientation of a placed cell are those of its cell
abbrev pub IsPlacedCell : PlacedCell → Type 0
IsPlacedCell p = IsPlaced p.cell p.square.face p.square.i p.square.j p.square.size p.orientation
