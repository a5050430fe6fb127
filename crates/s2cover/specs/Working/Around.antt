-- The cells around a rectangle.
use Rattle.std.specs.Prelude.{◌≡◌, ℕ, ◌/◌, ◌^◌, true}
use Rattle.s2cell.specs.Cell.{covers}
use Rattle.s2cell.specs.Curve.{i_of, j_of}

-- the cell `c` has each leaf of the face that is in one square with the place `i`, `j`, of the grid whose squares have
-- sides of `2 ^ g`
abbrev pub CoversSquare : ℕ → ℕ → ℕ → ℕ → ℕ → Type 0
CoversSquare c face g i j = (x : ℕ) → x / 4 ^ 30 ≡ face → i_of x / 2 ^ g ≡ i / 2 ^ g → j_of x / 2 ^ g ≡ j / 2 ^ g →
    covers c x ≡ true
