-- The cells of a level in one cell, by their places.
use Rattle.std.specs.Prelude.{ℕ, ◌+◌, ◌-◌, ◌*◌, ◌^◌}
use Rattle.s2cell.specs.Cell.{level_of, place_of}

-- the place of the first cell of level `k` in the cell `c`
abbrev pub first_within : ℕ → ℕ → ℕ
first_within k c = place_of c * 4 ^ (k - level_of c)

-- the place after the last one
abbrev pub after_within : ℕ → ℕ → ℕ
after_within k c = (place_of c + 1) * 4 ^ (k - level_of c)
