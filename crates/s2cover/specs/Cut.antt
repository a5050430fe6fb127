-- A union's cells down to a level.
use Rattle.std.specs.Prelude.{ℕ, Bool, nat_le, List}
use Rattle.std.specs.List.{filter}
use Rattle.s2cell.specs.Cell.{level_of}

-- whether the level of the cell `c` is at most `k`
abbrev pub reaches : ℕ → ℕ → Bool
reaches k c = nat_le (level_of c) k

-- the cells of `u` down to level `k`
abbrev pub cells_kept : ℕ → List ℕ → List ℕ
cells_kept k u = filter (reaches k) u
