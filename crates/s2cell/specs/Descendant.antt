-- The cells of one level inside a cell.
use Rattle.std.specs.Prelude.{ℕ, ◌+◌, ◌-◌, ◌*◌, ◌^◌}
use Rattle.s2cell.specs.Cell.{id_at, level_of, place_of}

-- the cell number `i` of level `k` inside the cell `n`, counted from 0 along the curve
unfoldable pub descendant_of : ℕ → ℕ → ℕ → ℕ
unfolding level_of place_of
descendant_of n k i = id_at k (place_of n * 4 ^ (k - level_of n) + i)
