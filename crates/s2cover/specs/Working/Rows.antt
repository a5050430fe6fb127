-- The cells of a union cut to a level, while they are written row by row.
use Rattle.std.specs.Prelude.{◌≡◌, ℕ, ◌+◌, ◌<◌, ◌≤◌, true, List, slice_index}
use Rattle.s2cell.specs.Cell.{first_leaf, size_of}
use Rattle.s2cell.specs.declared.TheConstants.{LEAVES}
use Rattle.s2list.specs.Union.{has_leaf}

-- a row: the cell at index `i` of `v` begins with `lo`, all cells from there up to before `next` end by `hi`, and `v`
-- has all leaves between
pub record HasRow (v : List ℕ) (i next lo hi : ℕ) : Type 0 where
  pub first : lo ≡ first_leaf (slice_index v i)
  pub some : lo < hi
  pub most : hi ≤ LEAVES
  pub leaves : (x : ℕ) → lo ≤ x → x < hi → has_leaf v x ≡ true
  pub ended : (k : ℕ) → i ≤ k → k < next → first_leaf (slice_index v k) + size_of (slice_index v k) ≤ hi
