-- Where an identifier or a leaf lies in an ascending list of cells, and the cells that share a leaf with a cell.
use Rattle.std.specs.Prelude.{ℕ, ◌+◌, ◌<◌, ◌≤◌, ◌↔◌, List, length, slice_index}
use Rattle.s2cell.specs.Cell.{IsCell, covers}
use Rattle.s2list.specs.Union.{ShareSome}

-- the first `low` cells of `u` are below `mark`, and those from `high` on are not
pub record Brackets (u : List ℕ) (mark low high : ℕ) : Type 0 where
  pub order : low ≤ high
  pub within : high ≤ length u
  pub below : (k : ℕ) → k < low → slice_index u k < mark
  pub rest : (k : ℕ) → high ≤ k → k < length u → mark ≤ slice_index u k

-- the cells of `u` that share a leaf with `cell` are the `count` cells from index `first` on
pub record IsRunAt (u : List ℕ) (cell first count : ℕ) : Type 0 where
  pub within : first + count ≤ length u
  pub members : (k : ℕ) → k < length u → ((first ≤ k) × (k < first + count)) ↔ ShareSome (covers cell)
      (covers (slice_index u k))

-- the first number of `u` that is not the identifier of a cell is the one at index `k`
pub record IsFirstWrong (u : List ℕ) (k : ℕ) : Type 0 where
  pub within : k < length u
  pub wrong : IsCell (slice_index u k) → ⊥
  pub before : (j : ℕ) → j < k → IsCell (slice_index u j)
