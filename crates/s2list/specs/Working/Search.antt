-- What only private contracts need, beside Search.antt, which has what public contracts need.
use Rattle.std.specs.Prelude.{ℕ, ◌+◌, ◌<◌, List, length, slice_index}
use Rattle.s2cell.specs.Cell.{first_leaf, size_of}
use Rattle.s2list.specs.Packed.{FirstEndBy}

-- the first cell that ends after the leaf `lo`, if there is one, is at an index from `start` to `end`
pub record IsFrom (u : List ℕ) (lo start end : ℕ) : Type 0 where
  pub ended : FirstEndBy u start lo
  pub next : end < length u → lo < first_leaf (slice_index u end) + size_of (slice_index u end)
