-- Laws about union files and lists: what is made in two ways is the same.
use Rattle.std.specs.Prelude.{◌≡◌, ℕ, ◌<◌, ◌^◌, List, All, length, slice_index}
use Rattle.s2cell.specs.Cell.{parent_of}
use Rattle.s2file.specs.File.{IsFramed, file_ids, file_text}
use Rattle.s2union_c.specs.ManyCells.{HasParent, IsValueOr}

-- `s2u_encode` writes a list of 64-bit numbers as bytes that have a file's frame, and the numbers in them are the list.
abbrev pub HasItsNumbers : List ℕ → Type 0
HasItsNumbers ids = length ids < 2 ^ 64 → All (λ n. n < 2 ^ 64) ids
    → IsFramed (file_text ids) × (file_ids (file_text ids) ≡ ids)

-- at the place of each cell stands the cell of the level that contains it, as `s2u_parents` gives it, or the cell
-- itself if there is none
pub record AreCutTo (level : ℕ) (ids cut : List ℕ) : Type 0 where
  pub length_is : length cut ≡ length ids
  pub cells : (k : ℕ) → k < length ids → IsValueOr (HasParent level (slice_index ids k))
      (parent_of (slice_index ids k) level) (slice_index ids k) (slice_index cut k)
