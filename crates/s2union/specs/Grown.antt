-- A list that grows as a set operation writes to it.
use Rattle.std.specs.Prelude.{◌≡◌, ℕ, ◌^◌, ◌<◌, ◌≤◌, List, length}

-- `items` are the list that was written, unless that has more than `most` cells; `n` is its length, if that is a number
-- of 64 bits
pub record IsGrown (list : List ℕ) (before most : ℕ) (items : List ℕ) (n : ℕ) : Type 0 where
  pub same_most : most ≡ before
  pub len_is : length list < 2 ^ 64 → n ≡ length list
  pub front : length list ≤ most → items ≡ list
