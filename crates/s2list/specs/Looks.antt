-- How many numbers a question about a list looks at, or about two.
use Rattle.std.specs.Prelude.{◌≡◌, ℕ, ◌+◌, ◌*◌, ◌^◌, ◌<◌, ◌≤◌, ◌⊎◌, min, max, List, length, slice_index}
use Rattle.s2cell.specs.Cell.{covers, first_leaf}
use Rattle.s2list.specs.Union.{IsWithin, ShareSome, has_leaf}

-- a question about one cell in a list of `n`: at most `k + 3` looks for each `k` that is at least log2(n)
abbrev pub FewForCell : ℕ → ℕ → Type 0
FewForCell n looks = (k : ℕ) → n ≤ 2 ^ k → looks ≤ k + 3

-- a question about two lists, the shorter one with `m` cells and the longer one with `n`: at most `42 m (1 + k) + 42`
-- looks for each `k` that is at least log2(n / (m + 1)), so at most `c m (1 + log2(n / m)) + c` for `c` = 42 and the
-- logarithm rounded up; and at most 8 for each cell, and 8
abbrev pub FewForUnion : ℕ → ℕ → ℕ → Type 0
FewForUnion a b looks = (k : ℕ) → max a b ≤ (min a b + 1) * 2 ^ k
    → looks ≤ min (42 * min a b * (1 + k) + 42) (8 * (a + b) + 8)

-- in the order of their first leaves, a cell of `xs` before one of `ys` that begins with it, the cells of both lists up
-- to the indexes `i` and `j` are `d` runs of `xs` and `d` of `ys` in turns: the `r`-th run of a list goes from its
-- `r`-th cut to the next
pub record Alternates (xs ys : List ℕ) (d i j : ℕ) : Type 0 where
  pub x_cut : ℕ → ℕ
  pub y_cut : ℕ → ℕ
  pub x_start : x_cut 0 ≡ 0
  pub y_start : y_cut 0 ≡ 0
  pub x_end : x_cut d ≡ i
  pub y_end : y_cut d ≡ j
  pub x_within : (r : ℕ) → x_cut r ≤ length xs
  pub y_within : (r : ℕ) → y_cut r ≤ length ys
  pub x_run : (r k l : ℕ) → r < d → k < x_cut (r + 1) → y_cut r ≤ l → l < length ys →
      first_leaf (slice_index xs k) ≤ first_leaf (slice_index ys l)
  pub y_run : (r k l : ℕ) → r < d → l < y_cut (r + 1) → x_cut (r + 1) ≤ k → k < length xs →
      first_leaf (slice_index ys l) < first_leaf (slice_index xs k)

-- at the indexes `i` and `j` it is known whether `xs` has all leaves of `ys`: a list has ended, or `xs` lacks a leaf of
-- the cell of `ys` there
abbrev pub KnownToHold : (xs ys : List ℕ) (i j : ℕ) → Type 0
KnownToHold xs ys i j = (length xs ≤ i) ⊎ ((length ys ≤ j)
    ⊎ (IsWithin (covers (slice_index ys j)) (has_leaf xs) → ⊥))

-- at the indexes `i` and `j` it is known whether the lists share a leaf: one has ended, or `xs` has a leaf of the cell
-- of `ys` there
abbrev pub KnownToMeet : (xs ys : List ℕ) (i j : ℕ) → Type 0
KnownToMeet xs ys i j = (length xs ≤ i) ⊎ ((length ys ≤ j) ⊎ ShareSome (covers (slice_index ys j)) (has_leaf xs))

-- lists of `cells` cells together, in `d` runs of each: at most `8 (d + 1) (1 + k)` looks for each `k` that is at least
-- log2(cells / (d + 1)); so at most `c (d + 1) (1 + log2(cells / (d + 1)))` for `c` = 8 and the logarithm rounded up
abbrev pub FewForTurns : (cells d looks : ℕ) → Type 0
FewForTurns cells d looks = (k : ℕ) → cells ≤ (d + 1) * 2 ^ k → looks ≤ 8 * (d + 1) * (1 + k)
