-- Two lists that are merged from both ends.
use Rattle.std.specs.Prelude.{◌≡◌, ℕ, ◌+◌, ◌≤◌, List, ◌++◌, length, take, drop}
use Rattle.std.specs.List.Sorted.{IsPermutation}
use Rattle.s2room.specs.declared.merge.Left.{Left}

-- `u` without what lies from the index `from` to before `to`
abbrev pub around : ℕ → ℕ → List ℕ → List ℕ
around from to u = take from u ++ drop to u

-- the numbers of `xs` and `ys` that aren't left are in `out`, at its front and at its back
pub record IsMerging (xs ys out : List ℕ) (left : Left) : Type 0 where
  pub x_order : left.x ≤ left.x_end
  pub x_within : left.x_end ≤ length xs
  pub y_order : left.y ≤ left.y_end
  pub y_within : left.y_end ≤ length ys
  pub room : length out ≡ length xs + length ys
  pub all : IsPermutation (around left.x left.x_end xs ++ around left.y left.y_end ys)
      (around (left.x + left.y) (left.x_end + left.y_end) out)
