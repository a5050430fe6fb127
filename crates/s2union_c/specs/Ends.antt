-- Lists that lie one after another.
use Rattle.std.specs.Prelude.{◌≡◌, ℕ, ◌-◌, List, length, slice_index}
use Rattle.std.specs.List.Sorted.{IsNonDecreasing}

-- lists that lie one after another end at these places, the last one at the place `n`; if there is no list, `n` is 0
pub record AreEnds (ends : List ℕ) (n : ℕ) : Type 0 where
  pub order : IsNonDecreasing ends
  pub last : slice_index ends (length ends - 1) ≡ n
