-- The law of a change.
use Rattle.std.specs.Prelude.{◌≡◌, ◌||◌, ◌&&◌, not, ℕ, List}
use Rattle.s2list.specs.Union.{IsLocal}
use Rattle.s2union.specs.Apply.{has}
use Rattle.s2edit.specs.Diff.{Diff, IsDiff, apply, FitsList, inverse, change_between}

-- The list that a change makes has the cells that are put in, and those of the old list that are not taken out. If a
-- change fits a local list, its inverse fits the new list and gives the old one back. The change between two local
-- lists is a change, fits the first, gives the second, and is the only one that does.
pub record LawOfChanges : Type 0 where
  pub members : (d : Diff) (u : List ℕ) (x : ℕ) → has (apply d u) x ≡ (has d.put x || (has u x && not (has d.out x)))
  pub inverse_fits : (d : Diff) (u : List ℕ) → IsLocal u → FitsList d u → FitsList (inverse d) (apply d u)
  pub inverse_gives_back : (d : Diff) (u : List ℕ) → IsLocal u → FitsList d u → apply (inverse d) (apply d u) ≡ u
  pub between_is_change : (r : ℕ) (u w : List ℕ) → IsLocal u → IsLocal w →
      IsDiff (change_between r u w).out (change_between r u w).put
  pub between_fits : (r : ℕ) (u w : List ℕ) → IsLocal u → IsLocal w → FitsList (change_between r u w) u
  pub between_gives : (r : ℕ) (u w : List ℕ) → IsLocal u → IsLocal w → apply (change_between r u w) u ≡ w
  pub only_change : (d : Diff) (u w : List ℕ) → IsLocal u → FitsList d u → apply d u ≡ w
      → d ≡ change_between d.register u w
