-- Changes that are found in a part of a list.
use Rattle.std.specs.Prelude.{◌≡◌, ℕ, Bool, List}
use Rattle.s2list.specs.Union.{IsNormalForm}
use Rattle.s2edit.specs.Diff.{Diff, FitsList, apply}

-- a change of the register r that can be made in the list u, and gives the normal form of S
pub record Gives (S : ℕ → Bool) (r : ℕ) (u : List ℕ) (d : Diff) : Type 0 where
  pub register : d.register ≡ r
  pub fits : FitsList d u
  pub normal : IsNormalForm S (apply d u)
