-- A list that is normalized in place.
use Rattle.std.specs.Prelude.{◌≡◌, ℕ, ◌≤◌, List, length, take}
use Rattle.s2list.specs.Union.{IsNormalForm, has_leaf}

-- the first `len` numbers of `new` are the normal form of the leaves of the cells `old`; the rest has no meaning
pub record IsNormalisedIn (old new : List ℕ) (len : ℕ) : Type 0 where
  pub within : len ≤ length old
  pub same_length : length new ≡ length old
  pub normal : IsNormalForm (has_leaf old) (take len new)
