-- What a set operation has written.
use Rattle.std.specs.Prelude.{◌≡◌, ℕ, Bool, ◌<◌, ◌⊎◌, List, length}
use Rattle.s2list.specs.Union.{IsNormalForm, has_leaf}
use Rattle.s2list.specs.Packed.{FillsGap}

-- the `n` cells of the normal form of `S` were written
pub record Writes (S : ℕ → Bool) (Holds : List ℕ → Type 0) (n : ℕ) : Type 0 where
  pub list : List ℕ
  pub normal : IsNormalForm S list
  pub leaves : (x : ℕ) → has_leaf list x ≡ S x
  pub len_is : n ≡ length list
  pub held : Holds list

-- the same, or the normal form of `S` has more than `most` cells, and `n` is more too
abbrev pub WritesUpTo : ℕ → (ℕ → Bool) → (List ℕ → Type 0) → ℕ → Type 0
WritesUpTo most S Holds n = Writes S Holds n ⊎ ((most < n) × ((u : List ℕ) → IsNormalForm S u → most < length u))

-- `list`, and then the normal form of the leaves from `lo` to before `hi`, was written
abbrev pub Fills : (List ℕ → Type 0) → List ℕ → ℕ → ℕ → Type 0
Fills Holds list lo hi = (longer : List ℕ) × FillsGap list longer lo hi × Holds longer
