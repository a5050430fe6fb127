-- The sets of leaves that the set operations make.
use Rattle.std.specs.Prelude.{ℕ, Bool, ◌||◌, ◌&&◌, not}
use Rattle.s2cell.specs.declared.TheConstants.{LEAVES}
use Rattle.s2list.specs.Union.{between}

-- the leaves of `S` or of `T`
abbrev pub union_of : (ℕ → Bool) → (ℕ → Bool) → ℕ → Bool
union_of S T x = S x || T x

-- the leaves that `S` and `T` share
abbrev pub intersection_of : (ℕ → Bool) → (ℕ → Bool) → ℕ → Bool
intersection_of S T x = S x && T x

-- the leaves of `S` that are not in `T`
abbrev pub difference_of : (ℕ → Bool) → (ℕ → Bool) → ℕ → Bool
difference_of S T x = S x && not (T x)

-- the leaves that only one of `S` and `T` has
abbrev pub symmetric_difference_of : (ℕ → Bool) → (ℕ → Bool) → ℕ → Bool
symmetric_difference_of S T x = difference_of S T x || difference_of T S x

-- the leaves of the six faces that are not in `S`
abbrev pub complement_of : (ℕ → Bool) → ℕ → Bool
complement_of S x = between 0 LEAVES x && not (S x)
