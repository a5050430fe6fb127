-- What a walk along two unions asks of each cell of the second.
use Rattle.std.specs.Prelude.{ℕ, ◌+◌, ◌<◌, ◌≤◌, ◌⊎◌, Bool, true, false, List, length}
use Rattle.s2cell.specs.Cell.{covers, first_leaf, size_of}
use Rattle.s2list.specs.Union.{IsWithin, ShareSome, has_leaf}
use Rattle.s2list.specs.Looks.{Alternates, FewForTurns, FewForUnion}
use Rattle.s2list.specs.declared.walk.Question.{Question}
use Rattle.s2list.specs.declared.walk.Question.TheVariants.{Contains, Intersects}

-- the answer to the question about `xs` and the cell `y` is yes
abbrev pub Holds : Question → List ℕ → ℕ → Type 0
Holds Contains xs y = IsWithin (covers y) (has_leaf xs)
Holds Intersects xs y = ShareSome (covers y) (has_leaf xs)

-- the cell `y` decides the question: `xs` lacks a leaf of it, or has one
abbrev pub Decides : Question → List ℕ → ℕ → Type 0
Decides Contains xs y = IsWithin (covers y) (has_leaf xs) → ⊥
Decides Intersects xs y = ShareSome (covers y) (has_leaf xs)

-- the cell `y` leaves it open: `xs` has all leaves of it, or none
abbrev pub LeavesOpen : Question → List ℕ → ℕ → Type 0
LeavesOpen Contains xs y = IsWithin (covers y) (has_leaf xs)
LeavesOpen Intersects xs y = ShareSome (covers y) (has_leaf xs) → ⊥

-- whether a cell with no leaf in `xs` decides
abbrev pub Lacks : Question → Bool
Lacks Contains = true
Lacks Intersects = false

-- the cell `y` decides, where `x` is the first cell of `xs` that ends after it begins
abbrev pub Settles : Question → ℕ → ℕ → Type 0
Settles Contains x y = (first_leaf x ≤ first_leaf y) × (first_leaf y + size_of y ≤ first_leaf x + size_of x) → ⊥
Settles Intersects x y = first_leaf x < first_leaf y + size_of y

-- the leaf by which the cells end that `x` leaves open
abbrev pub OpenTo : Question → ℕ → ℕ
OpenTo Contains x = first_leaf x + size_of x
OpenTo Intersects x = first_leaf x

-- the index where the walk goes on, after it was at `i`
abbrev pub After : Question → ℕ → ℕ
After Contains i = i + 1
After Intersects i = i

-- a question is answered at the places `i` and `j`: a list has ended, or the cell of `ys` there decides it
abbrev pub Known : (D : ℕ → Type 0) (xs ys : List ℕ) (i j : ℕ) → Type 0
Known D xs ys i j = (length xs ≤ i) ⊎ ((length ys ≤ j) ⊎ D j)

-- the looks of a walk: few by how the lists interleave, and few by their sizes
pub record FewLooks (D : ℕ → Type 0) (xs ys : List ℕ) (looks : ℕ) : Type 0 where
  pub turns : (d u v : ℕ) → Alternates xs ys d u v → Known D xs ys u v → FewForTurns (length xs + length ys) d looks
  pub sizes : FewForUnion (length xs) (length ys) looks
