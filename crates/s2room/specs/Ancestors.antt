-- The cells of a union and their ancestors, by which an index finds the unions that share a leaf.
use Rattle.std.specs.Prelude.{ℕ, ◌⊎◌, ◌↔◌, List, Contains}
use Rattle.std.specs.List.Sorted.{IsStrictlyIncreasing}
use Rattle.s2cell.specs.Cell.{IsCell, IsInside}

-- `c` is a cell of `u`, or an ancestor of one
pub record IsHolder (u : List ℕ) (c : ℕ) : Type 0 where
  pub cell : IsCell c
  pub held : ℕ
  pub among : Contains u held
  pub inside : IsInside held c

-- `list` is the cells of `u` and all their ancestors, ascending, each once
pub record AreHolders (u list : List ℕ) : Type 0 where
  pub ascending : IsStrictlyIncreasing list
  pub members : (c : ℕ) → Contains list c ↔ IsHolder u c

-- a cell of one of the two lists is a holder of the other
abbrev pub ShareHolder : (xs ys x_holders y_holders : List ℕ) → Type 0
ShareHolder xs ys x_holders y_holders = ((c : ℕ) × Contains xs c × Contains y_holders c)
    ⊎ ((c : ℕ) × Contains ys c × Contains x_holders c)
