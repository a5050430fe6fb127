-- What only private contracts need, beside Ancestors.antt, which has what public contracts need.
use Rattle.std.specs.Prelude.{ℕ, ◌<◌, ◌≤◌, ◌⊎◌, ◌↔◌, List, Contains}
use Rattle.std.specs.List.Sorted.{IsStrictlyIncreasing}
use Rattle.s2cell.specs.Cell.{IsCell, IsInside, first_leaf}
use Rattle.s2list.specs.Room.{IsPut}

-- `new` ascends, and has exactly the numbers of `old` and those with the property `P`
pub record Gains (P : ℕ → Type 0) (old new : List ℕ) : Type 0 where
  pub ascending : IsStrictlyIncreasing new
  pub members : (c : ℕ) → Contains new c ↔ (Contains old c ⊎ P c)

-- `c` is an ancestor of `cell` with a smaller identifier, and has no leaf before `from`
pub record IsBefore (cell from c : ℕ) : Type 0 where
  pub own : IsCell c
  pub around : IsInside cell c
  pub below : c < cell
  pub start : from ≤ first_leaf c

-- `c` is an ancestor of `cell` with a greater identifier, and that is below `next`
pub record IsAfter (cell next c : ℕ) : Type 0 where
  pub own : IsCell c
  pub around : IsInside cell c
  pub above : cell < c
  pub below : c < next

-- the cells of `list` ascend, come before `cell`, and begin before the leaf `from`; `cell` begins with it or later
pub record LeadsTo (list : List ℕ) (cell from : ℕ) : Type 0 where
  pub start : from ≤ first_leaf cell
  pub ascending : IsStrictlyIncreasing list
  pub cells : (c : ℕ) → Contains list c → IsCell c
  pub began : (c : ℕ) → Contains list c → first_leaf c < from
  pub below : (c : ℕ) → Contains list c → c < cell

-- the numbers with the property `P` were put into the room `old` after the `n` numbers of `list`, which makes them `m`
abbrev pub PutsThose : (ℕ → Type 0) → List ℕ → List ℕ → List ℕ → ℕ → ℕ → Type 0
PutsThose P list old new n m = (room : List ℕ) → IsPut list room old n →
    (longer : List ℕ) × Gains P list longer × IsPut longer room new m
