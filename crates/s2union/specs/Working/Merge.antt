-- A walk along a list and the two lists of a change.
use Rattle.std.specs.Prelude.{◌≡◌, ◌<◌, ◌≤◌, ◌↔◌, ◌+◌, ◌-◌, ◌^◌, ℕ, true, false, List, [], ◌∷◌, ◌++◌, length, drop}
use Rattle.std.specs.List.Sorted.{IsStrictlyIncreasing}
use Rattle.std.specs.declared.cmp.Ordering.{Ordering}
use Rattle.std.specs.declared.cmp.Ordering.TheVariants.{Less, Equal, Greater}
use Rattle.s2union.specs.Apply.{has, applied}
use Rattle.s2list.specs.Packed.{IsPacked}
use Rattle.s2union.specs.declared.apply.Turn.{Turn}
use Rattle.s2union.specs.declared.apply.Turn.TheVariants.{Write, Skip, Misfit, End}

-- what is left of the three lists: the cells to take out, the cells to put in, and the cells of the list
pub record Left : Type 0 where
  pub out : List ℕ
  pub put : List ℕ
  pub cells : List ℕ

-- every cell to take out is in the list, and no cell to put in is
pub record CanApply (l : Left) : Type 0 where
  pub out_is_there : (x : ℕ) → has l.out x ≡ true → has l.cells x ≡ true
  pub put_is_new : (x : ℕ) → has l.put x ≡ true → has l.cells x ≡ false

-- the list that the change makes
abbrev pub made_list : Left → List ℕ
made_list l = applied l.out l.put l.cells

-- one step of the walk: it gives `front`, the next cells of the result, and leaves less
pub record Goes (front : List ℕ) (old new : Left) : Type 0 where
  pub same : CanApply old ↔ CanApply new
  pub gives : CanApply old → made_list old ≡ front ++ made_list new
  pub less : length new.cells + length new.put < length old.cells + length old.put

-- a run of cells that stay: `front` is the beginning of the result
pub record Keeps (front : List ℕ) (old new : Left) : Type 0 where
  pub same : CanApply old ↔ CanApply new
  pub gives : CanApply old → made_list old ≡ front ++ made_list new
  pub less : length new.cells + length new.put ≤ length old.cells + length old.put

-- a list is another one without its first cells
abbrev pub IsRest : List ℕ → List ℕ → Type 0
IsRest rest us = (length rest ≤ length us) × (drop (length us - length rest) us ≡ rest)

-- what each kind of turn says: it writes a cell, writes nothing, finds that the change does not fit, or is at the end
abbrev pub IsTurn : Turn → Left → Left → Type 0
IsTurn (Write c) old new = Goes (c ∷ []) old new
IsTurn Skip old new = Goes [] old new
IsTurn Misfit old new = CanApply old → ⊥
IsTurn End old new = CanApply old × (made_list old ≡ [])

-- how the first cell of a list compares to `cell`; an empty list compares as greater
abbrev pub IsHead : Ordering → List ℕ → ℕ → Type 0
IsHead o [] cell = o ≡ Greater
IsHead Less (x ∷ xs) cell = x < cell
IsHead Equal (x ∷ xs) cell = x ≡ cell
IsHead Greater (x ∷ xs) cell = cell < x

-- the first cell of the list, or a number above every cell if the list is empty
abbrev pub IsFrontOf : ℕ → List ℕ → Type 0
IsFrontOf n [] = n ≡ 2 ^ 64 - 1
IsFrontOf n (x ∷ xs) = n ≡ x

-- the lists of the change ascend, and the list of cells is packed
pub record Ascend (l : Left) : Type 0 where
  pub out : IsStrictlyIncreasing l.out
  pub put : IsStrictlyIncreasing l.put
  pub cells : IsPacked l.cells
