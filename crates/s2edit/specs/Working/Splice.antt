-- Where a cell lies among those of a list, and what takes its place if it is added.
use Rattle.std.specs.Prelude.{◌≡◌, ◌⊎◌, ◌<◌, ◌≤◌, ◌+◌, ◌-◌, ◌*◌, ◌/◌, ℕ, true, ◌||◌, List, ◌++◌, length, take, drop}
use Rattle.s2cell.specs.Cell.{IsCell, level_of, first_leaf, size_of, parent_of, child_of, covers, IsInside}
use Rattle.s2list.specs.Packed.{IsPlace}
use Rattle.s2list.specs.Union.{has_leaf}
use Rattle.s2union.specs.Apply.{has}
use Rattle.s2edit.specs.Diff.{Diff, apply}
use Rattle.s2edit.specs.declared.splice.Run.{Run}

-- RUN
-- the cells of the list from one index of the run to the other are those in its cell, and no cell of the list holds it
pub record IsRun (u : List ℕ) (r : Run) : Type 0 where
  pub is_cell : IsCell r.cell
  pub first : IsPlace u (first_leaf r.cell) r.from
  pub last : IsPlace u (first_leaf r.cell + size_of r.cell) r.to
  pub unheld : (d : ℕ) → has u d ≡ true → IsInside r.cell d → ⊥

-- what the change takes out is next to each other, from an index on, and what it puts in takes its place
pub record IsPlaceOf (d : Diff) (u : List ℕ) (at : ℕ) : Type 0 where
  pub within : at + length d.out ≤ length u
  pub made : apply d u ≡ (take at u ++ d.put) ++ drop (at + length d.out) u

-- the parent of the cell
abbrev pub above : ℕ → ℕ
above c = parent_of c (level_of c - 1)

-- the cell has a parent, and the list has its other children
pub record Siblings (u : List ℕ) (c : ℕ) : Type 0 where
  pub deep : 0 < level_of c
  pub all : (i : ℕ) → i < 4 → (child_of (above c) i ≡ c) ⊎ (has u (child_of (above c) i) ≡ true)

-- `b` holds the cell `a`, and each leaf of `b` is one of `a` or of the list
pub record Completes (u : List ℕ) (a b : ℕ) : Type 0 where
  pub holds : IsInside a b
  pub leaves : (x : ℕ) → covers b x ≡ true → (has_leaf u x || covers a x) ≡ true

-- the leaf at which child number `k` of the cell begins, and the one before it ends
abbrev pub child_start : ℕ → ℕ → ℕ
child_start p k = first_leaf p + k * (size_of p / 4)
