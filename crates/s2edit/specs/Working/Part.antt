-- The parts of the registers' lists that changes can concern, and how long the lists get.
use Rattle.std.specs.Prelude.{◌≡◌, ℕ, ◌+◌, ◌-◌, ◌^◌, ◌<◌, Bool, true, List, [], ◌∷◌}
use Rattle.std.specs.Prelude.{length, min, max, slice_set, slice_index_or}
use Rattle.std.specs.List.{AllByRecursion}
use Rattle.s2cell.specs.Cell.{IsCell, level_of, covers, parent_of, child_of}
use Rattle.s2list.specs.Union.{IsLocal, IsWithin, LiesIn}
use Rattle.s2union.specs.Apply.{has}
use Rattle.s2edit.specs.Diff.{Diff}

-- the parent of a cell, or the cell itself if it is a face
abbrev pub around : ℕ → ℕ
around c = parent_of c (level_of c - 1)

-- the set has each cell that the change names
pub record HoldsNamed (S : ℕ → Bool) (d : Diff) : Type 0 where
  pub out : (c : ℕ) → has d.out c ≡ true → S c ≡ true
  pub put : (c : ℕ) → has d.put c ≡ true → S c ≡ true

-- the set has all leaves of each child of the cell `p` that is in the list
abbrev pub HasChildren : (ℕ → Bool) → List ℕ → ℕ → Type 0
HasChildren S u p = (i : ℕ) → i < 4 → has u (child_of p i) ≡ true → LiesIn S (child_of p i)

-- the set has all leaves of the cell, and of its siblings in the list
pub record IsWatched (S : ℕ → Bool) (u : List ℕ) (c : ℕ) : Type 0 where
  pub cell : IsCell c
  pub own : LiesIn S c
  pub siblings : HasChildren S u (around c)

-- the same for each cell that a change names
pub record IsDiffWatched (S : ℕ → Bool) (u : List ℕ) (d : Diff) : Type 0 where
  pub out : (c : ℕ) → has d.out c ≡ true → IsWatched S u c
  pub put : (c : ℕ) → has d.put c ≡ true → IsWatched S u c

-- the same for each cell that changes name
abbrev pub AllWatched : (ℕ → Bool) → List ℕ → List Diff → Type 0
AllWatched S u ds = AllByRecursion (IsDiffWatched S u) ds

-- the set cuts no cell of the list: each that it shares a leaf with lies in it
abbrev pub CutsNone : (ℕ → Bool) → List ℕ → Type 0
CutsNone S u = (c x : ℕ) → has u c ≡ true → covers c x ≡ true → S x ≡ true → LiesIn S c

-- `T` has the leaves of `S`, and cuts no cell of the list if `S` cuts none
pub record Grows (S T : ℕ → Bool) (u : List ℕ) : Type 0 where
  pub kept : IsWithin S T
  pub uncut : CutsNone S u → CutsNone T u

-- `part` has some cells of the local list `u`, among them all that share a leaf with the set
pub record IsPart (S : ℕ → Bool) (u part : List ℕ) : Type 0 where
  pub local : IsLocal u
  pub part_local : IsLocal part
  pub inside : (c : ℕ) → has part c ≡ true → has u c ≡ true
  pub rest : (c x : ℕ) → has u c ≡ true → covers c x ≡ true → S x ≡ true → has part c ≡ true

-- `part` has the cells of `u` that share a leaf with these cells, or with siblings of these in `u`
pub record IsPartNear (cells : ℕ → Bool) (u part : List ℕ) : Type 0 where
  pub set : ℕ → Bool
  pub watched : (c : ℕ) → cells c ≡ true → IsWatched set u c
  pub is_part : IsPart set u part

-- `part` has all cells of `u` on which it depends whether the changes can be made
pub record IsPartFor (ds : List Diff) (u part : List ℕ) : Type 0 where
  pub set : ℕ → Bool
  pub watched : AllWatched set u ds
  pub is_part : IsPart set u part

-- how many cells the list of a register has after a change, in the saturating arithmetic of `usize`
abbrev pub resized : List ℕ → Diff → ℕ
resized ls d = min (slice_index_or ls d.register 0 + length d.put) (2 ^ 64 - 1) - length d.out

-- the greatest length that a register's list has after one of the changes
abbrev pub longest : List ℕ → List Diff → ℕ
longest ls [] = 0
longest ls (d ∷ ds) = max (resized ls d) (longest (slice_set ls d.register (resized ls d)) ds)
