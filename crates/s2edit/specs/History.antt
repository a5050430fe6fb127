-- The history of a table of registers. A table has one entry for each register, of a type X:
-- a set of leaves, or the one list of cells that stands for it.
use Rattle.std.specs.Prelude.{◌≡◌, ◌≢◌, ℕ, ◌+◌, Bool, List, [], ◌∷◌, ◌++◌, length, map, take, reverse}
use Rattle.std.specs.Prelude.{slice_get, slice_set, Some}
use Rattle.s2list.specs.Union.{has_leaf}
use Rattle.s2union.specs.Apply.{cells_without}

-- The most cells that a register may have, and the most tables that are kept beside the present one; the earlier
-- tables, the present one, and those that were undone. Both sides have the table nearest to now first.
pub record History (X : Type 0) : Type 0 where
  pub limit : ℕ
  pub depth : ℕ
  pub past : List (List X)
  pub now : List X
  pub future : List (List X)

module _ {X : Type 0} where
  -- the register gets x: the present table goes to the past, which keeps the newest `depth`, and the future is dropped
  abbrev pub changed : History X → ℕ → X → History X
  changed h r x = record h { past = take h.depth (h.now ∷ h.past); now = slice_set h.now r x; future = [] }

  -- the register is assigned x: the history is `changed`, unless the register already has x; then everything stays as
  -- it is
  pub record Assigned (old : History X) (r : ℕ) (x : X) (new : History X) : Type 0 where
    pub same : slice_get old.now r ≡ Some x → new ≡ old
    pub differs : slice_get old.now r ≢ Some x → new ≡ changed old r x

  -- the newest table of this past becomes now, and now goes to the future; nothing changes if the past is empty
  abbrev pub undone_to : History X → List (List X) → History X
  undone_to h [] = h
  undone_to h (t ∷ ts) = record h { past = ts; now = t; future = h.now ∷ h.future }

  -- one step back: the newest table of the past becomes now, and now goes to the future, if there is a past
  abbrev pub undone : History X → History X
  undone h = undone_to h h.past

  -- the nearest table of this future becomes now, and now goes to the past; nothing changes if the future is empty
  abbrev pub redone_to : History X → List (List X) → History X
  redone_to h [] = h
  redone_to h (t ∷ ts) = record h { past = h.now ∷ h.past; now = t; future = ts }

  -- one step ahead: the nearest table of the future becomes now, and now goes to the past, if there is a future
  abbrev pub redone : History X → History X
  redone h = redone_to h h.future

  -- a table without past or future
  abbrev pub untouched : ℕ → ℕ → List X → History X
  untouched limit depth now = record { limit = limit; depth = depth; past = []; now = now; future = [] }

  -- past, now and future in order of time
  abbrev pub timeline : History X → List (List X)
  timeline h = reverse h.past ++ h.now ∷ h.future

-- the table of leaf sets that a table of lists stands for
abbrev pub sets_of : List (List ℕ) → List (ℕ → Bool)
sets_of t = map has_leaf t

-- the history of tables of leaf sets that a history of tables of lists stands for
abbrev pub sets : History (List ℕ) → History (ℕ → Bool)
sets h = record {
  limit = h.limit;
  depth = h.depth;
  past = map sets_of h.past;
  now = sets_of h.now;
  future = map sets_of h.future;
}

-- how many cells the registers of t lose in t', summed over all registers
abbrev pub cells_lost : List (List ℕ) → List (List ℕ) → ℕ
cells_lost [] t' = 0
cells_lost (u ∷ t) [] = length u + cells_lost t []
cells_lost (u ∷ t) (v ∷ t') = length (cells_without u v) + cells_lost t t'

-- the numbers of cells taken out and put in by a move from one table to another
abbrev pub numbers : List (List ℕ) → List (List ℕ) → ℕ × ℕ
numbers t t' = (cells_lost t t', cells_lost t' t)

-- `P` holds for each list of a table
abbrev pub AllLists : (List ℕ → Type 0) → List (List ℕ) → Type 0
AllLists P [] = Unit {0}
AllLists P (u ∷ t) = P u × AllLists P t

-- `P` holds for each list of each table
abbrev pub AllTables : (List ℕ → Type 0) → List (List (List ℕ)) → Type 0
AllTables P [] = Unit {0}
AllTables P (t ∷ ts) = AllLists P t × AllTables P ts

-- `P` holds for each list of each table of the history, earlier, present and undone
pub record EachList (P : List ℕ → Type 0) (h : History (List ℕ)) : Type 0 where
  pub past : AllTables P h.past
  pub now : AllLists P h.now
  pub future : AllTables P h.future
