-- What only private contracts need, beside Chain.antt, which has what public contracts need.
use Rattle.std.specs.Prelude.{◌≢◌, ℕ, ◌<◌, ◌≤◌, List, [], ◌∷◌, length, map, slice_set}
use Rattle.s2list.specs.Union.{Union}
use Rattle.s2edit.specs.Diff.{Diff, apply, FitsList, inverse}
use Rattle.s2edit.specs.History.{History, AllLists}
use Rattle.s2edit.specs.Leads.{list_at}
use Rattle.s2edit.specs.Chain.{IsLocalWithin}

-- the list that the change makes from its register's list
abbrev pub list_after : List (List ℕ) → Diff → List ℕ
list_after t d = apply d (list_at t d.register)

-- the table after the change
abbrev pub table_after : List (List ℕ) → Diff → List (List ℕ)
table_after t d = slice_set t d.register (list_after t d)

-- the tables after each of the changes, made one after another
abbrev pub tables_after : List (List ℕ) → List Diff → List (List (List ℕ))
tables_after t [] = []
tables_after t (d ∷ ds) = table_after t d ∷ tables_after (table_after t d) ds

-- the change can be made in the table, changes it, and leaves at most limit cells in the register
pub record FitsTable (limit : ℕ) (t : List (List ℕ)) (d : Diff) : Type 0 where
  pub in_range : d.register < length t
  pub fits : FitsList d (list_at t d.register)
  pub few : length (list_after t d) ≤ limit
  pub changes : list_after t d ≢ list_at t d.register

-- the changes can be made one after another
abbrev pub FitAlong : ℕ → List (List ℕ) → List Diff → Type 0
FitAlong limit t [] = Unit {0}
FitAlong limit t (d ∷ ds) = FitsTable limit t d × FitAlong limit (table_after t d) ds

-- the table of the unions' lists
abbrev pub lists_of : List Union → List (List ℕ)
lists_of us = map (λ (u : Union). u.cells) us

-- each list of the table is one that a register may have
abbrev pub AllWithin : ℕ → List (List ℕ) → Type 0
AllWithin limit t = AllLists (IsLocalWithin limit) t

-- each union has room for n cells
abbrev pub AllRoomy : ℕ → List Union → Type 0
AllRoomy n [] = Unit {0}
AllRoomy n (u ∷ us) = (n ≤ u.room) × AllRoomy n us

-- the history that registers and changes stand for: both sides have the change nearest to now first, and each change
-- leads from the earlier table to the later one
abbrev pub history : ℕ → ℕ → List Union → List Diff → List Diff → History (List ℕ)
history limit depth registers past future = record {
  limit = limit;
  depth = depth;
  past = tables_after (lists_of registers) (map inverse past);
  now = lists_of registers;
  future = tables_after (lists_of registers) future;
}
