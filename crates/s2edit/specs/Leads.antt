-- What a kept change says about the two tables that it lies between.
use Rattle.std.specs.Prelude.{◌≡◌, ◌≢◌, ℕ, ◌<◌, List, [], length, slice_set, slice_index_or}
use Rattle.s2edit.specs.Diff.{Diff, change_between}

-- the list of a register in a table
abbrev pub list_at : List (List ℕ) → ℕ → List ℕ
list_at t r = slice_index_or t r []

-- the table n steps away from now, in a list of tables that begins with now
abbrev pub table_at : List (List (List ℕ)) → ℕ → List (List ℕ)
table_at ts n = slice_index_or ts n []

-- the change leads from one table to the other: it is the change between the lists of the one register in which they
-- differ
pub record Leads (d : Diff) (t t' : List (List ℕ)) : Type 0 where
  pub in_range : d.register < length t
  pub only : t' ≡ slice_set t d.register (list_at t' d.register)
  pub differs : list_at t' d.register ≢ list_at t d.register
  pub change : d ≡ change_between d.register (list_at t d.register) (list_at t' d.register)
