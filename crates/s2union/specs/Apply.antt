-- Lists of cells as sets of cells, and the list that results from taking some cells out and putting others in.
use Rattle.std.specs.Prelude.{◌≡◌, ℕ, Bool, true, false, ◌||◌, ◌==◌, nat_lt, if◌then◌else◌}
use Rattle.std.specs.Prelude.{List, [], ◌∷◌}
use Rattle.std.specs.List.Sorted.{IsStrictlyIncreasing}
use Rattle.s2list.specs.Union.{IsLocal}

-- whether the cell is in the list
abbrev pub has : List ℕ → ℕ → Bool
has [] x = false
has (y ∷ ys) x = (y == x) || has ys x

-- the cells of `u` that `v` lacks
abbrev pub cells_without : List ℕ → List ℕ → List ℕ
cells_without [] v = []
cells_without (x ∷ xs) v = if has v x then cells_without xs v else x ∷ cells_without xs v

-- an ascending list with one cell inserted
abbrev pub insert_cell : ℕ → List ℕ → List ℕ
insert_cell x [] = x ∷ []
insert_cell x (y ∷ ys) = if nat_lt x y then x ∷ y ∷ ys else y ∷ insert_cell x ys

-- an ascending list with several cells inserted
abbrev pub insert_cells : List ℕ → List ℕ → List ℕ
insert_cells [] u = u
insert_cells (x ∷ xs) u = insert_cells xs (insert_cell x u)

-- the ascending list of the cells of `u`, without those of `out`, and of the cells of `put`
abbrev pub applied : List ℕ → List ℕ → List ℕ → List ℕ
applied out put u = insert_cells put (cells_without u out)

-- Two ascending lists fit `u`: every cell of `out` is in `u`, no cell of `put` is, and the list without `out` and with
-- `put` is local.
pub record Fits (out put u : List ℕ) : Type 0 where
  pub out_ascends : IsStrictlyIncreasing out
  pub put_ascends : IsStrictlyIncreasing put
  pub out_is_there : (x : ℕ) → has out x ≡ true → has u x ≡ true
  pub put_is_new : (x : ℕ) → has put x ≡ true → has u x ≡ false
  pub local : IsLocal (applied out put u)
