-- The cells that words name.
use Rattle.std.specs.Prelude.{ℕ, List, [], ◌∷◌, if◌then◌else◌, is_some, Option, Some, None, Result, Ok, Err}
use Rattle.std.specs.List.{filter_map}
use Rattle.s2script.specs.declared.misfit.Wanted.TheVariants.{Cell}
use Rattle.s2script.specs.declared.misfit.Misfit.{Misfit}
use Rattle.s2script.specs.declared.misfit.Misfit.TheVariants.{Missing, Unfit}
use Rattle.s2script.specs.Named.{cell_named}

-- the first of the words that names no cell
abbrev pub no_cell_in : List (List ℕ) → Option (List ℕ)
no_cell_in [] = None
no_cell_in (w ∷ ws) = if is_some (cell_named w) then no_cell_in ws else Some w

-- the cells that the words name
abbrev pub cells_of : List (List ℕ) → List ℕ
cells_of ws = filter_map cell_named ws

-- the cells that the words name, or the misfit of the word that names none
abbrev pub cells_unless : Option (List ℕ) → List (List ℕ) → Result (List ℕ) Misfit
cells_unless None ws = Ok (cells_of ws)
cells_unless (Some word) ws = Err (Unfit word Cell)

-- one cell or more, up to the end of the line
abbrev pub next_cells : List (List ℕ) → Result (List ℕ) Misfit
next_cells [] = Err (Missing Cell)
next_cells (w ∷ ws) = cells_unless (no_cell_in (w ∷ ws)) (w ∷ ws)
