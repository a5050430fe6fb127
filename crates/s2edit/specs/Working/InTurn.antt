-- The changes of one list in turn.
use Rattle.std.specs.Prelude.{ℕ, ◌==◌, if◌then◌else◌, List, [], ◌∷◌}
use Rattle.s2edit.specs.Diff.{Diff, apply, FitsList}

-- the changes can be made in the list, one after another
abbrev pub FitInTurn : List ℕ → List Diff → Type 0
FitInTurn u [] = Unit {0}
FitInTurn u (d ∷ ds) = FitsList d u × FitInTurn (apply d u) ds

-- the list that they lead to
abbrev pub list_after_all : List ℕ → List Diff → List ℕ
list_after_all u [] = u
list_after_all u (d ∷ ds) = list_after_all (apply d u) ds

-- the changes of one register
abbrev pub of_register : ℕ → List Diff → List Diff
of_register r [] = []
of_register r (m ∷ ms) = if m.register == r then m ∷ of_register r ms else of_register r ms
