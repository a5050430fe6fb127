-- The words of a text, and which of them name cells.
use Rattle.std.specs.Prelude.{ℕ, Bool, false, true, ◌⊎◌, List, [], ◌∷◌, filter}
use Rattle.std.specs.List.{slice_split}
use Rattle.s2cell.specs.Cell.{IsCell}
use Rattle.s2cell.specs.Token.{IsReading}
use Rattle.s2cell.specs.Debug.{IsDebug}

-- whether a word has any bytes
abbrev pub is_nonempty : List ℕ → Bool
is_nonempty [] = false
is_nonempty (b ∷ bs) = true

-- the words of a text: what the bytes for which `p` holds separate
abbrev pub words_between : (ℕ → Bool) → List ℕ → List (List ℕ)
words_between p text = filter is_nonempty (slice_split p text)

-- the word names the cell: by its token, in upper or lower case and with any zeros at its end, or by its debug text
abbrev pub NamesCell : List ℕ → ℕ → Type 0
NamesCell word id = (IsReading word id × IsCell id) ⊎ IsDebug word id
