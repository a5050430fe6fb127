-- Lists of cells as texts.
use Rattle.std.specs.Prelude.{◌≡◌, ℕ, ◌<◌, Bool, false, ◌||◌}
use Rattle.std.specs.Prelude.{List, [], ◌∷◌, ◌++◌, ◌==◌, length}
use Rattle.std.specs.Prelude.{drop, slice_index}
use Rattle.std.specs.List.{AllByRecursion}
use Rattle.s2cell.specs.Token.{token_of}
use Rattle.s2cell.specs.Words.{NamesCell, words_between}

-- the tokens of the cells, with one space between two
abbrev pub tokens_of : List ℕ → List ℕ
tokens_of [] = []
tokens_of (id ∷ []) = token_of id
tokens_of (id ∷ next ∷ ids) = token_of id ++ 32 ∷ tokens_of (next ∷ ids)

-- a byte between two words: a space, a tab, a newline, a CR or a comma
abbrev pub is_between : ℕ → Bool
is_between b = (b == 32) || ((b == 9) || ((b == 10) || ((b == 13) || (b == 44))))

-- the words of a text
abbrev pub words_of_text : List ℕ → List (List ℕ)
words_of_text text = words_between is_between text

-- each word names a cell
abbrev pub AreNames : List (List ℕ) → Type 0
AreNames ws = AllByRecursion (λ word. (id : ℕ) × NamesCell word id) ws

-- the first word that names no cell begins at the place `place` of the text
pub record IsFirstNameless (text : List ℕ) (place : ℕ) : Type 0 where
  pub earlier : List (List ℕ)
  pub word : List ℕ
  pub later : List (List ℕ)
  pub words_are : words_of_text text ≡ earlier ++ word ∷ later
  pub named : AreNames earlier
  pub nameless : (id : ℕ) → NamesCell word id → ⊥
  pub within : place < length text
  pub begins : is_between (slice_index text place) ≡ false
  pub there : words_of_text (drop place text) ≡ word ∷ later
