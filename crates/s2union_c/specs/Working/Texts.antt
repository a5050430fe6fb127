-- What only private contracts need, beside Texts.antt, which has what public contracts need.
use Rattle.std.specs.Prelude.{◌≡◌, ℕ, zero, suc, ◌-◌, ◌<◌, ◌≤◌, false}
use Rattle.std.specs.Prelude.{List, ◌∷◌, ◌++◌, length}
use Rattle.std.specs.Prelude.{take, drop, slice_index}
use Rattle.s2union_c.specs.Texts.{is_between, words_of_text}

-- what a token adds to a text after `k` other tokens: a blank before it, unless it is the first
abbrev pub piece : ℕ → List ℕ → List ℕ
piece zero token = token
piece (suc k) token = 32 ∷ token

-- the next word from index `from` on is from `start` to `end`
pub record IsNextWord (text : List ℕ) (from start end : ℕ) : Type 0 where
  pub order : from ≤ start
  pub some : start < end
  pub within : end ≤ length text
  pub begins : is_between (slice_index text start) ≡ false
  pub same : words_of_text (drop start text) ≡ words_of_text (drop from text)
  pub first : words_of_text (drop start text) ≡ take (end - start) (drop start text) ∷ words_of_text (drop end text)

-- `new` begins with `front`, and what comes after that is as it was in `old`
abbrev pub IsFilled : {X : Type 0} → List X → List X → List X → Type 0
IsFilled old new front = new ≡ front ++ drop (length front) old
