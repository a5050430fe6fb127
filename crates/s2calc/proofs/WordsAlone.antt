-- How clap reads the words of `cell` and `check`, and what a parse gives of words that a command takes.
use Rattle.std.proofs.Common.{◌≡◌, ◌∙◌, ◌==◌, ℕ, Bool, true, false, not, refl, sym, ap, ap₂, subst, List, [], ◌∷◌}
use Rattle.std.proofs.Common.{Option, Some, None, codes, ◌-◌, String, arith, drop, length, map, string_bytes, take}
use Rattle.std.proofs.lemmas.List.{take_all}
use Rattle.std.specs.Option.{IsSomeAnd}
use Rattle.clap.specs.Walk.{Text, first_of, rows_of}
use Rattle.clap.specs.Simple.{App, HasMatchesOf, is_simple, matches_of}
use Rattle.clap.specs.Takes.{takes}
use Rattle.clap.specs.Words.{found_of}
use Rattle.clap.specs.declared.parser.matches.ArgMatches.{ArgMatches}
use Rattle.clap.proofs.OnLiterals.{clap_on_literals}
use Rattle.s2calc.specs.CommandLine.{has_no_hyphen}
use Rattle.s2calc.specs.Working.CommandLine.{cell_app, check_app}

pub cell_simple : is_simple cell_app ≡ true
cell_simple = refl

pub check_simple : is_simple check_app ≡ true
check_simple = refl

no_hyphen : (x : ℕ) → not (x == 45) ≡ true → (x == 45) ≡ false
no_hyphen x e = go (x == 45) e
  where
    go : (b : Bool) → not b ≡ true → b ≡ false
    go true h = sym h
    go false h = refl

pub cell_taken : (name word : Text) → has_no_hyphen word ≡ true → takes cell_app (name ∷ word ∷ []) ≡ true
unfolding clap_on_literals
cell_taken name [] plain = refl
cell_taken name (x ∷ xs) plain = let is = no_hyphen x plain in rw (is, is) refl

pub cell_word : (name word : Text) → has_no_hyphen word ≡ true
    → first_of (codes "CELL") (matches_of cell_app (name ∷ word ∷ [])) ≡ Some word
unfolding clap_on_literals
cell_word name [] plain = refl
cell_word name (x ∷ xs) plain = let is = no_hyphen x plain in rw (is, is) refl

pub file_taken : (name file : Text) → has_no_hyphen file ≡ true → takes check_app (name ∷ file ∷ []) ≡ true
unfolding clap_on_literals
file_taken name [] plain = refl
file_taken name (x ∷ xs) plain = let is = no_hyphen x plain in rw (is, is) refl

pub file_word : (name file : Text) → has_no_hyphen file ≡ true
    → first_of (codes "FILE") (matches_of check_app (name ∷ file ∷ [])) ≡ Some file
unfolding clap_on_literals
file_word name [] plain = refl
file_word name (x ∷ xs) plain = let is = no_hyphen x plain in rw (is, is) refl

pub file_folder : (name file : Text) → has_no_hyphen file ≡ true
    → first_of (codes "dir") (matches_of check_app (name ∷ file ∷ [])) ≡ Some (codes ".")
unfolding clap_on_literals
file_folder name [] plain = refl
file_folder name (x ∷ xs) plain = let is = no_hyphen x plain in rw (is, is) refl

-- a command that takes the words, as it was made and as they were given
module _ (command made : App) (line given : List Text) (same : made ≡ command) (same_line : given ≡ line)
    (is_taken : takes command line ≡ true) where
  abbrev Answers : Option ArgMatches → Type 0
  Answers answer = takes made given ≡ true → IsSomeAnd answer (HasMatchesOf made given)

  -- its rows are those of these words
  pub rows_found : (answer : Option ArgMatches) (matches : ArgMatches) → is_simple command ≡ true → Answers answer
      → answer ≡ Some matches → rows_of (found_of matches) ≡ matches_of command line
  rows_found answer matches is_plain answers is =
      let has : HasMatchesOf made given matches =
      subst (λ (o : Option ArgMatches). IsSomeAnd o (HasMatchesOf made given)) is
      (answers (ap₂ takes same same_line ∙ is_taken)) in
      (has (ap is_simple same ∙ is_plain)).0 ∙ ap₂ matches_of same same_line

  -- there are matches
  pub none_found : (answer : Option ArgMatches) → Answers answer → answer ≡ None → ⊥
  none_found answer answers is =
      subst (λ (o : Option ArgMatches). IsSomeAnd o (HasMatchesOf made given)) is
      (answers (ap₂ takes same same_line ∙ is_taken))

-- the words after the first
pub rest_words : {Z : Type 0} (words : List (String Z)) (first : Text) (rest : List Text)
    → map string_bytes words ≡ first ∷ rest
    → map string_bytes (take (length words - 1) (drop 1 words)) ≡ rest
rest_words [] first rest e = ap (drop 1) e
rest_words (word ∷ words) first rest e =
    ap (map string_bytes) (take_all (length (word ∷ words) - 1) words (omega arith)) ∙ ap (drop 1) e
