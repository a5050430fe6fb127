-- The words of a text, one after another.
use Rattle.std.proofs.Common.{◌≡◌, ℕ, ◌+◌, Bool, true, false, List, [], ◌∷◌, ◌++◌, length, take, drop, slice_index}
use Rattle.std.proofs.Common.{refl, sym, ap, ◌∙◌, take-append-drop, arith, ◌<◌}
use Rattle.std.proofs.lemmas.List.Splits.{slice_split-cons_yes, slice_split-cons_no}
use Rattle.std.specs.List.{AllByRecursion, slice_split, onto_first, filter}
use Rattle.s2cell.specs.Words.{is_nonempty, words_between}
use Rattle.s2cell.specs.Working.Words.{EndsWordAt}

split_at : (p : ℕ → Bool) (word : List ℕ) (b : ℕ) (more : List ℕ) → AllByRecursion (λ x. p x ≡ false) word →
    p b ≡ true → slice_split p (word ++ b ∷ more) ≡ word ∷ slice_split p more
split_at p [] b more u e = slice_split-cons_yes p b more e
split_at p (x ∷ xs) b more u e = slice_split-cons_no p x (xs ++ b ∷ more) u.0
    ∙ ap (onto_first x) (split_at p xs b more u.1 e)

split_none : (p : ℕ → Bool) (word : List ℕ) → AllByRecursion (λ x. p x ≡ false) word → slice_split p word ≡ word ∷ []
split_none p [] u = refl
split_none p (x ∷ xs) u = slice_split-cons_no p x xs u.0 ∙ ap (onto_first x) (split_none p xs u.1)

-- what the bytes before a separator add
abbrev pub with_word : List ℕ → List (List ℕ) → List (List ℕ)
with_word [] ws = ws
with_word (b ∷ bs) ws = (b ∷ bs) ∷ ws

filter_cons : (word : List ℕ) (parts : List (List ℕ)) →
    filter is_nonempty (word ∷ parts) ≡ with_word word (filter is_nonempty parts)
filter_cons [] parts = refl
filter_cons (b ∷ bs) parts = refl

pub words_at : (p : ℕ → Bool) (bytes : List ℕ) (at : ℕ) → EndsWordAt p bytes at
    → words_between p bytes ≡ with_word (take at bytes) (words_between p (drop (at + 1) bytes))
words_at p bytes at h =
    ap (words_between p) (sym (take-append-drop at bytes) ∙ ap (λ s. take at bytes ++ s) h.here)
    ∙ ap (filter is_nonempty) (split_at p (take at bytes) (slice_index bytes at) (drop (at + 1) bytes) h.before
    h.between)
    ∙ filter_cons (take at bytes) (slice_split p (drop (at + 1) bytes))

pub words_last : (p : ℕ → Bool) (bytes : List ℕ) → AllByRecursion (λ b. p b ≡ false) bytes
    → words_between p bytes ≡ with_word bytes []
words_last p bytes u = ap (filter is_nonempty) (split_none p bytes u) ∙ filter_cons bytes []

pub with_word-some : (word : List ℕ) (ws : List (List ℕ)) → 0 < length word → with_word word ws ≡ word ∷ ws
with_word-some [] ws h = absurd (omega arith)
with_word-some (b ∷ bs) ws h = refl
