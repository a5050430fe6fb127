-- The words of a text, from place to place.
use Rattle.std.proofs.Common.{◌≡◌, ℕ, zero, suc, ◌+◌, ◌-◌, ◌<◌, ◌≤◌, Bool, true, false, List, [], ◌∷◌}
use Rattle.std.proofs.Common.{length}
use Rattle.std.proofs.Common.{take, drop, slice_index}
use Rattle.std.proofs.Math.Logic.{⊎_elim}
use Rattle.std.proofs.Common.{◌*◌, subst, refl, sym, ap, ◌∙◌, drop-cons, add-one, get_or, arith}
use Rattle.std.proofs.lemmas.Bool.{cases_Bool, false≢true}
use Rattle.std.proofs.lemmas.List.{drop-drop, length-drop, length-take-le, take_all}
use Rattle.std.proofs.lemmas.List.Splits.{slice_split-cons_yes, slice_split-cons_no}
use Rattle.std.specs.List.{AllByRecursion, slice_split, onto_first, filter}
use Rattle.std.proofs.Math.ListN.{drop_of_length-le}
use Rattle.s2cell.specs.Words.{is_nonempty}
use Rattle.s2cell.specs.Working.Words.{EndsWordAt}
use Rattle.s2cell.proofs.Words.{with_word-some, words_at, words_last}
use Rattle.s2union_c.specs.Working.Texts.{IsNextWord}
use Rattle.s2union_c.specs.Texts.{is_between, words_of_text}

-- what stands between words adds none
pub words_skip : (b : ℕ) (more : List ℕ) → is_between b ≡ true → words_of_text (b ∷ more) ≡ words_of_text more
words_skip b more e = ap (filter is_nonempty) (slice_split-cons_yes is_between b more e)

-- a word ends at the first byte that stands between words
ends_at : (bytes : List ℕ) (at : ℕ) → EndsWordAt is_between bytes at → 0 < length (take at bytes)
    → words_of_text bytes ≡ take at bytes ∷ words_of_text (drop at bytes)
ends_at bytes at h some =
    let more = drop (at + 1) bytes in
    let skip : words_of_text (drop at bytes) ≡ words_of_text more = ap words_of_text h.here
    ∙ words_skip (slice_index bytes at) more h.between in
    words_at is_between bytes at h ∙ with_word-some (take at bytes) (words_of_text more) some
    ∙ ap (λ ws. take at bytes ∷ ws) (sym skip)

-- ---- from a place of a text on

front : (text : List ℕ) (k : ℕ) → k < length text → drop k text ≡ get_or text k 0 ∷ drop (k + 1) text
front text k h = rw (add-one, drop-cons text k 0)

pub words_end : (text : List ℕ) (k : ℕ) → length text ≤ k → words_of_text (drop k text) ≡ []
words_end text k h = let e : drop k text ≡ [] = drop_of_length-le text h in rw e refl

first_byte : (text : List ℕ) (k : ℕ) → k < length text → get_or (drop k text) 0 0 ≡ get_or text k 0
first_byte text k h = ap (λ u. get_or u 0 0) (front text k h)

not_at_once : (text : List ℕ) (start len : ℕ) → start < length text → is_between (get_or text start 0) ≡ false
    → EndsWordAt is_between (drop start text) len → 0 < len
not_at_once text start zero h e ends =
    absurd (false≢true (sym e ∙ ap is_between (sym (first_byte text start h)) ∙ ends.between))
not_at_once text start (suc len) h e ends = omega arith

pub next_at : (text : List ℕ) (from start len : ℕ) → from ≤ start → start < length text
    → is_between (get_or text start 0) ≡ false → words_of_text (drop start text) ≡ words_of_text (drop from text)
    → EndsWordAt is_between (drop start text) len → IsNextWord text from start (start + len)
next_at text from start len order h begins same ends =
    let some = not_at_once text start len h begins ends in
    let room : length (drop start text) ≡ length text - start = length-drop start text in
    let within = ends.within in
    let taken : length (take len (drop start text)) ≡ len = length-take-le len (drop start text) (omega arith) in
    let width : (start + len) - start ≡ len = omega arith in
    let rest : drop len (drop start text) ≡ drop (start + len) text = drop-drop len start text in
    let first : words_of_text (drop start text) ≡ take len (drop start text)
    ∷ words_of_text (drop len (drop start text)) =
    ends_at (drop start text) len ends (omega arith) in
    record {
      order = order;
      some = omega arith;
      within = omega arith;
      begins = begins;
      same = same;
      first = rw (width, sym rest) first;
    }

pub next_last : (text : List ℕ) (from start : ℕ) → from ≤ start → start < length text
    → is_between (get_or text start 0) ≡ false → words_of_text (drop start text) ≡ words_of_text (drop from text)
    → AllByRecursion (λ b. is_between b ≡ false) (drop start text) → IsNextWord text from start (length text)
next_last text from start order h begins same none =
    let room : length (drop start text) ≡ length text - start = length-drop start text in
    let all : take (length text - start) (drop start text) ≡ drop start text =
    take_all (length text - start) (drop start text) (omega arith) in
    let no_more : words_of_text (drop (length text) text) ≡ [] = words_end text (length text) (omega arith) in
    record {
      order = order;
      some = h;
      within = omega arith;
      begins = begins;
      same = same;
      first = rw (all, no_more) (words_last is_between (drop start text) none
          ∙ with_word-some (drop start text) [] (omega arith));
    }

-- a test that is not true
pub not_true : (b : Bool) → (b ≡ true → ⊥) → b ≡ false
not_true true h = absurd (h refl)
not_true false h = refl

-- what is left of a text from a place on
pub left_from : (text : List ℕ) (start : ℕ) → take (length text - start) (drop start text) ≡ drop start text
left_from text start =
    let len : length (drop start text) ≡ length text - start = length-drop start text in
    take_all (length text - start) (drop start text) (omega arith)

-- ---- how many words there are

-- parts of `n` bytes and the separators between them, whose words are at most half of these
abbrev Few : List (List ℕ) → ℕ → Type 0
Few [] n = ⊥
Few ([] ∷ ws) n = 2 * length (filter is_nonempty ws) ≤ n
Few ((b ∷ w) ∷ ws) n = 2 * length (filter is_nonempty ws) + 1 ≤ n

few_cut : (parts : List (List ℕ)) (n : ℕ) → Few parts n → 2 * length (filter is_nonempty parts) ≤ suc n
few_cut [] n f = absurd f
few_cut ([] ∷ ws) n f = omega arith
few_cut ((b ∷ w) ∷ ws) n f = omega arith

few_more : (x : ℕ) (parts : List (List ℕ)) (n : ℕ) → Few parts n → Few (onto_first x parts) (suc n)
few_more x [] n f = absurd f
few_more x ([] ∷ ws) n f = omega arith
few_more x ((b ∷ w) ∷ ws) n f = omega arith

few_parts : (p : ℕ → Bool) (text : List ℕ) → Few (slice_split p text) (length text)
few_parts p [] = omega arith
few_parts p (x ∷ xs) =
    ⊎_elim
    (λ yes. subst (λ parts. Few parts (suc (length xs))) (sym (slice_split-cons_yes p x xs yes))
    (few_cut (slice_split p xs) (length xs) (few_parts p xs)))
    (λ no. subst (λ parts. Few parts (suc (length xs))) (sym (slice_split-cons_no p x xs no))
    (few_more x (slice_split p xs) (length xs) (few_parts p xs)))
    (cases_Bool (p x))

pub words_few : (text : List ℕ) → 2 * length (words_of_text text) ≤ suc (length text)
words_few text = few_cut (slice_split is_between text) (length text) (few_parts is_between text)
