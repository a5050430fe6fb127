-- The tables of digits, entry by entry.
use Rattle.std.proofs.Common.{◌≡◌, ℕ, suc, zero, ◌+◌, ◌-◌, ◌*◌, ◌/◌, ◌%◌, ◌^◌, ◌<◌, Bool, true, ◌&&◌, ◌==◌, List, []}
use Rattle.std.proofs.Common.{◌∷◌, length, get_or, refl, sym, ◌∙◌, ap, arith, eqb-true}
use Rattle.std.proofs.lemmas.Bool.{and_parts}
use Rattle.std.specs.Char.{digit_char, digit_value}
use Rattle.s2cell.specs.declared.digits.TheConstants.{DIGIT_VALUES, HEX_PAIRS}

-- each entry, the first being that of the number `i`, is what the function gives for its number
abbrev entries_from : (ℕ → ℕ) → ℕ → List ℕ → Bool
entries_from f i [] = true
entries_from f i (e ∷ es) = (e == f i) && entries_from f (i + 1) es

entry_from : (f : ℕ → ℕ) (i : ℕ) (es : List ℕ) (k : ℕ) → entries_from f i es ≡ true → k < length es →
    get_or es k 0 ≡ f (i + k)
entry_from f i [] k ok h = absurd (omega arith)
entry_from f i (e ∷ es) zero ok h =
    let first : e ≡ f i = eqb-true e (f i) (and_parts (e == f i) (entries_from f (i + 1) es) ok).0 in
    let same : i + 0 ≡ i = omega arith in
    first ∙ ap f (sym same)
entry_from f i (e ∷ es) (suc k) ok h =
    let rest = entry_from f (i + 1) es k (and_parts (e == f i) (entries_from f (i + 1) es) ok).1 (omega arith) in
    let same : (i + 1) + k ≡ i + suc k = omega arith in
    rest ∙ ap f same

entry_in : (f : ℕ → ℕ) (es : List ℕ) → entries_from f 0 es ≡ true → (c : ℕ) → c < length es → get_or es c 0 ≡ f c
entry_in f es ok c h = let same : 0 + c ≡ c = omega arith in entry_from f 0 es c ok h ∙ ap f same

values_ok : entries_from digit_value 0 DIGIT_VALUES ≡ true
values_ok = refl

pub value_in_table : (c : ℕ) → c < 256 → get_or DIGIT_VALUES c 0 ≡ digit_value c
value_in_table c h = entry_in digit_value DIGIT_VALUES values_ok c h

-- the digit at place `i` of the texts of all bytes
pair_digit : ℕ → ℕ
pair_digit i = digit_char (i / 2 / 16 ^ (1 - i % 2) % 16)

pairs_ok : entries_from pair_digit 0 HEX_PAIRS ≡ true
unfolding pair_digit
pairs_ok = refl

pub high_in_table : (b : ℕ) → b < 256 → get_or HEX_PAIRS (2 * b) 0 ≡ digit_char (b / 16)
unfolding pair_digit
high_in_table b h =
    let half : 2 * b / 2 ≡ b = omega arith in
    let even : 2 * b % 2 ≡ 0 = omega arith in
    let below : b / 16 % 16 ≡ b / 16 = omega arith in
    entry_in pair_digit HEX_PAIRS pairs_ok (2 * b) (omega arith) ∙ rw (half, even) (ap digit_char below)

pub low_in_table : (b : ℕ) → b < 256 → get_or HEX_PAIRS (2 * b + 1) 0 ≡ digit_char (b % 16)
unfolding pair_digit
low_in_table b h =
    let half : (2 * b + 1) / 2 ≡ b = omega arith in
    let odd : (2 * b + 1) % 2 ≡ 1 = omega arith in
    let one : b / 1 % 16 ≡ b % 16 = omega arith in
    entry_in pair_digit HEX_PAIRS pairs_ok (2 * b + 1) (omega arith) ∙ rw (half, odd) (ap digit_char one)
