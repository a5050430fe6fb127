-- Texts of digits: the number that they write, and the one text that writes it.
use Rattle.std.proofs.Common.{◌≡◌, ◌≢◌, ◌⊎◌, inl, inr, ℕ, suc, zero, ◌+◌, ◌-◌, ◌*◌, ◌/◌, ◌%◌, ◌^◌, ◌<◌, ◌≤◌, refl, sym}
use Rattle.std.proofs.Common.{◌∙◌, ap, arith, List, [], ◌∷◌, ◌++◌, length, take, get_or, All, length-append}
use Rattle.std.proofs.Math.Arith.{mod-mul}
use Rattle.std.proofs.Math.Logic.{⊎_elim}
use Rattle.std.proofs.lemmas.Bool.{cases_lt}
use Rattle.std.proofs.lemmas.Bool.Decides.{nat_tests}
use Rattle.std.proofs.Math.Nat.{pow-suc, pow-zero, mul-pos, mod-lt, mod-one, div-div-eq-div-mul}
use Rattle.std.proofs.Math.Seq.{take-suc, get_or-append_seam}
use Rattle.std.proofs.lemmas.List.{take_all}
use Rattle.std.proofs.lemmas.List.Elements.{All-push}
use Rattle.std.proofs.lemmas.Nat.{div-mul-add, mod-mul-add}
use Rattle.std.proofs.lemmas.Str.{digit_value-digit_char}
use Rattle.std.proofs.lemmas.Int.Digits.{digits_value_push, digits_value_more, digits_push}
use Rattle.std.specs.Str.Parse.{AllDigits, digits_value}
use Rattle.std.specs.Char.{digit_value, digit_char}
use Rattle.s2cell.specs.Text.{in_digits}

pub power_pos : (b k : ℕ) → 0 < b → 0 < b ^ k
power_pos b zero some = rw (pow-zero b) (omega arith)
power_pos b (suc k) some = let p = power_pos b k some in rw (pow-suc b k) (mul-pos p some)

pub length-in_digits : (b len n : ℕ) → length (in_digits b len n) ≡ len
length-in_digits b zero n = refl
length-in_digits b (suc len) n = length-append (in_digits b len (n / b)) (digit_char (n % b) ∷ [])
    ∙ omega (arith, length-in_digits b len (n / b))

pub AllDigits-in_digits : (b len n : ℕ) → 0 < b → b ≤ 36 → AllDigits b (in_digits b len n)
AllDigits-in_digits b zero n some most = tt
AllDigits-in_digits b (suc len) n some most =
    let below : n % b < b = mod-lt n some in
    let is : digit_value (digit_char (n % b)) ≡ n % b = digit_value-digit_char (n % b) (omega arith) in
    digits_push b (in_digits b len (n / b)) (digit_char (n % b)) (AllDigits-in_digits b len (n / b) some most)
    (rw is below)

written_digits : (b len n : ℕ) → 0 < b → b ≤ 36 → All (λ c. digit_char (digit_value c) ≡ c) (in_digits b len n)
written_digits b zero n some most = λ k d h. absurd (omega arith)
written_digits b (suc len) n some most =
    let below : n % b < b = mod-lt n some in
    let is : digit_value (digit_char (n % b)) ≡ n % b = digit_value-digit_char (n % b) (omega arith) in
    All-push (λ c. digit_char (digit_value c) ≡ c) (in_digits b len (n / b)) (digit_char (n % b))
    (written_digits b len (n / b) some most) (ap digit_char is)

-- the digits write what is left of the number below the power
pub digits_value-in_digits : (b len n : ℕ) → 0 < b → b ≤ 36 → digits_value b (in_digits b len n) ≡ n % b ^ len
digits_value-in_digits b zero n some most = sym (rw (pow-zero b) (mod-one n))
digits_value-in_digits b (suc len) n some most =
    let below : n % b < b = mod-lt n some in
    let is : digit_value (digit_char (n % b)) ≡ n % b = digit_value-digit_char (n % b) (omega arith) in
    let front = digits_value-in_digits b len (n / b) some most in
    let pos : 0 < b ^ len = power_pos b len some in
    let split : n % (b ^ len * b) ≡ (n / b % b ^ len) * b + n % b = mod-mul n {m = b ^ len} {c = b} pos some in
    rw (digits_value_push b (in_digits b len (n / b)) (digit_char (n % b)), front, is, pow-suc b len, split) refl

-- a text of digits, each the one that `digit_char` gives, is its value in digits
pub take-in_digits : (b i : ℕ) (text : List ℕ) → 0 < b → i ≤ length text →
    ((k : ℕ) → k < length text → digit_value (get_or text k 0) < b) → ((k : ℕ) → k < length text → digit_char
    (digit_value (get_or text k 0)) ≡ get_or text k 0) → take i text ≡ in_digits b i (digits_value b (take i text))
take-in_digits b zero text some h low own = refl
take-in_digits b (suc i) text some h low own =
    let c = get_or text i 0 in
    let v = digits_value b (take i text) in
    let d = digit_value c in
    let more : digits_value b (take (suc i) text) ≡ v * b + d =
    (let m = digits_value_more b text i h in let next : i + 1 ≡ suc i = omega arith in rw next at m) in
    let below : d < b = low i h in
    let front : (v * b + d) / b ≡ v = div-mul-add v b d below in
    let last : (v * b + d) % b ≡ d = mod-mul-add v b d below in
    let char : digit_char d ≡ c = own i h in
    let start : take i text ≡ in_digits b i v = take-in_digits b i text some (omega arith) low own in
    let whole : in_digits b i v ++ c ∷ [] ≡ in_digits b (suc i) (digits_value b (take (suc i) text)) =
    rw (more, front, last, char) refl in
    take-suc text i 0 h ∙ ap (λ x. x ++ c ∷ []) start ∙ whole

-- places that hold the digits of `n`, the one of the greatest of `total` first
pub filled : (b total i : ℕ) (text : List ℕ) (n : ℕ) → i ≤ total → i ≤ length text → ((k : ℕ) → k < i →
    get_or text k 0 ≡ digit_char (n / b ^ (total - 1 - k) % b)) → take i text ≡ in_digits b i (n / b ^ (total - i))
filled b total zero text n h l is = refl
filled b total (suc i) text n h l is =
    let last : total - 1 - i ≡ total - suc i = omega arith in
    let up : total - i ≡ suc (total - suc i) = omega arith in
    let pw : b ^ (total - i) ≡ b ^ (total - suc i) * b = ap (λ x. b ^ x) up ∙ pow-suc b (total - suc i) in
    let front : n / b ^ (total - suc i) / b ≡ n / b ^ (total - i) = div-div-eq-div-mul n (b ^ (total - suc i)) b
    ∙ ap (λ x. n / x) (sym pw) in
    let start : take i text ≡ in_digits b i (n / b ^ (total - i)) =
    filled b total i text n (omega arith) (omega arith) (λ k lt. is k (omega arith)) in
    let char : get_or text i 0 ≡ digit_char (n / b ^ (total - suc i) % b) = rw (← last) (is i (omega arith)) in
    rw (take-suc text i 0 l, front, start, char) refl

-- ---- the one text of a number

-- digits below the base, each written as `digit_char` writes it
pub record IsPlain (b : ℕ) (text : List ℕ) : Type 0 where
  pub digits : AllDigits b text
  pub written : All (λ c. digit_char (digit_value c) ≡ c) text

pub digit_below : (b : ℕ) (text : List ℕ) (k d : ℕ) → AllDigits b text → k < length text →
    digit_value (get_or text k d) < b
digit_below b [] k d a h = absurd (omega arith)
digit_below b (c ∷ cs) zero d a h = a.0
digit_below b (c ∷ cs) (suc k) d a h = digit_below b cs k d a.1 (omega arith)

-- a text of plain digits is its value in digits
pub plain_text : {b : ℕ} {text : List ℕ} →
    0 < b → IsPlain b text → text ≡ in_digits b (length text) (digits_value b text)
plain_text {b} {text} some p =
    let whole : take (length text) text ≡ text = take_all (length text) text (omega arith) in
    let front = take-in_digits b (length text) text some (omega arith) (λ k h. digit_below b text k 0 p.digits h)
    (λ k h. p.written k 0 h) in
    sym whole ∙ front ∙ ap (λ t. in_digits b (length text) (digits_value b t)) whole

pub same_text : {b : ℕ} {s t : List ℕ} →
    0 < b → IsPlain b s → IsPlain b t → length s ≡ length t → digits_value b s ≡ digits_value b t → s ≡ t
same_text {b} {s} {t} some p q l v = plain_text some p ∙ ap (λ n. in_digits b n (digits_value b s)) l
    ∙ ap (λ n. in_digits b (length t) n) v ∙ sym (plain_text some q)

pub IsPlain-in_digits : (b len n : ℕ) → 0 < b → b ≤ 36 → IsPlain b (in_digits b len n)
IsPlain-in_digits b len n some most = record {
  digits = AllDigits-in_digits b len n some most;
  written = written_digits b len n some most;
}

-- the last of the digits
pub last_digit : (b len n : ℕ) → 0 < len → get_or (in_digits b len n) (len - 1) 0 ≡ digit_char (n % b)
last_digit b zero n h = absurd (omega arith)
last_digit b (suc len) n h =
    let at : suc len - 1 ≡ length (in_digits b len (n / b)) = let l = length-in_digits b len (n / b) in omega arith in
    rw at (get_or-append_seam (in_digits b len (n / b)) (digit_char (n % b)) [] 0)

-- ---- single digits

pub digit_char_low : (d : ℕ) → d < 10 → digit_char d ≡ 48 + d
digit_char_low d h = grind (arith, nat_tests)

pub digit_char_high : (d : ℕ) → 10 ≤ d → digit_char d ≡ 87 + d
digit_char_high d h = grind (arith, nat_tests)

pub digit_char_lower : (d : ℕ) → (digit_char d < 58) ⊎ (97 ≤ digit_char d)
digit_char_lower d =
    ⊎_elim
    (λ (h : d < 10). let e = digit_char_low d h in inl (omega arith))
    (λ (h : 10 ≤ d). let e = digit_char_high d h in inr (omega arith))
    (cases_lt d 10)

pub digit_char-≢ : (d : ℕ) → 0 < d → digit_char d ≢ 48
digit_char-≢ d some =
    ⊎_elim
    (λ (h : d < 10). let e = digit_char_low d h in omega arith)
    (λ (h : 10 ≤ d). let e = digit_char_high d h in omega arith)
    (cases_lt d 10)

pub written_lower : (c : ℕ) → digit_value c < 16 → (c < 58) ⊎ (97 ≤ c) → digit_char (digit_value c) ≡ c
written_lower c value lower = grind (arith, nat_tests)

pub digit_value_zero : (c : ℕ) → digit_value c ≡ 0 → c ≡ 48
digit_value_zero c value = grind (arith, nat_tests)

pub written_four : (c : ℕ) → digit_value c < 4 → digit_char (digit_value c) ≡ c
written_four c value = grind (arith, nat_tests)
