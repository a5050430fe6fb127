-- Reading and writing debug texts.
use Rattle.std.proofs.Common.{◌≡◌, ◌≢◌, ℕ, suc, ◌+◌, ◌-◌, ◌*◌, ◌/◌, ◌%◌, ◌^◌, ◌<◌, ◌≤◌}
use Rattle.std.proofs.Common.{refl, sym, ◌∙◌, ap, arith, List, [], ◌∷◌, length, take, drop, get_or, bit_and, set}
use Rattle.std.proofs.Common.{get_or-set_other, get_or-set_same, below_more, lit<}
use Rattle.std.proofs.Math.Nat.{div-div-eq-div-mul, mod-eq_of_lt, mul-le-mul_right, pow-le-pow_right}
use Rattle.std.proofs.lemmas.Nat.{pow-add, mod-mul-add, div-mul-add, and_mask}
use Rattle.std.proofs.lemmas.List.{length-take-le, length-drop, length-set, take_all, get_or-drop}
use Rattle.std.proofs.lemmas.Str.{digit_value-digit_char, digit_value_digit}
use Rattle.std.proofs.lemmas.Str.Parse.{digit_from_value}
use Rattle.std.proofs.lemmas.Int.Digits.{digits_value-lt, digits_value_more, digits_more}
use Rattle.std.specs.Str.Parse.{AllDigits, digits_value}
use Rattle.std.specs.Char.{digit_value, digit_char}
use Rattle.s2cell.specs.Cell.{IsCell, IsCellAt, level_of, place_of, face_of}
use Rattle.s2cell.specs.Text.{in_digits}
use Rattle.s2cell.specs.Debug.{IsDebug, debug_of}
use Rattle.s2cell.proofs.Lowest.{four_pow}
use Rattle.s2cell.proofs.CellLemmas.{own_place, level_of_cell, place_of_cell, face_of_cell, all_leaves}
use Rattle.s2cell.proofs.Calls.{face_bits, shallow}
use Rattle.s2cell.proofs.DigitTexts.{length-in_digits, AllDigits-in_digits, digits_value-in_digits, digit_char_low}
use Rattle.s2cell.proofs.DigitTexts.{digit_below, IsPlain, IsPlain-in_digits, same_text, written_four, filled}

-- ---- the debug text of a cell

face_small : (n : ℕ) → IsCell n → face_of n < 6
face_small n c = rw (← face_bits c) (face_of_cell n c)

pub IsDebug-debug_of : {n : ℕ} → IsCell n → IsDebug (debug_of n) n
unfolding debug_of
IsDebug-debug_of {n} c =
    let k = level_of n in
    let small = face_small n c in
    let face = digit_char_low (face_of n) (omega arith) in
    record {
      cell = c;
      length_is = let l = length-in_digits 4 k (place_of n) in omega arith;
      face = omega arith;
      slash = refl;
      digits = AllDigits-in_digits 4 k (place_of n) (omega arith) (omega arith);
      value = digits_value-in_digits 4 k (place_of n) (omega arith) (omega arith);
    }

-- the digits of base 4 are below every letter
four_plain : (text : List ℕ) → AllDigits 4 text → IsPlain 4 text
four_plain text a = record {
  digits = a;
  written = λ k d h. written_four (get_or text k d) (digit_below 4 text k d a h);
}

two_and_rest : (text : List ℕ) → 2 ≤ length text → text ≡ get_or text 0 0 ∷ get_or text 1 0 ∷ drop 2 text
two_and_rest [] h = absurd (omega arith)
two_and_rest (a ∷ []) h = absurd (omega arith)
two_and_rest (a ∷ b ∷ rest) h = refl

-- no other text is a cell's debug text
pub debug_unique : {text : List ℕ} {n : ℕ} → IsDebug text n → text ≡ debug_of n
unfolding debug_of
debug_unique {text} {n} d =
    let c = d.cell in
    let k = level_of n in
    let own = IsDebug-debug_of c in
    let len = d.length_is in
    let small = face_small n c in
    let face : get_or text 0 0 ≡ digit_char (face_of n) = d.face
    ∙ (let e = digit_char_low (face_of n) (omega arith) in omega arith) in
    let rest_len : length (drop 2 text) ≡ length (in_digits 4 k (place_of n)) = length-drop 2 text
    ∙ (let l = length-in_digits 4 k (place_of n) in omega arith) in
    let rest : drop 2 text ≡ in_digits 4 k (place_of n) =
    same_text
    (omega arith) (four_plain (drop 2 text) d.digits) (IsPlain-in_digits 4 k (place_of n) (omega arith) (omega arith))
    rest_len (d.value ∙ sym (digits_value-in_digits 4 k (place_of n) (omega arith) (omega arith))) in
    two_and_rest text (omega arith) ∙ ap (λ x. x ∷ get_or text 1 0 ∷ drop 2 text) face
    ∙ ap (λ x. digit_char (face_of n) ∷ x ∷ drop 2 text) d.slash ∙ ap (λ x. digit_char (face_of n) ∷ 47 ∷ x) rest

-- ---- the places that `debug` fills

pub record DebugSoFar (n k : ℕ) (digits : List ℕ) : Type 0 where
  pub size : length digits ≡ 32
  pub face : get_or digits 0 0 ≡ face_of n + 48
  pub slash : get_or digits 1 0 ≡ 47
  pub filled : (j : ℕ) → j < k → get_or digits (j + 2) 0 ≡ digit_char (n / 2 / 4 ^ (29 - j) % 4)

debug_digit : (n k : ℕ) → k < 30 → 48 + bit_and (n / 2 ^ (59 - 2 * k)) 3 ≡ digit_char (n / 2 / 4 ^ (29 - k) % 4)
debug_digit n k h =
    let e : 59 - 2 * k ≡ 1 + 2 * (29 - k) = omega arith in
    let pw : 2 ^ (59 - 2 * k) ≡ 2 * 4 ^ (29 - k) = ap (λ x. 2 ^ x) e ∙ pow-add 2 1 (2 * (29 - k))
    ∙ ap (λ x. 2 * x) (sym (four_pow (29 - k))) in
    let at : n / 2 ^ (59 - 2 * k) ≡ n / 2 / 4 ^ (29 - k) = ap (λ x. n / x) pw
    ∙ sym (div-div-eq-div-mul n 2 (4 ^ (29 - k))) in
    let low : bit_and (n / 2 ^ (59 - 2 * k)) 3 ≡ n / 2 / 4 ^ (29 - k) % 4 = and_mask (n / 2 ^ (59 - 2 * k)) 2
    ∙ ap (λ x. x % 4) at in
    ap (λ x. 48 + x) low ∙ sym (digit_char_low (n / 2 / 4 ^ (29 - k) % 4) (omega arith))

pub debug_more : {n k : ℕ} (d : ℕ) {digits : List ℕ} → DebugSoFar n k digits →
    k < 30 → d ≡ 48 + bit_and (n / 2 ^ (59 - 2 * k)) 3 → DebugSoFar n (k + 1) (set digits (k + 2) d)
debug_more {n} {k} d {digits} so_far h is =
    let size = so_far.size in
    let lt : k + 2 < length digits = omega arith in
    let zeroth : 0 ≢ k + 2 = omega arith in
    let first : 1 ≢ k + 2 = omega arith in
    let last : get_or (set digits (k + 2) d) (k + 2) 0 ≡ digit_char (n / 2 / 4 ^ (29 - k) % 4) =
    rw get_or-set_same (is ∙ debug_digit n k h) in
    record {
      size = length-set digits (k + 2) d ∙ size;
      face = rw get_or-set_other so_far.face;
      slash = rw get_or-set_other so_far.slash;
      filled = below_more _ _ (λ j l. let ne : j + 2 ≢ k + 2 = omega arith in
          rw get_or-set_other (so_far.filled j l)) last;
    }

place_above : (n : ℕ) → n / 2 / 4 ^ (30 - level_of n) ≡ place_of n
unfolding place_of
place_above n = div-div-eq-div-mul n 2 (4 ^ (30 - level_of n))

take_two : (n : ℕ) (text : List ℕ) → 2 ≤ length text →
    take (suc (suc n)) text ≡ get_or text 0 0 ∷ get_or text 1 0 ∷ take n (drop 2 text)
take_two n [] h = absurd (omega arith)
take_two n (a ∷ []) h = absurd (omega arith)
take_two n (a ∷ b ∷ rest) h = refl

pub debug_done : {n k : ℕ} {digits : List ℕ} (text : List ℕ) →
    IsCell n → DebugSoFar n k digits → 30 ≤ k → text ≡ take (level_of n + 2) digits → text ≡ debug_of n
unfolding debug_of
debug_done {n} {digits} text c so_far h e =
    let level = level_of n in
    let shallow : level ≤ 30 = shallow n c in
    let size = so_far.size in
    let small = face_small n c in
    let two : level + 2 ≡ suc (suc level) = omega arith in
    let face : get_or digits 0 0 ≡ digit_char (face_of n) = so_far.face
    ∙ (let e = digit_char_low (face_of n) (omega arith) in omega arith) in
    let rest = drop 2 digits in
    let len : length rest ≡ 30 = length-drop 2 digits ∙ omega arith in
    let places : (j : ℕ) → j < level → get_or rest j 0 ≡ digit_char (n / 2 / 4 ^ (29 - j) % 4) =
    λ j l. get_or-drop 2 digits j 0 ∙ (let order : 2 + j ≡ j + 2 = omega arith in
    rw order (so_far.filled j (omega arith))) in
    let tail : take level rest ≡ in_digits 4 level (place_of n) =
    filled 4 30 level rest (n / 2) shallow (omega arith) places ∙ ap (λ x. in_digits 4 level x) (place_above n) in
    e ∙ ap (λ x. take x digits) two ∙ take_two level digits (omega arith)
    ∙ ap (λ x. x ∷ get_or digits 1 0 ∷ take level rest) face
    ∙ ap (λ x. digit_char (face_of n) ∷ x ∷ take level rest) so_far.slash
    ∙ ap (λ x. digit_char (face_of n) ∷ 47 ∷ x) tail

-- ---- what `from_debug` has read

pub record DebugRead (rest : List ℕ) (face i place : ℕ) : Type 0 where
  pub face_small : face < 6
  pub digits : AllDigits 4 (take i rest)
  pub is : place ≡ face * 4 ^ i + digits_value 4 (take i rest)

pub debug_read_more : {rest : List ℕ} {face i place : ℕ} (d : ℕ) → i < length rest → DebugRead rest face i place →
    d ≡ digit_value (get_or rest i 0) → d < 4 → DebugRead rest face (i + 1) (4 * place + d)
debug_read_more {rest} {i} d h r is small =
    let more : digits_value 4 (take (i + 1) rest) ≡ digits_value 4 (take i rest) * 4
    + digit_value (get_or rest i 0) = digits_value_more 4 rest i h in
    let pw : 4 ^ (i + 1) ≡ 4 ^ i * 4 = pow-add 4 i 1 in
    let v = r.is in
    record {
      face_small = r.face_small;
      digits = digits_more 4 rest i h r.digits (rw (← is) small);
      is = rw (more, pw) (omega arith);
    }

place_small : {rest : List ℕ} {face i place : ℕ} → i ≤ length rest → DebugRead rest face i place → place < 6 * 4 ^ i
place_small {rest} {face} {i} h r =
    let below : digits_value 4 (take i rest) < 4 ^ length (take i rest) = digits_value-lt 4 (take i rest) r.digits in
    let len : length (take i rest) ≡ i = length-take-le i rest h in
    let low : digits_value 4 (take i rest) < 4 ^ i = rw len at below in
    let faces : face * 4 ^ i ≤ 5 * 4 ^ i = mul-le-mul_right (4 ^ i) (let f = r.face_small in omega arith) in
    let v = r.is in
    omega arith

pub place_room : {rest : List ℕ} {face i place : ℕ} →
    i < length rest → length rest ≤ 30 → DebugRead rest face i place → 4 * place + 3 < 2 ^ 64
place_room {rest} {face} {i} {place} h m r =
    let small = place_small (omega arith) r in
    let p : 4 ^ i ≤ 4 ^ 29 = pow-le-pow_right {n = 4} (lit< tt) {i = i} {j = 29} (omega arith) in
    omega arith

pub id_room : {rest : List ℕ} {face i place : ℕ} →
    i ≤ length rest → length rest ≤ 30 → DebugRead rest face i place → 2 * place + 1 < 2 ^ 64
id_room {rest} {face} {i} {place} h m r =
    let small = place_small h r in
    let p : 4 ^ i ≤ 4 ^ 30 = pow-le-pow_right {n = 4} (lit< tt) {i = i} {j = 30} (omega arith) in
    omega arith

pub face_of_cell_at : {k m n : ℕ} → IsCellAt k m n → face_of n ≡ m / 4 ^ k
unfolding face_of
face_of_cell_at {k} {m} {n} c = rw (place_of_cell k m n c, level_of_cell k m n c) refl

pub debug_read_whole : (text : List ℕ) {rest : List ℕ} {i place : ℕ} (id : ℕ) → drop 2 text ≡ rest → 2 ≤ length text →
    length rest ≤ 30 → length rest ≤ i → i ≤ length rest → DebugRead rest (digit_value (get_or text 0 0)) i place →
    get_or text 1 0 ≡ 47 → id ≡ (2 * place + 1) * 2 ^ (2 * (30 - length rest)) % 2 ^ 64 → IsDebug text id
debug_read_whole text {rest} {i} {place} id after two most low high r slash e =
    let face = digit_value (get_or text 0 0) in
    let same : i ≡ length rest = omega arith in
    let all : take i rest ≡ rest = take_all i rest low in
    let bound = place_small high r in
    let small : place < 6 * 4 ^ length rest = rw same at bound in
    let s = 4 ^ (30 - length rest) in
    let whole : 4 ^ length rest * s ≡ 4 ^ 30 = all_leaves (length rest) most in
    let fits : (2 * place + 1) * s ≤ (12 * 4 ^ length rest) * s = mul-le-mul_right s (omega arith) in
    let shift : 2 ^ (2 * (30 - length rest)) ≡ s = sym (four_pow (30 - length rest)) in
    let exact : (2 * place + 1) * s % 2 ^ 64 ≡ (2 * place + 1) * s = mod-eq_of_lt (omega arith) in
    let is : id ≡ (2 * place + 1) * s = e ∙ ap (λ x. (2 * place + 1) * x % 2 ^ 64) shift ∙ exact in
    let at : IsCellAt (length rest) place id = record { level = most; place = small; id = is } in
    let level : level_of id ≡ length rest = level_of_cell (length rest) place id at in
    let own : place_of id ≡ place = place_of_cell (length rest) place id at in
    let read : place ≡ face * 4 ^ length rest + digits_value 4 rest = r.is
    ∙ ap (λ x. face * 4 ^ i + digits_value 4 x) all ∙ ap (λ x. face * 4 ^ x + digits_value 4 rest) same in
    let digits : AllDigits 4 rest = rw all at r.digits in
    let tail : digits_value 4 rest < 4 ^ length rest = digits_value-lt 4 rest digits in
    let faces : face_of id ≡ face = face_of_cell_at at ∙ ap (λ x. x / 4 ^ length rest) read
    ∙ div-mul-add face (4 ^ length rest) (digits_value 4 rest) tail in
    let first : digit_value (get_or text 0 0) + 48 ≡ get_or text 0 0 =
    digit_value_digit (get_or text 0 0) (digit_from_value (get_or text 0 0) (let f = r.face_small in
    omega arith)) in
    let len : length rest ≡ length text - 2 = ap length (sym after) ∙ length-drop 2 text in
    record {
      cell = (length rest, place, at);
      length_is = omega arith;
      face = omega arith;
      slash = slash;
      digits = rw after digits;
      value = rw (after, own, level) (sym (ap (λ x. x % 4 ^ length rest) read
          ∙ mod-mul-add face (4 ^ length rest) (digits_value 4 rest) tail));
    }

-- what a debug text must have

pub debug_face : {text : List ℕ} {n : ℕ} → IsDebug text n → digit_value (get_or text 0 0) < 6
debug_face {text} {n} d =
    let small = face_small n d.cell in
    let low : digit_char (face_of n) ≡ 48 + face_of n = digit_char_low (face_of n) (omega arith) in
    let first : get_or text 0 0 ≡ digit_char (face_of n) = d.face ∙ omega arith in
    rw (first, digit_value-digit_char (face_of n) (omega arith)) small

pub debug_short : {text : List ℕ} {n : ℕ} → IsDebug text n → (2 ≤ length text) × (length (drop 2 text) ≤ 30)
debug_short {text} {n} d =
    let s = shallow n d.cell in
    let l = d.length_is in
    let len : length (drop 2 text) ≡ length text - 2 = length-drop 2 text in
    (omega arith, omega arith)

place_parts : (n : ℕ) → place_of n ≡ face_of n * 4 ^ level_of n + place_of n % 4 ^ level_of n
unfolding face_of
place_parts n = omega arith

-- a debug text is that of one cell
pub debug_one_cell : (m n : ℕ) (text : List ℕ) → IsDebug text m → IsDebug text n → m ≡ n
debug_one_cell m n text d e =
    let own_m = own_place m d.cell in
    let own_n = own_place n e.cell in
    let level : level_of m ≡ level_of n = let l = d.length_is in let k = e.length_is in omega arith in
    let face : face_of m ≡ face_of n = let f = d.face in let g = e.face in omega arith in
    let digits : place_of m % 4 ^ level_of m ≡ place_of n % 4 ^ level_of n = sym d.value ∙ e.value in
    let place : place_of m ≡ place_of n =
    place_parts m ∙ ap (λ x. x * 4 ^ level_of m + place_of m % 4 ^ level_of m) face
    ∙ ap (λ x. face_of n * 4 ^ x + place_of m % 4 ^ level_of m) level
    ∙ ap (λ x. face_of n * 4 ^ level_of n + x) digits ∙ sym (place_parts n) in
    own_m.id ∙ ap (λ x. (2 * x + 1) * 4 ^ (30 - level_of m)) place
    ∙ ap (λ x. (2 * place_of n + 1) * 4 ^ (30 - x)) level ∙ sym own_n.id
