-- The digits of a decimal number up to a place, and the nearest whole number to it.
use Rattle.std.proofs.Common.{ℕ, zero, suc, ◌+◌, ◌-◌, ◌*◌, ◌/◌, ◌^◌, ◌≤◌, ◌<◌, ◌≡◌, ap, arith, inl, inr}
use Rattle.std.proofs.Common.{min, ◌++◌, subst, Bool, ℤ, unsigned_abs}
use Rattle.std.proofs.Common.{List, [], ◌∷◌, length, take, get_or, sym, refl, lit<, ◌∙◌}
use Rattle.std.proofs.Math.Nat.{mul-le-mul_left, mul-le-mul_right, pow-le-pow_right}
use Rattle.std.proofs.lemmas.Bool.{cases_lt}
use Rattle.std.proofs.lemmas.Int.Digits.{digits_value_more, digits_value-lt}
use Rattle.std.proofs.lemmas.List.{take_all}
use Rattle.std.proofs.lemmas.Nat.{pow-add}
use Rattle.std.proofs.lemmas.Str.{digit_value_digit}
use Rattle.std.proofs.lemmas.Str.Parse.{digit_at}
use Rattle.std.proofs.lemmas.List.{length-append}
use Rattle.std.specs.Char.{digit_value}
use Rattle.std.specs.Float.Numeral.{Parts, numeral_digits, tens_down, tens_up}
use Rattle.std.specs.Str.Parse.{AllDigits, digits_value}
use Rattle.s2degrees.specs.Femtodegrees.{IsNearest, IsRounded}
use Rattle.s2degrees.specs.Working.Digits.{padded}
use Rattle.s2degrees.specs.Working.Near.{IsNearestUpTo}
use Rattle.s2degrees.proofs.Doubles.{far_if_nearest}

pub tens_some : (k : ℕ) → 0 < 10 ^ k
tens_some k = pow-le-pow_right (lit< tt) {i = 0} {j = k} (omega arith)

-- one digit more
pub padded_more : (ds : List ℕ) (k d : ℕ) → (k < length ds → d ≡ digit_value (get_or ds k 0))
    → (length ds ≤ k → d ≡ 0) → padded ds (k + 1) ≡ padded ds k * 10 + d
padded_more ds k d within beyond = elim (cases_lt k (length ds)) [
  | inl l ↦
      let none : k + 1 - length ds ≡ 0 = omega (arith, l) in
      let no : k - length ds ≡ 0 = omega (arith, l) in
      let e = digits_value_more 10 ds k l in
      let own = within l in
      rw (none, no, e) (omega (arith, own))
  | inr g ↦
      let more : k + 1 - length ds ≡ k - length ds + 1 = omega (arith, g) in
      let all = take_all k ds g in
      let all_more = take_all (k + 1) ds (omega (arith, g)) in
      let tens = pow-add 10 (k - length ds) 1 in
      let own = beyond g in
      rw (more, all, all_more, tens, own) (omega arith)
]

-- a digit among others
pub read_digit : (ds : List ℕ) (i x : ℕ) → AllDigits 10 ds → i < length ds → get_or ds i 0 ≡ x
    → (48 ≤ x) × (x - 48 ≡ digit_value (get_or ds i 0)) × (x - 48 < 10)
read_digit ds i x h l e =
    let r = digit_at ds i h l in
    let v = digit_value_digit (get_or ds i 0) r in
    (omega (arith, e, r), omega (arith, e, v), omega (arith, e, r))

pub all_digits : (xs ys : List ℕ) → AllDigits 10 xs → AllDigits 10 ys → AllDigits 10 (xs ++ ys)
all_digits [] ys h i = i
all_digits (x ∷ xs) ys h i = (h.0, all_digits xs ys h.1 i)

-- digits after the first `k`
more_digits : (ds : List ℕ) (k rest : ℕ) → AllDigits 10 ds → k + rest ≤ length ds
    → (digits_value 10 (take k ds) * 10 ^ rest ≤ digits_value 10 (take (k + rest) ds))
    × (digits_value 10 (take (k + rest) ds) < digits_value 10 (take k ds) * 10 ^ rest + 10 ^ rest)
more_digits ds k zero h l =
    let e : k + 0 ≡ k = omega arith in
    rw e (omega arith, omega arith)
more_digits ds k (suc rest) h l =
    let at = k + rest in
    let i = more_digits ds k rest h (omega (arith, l)) in
    let next : k + suc rest ≡ at + 1 = omega arith in
    let within : at < length ds = omega (arith, l) in
    let one = digits_value_more 10 ds at within in
    let r = digit_at ds at h within in
    let v = digit_value_digit (get_or ds at 0) r in
    let few : digit_value (get_or ds at 0) < 10 = omega (arith, v, r) in
    let e : suc rest ≡ rest + 1 = omega arith in
    let tens : 10 ^ suc rest ≡ 10 ^ rest * 10 = ap (λ (n : ℕ). 10 ^ n) e ∙ pow-add 10 rest 1 in
    let least = i.0 in
    let most = i.1 in
    rw (next, one, tens) (omega (arith, least), omega (arith, most, few))

-- the greatest whole number up to a / o
abbrev pub IsFloor : ℕ → ℕ → ℕ → Type 0
IsFloor a o t = (t * o ≤ a) × (a < t * o + o)

-- tenths to the nearest whole number
pub nearest_of_tenths : (a b t : ℕ) → 0 < b → IsFloor (10 * a) b t → IsNearest a b ((t + 5) / 10)
nearest_of_tenths a b t hb h =
    let n = (t + 5) / 10 in
    let above : 10 * n ≤ t + 5 = omega arith in
    let below : t + 1 ≤ 10 * n + 5 = omega arith in
    let h1 = mul-le-mul_right b above in
    let h2 = mul-le-mul_right b below in
    let ql = h.0 in
    let qm = h.1 in
    record { most = omega (arith, h1, ql); least = omega (arith, h2, qm) }

of_none : (ds : List ℕ) → length ds ≡ 0 → digits_value 10 ds ≡ 0
of_none [] e = refl
of_none (c ∷ ds) e = absurd (omega (arith, e))

-- ---- digits that are shifted by tens up and tens down
module _ (ds : List ℕ) (digits : AllDigits 10 ds) (d up down : ℕ) (written : d ≡ digits_value 10 ds) where
  -- beyond the last digit
  floor_beyond : (pad : ℕ) → pad + down ≡ 16 + up → IsFloor (d * 10 ^ 16 * 10 ^ up) (10 ^ down) (d * 10 ^ pad)
  floor_beyond pad e =
      let l = pow-add 10 pad down in
      let r = pow-add 10 16 up in
      let same : 10 ^ pad * 10 ^ down ≡ 10 ^ 16 * 10 ^ up = sym l ∙ (ap (λ (k : ℕ). 10 ^ k) e ∙ r) in
      let f : d * (10 ^ pad * 10 ^ down) ≡ d * (10 ^ 16 * 10 ^ up) = ap (λ (t : ℕ). d * t) same in
      let some = tens_some down in
      (omega (arith, f), omega (arith, f, some))

  -- before it
  floor_before : (k rest : ℕ) → k + rest ≡ length ds → rest + 16 + up ≡ down
      → IsFloor (d * 10 ^ 16 * 10 ^ up) (10 ^ down) (digits_value 10 (take k ds))
  floor_before k rest e f =
      let t = digits_value 10 (take k ds) in
      let all : take (k + rest) ds ≡ ds = take_all (k + rest) ds (omega (arith, e)) in
      let bounds = rw all at (more_digits ds k rest digits (omega (arith, e))) in
      let least = bounds.0 in
      let most = bounds.1 in
      let s = 10 ^ 16 * 10 ^ up in
      let sum : 10 ^ down ≡ 10 ^ (rest + (16 + up)) = ap (λ (n : ℕ). 10 ^ n) (sym f ∙ omega arith) in
      let parts : 10 ^ rest * 10 ^ (16 + up) ≡ 10 ^ rest * s = ap (λ (n : ℕ). 10 ^ rest * n) (pow-add 10 16 up) in
      let tens : 10 ^ down ≡ 10 ^ rest * s = sum ∙ (pow-add 10 rest (16 + up) ∙ parts) in
      let some : 0 < s = (let u = tens_some up in omega (arith, u)) in
      let h1 = mul-le-mul_right s least in
      let h2 = mul-le-mul_right s most in
      let over : d * s ≡ digits_value 10 ds * s = ap (λ (n : ℕ). n * s) written in
      rw tens (omega (arith, h1, over), omega (arith, h2, some, over))

  -- before the first
  floor_none : length ds + 16 + up ≤ down → IsFloor (d * 10 ^ 16 * 10 ^ up) (10 ^ down) 0
  floor_none h =
      let n = length ds in
      let below = digits_value-lt 10 ds digits in
      let tens : 10 ^ (n + (16 + up)) ≡ 10 ^ n * (10 ^ 16 * 10 ^ up) =
      pow-add 10 n (16 + up) ∙ ap (λ (k : ℕ). 10 ^ n * k) (pow-add 10 16 up) in
      let reach : 10 ^ (n + (16 + up)) ≤ 10 ^ down = pow-le-pow_right (lit< tt) (omega (arith, h)) in
      let u = tens_some up in
      let h2 = mul-le-mul_right (10 ^ 16 * 10 ^ up) below in
      let over = ap (λ (k : ℕ). k * (10 ^ 16 * 10 ^ up)) written in
      (omega arith, omega (arith, tens, reach, h2, u, over))

  pub floor_of_places : (places : ℕ) → places ≡ length ds + 16 + up - down
      → IsFloor (d * 10 ^ 16 * 10 ^ up) (10 ^ down) (padded ds places)
  floor_of_places places e = elim (cases_lt places (length ds)) [
    | inr g ↦ rw (take_all places ds g, ← written) (elim (cases_lt (length ds + 16 + up) down) [
      | inl far ↦
          let none : places - length ds ≡ 0 = omega (arith, e, far) in
          let empty : length ds ≡ 0 = omega (arith, e, far, g) in
          let zero_digits : d ≡ 0 = written ∙ of_none ds empty in
          let some = tens_some down in
          rw (none, zero_digits) (omega arith, omega (arith, some))
      | inr near ↦
          let pad : places - length ds + down ≡ 16 + up = omega (arith, e, g, near) in
          floor_beyond (places - length ds) pad
    ])
    | inl l ↦
        let no : places - length ds ≡ 0 = omega (arith, l) in
        rw no (elim (cases_lt (length ds + 16 + up) down) [
          | inl far ↦
              let z : places ≡ 0 = omega (arith, e, far) in
              rw z (floor_none (omega (arith, far)))
          | inr near ↦
              let one : digits_value 10 (take places ds) * 1 ≡ digits_value 10 (take places ds) = omega arith in
              rw one (floor_before places (length ds - places) (omega (arith, l)) (omega (arith, e, l, near)))
        ])
  ]

-- ---- what is too long is cut: 40 zeros make any digits more than 2^120
pub cut_places : (ds : List ℕ) (k n : ℕ) → n ≡ min k (length ds + 40)
    → min (padded ds n) (2 ^ 120) ≡ min (padded ds k) (2 ^ 120)
cut_places ds k n e = elim (cases_lt (length ds + 40) k) [
  | inr g ↦ (let same : n ≡ k = omega (arith, e, g) in rw same refl)
  | inl l ↦
      let cut : n ≡ length ds + 40 = omega (arith, e, l) in
      let all = take_all (length ds + 40) ds (omega arith) in
      let all_k = take_all k ds (omega (arith, l)) in
      let forty : length ds + 40 - length ds ≡ 40 = omega arith in
      let large : 10 ^ 40 ≤ 10 ^ (k - length ds) =
      pow-le-pow_right (lit< tt) {i = 40} {j = k - length ds} (omega (arith, l)) in
      rw (cut, all, all_k, forty) (of_zeros (digits_value 10 ds) (10 ^ (k - length ds)) large)
]
  where
    of_zeros : (k z : ℕ) → 10 ^ 40 ≤ z → min (k * 10 ^ 40) (2 ^ 120) ≡ min (k * z) (2 ^ 120)
    of_zeros zero z h = omega arith
    of_zeros (suc k) z h = let h1 = mul-le-mul_left (suc k) h in omega (arith, h, h1)

-- the tenths of a numeral, cut, and the nearest whole number
pub near_of_tenths : (a b t cut n : ℕ) → 0 < b → IsFloor (10 * a) b t → cut ≡ min t (2 ^ 120)
    → n ≡ min ((cut + 5) / 10) (2 ^ 63) → IsNearestUpTo a b n
near_of_tenths a b t cut n hb h ec en = elim (cases_lt t (10 * 2 ^ 63)) [
  | inl l ↦
      let same : n ≡ (t + 5) / 10 = omega (arith, l, ec, en) in
      inl (rw same (nearest_of_tenths a b t hb h))
  | inr g ↦
      let all : n ≡ 2 ^ 63 = omega (arith, g, ec, en) in
      let h1 = mul-le-mul_right b g in
      let ql = h.0 in
      inr (omega (arith, all), omega (arith, h1, ql))
]

-- a numeral's femtodegrees, by its tenths
pub near_of_parts : (p : Parts) (places cut n : ℕ) → AllDigits 10 (p.whole ++ p.fraction)
    → places ≡ min (length p.whole + length p.fraction + 16 + tens_up p - tens_down p)
    (length p.whole + length p.fraction + 40) → cut ≡ min (padded (p.whole ++ p.fraction) places) (2 ^ 120)
    → n ≡ min ((cut + 5) / 10) (2 ^ 63)
    → IsNearestUpTo (numeral_digits p * 10 ^ 15 * 10 ^ tens_up p) (10 ^ tens_down p) n
near_of_parts p places cut n digits ep ec en =
    let ds = p.whole ++ p.fraction in
    let long = length-append p.whole p.fraction in
    let k = length ds + 16 + tens_up p - tens_down p in
    let a = numeral_digits p * 10 ^ 15 * 10 ^ tens_up p in
    let tenfold : numeral_digits p * 10 ^ 16 * 10 ^ tens_up p ≡ 10 * a = omega arith in
    let floor = subst (λ t. IsFloor t (10 ^ tens_down p) (padded ds k)) tenfold
    (floor_of_places ds digits (numeral_digits p) (tens_up p) (tens_down p) refl k refl) in
    let own : places ≡ min k (length ds + 40) = omega (arith, ep, long) in
    near_of_tenths a (10 ^ tens_down p) (padded ds k) cut n (tens_some (tens_down p)) floor
    (ec ∙ cut_places ds k places own) en

-- many femtodegrees are too far
pub far_of_rounded : (a b n : ℕ) → 0 < b → IsNearestUpTo a b n → 2 ^ 63 ≤ n → (s : Bool) (z : ℤ) → IsRounded s a b z
    → 2 ^ 63 ≤ unsigned_abs z
far_of_rounded a b n hb h l s z i = far_if_nearest a b n (unsigned_abs z) hb l h i.1
