-- The value of a double by its bits, and the nearest whole number to it.
use Rattle.std.proofs.Common.{ℕ, zero, suc, ◌+◌, ◌-◌, ◌*◌, ◌/◌, ◌%◌, ◌^◌, ◌≤◌, ◌<◌, ◌≡◌, ◌≢◌, ◌⊎◌}
use Rattle.std.proofs.Common.{ap, arith, inl, inr, min, FitsSigned, w64}
use Rattle.std.proofs.Common.{Bool, true, false, cond, leb, eqb, ℤ, unsigned_abs, refl, sym, subst, lit≤, ◌∙◌}
use Rattle.std.proofs.Math.Nat.{mul-le-mul_left, mul-le-mul_right, le_of_mul-le-mul_left, lt_of_mul-lt-mul_left}
use Rattle.std.proofs.Math.Pow.{pow_mono}
use Rattle.std.proofs.lemmas.Bool.{cases_lt, true≢false}
use Rattle.std.proofs.lemmas.Bool.Decides.{eqb_tells}
use Rattle.std.proofs.lemmas.Int.{fits_signed_from_abs, ints}
use Rattle.std.proofs.lemmas.Nat.{pow-add, pow_pos}
use Rattle.std.specs.Float.{Float, binary64, fin, float_is_finite, inf, nan}
use Rattle.std.specs.Float.Ieee.{down, of_bits, of_fields, up}
use lib.Ieee.Exact.{HasValue, odd_sign}
use lib.Ieee.Fits.{down_pos}
use Rattle.s2degrees.specs.Femtodegrees.{DoubleFaultIs, IsFemtodegreesOf, IsNearest, IsTooFar, IsWithin, with_sign}
use Rattle.s2degrees.specs.Working.Near.{IsNearestUpTo}
use Rattle.s2degrees.specs.declared.fault.NumberFault.{NumberFault}
use Rattle.s2degrees.specs.declared.fault.NumberFault.TheVariants.{NotFinite, TooFar}
use Rattle.s2degrees.proofs.Steps.{quotient}

-- ---- nearest whole numbers

-- equal fractions have the same
pub same_nearest : (a b c d n : ℕ) → 0 < b → 0 < d → a * d ≡ c * b → IsNearest a b n → IsNearest c d n
same_nearest a b c d n hb hd e h =
    let most = mul-le-mul_right d h.most in
    let least = mul-le-mul_right d h.least in
    record {
      most = le_of_mul-le-mul_left {k = b} (omega (arith, most, e)) hb;
      least = lt_of_mul-lt-mul_left b (omega (arith, least, e, hd));
    }

-- there is but one
pub one_nearest : (a b n k : ℕ) → 0 < b → IsNearest a b n → IsNearest a b k → n ≤ k
one_nearest a b n k hb h i =
    let m = h.most in
    let l = i.least in
    let f : b * n < b * suc k = omega (arith, m, l) in
    let g = lt_of_mul-lt-mul_left b f in
    omega (arith, g)

-- half of what is a / o rounded down, and 1
pub nearest_of_halves : (a o t : ℕ) → 0 < o → t ≡ a / o → IsNearest a (2 * o) ((t + 1) / 2)
nearest_of_halves a o t ho e =
    let q = quotient a o ho in
    let ql : t * o ≤ a = rw e q.0 in
    let qm : a + 1 ≤ t * o + o = rw e q.1 in
    let n = (t + 1) / 2 in
    let above : 2 * n ≤ t + 1 = omega arith in
    let below : t ≤ 2 * n = omega arith in
    let h1 = mul-le-mul_right o above in
    let h2 = mul-le-mul_right o below in
    record { most = omega (arith, ql, h1); least = omega (arith, qm, h2) }

pub none_nearest : (a b : ℕ) → 2 * a < b → IsNearest a b 0
none_nearest a b h = record { most = omega arith; least = omega (arith, h) }

-- ---- doubles

parts_sum : (place : ℕ) → place ≤ 1073 → 2 ^ 1074 ≡ 2 ^ place * (2 * 2 ^ (1073 - place))
parts_sum place h =
    let e : place + (1073 - place) ≡ 1073 = omega (arith, h) in
    let p = pow-add 2 place (1073 - place) in
    let f : 2 ^ place * 2 ^ (1073 - place) ≡ 2 ^ 1073 = sym p ∙ ap (λ (k : ℕ). 2 ^ k) e in
    omega (arith, f)

-- a double of few places
pub near_of_double : (digits place cut n : ℕ) → digits < 2 ^ 53 → place ≤ 1035 → cut ≤ 1073 - place
    → (cut ≡ 1073 - place) ⊎ (cut ≡ 119) → n ≡ (digits * 10 ^ 15 / 2 ^ cut + 1) / 2
    → IsNearest (digits * 2 ^ place * 10 ^ 15) (2 ^ 1074) n
near_of_double digits place cut n few low within which made =
    let p = 2 ^ place in
    let o = 2 ^ (1073 - place) in
    let e = parts_sum place (omega (arith, low)) in
    let own = ap (λ (t : ℕ). digits * 10 ^ 15 * t) e in
    let f : digits * 10 ^ 15 * 2 ^ 1074 ≡ digits * p * 10 ^ 15 * (2 * o) = own ∙ omega arith in
    same_nearest (digits * 10 ^ 15) (2 * o) (digits * p * 10 ^ 15) (2 ^ 1074) n (omega (arith, pow_pos (1073 - place)))
    (lit≤ tt) f (at which)
  where
    at : (cut ≡ 1073 - place) ⊎ (cut ≡ 119) → IsNearest (digits * 10 ^ 15) (2 * 2 ^ (1073 - place)) n
    at (inl c) =
        let a = digits * 10 ^ 15 in
        let near = nearest_of_halves a (2 ^ cut) (a / 2 ^ cut) (pow_pos cut) refl in
        rw made (subst (λ k. IsNearest a (2 * 2 ^ k) ((a / 2 ^ cut + 1) / 2)) c near)
    at (inr c) =
        let o = 2 ^ (1073 - place) in
        let reach : 119 ≤ 1073 - place = omega (arith, c, within) in
        let big : 2 ^ 119 ≤ o = pow_mono reach in
        let z : n ≡ 0 = made ∙ (ap (λ k. (digits * 10 ^ 15 / 2 ^ k + 1) / 2) c ∙ omega (arith, few)) in
        rw z (none_nearest (digits * 10 ^ 15) (2 * o) (omega (arith, few, big)))

-- a double of many
pub far_of_double : (digits place : ℕ) → 2 ^ 52 ≤ digits → 1035 < place
    → 2 ^ 63 * 2 ^ 1074 ≤ digits * 2 ^ place * 10 ^ 15
far_of_double digits place large high =
    let p = 2 ^ place in
    let big : 2 ^ 1036 ≤ p = pow_mono high in
    let h = mul-le-mul_right p large in
    omega (arith, big, h)

-- what a field of the exponent stands for
pub field_zero : (s : Bool) (x t : ℕ) → x ≡ 0 → HasValue (of_fields binary64 s x t) s (t * 2 ^ 0) (2 ^ 1074)
unfolding of_fields
field_zero s zero t h = odd_sign 53 s t 0 1074
field_zero s (suc x) t h = absurd (omega (arith, h))

pub field_suc : (s : Bool) (x t : ℕ) → x ≢ 0 → x < 2047
    → HasValue (of_fields binary64 s x t) s ((t + 2 ^ 52) * 2 ^ (x - 1)) (2 ^ 1074)
unfolding of_fields
field_suc s zero t h l = absurd (h refl)
field_suc s (suc x) t h l = elim (eqb_tells (suc x) 2047) [
  | inl e ↦ absurd (omega (arith, e.1, l))
  | inr n ↦ rw n.0 (subst (λ k. HasValue (lib.Ieee.odd 53 s (2 ^ 52 + t) x 1074) s k (2 ^ 1074)) worth
      (odd_sign 53 s (2 ^ 52 + t) x 1074))
]
  where
    before : suc x - 1 ≡ x
    before = omega arith

    worth : (2 ^ 52 + t) * 2 ^ x ≡ (t + 2 ^ 52) * 2 ^ (suc x - 1)
    worth = rw before (omega arith)

field_most : (s : Bool) (x t : ℕ) → x ≡ 2047 → float_is_finite (of_fields binary64 s x t) ≡ false
unfolding of_fields float_is_finite
field_most s zero t h = absurd (omega (arith, h))
field_most s (suc x) t h = elim (eqb_tells (suc x) 2047) [
  | inr n ↦ absurd (n.1 h)
  | inl e ↦ rw e.0 (is_beyond (eqb t 0))
]
  where
    is_beyond : (b : Bool) → float_is_finite (cond b (inf s) nan) ≡ false
    is_beyond true = refl
    is_beyond false = refl

pub finite_size : (b : ℕ) → float_is_finite (of_bits binary64 b) ≡ true → b % 2 ^ 63 < 2047 * 2 ^ 52
unfolding of_bits
finite_size b h = elim (eqb_tells (b % 2 ^ 63 / 2 ^ 52) 2047) [
  | inl e ↦ absurd (true≢false (sym h ∙ field_most _ _ _ e.1))
  | inr n ↦ omega (arith, n.1)
]

-- the double of some bits, by those without its sign
pub signed_value : (b a c : ℕ)
    → ((s : Bool) → HasValue (of_fields binary64 s (b % 2 ^ 63 / 2 ^ 52) (b % 2 ^ 63 % 2 ^ 52)) s a c)
    → HasValue (of_bits binary64 b) (leb (2 ^ 63) b) a c
unfolding of_bits
signed_value b a c h =
    let e : b % 2 ^ 63 % 2 ^ 52 ≡ b % 2 ^ 52 = omega arith in
    subst (λ t. HasValue (of_fields binary64 (leb (2 ^ 63) b) (b % 2 ^ 63 / 2 ^ 52) t) (leb (2 ^ 63) b) a c) e
    (h (leb (2 ^ 63) b))

sized : (s : Bool) (n : ℕ) → unsigned_abs (with_sign s n) ≡ n
sized true n = omega (arith, ints)
sized false n = refl

pub femtodegrees_of_value : (x : Float) (s : Bool) (a c n : ℕ) → 0 < c → HasValue x s a c
    → IsNearest (a * 10 ^ 15) c n → IsFemtodegreesOf x (with_sign s n)
femtodegrees_of_value nan s a c n hc v h = absurd v
femtodegrees_of_value (inf t) s a c n hc v h = absurd v
femtodegrees_of_value (fin t m e) s a c n hc v h = rw (v.0, sized s n) (
  refl,
  same_nearest (a * 10 ^ 15) c (m * up e * 10 ^ 15) (down e) n hc (down_pos e)
      (let f = v.1 in omega (arith, f)) h,
)

-- a nearest number is 2^63 or more, if it is so by another reckoning
pub far_if_nearest : (a b n k : ℕ) → 0 < b → 2 ^ 63 ≤ n → IsNearestUpTo a b n → IsNearest a b k → 2 ^ 63 ≤ k
far_if_nearest a b n k hb l h near = elim h [
  | inl g ↦ (let o = one_nearest a b n k hb g near in omega (arith, o, l))
  | inr g ↦ (
      let least = near.least in
      let most = g.1 in
      let r : b * (2 * 2 ^ 63) < b * (2 * k + 1) = omega (arith, least, most) in
      let o = lt_of_mul-lt-mul_left b r in
      omega (arith, o))
]

pub too_far : (x : Float) (s : Bool) (a c n : ℕ) → 0 < c → HasValue x s a c → 2 ^ 63 ≤ n
    → IsNearestUpTo (a * 10 ^ 15) c n → IsTooFar (IsFemtodegreesOf x)
too_far nan s a c n hc v l h z i = absurd i
too_far (inf t) s a c n hc v l h z i = absurd i
too_far (fin t m e) s a c n hc v l h z i =
    let k = unsigned_abs z in
    let f = v.1 in
    let near = same_nearest (m * up e * 10 ^ 15) (down e) (a * 10 ^ 15) c k (down_pos e) hc (omega (arith, f)) i.1 in
    far_if_nearest (a * 10 ^ 15) c n k hc l h near

-- ---- what 64 bits hold
pub small_size : (digits cut : ℕ) → digits < 2 ^ 53 → 38 ≤ cut → (digits * 10 ^ 15 / 2 ^ cut + 1) / 2 < 2 ^ 64
small_size digits cut few h =
    let q = quotient (digits * 10 ^ 15) (2 ^ cut) (pow_pos cut) in
    let t = digits * 10 ^ 15 / 2 ^ cut in
    let ql = q.0 in
    let h1 = mul-le-mul_left t (pow_mono h) in
    omega (arith, ql, h1, few)

pub least_of : (a b n : ℕ) → n ≡ min a b → (n ≡ a) ⊎ (n ≡ b)
least_of a b n e = elim (cases_lt a b) [
  | inl l ↦ inl (omega (arith, e, l))
  | inr g ↦ inr (omega (arith, e, g))
]

pub fits_of_size : (s : Bool) (n : ℕ) (z : ℤ) → z ≡ with_sign s n → n < 2 ^ 63 → FitsSigned w64 z
fits_of_size s n z e h = rw e (fits_signed_from_abs w64 (with_sign s n) (rw (sized s n) h))

-- ---- a double with a fault has no femtodegrees that are few
pub none_if_fault : (x : Float) (fault : NumberFault) (most : ℕ) → most < 2 ^ 63 → DoubleFaultIs x fault
    → ¬ (IsWithin most x)
unfolding float_is_finite
none_if_fault nan fault most l h w = absurd w.1
none_if_fault (inf s) fault most l h w = absurd w.1
none_if_fault (fin s m e) NotFinite most l h w = true≢false h
none_if_fault (fin s m e) TooFar most l h w = let f = h.1 w.0 w.1 in let g = w.2 in omega (arith, f, g, l)
