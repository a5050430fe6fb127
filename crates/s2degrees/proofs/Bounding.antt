-- Bounds of all sines up to an angle, and from it on; and of angles by their tangents.
use Rattle.std.proofs.Common.{ℕ, ◌+◌, ◌-◌, ◌*◌, ◌^◌, ◌≤◌, ◌<◌, ◌≡◌, arith, inl, inr, lit≤, min}
use Rattle.std.proofs.Math.Nat.{mul-le-mul_left, mul-le-mul_right, le_of_mul-le-mul_left}
use Rattle.std.proofs.lemmas.Bool.{cases_lt}
use Rattle.std.proofs.lemmas.Nat.{mul-le}
use Rattle.s2degrees.specs.Degrees.{IsCosineSum, IsEitherSine, IsQuarterSine, IsSineSum, eighth, quarter}
use Rattle.s2degrees.specs.Series.{under}
use Rattle.s2degrees.specs.Tangents.{HasTangentAtLeast, HasTangentAtMost}
use Rattle.s2degrees.specs.Working.Near.{IsNear}
use Rattle.s2degrees.specs.Working.Numbers.{cosine_number, sine_number}
use Rattle.s2degrees.proofs.Numbers.{cosine_near, sine_near}
use Rattle.s2degrees.proofs.Rising.{cosine_falls, cosine_under_some, eighth_near, eighth_rises, sine_rises}
use Rattle.s2degrees.proofs.Rising.{sine_under_some, under_some}
use Rattle.s2degrees.proofs.Sums.{cosine_over, cosine_sum, cosine_under, sine_over, sine_sum, sine_under}

-- c / d is at most e / f, or less than 1000 / 2^62 more
record IsLess (c d e f : ℕ) : Type 0 where
  is : 2 ^ 62 * (c * f) ≤ (2 ^ 62 * e + 1000 * f) * d

less : (c d e f : ℕ) → c * f ≤ e * d → IsLess c d e f
less c d e f h = record { is = omega (arith, h) }

less_alike : (c e d : ℕ) → c ≤ e → IsLess c d e d
less_alike c e d h = less c d e d (mul-le-mul_right d h)

-- ---- y is near to a sum a / b and to c / d; r is near to e / f
module _ (y r a b c d e f : ℕ) (d-some : 0 < d) (f-some : 0 < f) (sum : IsNear 13000 y a b) (own : IsNear 13000 y c d)
    (other : IsNear 13000 r e f) where
  df-some : 0 < f * d
  df-some = mul-le 1 1 f d f-some d-some

  below : IsLess c d e f → 2 ^ 62 * a ≤ (r + 40000) * b
  below l =
      let most = own.most in
      let least = other.least in
      let h1 = mul-le-mul_left f most in
      let h2 = l.is in
      let h3 = mul-le-mul_right d least in
      let h4 : f * d * y ≤ f * d * (r + 27000) = omega (arith, h1, h2, h3) in
      let h5 : y ≤ r + 27000 = le_of_mul-le-mul_left {k = f * d} h4 df-some in
      let h6 = mul-le-mul_right b h5 in
      let first = sum.least in
      omega (arith, first, h6)

  above : IsLess e f c d → (r - 40000) * b ≤ 2 ^ 62 * a
  above l =
      let most = other.most in
      let least = own.least in
      let h1 = mul-le-mul_left d most in
      let h2 = l.is in
      let h3 = mul-le-mul_right f least in
      let h4 : f * d * r ≤ f * d * (y + 27000) = omega (arith, h1, h2, h3) in
      let h5 : r ≤ y + 27000 = le_of_mul-le-mul_left {k = f * d} h4 df-some in
      let h7 : (r - 40000) ≤ y - 13000 = omega (arith, h5) in
      let h8 = mul-le-mul_right b h7 in
      let last = sum.most in
      of_rest y a b last h8
    where
      of_rest : (y a b : ℕ) → y * b ≤ 2 ^ 62 * a + 13000 * b → (r - 40000) * b ≤ (y - 13000) * b
          → (r - 40000) * b ≤ 2 ^ 62 * a
      of_rest y a b h k = elim (cases_lt y 13000) [
        | inl l ↦ (let z : y - 13000 ≡ 0 = omega (arith, l) in let g = rw z at k in omega (arith, g))
        | inr g ↦
            let e : (y - 13000) + 13000 ≡ y = omega (arith, g) in
            let m : ((y - 13000) + 13000) * b ≤ 2 ^ 62 * a + 13000 * b = rw e h in
            omega (arith, k, m)
      ]

-- ---- what is computed of an angle
abbrev pub IsNumberOf : ℕ → ℕ → Type 0
IsNumberOf angle r = (p d : ℕ) → IsQuarterSine angle p d → (p ≤ d) × IsNear 13000 r p d

module _ (angle r x p d : ℕ) (within : angle ≤ quarter) (number : IsNumberOf angle r) where
  -- 8 and 9 terms at the angle
  low_number : angle ≤ eighth → IsNear 13000 r (sine_over angle) sine_under
  low_number l = (number (sine_over angle) sine_under (inl (l, sine_sum angle l))).1

  high_number : eighth < angle → IsNear 13000 r (cosine_over (quarter - angle)) cosine_under
  high_number g =
      let l : quarter - angle ≤ eighth = omega (arith, g) in
      (number (cosine_over (quarter - angle)) cosine_under (inr (g, cosine_sum (quarter - angle) l))).1

  module _ (l : x ≤ eighth) (i : IsSineSum x p d) where
    sum_low : (p ≤ d) × IsNear 13000 (sine_number x) p d
    sum_low = sine_near x p d l i

    own_low : IsNear 13000 (sine_number x) (sine_over x) sine_under
    own_low = (sine_near x (sine_over x) sine_under l (sine_sum x l)).1

    most_low : x ≤ angle → 2 ^ 62 * p ≤ (r + 40000) * d
    most_low h = elim (cases_lt eighth angle) [
      | inr k ↦ below (sine_number x) r p d (sine_over x) sine_under (sine_over angle) sine_under sine_under_some
          sine_under_some sum_low.1 own_low (low_number k)
          (less_alike (sine_over x) (sine_over angle) sine_under (sine_rises x angle h k))
      | inl g ↦
          let h1 = mul-le-mul_right cosine_under (sine_rises x eighth l (omega arith)) in
          let h2 = mul-le-mul_right sine_under
          (cosine_falls (quarter - angle) eighth (omega (arith, g)) (omega arith)) in
          let h3 = eighth_rises in
          below (sine_number x) r p d (sine_over x) sine_under (cosine_over (quarter - angle)) cosine_under
          sine_under_some cosine_under_some sum_low.1 own_low (high_number g)
          (less (sine_over x) sine_under (cosine_over (quarter - angle)) cosine_under (chained _ _ _ _ h1 h3 h2))
    ]
      where
        chained : (a b c e : ℕ) → a ≤ b → b ≤ c → c ≤ e → a ≤ e
        chained a b c e h i j = omega (arith, h, i, j)

    least_low : angle ≤ x → (r - 40000) * d ≤ 2 ^ 62 * p
    least_low h =
        let k : angle ≤ eighth = omega (arith, h, l) in
        above (sine_number x) r p d (sine_over x) sine_under (sine_over angle) sine_under sine_under_some
        sine_under_some sum_low.1 own_low (low_number k)
        (less_alike (sine_over angle) (sine_over x) sine_under (sine_rises angle x h l))

  module _ (up : x ≤ quarter) (g : eighth ≤ x) (i : IsCosineSum (quarter - x) p d) where
    rest : quarter - x ≤ eighth
    rest = omega (arith, g)

    sum_high : (p ≤ d) × IsNear 13000 (cosine_number (quarter - x)) p d
    sum_high = cosine_near (quarter - x) p d rest i

    own_high : IsNear 13000 (cosine_number (quarter - x)) (cosine_over (quarter - x)) cosine_under
    own_high =
        (cosine_near (quarter - x) (cosine_over (quarter - x)) cosine_under rest (cosine_sum (quarter - x) rest)).1

    most_high : x ≤ angle → 2 ^ 62 * p ≤ (r + 40000) * d
    most_high h = elim (cases_lt eighth angle) [
      | inl k ↦ below (cosine_number (quarter - x)) r p d (cosine_over (quarter - x)) cosine_under
          (cosine_over (quarter - angle)) cosine_under cosine_under_some cosine_under_some sum_high.1 own_high
          (high_number k) (less_alike (cosine_over (quarter - x)) (cosine_over (quarter - angle)) cosine_under
          (cosine_falls (quarter - angle) (quarter - x) (omega (arith, h)) rest))
      | inr k ↦
          let e : quarter - x ≡ eighth = omega (arith, g, h, k) in
          let f : eighth ≡ angle = omega (arith, g, h, k) in
          let at : IsLess (cosine_over (quarter - x)) cosine_under (sine_over angle) sine_under =
          rw (e, ← f) (record { is = eighth_near }) in
          below (cosine_number (quarter - x)) r p d (cosine_over (quarter - x)) cosine_under (sine_over angle)
          sine_under cosine_under_some sine_under_some sum_high.1 own_high (low_number k) at
    ]

    least_high : angle ≤ x → (r - 40000) * d ≤ 2 ^ 62 * p
    least_high h = elim (cases_lt eighth angle) [
      | inl k ↦ above (cosine_number (quarter - x)) r p d (cosine_over (quarter - x)) cosine_under
          (cosine_over (quarter - angle)) cosine_under cosine_under_some cosine_under_some sum_high.1 own_high
          (high_number k) (less_alike (cosine_over (quarter - angle)) (cosine_over (quarter - x)) cosine_under
          (cosine_falls (quarter - x) (quarter - angle) (omega (arith, h)) (omega (arith, k))))
      | inr k ↦
          let h1 = mul-le-mul_right cosine_under (sine_rises angle eighth k (omega arith)) in
          let h2 = mul-le-mul_right sine_under (cosine_falls (quarter - x) eighth rest (omega arith)) in
          let h3 = eighth_rises in
          above (cosine_number (quarter - x)) r p d (cosine_over (quarter - x)) cosine_under (sine_over angle)
          sine_under cosine_under_some sine_under_some sum_high.1 own_high (low_number k)
          (less (sine_over angle) sine_under (cosine_over (quarter - x)) cosine_under (chained _ _ _ _ h1 h3 h2))
    ]
      where
        chained : (a b c e : ℕ) → a ≤ b → b ≤ c → c ≤ e → a ≤ e
        chained a b c e h i j = omega (arith, h, i, j)

pub small_sum : (x p d : ℕ) → x ≤ quarter → IsEitherSine x p d → p ≤ d
small_sum x p d up (inl i) = (sine_near x p d i.0 i.1).0
small_sum x p d up (inr i) = (cosine_near (quarter - x) p d (omega (arith, i.0)) i.1).0

pub at_most : (angle r x p d : ℕ) → angle ≤ quarter → IsNumberOf angle r → x ≤ angle → IsEitherSine x p d
    → 2 ^ 62 * p ≤ (r + 40000) * d
at_most angle r x p d within number h (inl i) = most_low angle r x p d within number i.0 i.1 h
at_most angle r x p d within number h (inr i) =
    most_high angle r x p d within number (omega (arith, h, within)) i.0 i.1 h

pub at_least : (angle r x p d : ℕ) → angle ≤ quarter → IsNumberOf angle r → angle ≤ x → x ≤ quarter → IsEitherSine x p d
    → (r - 40000) * d ≤ 2 ^ 62 * p
at_least angle r x p d within number h up (inl i) = least_low angle r x p d within number i.0 i.1 h
at_least angle r x p d within number h up (inr i) = least_high angle r x p d within number up i.0 i.1 h

-- no more than 1
pub at_most_one : (m r p d : ℕ) → m ≡ min r (2 ^ 62) → p ≤ d → 2 ^ 62 * p ≤ r * d → 2 ^ 62 * p ≤ m * d
at_most_one m r p d e h k = elim (cases_lt (2 ^ 62) r) [
  | inr l ↦ (let same : m ≡ r = omega (arith, e, l) in rw same k)
  | inl g ↦ (let one : m ≡ 2 ^ 62 = omega (arith, e, g) in rw one (mul-le-mul_left (2 ^ 62) h))
]

-- ---- angles by their tangents
pub some_under : (x p d : ℕ) → IsEitherSine x p d → 1 ≤ d
some_under x p d (inl i) =
    let s = i.1 in
    let some = s.radians.some in
    let u = under_some (s.t * s.t) 2 s.n (mul-le 1 1 s.t s.t some some) (lit≤ tt) in
    rw s.under_is (mul-le 1 1 s.t (under (s.t * s.t) 2 s.n) some u)
some_under x p d (inr i) =
    let s = i.1 in
    let some = s.radians.some in
    rw s.under_is (under_some (s.t * s.t) 1 s.n (mul-le 1 1 s.t s.t some some) (lit≤ tt))

-- bounds of the sine a / b and of the cosine c / e that don't go together with a tangent of n / d
apart : (n d a b c e sine cosine : ℕ) → 1 ≤ b → 1 ≤ e → sine * b ≤ 2 ^ 62 * a → 2 ^ 62 * c ≤ cosine * e
    → d * (a * e) ≤ n * (c * b) → n * cosine < d * sine → ⊥
apart n d a b c e sine cosine hb he hs hc most check =
    let h1 = mul-le-mul_left (d * e) hs in
    let h2 = mul-le-mul_left (2 ^ 62) most in
    let h3 = mul-le-mul_left (n * b) hc in
    let h4 = mul-le-mul_right (b * e) check in
    let some = mul-le 1 1 b e hb he in
    absurd (omega (arith, h1, h2, h3, h4, some))

pub checked_most : (angle n d sine cosine x : ℕ)
    → ((x p d : ℕ) → angle ≤ x → x ≤ quarter → IsEitherSine x p d → sine * d ≤ 2 ^ 62 * p)
    → ((x p d : ℕ) → x ≤ quarter - angle → IsEitherSine x p d → 2 ^ 62 * p ≤ cosine * d)
    → n * cosine < d * sine → HasTangentAtMost x n d → x ≤ angle
checked_most angle n d sine cosine x sines cosines check h = elim (cases_lt angle x) [
  | inr l ↦ l
  | inl g ↦
      let up = h.within in
      absurd (apart n d h.a h.b h.c h.e sine cosine (some_under x h.a h.b h.sine)
      (some_under (quarter - x) h.c h.e h.cosine) (sines x h.a h.b (omega (arith, g)) up h.sine)
      (cosines (quarter - x) h.c h.e (omega (arith, g)) h.cosine) h.most check)
]

pub checked_least : (angle n d sine cosine x : ℕ)
    → ((x p d : ℕ) → x ≤ angle → IsEitherSine x p d → 2 ^ 62 * p ≤ sine * d)
    → ((x p d : ℕ) → quarter - angle ≤ x → x ≤ quarter → IsEitherSine x p d → cosine * d ≤ 2 ^ 62 * p)
    → d * sine < n * cosine → HasTangentAtLeast x n d → angle ≤ x
checked_least angle n d sine cosine x sines cosines check h = elim (cases_lt x angle) [
  | inr l ↦ l
  | inl g ↦
      absurd (apart d n h.c h.e h.a h.b cosine sine (some_under (quarter - x) h.c h.e h.cosine)
      (some_under x h.a h.b h.sine) (cosines (quarter - x) h.c h.e (omega (arith, g)) (omega arith) h.cosine)
      (sines x h.a h.b (omega (arith, g)) h.sine) h.least check)
]
