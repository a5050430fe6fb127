-- Sums of the sine rise with the angle, and those of the cosine fall.
use Rattle.std.proofs.Common.{ℕ, zero, suc, ◌+◌, ◌-◌, ◌*◌, ◌^◌, ◌≤◌, ◌<◌, ◌≡◌, ap, arith, lit≤, lit<, ◌∙◌}
use Rattle.std.proofs.Math.Nat.{mul-le-mul_left, mul-le-mul_right, le_of_mul-le-mul_left}
use Rattle.std.proofs.lemmas.Nat.{mul-le}
use Rattle.s2degrees.specs.Degrees.{eighth, pi}
use Rattle.s2degrees.specs.Series.{over, under}
use Rattle.s2degrees.proofs.Steps.{one_below, over-under}
use Rattle.s2degrees.proofs.Sums.{cosine_over, cosine_under, sine_over, sine_under, whole}

-- a denominator is above 0
pub under_some : (q k n : ℕ) → 1 ≤ q → 1 ≤ k → 1 ≤ under q k n
unfolding under
under_some q k zero h l = omega arith
under_some q k (suc n) h l =
    let i = under_some q (k + 2) n h (omega arith) in
    let h1 = mul-le 1 1 q (under q (k + 2) n) h i in
    let h2 = mul-le-mul_left (q * under q (k + 2) n) (one_below k l) in
    omega (arith, h1, h2)

-- a sum is at least a half
pub half_at_least : (p q k n : ℕ) → p ≤ q → 1 ≤ k → under q k n ≤ 2 * over p q k n
unfolding over under
half_at_least p q k zero h l = omega arith
half_at_least p q k (suc n) h l =
    let u = under q (k + 2) n in
    let o = over p q (k + 2) n in
    let h1 : p * o ≤ q * u = mul-le p o q u h (over-under p q (k + 2) n) in
    let h2 = mul-le-mul_left (q * u) (one_below k l) in
    omega (arith, h1, h2)

-- how far a sum falls, where the square of the angle is greater by e
record Falls (q k e o o' u : ℕ) : Type 0 where
  by : ℕ
  is : o ≡ o' + by
  small : by * (q * (k * (k + 1))) ≤ e * u

falls : (p e q k n : ℕ) → p + e ≤ q → 1 ≤ k → Falls q k e (over p q k n) (over (p + e) q k n) (under q k n)
unfolding over under
falls p e q k zero h l = record { by = 0; is = omega arith; small = omega arith }
falls p e q k (suc n) h l =
    let u = under q (k + 2) n in
    let o = over p q (k + 2) n in
    let o' = over (p + e) q (k + 2) n in
    let f = falls p e q (k + 2) n h (omega arith) in
    let d = f.by in
    let is = f.is in
    let small = f.small in
    let half = half_at_least (p + e) q (k + 2) n h (omega arith) in
    let top = over-under (p + e) q (k + 2) n in
    let six : 6 ≤ (k + 2) * (k + 2 + 1) = mul-le 2 3 (k + 2) (k + 2 + 1) (omega arith) (omega (arith, l)) in
    let h1 = mul-le-mul_left (q * d) six in
    let h2 = mul-le-mul_left e half in
    let h3 : p * d ≤ q * d = mul-le-mul_right d (omega (arith, h)) in
    let h4 : (p + e) * o' ≤ q * u = mul-le (p + e) o' q u h top in
    let h5 = mul-le-mul_left (q * u) (one_below k l) in
    let h6 : e * o' ≤ e * u = mul-le-mul_left e top in
    let low : p * d ≤ e * o' = omega (arith, h1, h2, h3, small) in
    let same : p * o ≡ p * o' + p * d = ap (λ (x : ℕ). p * x) is ∙ omega arith in
    let most : e * o' - p * d ≤ e * u = omega (arith, h6) in
    let times = mul-le-mul_right (q * (k * (k + 1))) most in
    record {
      by = e * o' - p * d;
      is = omega (arith, same, low, h4, h5);
      small = omega (arith, times);
    }

pub cosine_falls_by : (p e q n : ℕ) → p + e ≤ q → over (p + e) q 1 n ≤ over p q 1 n
cosine_falls_by p e q n h = let f = falls p e q 1 n h (omega arith) in let is = f.is in omega (arith, is)

pub sine_rises_by : (s e t n : ℕ) → s + e ≤ t → 1 ≤ t
    → s * over (s * s) (t * t) 2 n ≤ (s + e) * over ((s + e) * (s + e)) (t * t) 2 n
sine_rises_by s e t n h some =
    let more : ℕ = e * (s + s + e) in
    let square : s * s + more ≡ (s + e) * (s + e) = omega arith in
    let within : (s + e) * (s + e) ≤ t * t = mul-le (s + e) (s + e) t t h h in
    let f = rw square at (falls (s * s) more (t * t) 2 n (omega (arith, square, within)) (omega arith)) in
    let half = half_at_least ((s + e) * (s + e)) (t * t) 2 n within (omega arith) in
    let o : ℕ = over (s * s) (t * t) 2 n in
    let o' : ℕ = over ((s + e) * (s + e)) (t * t) 2 n in
    let u : ℕ = under (t * t) 2 n in
    let is : o ≡ o' + f.by = f.is in
    let small : f.by * (t * t * (2 * (2 + 1))) ≤ more * u = f.small in
    rises s e t o o' u f.by some h is small half
  where
    rises : (s e t o o' u d : ℕ) → 1 ≤ t → s + e ≤ t → o ≡ o' + d → d * (t * t * (2 * (2 + 1))) ≤ e * (s + s + e) * u
        → u ≤ 2 * o' → s * o ≤ (s + e) * o'
    rises s e t o o' u d some h is small half =
        let h1 = mul-le-mul_left s small in
        let h2 = mul-le-mul_left (s * e * (s + s + e)) half in
        let h3 : s * (s + s + e) ≤ t * (t + t) = mul-le s (s + s + e) t (t + t) (omega (arith, h)) (omega (arith, h)) in
        let h4 = mul-le-mul_right (e * o') h3 in
        let h5 : t * t * 6 * (s * d) ≤ t * t * 6 * (e * o') = omega (arith, h1, h2, h4) in
        let square : 1 ≤ t * t = mul-le 1 1 t t some some in
        let low : s * d ≤ e * o' = le_of_mul-le-mul_left {k = t * t * 6} h5 (omega (arith, square)) in
        let same : s * o ≡ s * o' + s * d = ap (λ (x : ℕ). s * x) is ∙ omega arith in
        omega (arith, same, low)

within_whole : (angle : ℕ) → angle ≤ eighth → angle * pi ≤ whole
within_whole angle h = omega (arith, h)

-- ---- the sums of 8 and of 9 terms
pub sine_rises : (x y : ℕ) → x ≤ y → y ≤ eighth → sine_over x ≤ sine_over y
sine_rises x y h l =
    let e : x * pi + (y - x) * pi ≡ y * pi = omega (arith, h) in
    rw e at (sine_rises_by (x * pi) ((y - x) * pi) whole 7 (rw e (within_whole y l)) (lit≤ tt))

pub cosine_falls : (x y : ℕ) → x ≤ y → y ≤ eighth → cosine_over y ≤ cosine_over x
cosine_falls x y h l =
    let w = within_whole y l in
    let g = mul-le-mul_right pi h in
    let low : x * pi * (x * pi) ≤ y * pi * (y * pi) = mul-le (x * pi) (x * pi) (y * pi) (y * pi) g g in
    let top : y * pi * (y * pi) ≤ whole * whole = mul-le (y * pi) (y * pi) whole whole w w in
    let e : x * pi * (x * pi) + (y * pi * (y * pi) - x * pi * (x * pi)) ≡ y * pi * (y * pi) = omega (arith, low) in
    rw e at (cosine_falls_by (x * pi * (x * pi)) (y * pi * (y * pi) - x * pi * (x * pi)) (whole * whole) 8 (rw e top))

-- at 45 degrees the sum of the sine is at most that of the cosine, and less than 1000 / 2^62 below it
pub eighth_rises : sine_over eighth * cosine_under ≤ cosine_over eighth * sine_under
unfolding over under
eighth_rises = lit≤ tt

pub eighth_near : 2 ^ 62 * (cosine_over eighth * sine_under)
    ≤ (2 ^ 62 * sine_over eighth + 1000 * sine_under) * cosine_under
unfolding over under
eighth_near = lit≤ tt

pub sine_under_some : 0 < sine_under
unfolding under
sine_under_some = lit< tt

pub cosine_under_some : 0 < cosine_under
unfolding under
cosine_under_some = lit< tt
