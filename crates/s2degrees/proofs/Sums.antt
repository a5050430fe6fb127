-- Each angle has sums of its sine and of its cosine.
use Rattle.std.proofs.Common.{ℕ, zero, suc, ◌-◌, ◌*◌, ◌%◌, ◌^◌, ◌≤◌, arith}
use Rattle.std.proofs.Common.{inl, inr, refl, lit≤, sym, subst, ℤ, pos, neg_ℤ}
use Rattle.std.proofs.Math.IntN.{neg_ℤ-neg_ℤ}
use Rattle.std.proofs.lemmas.Bool.{cases_lt}
use Rattle.std.proofs.lemmas.Nat.{mod_below}
use Rattle.s2degrees.specs.Degrees.{IsCosineSum, IsQuarterCosine, IsQuarterSine, IsRadians, IsSineIn, IsSineSum, eighth}
use Rattle.s2degrees.specs.Degrees.{pi, quarter}
use Rattle.s2degrees.specs.Series.{over, under}

-- the sums of 8 and of 9 terms, at the angle in radians that the lower bound of pi gives
abbrev pub whole : ℕ
whole = 180 * 10 ^ 15 * 10 ^ 20

abbrev pub sine_over : ℕ → ℕ
sine_over angle = angle * pi * over (angle * pi * (angle * pi)) (whole * whole) 2 7

abbrev pub sine_under : ℕ
sine_under = whole * under (whole * whole) 2 7

abbrev pub cosine_over : ℕ → ℕ
cosine_over angle = over (angle * pi * (angle * pi)) (whole * whole) 1 8

abbrev pub cosine_under : ℕ
cosine_under = under (whole * whole) 1 8

radians_of : (angle : ℕ) → angle ≤ eighth → IsRadians angle (angle * pi) whole
radians_of angle h = record { some = lit≤ tt; small = omega (arith, h); least = omega arith; most = omega arith }

pub sine_sum : (angle : ℕ) → angle ≤ eighth → IsSineSum angle (sine_over angle) sine_under
sine_sum angle h = record {
  s = angle * pi;
  t = whole;
  n = 7;
  radians = radians_of angle h;
  long = lit≤ tt;
  over_is = refl;
  under_is = refl;
}

pub cosine_sum : (angle : ℕ) → angle ≤ eighth → IsCosineSum angle (cosine_over angle) cosine_under
cosine_sum angle h = record {
  s = angle * pi;
  t = whole;
  n = 8;
  radians = radians_of angle h;
  long = lit≤ tt;
  over_is = refl;
  under_is = refl;
}

quarter_sine : (rest : ℕ) → rest ≤ quarter → (p : ℕ) × (d : ℕ) × IsQuarterSine rest p d
quarter_sine rest h = elim (cases_lt eighth rest) [
  | inr l ↦ (sine_over rest, sine_under, inl (l, sine_sum rest l))
  | inl m ↦ (cosine_over (quarter - rest), cosine_under, inr (m, cosine_sum (quarter - rest) (omega (arith, m))))
]

quarter_cosine : (rest : ℕ) → rest ≤ quarter → (p : ℕ) × (d : ℕ) × IsQuarterCosine rest p d
quarter_cosine rest h = elim (cases_lt eighth rest) [
  | inr l ↦ (cosine_over rest, cosine_under, inl (l, cosine_sum rest l))
  | inl m ↦ (sine_over (quarter - rest), sine_under, inr (m, sine_sum (quarter - rest) (omega (arith, m))))
]

pub sine_in : (q rest : ℕ) → rest ≤ quarter → (a : ℤ) × (b : ℕ) × IsSineIn q rest a b
sine_in zero rest h = let f = quarter_sine rest h in (pos f.0, f.1, (f.2, refl))
sine_in (suc zero) rest h = let f = quarter_cosine rest h in (pos f.0, f.1, (f.2, refl))
sine_in (suc (suc q)) rest h =
    let f = sine_in q rest h in
    (neg_ℤ f.0, f.1, subst (λ a. IsSineIn q rest a f.1) (sym (neg_ℤ-neg_ℤ f.0)) f.2)

pub below_quarter : (n : ℕ) → n % quarter ≤ quarter
below_quarter n = omega (arith, mod_below n quarter (lit≤ tt))
