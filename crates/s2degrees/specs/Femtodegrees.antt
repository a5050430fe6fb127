-- Degrees as whole numbers of femtodegrees: to the nearest one, and where two are as near, to the one farther from 0.
use Rattle.std.specs.Prelude.{ℕ, ◌+◌, ◌*◌, ◌^◌, ◌≤◌, ◌<◌, ◌≡◌, Bool, true, false, cond, ℤ, pos, neg_ℤ, unsigned_abs}
use Rattle.std.specs.Float.{Float, fin, float_is_finite, inf, nan}
use Rattle.std.specs.Float.Ieee.{down, up}
use Rattle.s2degrees.specs.declared.fault.NumberFault.{NumberFault}
use Rattle.s2degrees.specs.declared.fault.NumberFault.TheVariants.{NotFinite, TooFar}

-- a number with a sign
abbrev pub with_sign : Bool → ℕ → ℤ
with_sign negative n = cond negative (neg_ℤ (pos n)) (pos n)

-- n is the whole number nearest to a / b, and the greater one of two that are as near
pub record IsNearest (a b n : ℕ) : Type 0 where
  pub most : 2 * n * b ≤ 2 * a + b
  pub least : 2 * a < 2 * n * b + b

-- the same of a number with a sign, whose size is a / b
abbrev pub IsRounded : Bool → ℕ → ℕ → ℤ → Type 0
IsRounded negative a b z = (z ≡ with_sign negative (unsigned_abs z)) × IsNearest a b (unsigned_abs z)

-- z is a double's number of degrees in femtodegrees; the double `fin s m e` is m * 2^e, which is m * up e / down e
abbrev pub IsFemtodegreesOf : Float → ℤ → Type 0
IsFemtodegreesOf nan z = ⊥
IsFemtodegreesOf (inf s) z = ⊥
IsFemtodegreesOf (fin s m e) z = IsRounded s (m * up e * 10 ^ 15) (down e) z

-- a double's number of degrees, without its sign, is at most `most` femtodegrees
abbrev pub IsWithin : ℕ → Float → Type 0
IsWithin most x = (z : ℤ) × IsFemtodegreesOf x z × (unsigned_abs z ≤ most)

-- all numbers of femtodegrees that P has are 2^63 or more, without their signs
abbrev pub IsTooFar : (ℤ → Type 0) → Type 0
IsTooFar P = (z : ℤ) → P z → 2 ^ 63 ≤ unsigned_abs z

-- what the fault of a double says is so
abbrev pub DoubleFaultIs : Float → NumberFault → Type 0
DoubleFaultIs x NotFinite = float_is_finite x ≡ false
DoubleFaultIs x TooFar = (float_is_finite x ≡ true) × IsTooFar (IsFemtodegreesOf x)
