-- Doubles without femtodegrees, or with none that are few.
use Rattle.std.proofs.Common.{ℕ, ◌^◌, ◌≡◌, ◌≤◌, ◌<◌, arith, ℤ, unsigned_abs, true, sym}
use lib.Ieee.{is_nan}
use Rattle.std.proofs.lemmas.Bool.{true≢false}
use Rattle.std.specs.Float.{Float, fin, float_is_finite, inf, nan}
use Rattle.s2degrees.specs.Femtodegrees.{DoubleFaultIs, IsFemtodegreesOf}
use Rattle.s2degrees.specs.declared.fault.NumberFault.{NumberFault}
use Rattle.s2degrees.specs.declared.fault.NumberFault.TheVariants.{NotFinite, TooFar}

-- a double with a fault has none that are few
pub none_few : (x : Float) (fault : NumberFault) (most : ℕ) (z : ℤ) → most < 2 ^ 63 → DoubleFaultIs x fault
    → IsFemtodegreesOf x z → unsigned_abs z ≤ most → ⊥
unfolding float_is_finite
none_few nan fault most z l h f k = f
none_few (inf s) fault most z l h f k = f
none_few (fin s m e) NotFinite most z l h f k = true≢false h
none_few (fin s m e) TooFar most z l h f k = let g = h.1 z f in omega (arith, g, k, l)

-- NaN has none
pub nan_has_none : (x : Float) (z : ℤ) → is_nan x ≡ true → IsFemtodegreesOf x z → ⊥
unfolding is_nan
nan_has_none nan z h f = f
nan_has_none (inf s) z h f = f
nan_has_none (fin s m e) z h f = true≢false (sym h)
