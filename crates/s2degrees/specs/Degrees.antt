-- The sine and the cosine of an angle, a whole number of femtodegrees: the limits of their series, without reals.
use Rattle.std.specs.Prelude.{ℕ, zero, suc, ◌+◌, ◌-◌, ◌*◌, ◌/◌, ◌%◌, ◌^◌, ◌≤◌, ◌<◌, ◌≡◌, ◌⊎◌, ℤ, pos, neg_ℤ}
use Rattle.std.specs.Prelude.{unsigned_abs}
use Rattle.std.specs.Int.{int_rem_euclid}
use Rattle.s2degrees.specs.Series.{over, under}

-- 45 degrees
abbrev pub eighth : ℕ
eighth = 45 * 10 ^ 15

-- 90 degrees
abbrev pub quarter : ℕ
quarter = 90 * 10 ^ 15

-- 360 degrees
abbrev pub turn : ℕ
turn = 360 * 10 ^ 15

-- pi * 10^20 is more than this, and less than 1 more
abbrev pub pi : ℕ
pi = 314159265358979323846

-- s / t is an angle of at most 1 in radians: the angle in femtodegrees times a number between the bounds of pi, over
-- 180 degrees
pub record IsRadians (angle s t : ℕ) : Type 0 where
  pub some : 1 ≤ t
  pub small : s ≤ t
  pub least : angle * pi * t ≤ s * (180 * 10 ^ 15 * 10 ^ 20)
  pub most : s * (180 * 10 ^ 15 * 10 ^ 20) ≤ angle * (pi + 1) * t

-- p / d is the sum of 8 or more terms of the series of the sine of an angle of at most 45 degrees
pub record IsSineSum (angle p d : ℕ) : Type 0 where
  pub s : ℕ
  pub t : ℕ
  pub n : ℕ
  pub radians : IsRadians angle s t
  pub long : 7 ≤ n
  pub over_is : p ≡ s * over (s * s) (t * t) 2 n
  pub under_is : d ≡ t * under (t * t) 2 n

-- p / d is the sum of 9 or more terms of the series of the cosine
pub record IsCosineSum (angle p d : ℕ) : Type 0 where
  pub s : ℕ
  pub t : ℕ
  pub n : ℕ
  pub radians : IsRadians angle s t
  pub long : 8 ≤ n
  pub over_is : p ≡ over (s * s) (t * t) 1 n
  pub under_is : d ≡ under (t * t) 1 n

-- the sine of an angle of at most 90 degrees: beyond 45 it is the cosine of what is left to 90
abbrev pub IsQuarterSine : ℕ → ℕ → ℕ → Type 0
IsQuarterSine angle p d =
    ((angle ≤ eighth) × IsSineSum angle p d) ⊎ ((eighth < angle) × IsCosineSum (quarter - angle) p d)

-- and the cosine: beyond 45 degrees it is the sine of what is left
abbrev pub IsQuarterCosine : ℕ → ℕ → ℕ → Type 0
IsQuarterCosine angle p d =
    ((angle ≤ eighth) × IsCosineSum angle p d) ⊎ ((eighth < angle) × IsSineSum (quarter - angle) p d)

-- a sum of the sine of an angle of at most 90 degrees by either series: at 45 degrees both serve
abbrev pub IsEitherSine : ℕ → ℕ → ℕ → Type 0
IsEitherSine angle p d =
    ((angle ≤ eighth) × IsSineSum angle p d) ⊎ ((eighth ≤ angle) × IsCosineSum (quarter - angle) p d)

-- the sine of an angle that is `rest` beyond the beginning of quarter `q` of the circle: in quarter 0 that of the rest,
-- in quarter 1 its cosine, and two quarters on the same with the other sign
abbrev pub IsSineIn : ℕ → ℕ → ℤ → ℕ → Type 0
IsSineIn zero rest a b = IsQuarterSine rest (unsigned_abs a) b × (a ≡ pos (unsigned_abs a))
IsSineIn (suc zero) rest a b = IsQuarterCosine rest (unsigned_abs a) b × (a ≡ pos (unsigned_abs a))
IsSineIn (suc (suc q)) rest a b = IsSineIn q rest (neg_ℤ a) b

-- how far an angle is beyond whole turns
abbrev pub around : ℤ → ℕ
around angle = unsigned_abs (int_rem_euclid angle (pos turn))

-- a / b is near to the sine of the angle, and nearer the more terms it has
abbrev pub IsSine : ℤ → ℤ → ℕ → Type 0
IsSine angle a b = IsSineIn (around angle / quarter) (around angle % quarter) a b

-- the cosine of an angle is the sine of what is a quarter more
abbrev pub IsCosine : ℤ → ℤ → ℕ → Type 0
IsCosine angle a b = IsSineIn (around angle / quarter + 1) (around angle % quarter) a b
