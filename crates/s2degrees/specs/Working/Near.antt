-- What is near to a fraction.
use Rattle.std.specs.Prelude.{ℕ, ◌+◌, ◌*◌, ◌^◌, ◌≤◌, ◌≡◌, ◌⊎◌, ℤ}
use Rattle.s2degrees.specs.Femtodegrees.{IsNearest, with_sign}
use Rattle.s2degrees.specs.declared.signed.Signed.{Signed}

-- y / 2^62 is at most e / 2^62 away from a / b
pub record IsNear (e y a b : ℕ) : Type 0 where
  pub least : 2 ^ 62 * a ≤ (y + e) * b
  pub most : y * b ≤ 2 ^ 62 * a + e * b

-- n is the whole number nearest to a / b, or both are 2^63 or more
abbrev pub IsNearestUpTo : ℕ → ℕ → ℕ → Type 0
IsNearestUpTo a b n = IsNearest a b n ⊎ ((2 ^ 63 ≤ n) × (2 ^ 63 * b ≤ a))

-- the same of a number with a sign, and of a fraction from -1 to 1
pub record IsSignedNear (e : ℕ) (y : Signed) (a : ℤ) (b : ℕ) : Type 0 where
  pub p : ℕ
  pub value : a ≡ with_sign y.negative p
  pub small : p ≤ b
  pub near : IsNear e y.size p b
