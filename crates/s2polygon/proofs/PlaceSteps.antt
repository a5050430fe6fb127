-- The steps of `place_at`.
use Rattle.std.proofs.Common.{◌≡◌, ℕ, ◌*◌, ◌^◌, ◌≤◌, ◌<◌, ℤ, pos, ◌-ℤ◌, arith, FitsSigned, w64, to_z, of_z, mul-le-mul}
use Rattle.std.proofs.lemmas.Int.{ints, to_z-of_z, to_z_pos}

pub square_small : (r : ℕ) → r ≤ 2 ^ 31 → r * r ≤ 2 ^ 62
square_small r h = let p = mul-le-mul {n₁ = r} {m₁ = r} {n₂ = 2 ^ 31} {m₂ = 2 ^ 31} h h in omega arith

pub record Small (code exact : ℤ) : Type 0 where
  pub fits : FitsSigned w64 code
  pub is : to_z w64 (of_z w64 code) ≡ exact

kept : (z : ℤ) → FitsSigned w64 z → Small z z
kept z f = record { fits = f; is = to_z-of_z w64 z f }

pub from_one : (n : ℕ) → n ≤ 2 ^ 62 → Small (pos (2 ^ 60) -ℤ to_z w64 n) (pos (2 ^ 60) -ℤ pos n)
from_one n h = let l : n < 2 ^ 63 = omega arith in rw (to_z_pos w64 n l)
    (kept (pos (2 ^ 60) -ℤ pos n) (omega (arith, ints)))

pub less_one : (n : ℕ) → n ≤ 2 ^ 62 → Small (to_z w64 n -ℤ pos (2 ^ 60)) (pos n -ℤ pos (2 ^ 60))
less_one n h = let l : n < 2 ^ 63 = omega arith in rw (to_z_pos w64 n l)
    (kept (pos n -ℤ pos (2 ^ 60)) (omega (arith, ints)))
