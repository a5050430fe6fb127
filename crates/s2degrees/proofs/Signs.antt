-- Numbers with a sign: their products, and their distances on the grid.
use Rattle.std.proofs.Common.{ℕ, zero, suc, ◌+◌, ◌*◌, ◌/◌, ◌%◌, ◌^◌, ◌≤◌, ◌<◌, ◌≡◌, ◌≢◌, ap, arith, sym, refl, ◌∙◌}
use Rattle.std.proofs.Common.{Bool, true, false, not, ◌==◌, ℤ, pos, neg_ℤ, ◌*ℤ◌, unsigned_abs, subst}
use Rattle.std.proofs.Common.{FitsSigned, w64, of_z, to_z}
use Rattle.std.proofs.Math.IntN.{*ℤ-negsuc, neg_ℤ-neg_ℤ, negsuc-*ℤ-pos, pos-*ℤ-negsuc}
use Rattle.std.proofs.Math.Nat.{mul-le-mul_right}
use Rattle.std.proofs.lemmas.Int.{fits_signed_from_abs, ints, to_z-of_z}
use Rattle.s2degrees.specs.Degrees.{IsQuarterCosine, IsQuarterSine, IsSineIn}
use Rattle.s2degrees.specs.Directions.{IsOnGrid}
use Rattle.s2degrees.specs.Femtodegrees.{with_sign}
use Rattle.s2degrees.specs.Working.Near.{IsNear, IsSignedNear}
use Rattle.s2degrees.proofs.Steps.{quotient}

neg_times : (m n : ℕ) → neg_ℤ (pos m) *ℤ pos n ≡ neg_ℤ (pos (m * n))
neg_times zero n = omega (arith, ints)
neg_times (suc m) n = negsuc-*ℤ-pos m n

times_neg : (m n : ℕ) → pos m *ℤ neg_ℤ (pos n) ≡ neg_ℤ (pos (m * n))
times_neg m zero = omega (arith, ints)
times_neg m (suc n) = pos-*ℤ-negsuc m n

neg_times_neg : (m n : ℕ) → neg_ℤ (pos m) *ℤ neg_ℤ (pos n) ≡ pos (m * n)
neg_times_neg m zero = omega (arith, ints)
neg_times_neg m (suc n) =
    *ℤ-negsuc (neg_ℤ (pos m)) n ∙ (ap neg_ℤ (neg_times m (suc n)) ∙ neg_ℤ-neg_ℤ (pos (m * suc n)))

-- the product of two numbers with a sign
pub times_signs : (r s : Bool) (m n : ℕ)
    → with_sign r m *ℤ with_sign s n ≡ with_sign (not (mathlib.Core.Bool.beq r s)) (m * n)
times_signs true true m n = neg_times_neg m n
times_signs true false m n = neg_times m n
times_signs false true m n = times_neg m n
times_signs false false m n = refl

-- a number with a sign that is rounded to the grid
pub grid_near : (r : Bool) (c size y p d : ℕ) → y ≡ (size * 2147483647 + 2 ^ 61) / 2 ^ 62 → c ≤ 100000
    → IsNear c size p d → IsOnGrid (with_sign r y) (with_sign r p) d
grid_near r c size y p d e hc h =
    let q = quotient (size * 2147483647 + 2 ^ 61) (2 ^ 62) (omega arith) in
    let ql : y * 2 ^ 62 ≤ size * 2147483647 + 2 ^ 61 = rw e q.0 in
    let qm : size * 2147483647 + 2 ^ 61 + 1 ≤ y * 2 ^ 62 + 2 ^ 62 = rw e q.1 in
    let h1 = mul-le-mul_right d ql in
    let h2 = mul-le-mul_right d qm in
    let h3 = mul-le-mul_right d hc in
    let l = h.least in
    let m = h.most in
    let least : 1000 * (y * d) ≤ 1000 * (2147483647 * p) + 501 * d = omega (arith, h1, h2, h3, l, m) in
    let most : 1000 * (2147483647 * p) ≤ 1000 * (y * d) + 501 * d = omega (arith, h1, h2, h3, l, m) in
    placed r y p d least most
  where
    placed : (r : Bool) (y p d : ℕ) → 1000 * (y * d) ≤ 1000 * (2147483647 * p) + 501 * d
        → 1000 * (2147483647 * p) ≤ 1000 * (y * d) + 501 * d → IsOnGrid (with_sign r y) (with_sign r p) d
    placed true y p d h i = rw (neg_times y d, times_neg 2147483647 p) (omega (arith, ints, h, i))
    placed false y p d h i = omega (arith, ints, h, i)

pub turned : (a : ℤ) (n : ℕ) → neg_ℤ a ≡ pos n → a ≡ neg_ℤ (pos n)
turned a n h = sym (neg_ℤ-neg_ℤ a) ∙ ap neg_ℤ h

-- a sine in each quarter
pub sine_near : (q rest size : ℕ) (a : ℤ) (b : ℕ) → q ≤ 4
    → (q % 2 ≡ 0 → (p d : ℕ) → IsQuarterSine rest p d → (p ≤ d) × IsNear 13000 size p d)
    → (q % 2 ≢ 0 → (p d : ℕ) → IsQuarterCosine rest p d → (p ≤ d) × IsNear 13000 size p d)
    → IsSineIn q rest a b → IsSignedNear 13000 (record { negative = q / 2 == 1; size = size }) a b
sine_near zero rest size a b l even odd h =
    let n = even refl (unsigned_abs a) b h.0 in
    record { p = unsigned_abs a; value = h.1; small = n.0; near = n.1 }
sine_near (suc zero) rest size a b l even odd h =
    let n = odd (λ e. absurd (omega (arith, e))) (unsigned_abs a) b h.0 in
    record { p = unsigned_abs a; value = h.1; small = n.0; near = n.1 }
sine_near (suc (suc zero)) rest size a b l even odd h =
    let n = even refl (unsigned_abs (neg_ℤ a)) b h.0 in
    record { p = unsigned_abs (neg_ℤ a); value = turned a _ h.1; small = n.0; near = n.1 }
sine_near (suc (suc (suc zero))) rest size a b l even odd h =
    let n = odd (λ e. absurd (omega (arith, e))) (unsigned_abs (neg_ℤ a)) b h.0 in
    record { p = unsigned_abs (neg_ℤ a); value = turned a _ h.1; small = n.0; near = n.1 }
sine_near (suc (suc (suc (suc zero)))) rest size a b l even odd h =
    let e = neg_ℤ-neg_ℤ a in
    let n = even refl (unsigned_abs (neg_ℤ (neg_ℤ a))) b h.0 in
    record { p = unsigned_abs (neg_ℤ (neg_ℤ a)); value = sym e ∙ h.1; small = n.0; near = n.1 }
sine_near (suc (suc (suc (suc (suc q))))) rest size a b l even odd h = absurd (omega (arith, l))

-- a small number is one of 64 bits
pub fits : (z : ℤ) → unsigned_abs z < 2 ^ 31 → FitsSigned w64 z
fits z h = fits_signed_from_abs w64 z (omega (arith, h))

pub with_sign_below : (r : Bool) (n m : ℕ) → n < m → unsigned_abs (with_sign r n) < m
with_sign_below true n m h = omega (arith, ints, h)
with_sign_below false n m h = h

-- what is on the grid stays there when it is written and read back
pub read_back : (z a : ℤ) (b : ℕ) → unsigned_abs z < 2 ^ 31 → IsOnGrid z a b → IsOnGrid (to_z w64 (of_z w64 z)) a b
read_back z a b h i = subst (λ y. IsOnGrid y a b) (sym (to_z-of_z w64 z (fits z h))) i
