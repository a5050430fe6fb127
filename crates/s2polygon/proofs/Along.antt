-- Places rise along the side of a face.
use Rattle.std.proofs.Common.{◌≡◌, ℕ, suc, ◌+◌, ◌-◌, ◌*◌, ◌^◌, ◌≤◌, ◌<◌, min, max, cond, nat_lt, Bool, true, false}
use Rattle.std.proofs.Common.{arith, ℤ, pos, ◌-ℤ◌, ◌≤ℤ◌, ◌<ℤ◌, ap, refl, mul-le-mul, ltb-true, ltb-false, lt-ltb}
use Rattle.std.proofs.Common.{le-ltb}
use Rattle.std.proofs.lemmas.Int.{ints}
use Rattle.s2polygon.specs.Places.{along}

-- ---- places rise
pub low : (t : ℕ) → t < 2 ^ 30 → along t ≡ pos (2 ^ 60) -ℤ pos ((2 ^ 31 - t) * (2 ^ 31 - t))
low t h = ap (λ (c : Bool). cond c (pos (2 ^ 60) -ℤ pos ((2 ^ 31 - t) * (2 ^ 31 - t))) (pos (t * t) -ℤ pos (2 ^ 60)))
    (lt-ltb t (2 ^ 30) h)

pub high : (t : ℕ) → 2 ^ 30 ≤ t → along t ≡ pos (t * t) -ℤ pos (2 ^ 60)
high t h = ap (λ (c : Bool). cond c (pos (2 ^ 60) -ℤ pos ((2 ^ 31 - t) * (2 ^ 31 - t)))
    (pos (t * t) -ℤ pos (2 ^ 60))) (le-ltb t (2 ^ 30) h)

square_rises : (s t : ℕ) → s < t → s * s < t * t
square_rises s t h = let p = mul-le-mul {n₁ = suc s} {m₁ = suc s} {n₂ = t} {m₂ = t} h h in omega arith

differs : (m n p q : ℕ) → m + q < p + n → (pos m -ℤ pos n) <ℤ (pos p -ℤ pos q)
differs m n p q h = omega (arith, ints)

both_low : (s t : ℕ) → s < t → t < 2 ^ 30 → along s <ℤ along t
both_low s t h k =
    let a : s < 2 ^ 30 = omega arith in
    let p = square_rises (2 ^ 31 - t) (2 ^ 31 - s) (omega arith) in
    rw (low s a, low t k) (differs (2 ^ 60) ((2 ^ 31 - s) * (2 ^ 31 - s)) (2 ^ 60) ((2 ^ 31 - t) * (2 ^ 31 - t))
    (omega arith))

between : (s t : ℕ) → s < 2 ^ 30 → 2 ^ 30 ≤ t → along s <ℤ along t
between s t h k =
    let p = square_rises (2 ^ 30) (2 ^ 31 - s) (omega arith) in
    let q = mul-le-mul {n₁ = 2 ^ 30} {m₁ = 2 ^ 30} {n₂ = t} {m₂ = t} k k in
    rw (low s h, high t k) (differs (2 ^ 60) ((2 ^ 31 - s) * (2 ^ 31 - s)) (t * t) (2 ^ 60) (omega arith))

both_high : (s t : ℕ) → s < t → 2 ^ 30 ≤ s → along s <ℤ along t
both_high s t h k =
    let a : 2 ^ 30 ≤ t = omega arith in
    let p = square_rises s t h in
    rw (high s k, high t a) (differs (s * s) (2 ^ 60) (t * t) (2 ^ 60) (omega arith))

pub along_rises : (s t : ℕ) → s < t → along s <ℤ along t
along_rises s t h = by (nat_lt s (2 ^ 30)) (nat_lt t (2 ^ 30)) refl refl
  where
    by : (c d : Bool) → nat_lt s (2 ^ 30) ≡ c → nat_lt t (2 ^ 30) ≡ d → along s <ℤ along t
    by true true p q = both_low s t h (ltb-true t (2 ^ 30) q)
    by true false p q = between s t (ltb-true s (2 ^ 30) p) (ltb-false t (2 ^ 30) q)
    by false d p q = both_high s t h (ltb-false s (2 ^ 30) p)

pub along_follows : (s t : ℕ) → s ≤ t → along s ≤ℤ along t
along_follows s t h = by (nat_lt s t) refl
  where
    at_least : (x y : ℤ) → x <ℤ y → x ≤ℤ y
    at_least x y l = omega (arith, ints)

    same : (x : ℤ) → x ≤ℤ x
    same x = omega (arith, ints)

    by : (c : Bool) → nat_lt s t ≡ c → along s ≤ℤ along t
    by true p = at_least (along s) (along t) (along_rises s t (ltb-true s t p))
    by false p = let l = ltb-false s t p in let e : s ≡ t = omega arith in rw e (same (along t))

-- a place in the square, along one side
pub record In (i n t : ℕ) : Type 0 where
  pub from : 2 * i ≤ t
  pub to : t ≤ 2 * (i + n)

pub lesser_in : (i n s t : ℕ) → In i n s → In i n t → In i n (min s t)
lesser_in i n s t h k = record { from = omega (arith, h.from, k.from); to = omega (arith, h.to, k.to) }

pub greater_in : (i n s t : ℕ) → In i n s → In i n t → In i n (max s t)
greater_in i n s t h k = record { from = omega (arith, h.from, k.from); to = omega (arith, h.to, k.to) }
