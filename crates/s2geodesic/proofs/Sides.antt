-- How wide leaves are.
use Rattle.std.proofs.Common.{◌≡◌, refl, ℕ, ◌+◌, ◌*◌, ◌-◌, ◌^◌, arith, ℤ, pos, neg_ℤ, inl, inr, ◌*ℤ◌, ◌+ℤ◌, ◌-ℤ◌}
use Rattle.std.proofs.Common.{◌≤ℤ◌, ◌<ℤ◌, nat_lt}
use Rattle.std.proofs.Common.{ltb-true, ltb-false, Bool, true, false, cond}
use Rattle.std.proofs.lemmas.Int.{ints}
use Rattle.s2geodesic.specs.Working.Places.{IsFarthest, LieFar}
use Rattle.s2polygon.specs.Cells.{square_of, widened}
use Rattle.s2polygon.specs.Places.{along, whole}

lower_rise : (s t : ℕ) → t ≡ s + 2 → (pos (2 ^ 60) -ℤ pos (t * t)) <ℤ (pos (2 ^ 60) -ℤ pos (s * s))
lower_rise s t e = rw e (omega (arith, ints))

upper_rise : (i : ℕ) → (pos (2 * i * (2 * i)) -ℤ pos (2 ^ 60)) <ℤ (pos (2 * (i + 1) * (2 * (i + 1))) -ℤ pos (2 ^ 60))
upper_rise i = omega (arith, ints)

-- the border after a leaf lies farther than the one before it
borders_rise : (i : ℕ) → along (2 * i) <ℤ along (2 * (i + 1))
borders_rise i = by (nat_lt (2 * i) (2 ^ 30)) (nat_lt (2 * (i + 1)) (2 ^ 30)) refl refl
  where
    by : (b c : Bool) → nat_lt (2 * i) (2 ^ 30) ≡ b → nat_lt (2 * (i + 1)) (2 ^ 30) ≡ c
        → cond b (pos (2 ^ 60) -ℤ pos ((2 ^ 31 - 2 * i) * (2 ^ 31 - 2 * i)))
        (pos (2 * i * (2 * i)) -ℤ pos (2 ^ 60))
        <ℤ cond c (pos (2 ^ 60) -ℤ pos ((2 ^ 31 - 2 * (i + 1)) * (2 ^ 31 - 2 * (i + 1))))
        (pos (2 * (i + 1) * (2 * (i + 1))) -ℤ pos (2 ^ 60))
    by true true p q =
        let l = ltb-true (2 * i) (2 ^ 30) p in
        let m = ltb-true (2 * (i + 1)) (2 ^ 30) q in
        lower_rise (2 ^ 31 - 2 * (i + 1)) (2 ^ 31 - 2 * i) (omega arith)
    by true false p q =
        let l = ltb-true (2 * i) (2 ^ 30) p in
        let m = ltb-false (2 * (i + 1)) (2 ^ 30) q in
        let e : i ≡ 2 ^ 29 - 1 = omega arith in
        rw e (omega (arith, ints))
    by false true p q =
        let l = ltb-false (2 * i) (2 ^ 30) p in
        let m = ltb-true (2 * (i + 1)) (2 ^ 30) q in
        absurd (omega arith)
    by false false p q = upper_rise i

widen : (x y : ℤ) (m : ℕ) → x <ℤ y → (x -ℤ pos m) <ℤ (y +ℤ pos m)
widen x y m h = omega (arith, ints, h)

pub leaf_wide : (m i j : ℕ) → (widened m (square_of 0 i j)).u0 <ℤ (widened m (square_of 0 i j)).u1
leaf_wide m i j =
    let e : i * 2 ^ 0 ≡ i = omega arith in
    rw e (widen (along (2 * i)) (along (2 * (i + 1))) m (borders_rise i))

pub leaf_high : (m i j : ℕ) → (widened m (square_of 0 i j)).v0 <ℤ (widened m (square_of 0 i j)).v1
leaf_high m i j =
    let e : j * 2 ^ 0 ≡ j = omega arith in
    rw e (widen (along (2 * j)) (along (2 * (j + 1))) m (borders_rise j))

-- ---- the leaf that is farthest behind a plane
first_far : (w u : ℤ)
    → pos 0 ≤ℤ (whole *ℤ u -ℤ (along (2 * (0 * 2 ^ 0)) -ℤ pos (2 ^ 60)) *ℤ w)
    → pos 0 ≤ℤ ((along (2 * (0 * 2 ^ 0 + 2 ^ 0)) +ℤ pos (2 ^ 60)) *ℤ w -ℤ whole *ℤ u)
    → LieFar (pos 1) w u
first_far w u h k = record { ahead = omega (arith, ints, h, k); off = omega (arith, ints, h, k) }

middle_far : (w u : ℤ)
    → pos 0 ≤ℤ (whole *ℤ u -ℤ (along (2 * (2 ^ 29 * 2 ^ 0)) -ℤ pos (2 ^ 60)) *ℤ w)
    → pos 0 ≤ℤ ((along (2 * (2 ^ 29 * 2 ^ 0 + 2 ^ 0)) +ℤ pos (2 ^ 60)) *ℤ w -ℤ whole *ℤ u)
    → LieFar (pos 0) w u
middle_far w u h k = record { ahead = omega (arith, ints, h, k); off = omega (arith, ints) }

last_far : (w u : ℤ)
    → pos 0 ≤ℤ (whole *ℤ u -ℤ (along (2 * ((2 ^ 30 - 1) * 2 ^ 0)) -ℤ pos (2 ^ 60)) *ℤ w)
    → pos 0 ≤ℤ ((along (2 * ((2 ^ 30 - 1) * 2 ^ 0 + 2 ^ 0)) +ℤ pos (2 ^ 60)) *ℤ w -ℤ whole *ℤ u)
    → LieFar (neg_ℤ (pos 1)) w u
last_far w u h k = record { ahead = omega (arith, ints, h, k); off = omega (arith, ints, h, k) }

pub far : (n : ℤ) (i : ℕ) (w u : ℤ) → IsFarthest n i
    → pos 0 ≤ℤ (whole *ℤ u -ℤ (along (2 * (i * 2 ^ 0)) -ℤ pos (2 ^ 60)) *ℤ w)
    → pos 0 ≤ℤ ((along (2 * (i * 2 ^ 0 + 2 ^ 0)) +ℤ pos (2 ^ 60)) *ℤ w -ℤ whole *ℤ u)
    → LieFar n w u
far n i w u (inl (e, p)) h k = rw e (first_far w u (rw p at h) (rw p at k))
far n i w u (inr (inl (e, p))) h k = rw e (middle_far w u (rw p at h) (rw p at k))
far n i w u (inr (inr (e, p))) h k = rw e (last_far w u (rw p at h) (rw p at k))
