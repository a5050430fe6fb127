-- A direction on the line of a middle of leaves lies at the end of the line: its coordinates are too small for another.
use Rattle.std.proofs.Common.{◌≡◌, refl, sym, ap, ◌∙◌, ℕ, zero, suc, ◌+◌, ◌-◌, ◌*◌, ◌/◌, ◌%◌, ◌^◌, ◌<◌, arith, ℤ, pos}
use Rattle.std.proofs.Common.{negsuc, ◌-ℤ◌, ◌*ℤ◌, unsigned_abs, Bool, true, false, nat_lt, ltb-true, ltb-false, pow-suc}
use Rattle.std.proofs.lemmas.Int.{ints, unsigned_abs-mul}
use Rattle.s2polygon.proofs.Along.{low, high}
use Rattle.s2polygon.specs.Places.{along}

-- an odd number times a number below 2 ^ k is a multiple of 2 ^ k only if it is 0
odd_times : (k m w q : ℕ) → (2 * m + 1) * w ≡ 2 ^ k * q → w < 2 ^ k → w ≡ 0
odd_times zero m w q e l = omega arith
odd_times (suc k) m w q e l =
    let two = pow-suc 2 k in
    let f : (2 * m + 1) * w ≡ 2 ^ k * 2 * q = e ∙ ap (λ (t : ℕ). t * q) two in
    let half : w ≡ w / 2 + w / 2 = omega arith in
    let g : m * w ≡ m * (w / 2 + w / 2) = ap (λ (t : ℕ). m * t) half in
    let h : (2 * m + 1) * (w / 2) ≡ 2 ^ k * q = omega (arith, f, g, half) in
    let less : w / 2 < 2 ^ k = omega (arith, two) in
    let none = odd_times k m (w / 2) q h less in
    omega (arith, half, none)

record IsOdd (n : ℕ) : Type 0 where
  half : ℕ
  is : n ≡ 2 * half + 1

odd_difference : (a b m : ℕ) → a + b ≡ 2 * m + 1 → IsOdd (unsigned_abs (pos a -ℤ pos b))
odd_difference a b m e = by (nat_lt a b) refl
  where
    by : (t : Bool) → nat_lt a b ≡ t → IsOdd (unsigned_abs (pos a -ℤ pos b))
    by true p =
        let l = ltb-true a b p in
        let f : pos a -ℤ pos b ≡ negsuc (b - a - 1) = omega (arith, ints) in
        let g : suc (b - a - 1) ≡ 2 * ((b - a) / 2) + 1 = omega arith in
        record { half = (b - a) / 2; is = ap unsigned_abs f ∙ g }
    by false p =
        let l = ltb-false a b p in
        let f : pos a -ℤ pos b ≡ pos (a - b) = omega (arith, ints) in
        let g : a - b ≡ 2 * ((a - b) / 2) + 1 = omega arith in
        record { half = (a - b) / 2; is = ap unsigned_abs f ∙ g }

-- middles are odd numbers
odd_along : (m : ℕ) → IsOdd (unsigned_abs (along (2 * m + 1)))
odd_along m = by (nat_lt (2 * m + 1) (2 ^ 30)) refl
  where
    by : (t : Bool) → nat_lt (2 * m + 1) (2 ^ 30) ≡ t → IsOdd (unsigned_abs (along (2 * m + 1)))
    by true p =
        let l = ltb-true (2 * m + 1) (2 ^ 30) p in
        let s = 2 ^ 30 - m - 1 in
        let r : 2 ^ 31 - (2 * m + 1) ≡ 2 * s + 1 = omega arith in
        rw (low (2 * m + 1) l, r) (odd_difference (2 ^ 60) ((2 * s + 1) * (2 * s + 1))
        (2 ^ 59 + 2 * (s * s) + 2 * s) (omega arith))
    by false p =
        let l = ltb-false (2 * m + 1) (2 ^ 30) p in
        rw (high (2 * m + 1) l) (odd_difference ((2 * m + 1) * (2 * m + 1)) (2 ^ 60)
        (2 ^ 59 + 2 * (m * m) + 2 * m) (omega arith))

none : (z : ℤ) → unsigned_abs z ≡ 0 → z ≡ pos 0
none (pos zero) e = refl
none (pos (suc n)) e = absurd (omega (arith, e))
none (negsuc n) e = absurd (omega (arith, e))

pub difference : (x y : ℤ) → x -ℤ y ≡ pos 0 → x ≡ y
difference x y e = omega (arith, ints)

-- on the line of a middle, one of the two coordinates is 0, and then the other
pub record IsAtEnd (p w : ℤ) : Type 0 where
  pub across : p ≡ pos 0
  pub before : w ≡ pos 0

on_line : (m : ℕ) (p w : ℤ) → unsigned_abs w < 2 ^ 31 → pos (3 * 2 ^ 60) *ℤ p ≡ along (2 * m + 1) *ℤ w → IsAtEnd p w
on_line m p w l e =
    let o = odd_along m in
    let f : 3 * 2 ^ 60 * unsigned_abs p ≡ unsigned_abs (along (2 * m + 1)) * unsigned_abs w =
    sym (unsigned_abs-mul (pos (3 * 2 ^ 60)) p) ∙ ap unsigned_abs e ∙ unsigned_abs-mul (along (2 * m + 1)) w in
    let g : 3 * 2 ^ 60 * unsigned_abs p ≡ (2 * o.half + 1) * unsigned_abs w =
    f ∙ ap (λ (t : ℕ). t * unsigned_abs w) o.is in
    let h = odd_times 60 o.half (unsigned_abs w) (3 * unsigned_abs p) (omega (arith, g)) (omega arith) in
    let k : (2 * o.half + 1) * unsigned_abs w ≡ 0 = ap (λ (t : ℕ). (2 * o.half + 1) * t) h ∙ omega arith in
    record { across = none p (omega (arith, g, k)); before = none w h }

-- nor is an odd number times a middle the other coordinate, times the scale
pub odd_off_line : (m : ℕ) (p w : ℤ) → unsigned_abs w % 2 ≡ 1 → pos (3 * 2 ^ 60) *ℤ p ≡ along (2 * m + 1) *ℤ w → ⊥
odd_off_line m p w odd e =
    let o = odd_along m in
    let f : 3 * 2 ^ 60 * unsigned_abs p ≡ unsigned_abs (along (2 * m + 1)) * unsigned_abs w =
    sym (unsigned_abs-mul (pos (3 * 2 ^ 60)) p) ∙ ap unsigned_abs e ∙ unsigned_abs-mul (along (2 * m + 1)) w in
    let k = unsigned_abs w / 2 in
    let half : unsigned_abs w ≡ 2 * k + 1 = omega (arith, odd) in
    let g : 3 * 2 ^ 60 * unsigned_abs p ≡ (2 * o.half + 1) * (2 * k + 1) =
    f ∙ ap (λ (t : ℕ). t * unsigned_abs w) o.is ∙ ap (λ (t : ℕ). (2 * o.half + 1) * t) half in
    omega (arith, g)

-- at the line of a row
pub beyond_middle : (m : ℕ) (p w : ℤ) → unsigned_abs w < 2 ^ 31
    → pos (3 * 2 ^ 60) *ℤ p -ℤ along (2 * m + 1) *ℤ w ≡ pos 0 → IsAtEnd p w
beyond_middle m p w l e = on_line m p w l (difference (pos (3 * 2 ^ 60) *ℤ p) (along (2 * m + 1) *ℤ w) e)

-- at the line of a column
pub short_of_middle : (m : ℕ) (p w : ℤ) → unsigned_abs w < 2 ^ 31
    → along (2 * m + 1) *ℤ w -ℤ pos (3 * 2 ^ 60) *ℤ p ≡ pos 0 → IsAtEnd p w
short_of_middle m p w l e = on_line m p w l (sym (difference (along (2 * m + 1) *ℤ w) (pos (3 * 2 ^ 60) *ℤ p) e))
