-- The signs at a place: what an edge's ends, its side of the place and its turns say of each other.
use Rattle.std.proofs.Common.{◌≡◌, refl, sym, zero, suc, ℤ, pos, negsuc, ◌+ℤ◌, ◌-ℤ◌, ◌*ℤ◌, ◌≤ℤ◌}
use Rattle.std.proofs.Common.{◌≢◌, ◌⊎◌, inl, inr, Bool, true, false, not, ◌&&◌, ◌||◌, arith}
use Rattle.std.proofs.lemmas.Int.{ints}
use Rattle.std.proofs.Math.Bool.{true≢false, beq}
use Rattle.s2polygon.proofs.Integers.{at, product_at_least, product_at_most}
use Rattle.s2polygon.proofs.Octants.{balanced, differs}

-- ---- products
pub down_up : (x y : ℤ) → x ≤ℤ pos 0 → pos 0 ≤ℤ y → (x *ℤ y) ≤ℤ pos 0
down_up (pos zero) (pos b) h k = omega (arith, ints)
down_up (pos (suc a)) y h k = absurd (omega (arith, ints))
down_up (negsuc a) (pos b) h k = omega (arith, ints)
down_up x (negsuc b) h k = absurd (omega (arith, ints))

down_down : (x y : ℤ) → x ≤ℤ pos 0 → y ≤ℤ pos 0 → pos 0 ≤ℤ (x *ℤ y)
down_down (pos zero) (pos zero) h k = omega (arith, ints)
down_down (pos zero) (negsuc b) h k = omega (arith, ints)
down_down (pos (suc a)) y h k = absurd (omega (arith, ints))
down_down (negsuc a) (pos zero) h k = omega (arith, ints)
down_down x (pos (suc b)) h k = absurd (omega (arith, ints))
down_down (negsuc a) (negsuc b) h k = omega (arith, ints)

-- a product is 0 only if a factor is
pub other_none : (x y : ℤ) → x *ℤ y ≡ pos 0 → x ≢ pos 0 → y ≡ pos 0
other_none x (pos zero) e h = refl
other_none (pos zero) y e h = absurd (h refl)
other_none (pos (suc a)) (pos (suc b)) e h = absurd (omega (arith, ints, e))
other_none (pos (suc a)) (negsuc b) e h = absurd (omega (arith, ints, e))
other_none (negsuc a) (pos (suc b)) e h = absurd (omega (arith, ints, e))
other_none (negsuc a) (negsuc b) e h = absurd (omega (arith, ints, e))

pub first_none : (x y : ℤ) → x *ℤ y ≡ pos 0 → y ≢ pos 0 → x ≡ pos 0
first_none (pos zero) y e h = refl
first_none x (pos zero) e h = absurd (h refl)
first_none (pos (suc a)) (pos (suc b)) e h = absurd (omega (arith, ints, e))
first_none (pos (suc a)) (negsuc b) e h = absurd (omega (arith, ints, e))
first_none (negsuc a) (pos (suc b)) e h = absurd (omega (arith, ints, e))
first_none (negsuc a) (negsuc b) e h = absurd (omega (arith, ints, e))

-- the answers agree with signs, 0 with either
pub record IsSign (z : ℤ) (s : Bool) : Type 0 where
  pub yes : s ≡ true → pos 0 ≤ℤ z
  pub no : s ≡ false → z ≤ℤ pos 0

pub alike : (x y : ℤ) (s t : Bool) → IsSign x s → IsSign y t → s ≡ t → pos 0 ≤ℤ (x *ℤ y)
alike x y true true h k e = product_at_least x y (h.yes refl) (k.yes refl)
alike x y false false h k e = down_down x y (h.no refl) (k.no refl)
alike x y true false h k e = absurd (true≢false e)
alike x y false true h k e = absurd (true≢false (sym e))

pub unlike : (x y : ℤ) (s t : Bool) → IsSign x s → IsSign y t → s ≡ not t → (x *ℤ y) ≤ℤ pos 0
unlike x y true false h k e = product_at_most x y (h.yes refl) (k.no refl)
unlike x y false true h k e = down_up x y (h.no refl) (k.yes refl)
unlike x y true true h k e = absurd (true≢false e)
unlike x y false false h k e = absurd (true≢false (sym e))

-- three numbers on one side of 0 whose sum is 0
pub record AreNone (x y z : ℤ) : Type 0 where
  pub first : x ≡ pos 0
  pub second : y ≡ pos 0
  pub third : z ≡ pos 0

pub none_up : (x y z : ℤ) → x +ℤ y +ℤ z ≡ pos 0 → pos 0 ≤ℤ x → pos 0 ≤ℤ y → pos 0 ≤ℤ z → AreNone x y z
none_up x y z e f g h = record {
  first = omega (arith, ints);
  second = omega (arith, ints);
  third = omega (arith, ints);
}

pub none_down : (x y z : ℤ) → x +ℤ y +ℤ z ≡ pos 0 → x ≤ℤ pos 0 → y ≤ℤ pos 0 → z ≤ℤ pos 0 → AreNone x y z
none_down x y z e f g h = record {
  first = omega (arith, ints);
  second = omega (arith, ints);
  third = omega
      (arith, ints);
}

pub is_0 : (z : ℤ) → (z ≡ pos 0) ⊎ (z ≢ pos 0)
is_0 (pos zero) = inl refl
is_0 (pos (suc n)) = inr (λ e. omega (arith, ints, e))
is_0 (negsuc n) = inr (λ e. omega (arith, ints, e))

-- ---- not all three are on one side
pub beq_yes : (a b : Bool) → beq a b ≡ true → a ≡ b
beq_yes true true e = refl
beq_yes false false e = refl
beq_yes true false e = absurd (true≢false (sym e))
beq_yes false true e = absurd (true≢false (sym e))

pub beq_no : (a b : Bool) → beq a b ≡ false → a ≡ not b
beq_no true false e = refl
beq_no false true e = refl
beq_no true true e = absurd (true≢false e)
beq_no false false e = absurd (true≢false e)

pub balanced_is : (x y w p q s : Bool) → (p ≡ x → q ≡ y → s ≡ w → ⊥) → (p ≡ not x → q ≡ not y → s ≡ not w → ⊥)
    → balanced x y w p q s ≡ true
balanced_is x y w p q s f g = by (beq p x) (beq q y) (beq s w) (beq_yes p x) (beq_no p x) (beq_yes q y) (beq_no q y)
    (beq_yes s w) (beq_no s w)
  where
    by : (a b c : Bool) → (a ≡ true → p ≡ x) → (a ≡ false → p ≡ not x) → (b ≡ true → q ≡ y) → (b ≡ false → q ≡ not y)
        → (c ≡ true → s ≡ w) → (c ≡ false → s ≡ not w)
        → not (a && (b && c)) && (a || (b || c)) ≡ true
    by true true true h i j k l m = absurd (f (h refl) (j refl) (l refl))
    by true true false h i j k l m = refl
    by true false c h i j k l m = refl
    by false true c h i j k l m = refl
    by false false true h i j k l m = refl
    by false false false h i j k l m = absurd (g (i refl) (k refl) (m refl))

pub differs_is : (one other n : Bool) → (one ≡ true → other ≡ false → n ≡ true)
    → (one ≡ false → other ≡ true → n ≡ false) → differs one other n ≡ true
differs_is true true true f g = refl
differs_is true true false f g = refl
differs_is false false true f g = refl
differs_is false false false f g = refl
differs_is true false true f g = refl
differs_is true false false f g = f refl refl
differs_is false true true f g = sym (g refl refl)
differs_is false true false f g = refl

pub swapped : (b c : Bool) → b ≡ not c → c ≡ not b
swapped true false g = refl
swapped false true g = refl
swapped true true g = absurd (true≢false g)
swapped false false g = absurd (true≢false (sym g))

pub back : (z : ℤ) → pos 0 -ℤ z ≡ pos 0 → z ≡ pos 0
back z e = omega (arith, ints)
