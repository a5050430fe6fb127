-- An angle of the circle by an angle of at most 90 degrees: its sine and its cosine without their signs.
use Rattle.std.proofs.Common.{ℕ, ◌+◌, ◌-◌, ◌*◌, ◌/◌, ◌%◌, ◌^◌, ◌≤◌, ◌<◌, ◌≡◌, arith, inl, inr, refl, ap}
use Rattle.std.proofs.Common.{sym, ◌∙◌}
use Rattle.std.proofs.Common.{Bool, true, false, ◌⊎◌, ℤ, pos, negsuc, neg_ℤ, ◌+ℤ◌, ◌-ℤ◌, ◌≤ℤ◌, ◌<ℤ◌, unsigned_abs}
use Rattle.std.proofs.Common.{lit≤, subst}
use Rattle.std.proofs.Math.IntN.{neg_ℤ-neg_ℤ}
use Rattle.std.proofs.Math.Nat.{mul-le-mul_left}
use Rattle.std.proofs.lemmas.Bool.{cases_lt}
use Rattle.std.proofs.lemmas.Int.{ints}
use Rattle.std.proofs.lemmas.Nat.{mul-le}
use Rattle.s2degrees.specs.Degrees.{IsCosine, IsCosineSum, IsEitherSine, IsQuarterCosine, IsQuarterSine, IsSine}
use Rattle.s2degrees.specs.Degrees.{IsSineIn, around, pi, quarter, turn}
use Rattle.s2degrees.specs.Femtodegrees.{with_sign}
use Rattle.s2degrees.specs.Series.{over, under}
use Rattle.s2degrees.proofs.Rising.{half_at_least, under_some}
use Rattle.s2degrees.proofs.Signs.{turned}
use Rattle.s2map.specs.Working.Octants.{angle_of}

-- the sine a / b and the cosine k / e of an angle are those of a folded angle, without signs
pub record Folded (angle a : ℤ) (b : ℕ) (k : ℤ) (e : ℕ) : Type 0 where
  pub behind : Bool
  pub west : Bool
  pub t : ℕ
  pub a_size : ℕ
  pub k_size : ℕ
  pub within : t ≤ quarter
  pub a_is : a ≡ with_sign west a_size
  pub k_is : k ≡ with_sign behind k_size
  pub sine : IsEitherSine t a_size b
  pub cosine : IsEitherSine (quarter - t) k_size e
  pub angle_is : angle ≡ angle_of behind west t

either_sine : (x p d : ℕ) → IsQuarterSine x p d → IsEitherSine x p d
either_sine x p d (inl i) = inl i
either_sine x p d (inr i) = inr (omega (arith, i.0), i.1)

either_cosine : (x p d : ℕ) → x ≤ quarter → IsQuarterCosine x p d → IsEitherSine (quarter - x) p d
either_cosine x p d h (inl i) =
    let e : quarter - (quarter - x) ≡ x = omega (arith, h) in
    inr (omega (arith, i.0), subst (λ (y : ℕ). IsCosineSum y p d) (sym e) i.1)
either_cosine x p d h (inr i) = inl (omega (arith, i.0), i.1)

twice : (r : ℕ) → r ≤ quarter → quarter - (quarter - r) ≡ r
twice r h = omega (arith, h)

-- ---- the four quarters, `r` beyond the beginning of each
module _ (angle a : ℤ) (b : ℕ) (k : ℤ) (e r : ℕ) (h : r ≤ quarter) where
  abbrev first : angle ≡ pos r → IsSineIn 0 r a b → IsSineIn 1 r k e → Folded angle a b k e
  first is i j = record {
    behind = false;
    west = false;
    t = r;
    a_size = unsigned_abs a;
    k_size = unsigned_abs k;
    within = h;
    a_is = i.1;
    k_is = j.1;
    sine = either_sine r (unsigned_abs a) b i.0;
    cosine = either_cosine r (unsigned_abs k) e h j.0;
    angle_is = is;
  }

  second : angle ≡ pos (quarter + r) → IsSineIn 1 r a b → IsSineIn 2 r k e → Folded angle a b k e
  second is i j = record {
    behind = true;
    west = false;
    t = quarter - r;
    a_size = unsigned_abs a;
    k_size = unsigned_abs (neg_ℤ k);
    within = omega arith;
    a_is = i.1;
    k_is = turned k _ j.1;
    sine = either_cosine r (unsigned_abs a) b h i.0;
    cosine = subst (λ (y : ℕ). IsEitherSine y (unsigned_abs (neg_ℤ k)) e) (sym (twice r h))
        (either_sine r (unsigned_abs (neg_ℤ k)) e j.0);
    angle_is = omega (arith, ints, is, h);
  }

  third : angle ≡ pos r -ℤ pos (2 * quarter) → IsSineIn 2 r a b → IsSineIn 3 r k e → Folded angle a b k e
  third is i j = record {
    behind = true;
    west = true;
    t = r;
    a_size = unsigned_abs (neg_ℤ a);
    k_size = unsigned_abs (neg_ℤ k);
    within = h;
    a_is = turned a _ i.1;
    k_is = turned k _ j.1;
    sine = either_sine r (unsigned_abs (neg_ℤ a)) b i.0;
    cosine = either_cosine r (unsigned_abs (neg_ℤ k)) e h j.0;
    angle_is = is;
  }

  abbrev fourth : angle ≡ pos r -ℤ pos quarter → IsSineIn 3 r a b → IsSineIn 4 r k e → Folded angle a b k e
  fourth is i j = record {
    behind = false;
    west = true;
    t = quarter - r;
    a_size = unsigned_abs (neg_ℤ a);
    k_size = unsigned_abs (neg_ℤ (neg_ℤ k));
    within = omega arith;
    a_is = turned a _ i.1;
    k_is = sym (neg_ℤ-neg_ℤ k) ∙ j.1;
    sine = either_cosine r (unsigned_abs (neg_ℤ a)) b h i.0;
    cosine = subst (λ (y : ℕ). IsEitherSine y (unsigned_abs (neg_ℤ (neg_ℤ k))) e) (sym (twice r h))
        (either_sine r (unsigned_abs (neg_ℤ (neg_ℤ k))) e j.0);
    angle_is = omega (arith, ints, is, h);
  }

-- ---- in which quarter an angle lies
around_up : (n : ℕ) → n < turn → around (pos n) ≡ n
around_up n h = omega (arith, h)

around_down : (n : ℕ) → n < turn → around (negsuc n) ≡ turn - 1 - n
around_down n h = omega (arith, h)

sine_at : (angle : ℤ) (q r : ℕ) (a : ℤ) (b : ℕ) → around angle ≡ q * quarter + r → r < quarter → IsSine angle a b
    → IsSineIn q r a b
sine_at angle q r a b e h i =
    let f : around angle / quarter ≡ q = omega (arith, e, h) in
    let g : around angle % quarter ≡ r = omega (arith, e, h) in
    rw (f, g) at i

cosine_at : (angle : ℤ) (q r : ℕ) (a : ℤ) (b : ℕ) → around angle ≡ q * quarter + r → r < quarter → IsCosine angle a b
    → IsSineIn (q + 1) r a b
cosine_at angle q r a b e h i =
    let f : around angle / quarter ≡ q = omega (arith, e, h) in
    let g : around angle % quarter ≡ r = omega (arith, e, h) in
    rw (f, g) at i

pub folded : (angle a : ℤ) (b : ℕ) (k : ℤ) (e : ℕ) → neg_ℤ (pos (2 * quarter)) ≤ℤ angle
    → angle <ℤ pos (2 * quarter) → IsSine angle a b → IsCosine angle k e → Folded angle a b k e
folded (pos n) a b k e low high i j = elim (cases_lt n quarter) [
  | inl l ↦
      let at : around (pos n) ≡ 0 * quarter + n = around_up n (omega (arith, l)) ∙ omega arith in
      first (pos n) a b k e n (omega (arith, l)) refl (sine_at (pos n) 0 n a b at l i)
      (cosine_at (pos n) 0 n k e at l j)
  | inr g ↦
      let r : ℕ = n - quarter in
      let l : r < quarter = omega (arith, ints, g, high) in
      let is : n ≡ quarter + r = omega (arith, g) in
      let at : around (pos n) ≡ 1 * quarter + r = around_up n (omega (arith, ints, high)) ∙ omega (arith, g) in
      second (pos n) a b k e r (omega (arith, l)) (ap pos is) (sine_at (pos n) 1 r a b at l i)
      (cosine_at (pos n) 1 r k e at l j)
]
folded (negsuc n) a b k e low high i j = elim (cases_lt n quarter) [
  | inl l ↦
      let r : ℕ = quarter - 1 - n in
      let at : around (negsuc n) ≡ 3 * quarter + r = around_down n (omega (arith, l)) ∙ omega (arith, l) in
      fourth (negsuc n) a b k e r (omega arith) (omega (arith, ints, l)) (sine_at (negsuc n) 3 r a b at (omega arith) i)
      (cosine_at (negsuc n) 3 r k e at (omega arith) j)
  | inr g ↦
      let r : ℕ = 2 * quarter - 1 - n in
      let up : n + 1 ≤ 2 * quarter = omega (arith, ints, low) in
      let l : r < quarter = omega (arith, g) in
      let at : around (negsuc n) ≡ 2 * quarter + r = around_down n (omega (arith, up)) ∙ omega (arith, up) in
      third (negsuc n) a b k e r (omega (arith, l)) (omega (arith, ints, up)) (sine_at (negsuc n) 2 r a b at l i)
      (cosine_at (negsuc n) 2 r k e at l j)
]

-- a latitude is folded without a turn of its cosine's sign
pub latitude_folded : (angle a : ℤ) (b : ℕ) (k : ℤ) (e : ℕ) → unsigned_abs angle < quarter → IsSine angle a b
    → IsCosine angle k e → (f : Folded angle a b k e) × (f.behind ≡ false)
latitude_folded (pos n) a b k e l i j =
    let at : around (pos n) ≡ 0 * quarter + n = around_up n (omega (arith, l)) ∙ omega arith in (
      first (pos n) a b k e n (omega (arith, l)) refl (sine_at (pos n) 0 n a b at l i)
          (cosine_at (pos n) 0 n k e at l j),
      refl,
    )
latitude_folded (negsuc n) a b k e l i j =
    let h : n < quarter = omega (arith, l) in
    let r : ℕ = quarter - 1 - n in
    let at : around (negsuc n) ≡ 3 * quarter + r = around_down n (omega (arith, h)) ∙ omega (arith, h) in (
      fourth (negsuc n) a b k e r (omega arith) (omega (arith, ints, h))
          (sine_at (negsuc n) 3 r a b at (omega arith) i) (cosine_at (negsuc n) 3 r k e at (omega arith) j),
      refl,
    )

-- ---- a number with two signs is 0
pub same_signs : (w v : Bool) (m n : ℕ) → with_sign w m ≡ with_sign v n → (m ≡ n) × ((w ≡ v) ⊎ (m ≡ 0))
same_signs true true m n e = (omega (arith, ints, e), inl refl)
same_signs false false m n e = (omega (arith, ints, e), inl refl)
same_signs true false m n e = (omega (arith, ints, e), inr (omega (arith, ints, e)))
same_signs false true m n e = (omega (arith, ints, e), inr (omega (arith, ints, e)))

-- only an angle of 0 has a sine of 0
pub none_at_0 : (x p d : ℕ) → p ≡ 0 → IsEitherSine x p d → x ≡ 0
none_at_0 x p d z (inl i) =
    let u = i.1 in
    let s : ℕ = u.s in
    let t : ℕ = u.t in
    let h = u.radians in
    let some = h.some in
    let o : ℕ = over (s * s) (t * t) 2 u.n in
    let half : under (t * t) 2 u.n ≤ 2 * o =
    half_at_least (s * s) (t * t) 2 u.n (mul-le s s t t h.small h.small) (lit≤ tt) in
    let up : 1 ≤ under (t * t) 2 u.n = under_some (t * t) 2 u.n (mul-le 1 1 t t some some) (lit≤ tt) in
    let is : p ≡ s * o = u.over_is in
    let least = h.least in
    of_none x s t o some (omega (arith, half, up)) (sym is ∙ z) least
  where
    of_none : (x s t o : ℕ) → 1 ≤ t → 1 ≤ o → s * o ≡ 0 → x * pi * t ≤ s * (180 * 10 ^ 15 * 10 ^ 20) → x ≡ 0
    of_none x s t o ht ho e least =
        let h1 = mul-le-mul_left s ho in
        let none : s ≡ 0 = omega (arith, h1, e) in
        let h2 = mul-le-mul_left (x * pi) ht in
        omega (arith, none, least, h2)
none_at_0 x p d z (inr i) =
    let u = i.1 in
    let s : ℕ = u.s in
    let t : ℕ = u.t in
    let h = u.radians in
    let some = h.some in
    let half = half_at_least (s * s) (t * t) 1 u.n (mul-le s s t t h.small h.small) (lit≤ tt) in
    let up = under_some (t * t) 1 u.n (mul-le 1 1 t t some some) (lit≤ tt) in
    let is = u.over_is in
    absurd (omega (arith, half, up, is, z))

-- ---- an angle that is folded to other signs, where it has both
turn_west : (behind west v : Bool) (t : ℕ) (angle : ℤ) → (west ≡ v) ⊎ (t ≡ 0) → angle <ℤ pos (2 * quarter)
    → angle ≡ angle_of behind west t → (angle ≡ angle_of behind v t) ⊎ (angle +ℤ pos turn ≡ angle_of behind v t)
turn_west behind west v t angle (inl e) high is = inl (subst (λ z. angle ≡ angle_of behind z t) e is)
turn_west false false false t angle (inr z) high is = inl is
turn_west false false true t angle (inr z) high is = inl (omega (arith, ints, z, is))
turn_west false true false t angle (inr z) high is = inl (omega (arith, ints, z, is))
turn_west false true true t angle (inr z) high is = inl is
turn_west true false false t angle (inr z) high is = inl is
turn_west true false true t angle (inr z) high is = absurd (omega (arith, ints, z, is, high))
turn_west true true false t angle (inr z) high is = inr (omega (arith, ints, z, is))
turn_west true true true t angle (inr z) high is = inl is

turn_behind : (behind v west : Bool) (t : ℕ) (angle : ℤ) → (behind ≡ v) ⊎ (quarter - t ≡ 0) → t ≤ quarter
    → angle ≡ angle_of behind west t → angle ≡ angle_of v west t
turn_behind behind v west t angle (inl e) h is = subst (λ z. angle ≡ angle_of z west t) e is
turn_behind false false west t angle (inr z) h is = is
turn_behind true true west t angle (inr z) h is = is
turn_behind false true false t angle (inr z) h is = omega (arith, ints, z, h, is)
turn_behind false true true t angle (inr z) h is = omega (arith, ints, z, h, is)
turn_behind true false false t angle (inr z) h is = omega (arith, ints, z, h, is)
turn_behind true false true t angle (inr z) h is = omega (arith, ints, z, h, is)

pub turned_to : (behind west b w : Bool) (t : ℕ) (angle : ℤ) → t ≤ quarter → (behind ≡ b) ⊎ (quarter - t ≡ 0)
    → (west ≡ w) ⊎ (t ≡ 0) → angle <ℤ pos (2 * quarter) → angle ≡ angle_of behind west t
    → (angle ≡ angle_of b w t) ⊎ (angle +ℤ pos turn ≡ angle_of b w t)
turned_to behind west b w t angle h i j high is = elim (turn_west behind west w t angle j high is) [
  | inl e ↦ inl (turn_behind behind b w t angle i h e)
  | inr e ↦ inr (turn_behind behind b w t (angle +ℤ pos turn) i h e)
]

-- a latitude
pub turned_upright : (south v : Bool) (m : ℕ) (angle : ℤ) → (south ≡ v) ⊎ (m ≡ 0) → angle ≡ angle_of false south m
    → angle ≡ angle_of false v m
turned_upright south v m angle (inl e) is = subst (λ z. angle ≡ angle_of false z m) e is
turned_upright false false m angle (inr z) is = is
turned_upright true true m angle (inr z) is = is
turned_upright false true m angle (inr z) is = omega (arith, ints, z, is)
turned_upright true false m angle (inr z) is = omega (arith, ints, z, is)
