-- The hull of the ends of an edge and of the same ends, moved: a cone, which has no place that the edge doesn't
-- touch.
use Rattle.std.proofs.Common.{◌≡◌, ap, ap₂, ◌∙◌, ℕ, zero, suc, ◌+◌, ◌*◌, ◌^◌, ◌≤◌, ◌<◌, arith, ℤ, pos, sym}
use Rattle.std.proofs.Common.{negsuc, neg_ℤ, ◌+ℤ◌, ◌-ℤ◌, ◌*ℤ◌, ◌≤ℤ◌, ◌<ℤ◌, mul-le-mul_left, mul-le-mul_right}
use Rattle.std.proofs.lemmas.Int.{ints}
use Rattle.s2polygon.proofs.Along.{along_follows}
use Rattle.s2polygon.proofs.Cones.{IsCone, IsOutside, IsTimes}
use Rattle.s2polygon.proofs.Faraway.{squares}
use Rattle.s2polygon.proofs.Integers.{Expr, at, ◌⊕◌, ◌⊖◌, ◌⊗◌, above_sum, equal, product_at_least, value, weaken}
use Rattle.s2polygon.proofs.Moving.{Apart, AreNear, IsWithin, Pays, apart_in_frame, high_in_frame, mix_apart}
use Rattle.s2polygon.proofs.Moving.{near_meets}
use Rattle.s2polygon.proofs.Turned.{minus_is}
use Rattle.s2polygon.specs.Cells.{square_of, widened}
use Rattle.s2polygon.specs.Directions.{Point}
use Rattle.s2polygon.specs.Frames.{in_frame}
use Rattle.s2polygon.specs.Meets.{InSquare, MeetsSquare, above, mix, right_of}
use Rattle.s2polygon.specs.Moves.{PassesNear, StaysClear}
use Rattle.s2polygon.specs.Places.{along}
use Rattle.s2polygon.specs.Rings.{AreOpposite}
use Rattle.s2polygon.specs.Ways.{middle_of}
use Rattle.s2polygon.specs.Working.Rings.{dot_of}
use Rattle.s2polygon.specs.declared.directions.Edge.{Edge}
use Rattle.s2polygon.specs.declared.frames.Framed.{Framed}
use Rattle.s2polygon.specs.declared.places.Square.{Square}

-- ---- the directions between four
abbrev sum_of_four : (i j k l : ℕ) (a b c d : ℤ) → ℤ
sum_of_four i j k l a b c d = pos i *ℤ a +ℤ pos j *ℤ b +ℤ pos k *ℤ c +ℤ pos l *ℤ d

pub record IsBetween (a b c d e : Framed) : Type 0 where
  pub i : ℕ
  pub j : ℕ
  pub k : ℕ
  pub l : ℕ
  pub some : 0 < i + j + k + l
  pub w : e.w ≡ sum_of_four i j k l a.w b.w c.w d.w
  pub u : e.u ≡ sum_of_four i j k l a.u b.u c.u d.u
  pub v : e.v ≡ sum_of_four i j k l a.v b.v c.v d.v

four_mixed : (m n i j k l o p q r : ℕ) (a b c d e f : ℤ) → e ≡ sum_of_four i j k l a b c d → f
    ≡ sum_of_four o p q r a b c d
    → pos m *ℤ e +ℤ pos n *ℤ f ≡ sum_of_four (m * i + n * o) (m * j + n * p) (m * k + n * q) (m * l + n * r) a b c d
four_mixed m n i j k l o p q r a b c d e f g h =
    ap₂ (λ (x y : ℤ). pos m *ℤ x +ℤ pos n *ℤ y) g h
    ∙ equal (at (pos m) ⊗ (at (pos i) ⊗ at a ⊕ at (pos j) ⊗ at b ⊕ at (pos k) ⊗ at c ⊕ at (pos l) ⊗ at d) ⊕
    at (pos n) ⊗ (at (pos o) ⊗ at a ⊕ at (pos p) ⊗ at b ⊕ at (pos q) ⊗ at c ⊕ at (pos r) ⊗ at d))
    (at (pos (m * i + n * o)) ⊗ at a ⊕ at (pos (m * j + n * p)) ⊗ at b ⊕ at (pos (m * k + n * q)) ⊗ at c ⊕
    at (pos (m * l + n * r)) ⊗ at d) (omega arith)

some_mixed : (m n s t : ℕ) → 0 < m + n → 0 < s → 0 < t → 0 < m * s + n * t
some_mixed m n s t h k l =
    let p : 1 ≤ s = omega arith in
    let q : 1 ≤ t = omega arith in
    let o = mul-le-mul_left m p in
    let r = mul-le-mul_left n q in
    omega (arith, o, r)

module _ (a b c d : Framed) where
  between_mixed : (x y : ℤ) (e f : Framed) → pos 0 ≤ℤ x → pos 0 ≤ℤ y → pos 0 <ℤ (x +ℤ y) → IsBetween a b c d e
      → IsBetween a b c d f → IsBetween a b c d (mix x y e f)
  between_mixed (pos m) (pos n) e f lx ly some g h =
      record {
        i = m * g.i + n * h.i;
        j = m * g.j + n * h.j;
        k = m * g.k + n * h.k;
        l = m * g.l + n * h.l;
        some = spread m n g.i g.j g.k g.l h.i h.j h.k h.l (some_mixed m n (g.i + g.j + g.k + g.l)
            (h.i + h.j + h.k + h.l) (omega (arith, ints, some)) g.some h.some);
        w = four_mixed m n g.i g.j g.k g.l h.i h.j h.k h.l a.w b.w c.w d.w e.w f.w g.w h.w;
        u = four_mixed m n g.i g.j g.k g.l h.i h.j h.k h.l a.u b.u c.u d.u e.u f.u g.u h.u;
        v = four_mixed m n g.i g.j g.k g.l h.i h.j h.k h.l a.v b.v c.v d.v e.v f.v g.v h.v;
      }
    where
      spread : (m n i j k l o p q r : ℕ) → 0 < m * (i + j + k + l) + n * (o + p + q + r)
          → 0 < m * i + n * o + (m * j + n * p) + (m * k + n * q) + (m * l + n * r)
      spread m n i j k l o p q r h = omega (arith, h)
  between_mixed (pos m) (negsuc n) e f lx ly some g h = absurd (omega (arith, ints, ly))
  between_mixed (negsuc m) y e f lx ly some g h = absurd (omega (arith, ints, lx))

  -- each of the four
  only_first : (a b c d : ℤ) → a ≡ sum_of_four 1 0 0 0 a b c d
  only_first a b c d = sym (equal (at (pos 1) ⊗ at a ⊕ at (pos 0) ⊗ at b ⊕ at (pos 0) ⊗ at c ⊕ at (pos 0) ⊗ at d)
      (at a) (omega arith))

  only_second : (a b c d : ℤ) → b ≡ sum_of_four 0 1 0 0 a b c d
  only_second a b c d = sym (equal (at (pos 0) ⊗ at a ⊕ at (pos 1) ⊗ at b ⊕ at (pos 0) ⊗ at c ⊕ at (pos 0) ⊗ at d)
      (at b) (omega arith))

  only_third : (a b c d : ℤ) → c ≡ sum_of_four 0 0 1 0 a b c d
  only_third a b c d = sym (equal (at (pos 0) ⊗ at a ⊕ at (pos 0) ⊗ at b ⊕ at (pos 1) ⊗ at c ⊕ at (pos 0) ⊗ at d)
      (at c) (omega arith))

  only_fourth : (a b c d : ℤ) → d ≡ sum_of_four 0 0 0 1 a b c d
  only_fourth a b c d = sym (equal (at (pos 0) ⊗ at a ⊕ at (pos 0) ⊗ at b ⊕ at (pos 0) ⊗ at c ⊕ at (pos 1) ⊗ at d)
      (at d) (omega arith))

  pub first_between : IsBetween a b c d a
  first_between = record {
    i = 1;
    j = 0;
    k = 0;
    l = 0;
    some = omega arith;
    w = only_first a.w b.w c.w d.w;
    u = only_first a.u b.u c.u d.u;
    v = only_first a.v b.v c.v d.v;
  }

  pub second_between : IsBetween a b c d b
  second_between = record {
    i = 0;
    j = 1;
    k = 0;
    l = 0;
    some = omega arith;
    w = only_second a.w b.w c.w d.w;
    u = only_second a.u b.u c.u d.u;
    v = only_second a.v b.v c.v d.v;
  }

  pub third_between : IsBetween a b c d c
  third_between = record {
    i = 0;
    j = 0;
    k = 1;
    l = 0;
    some = omega arith;
    w = only_third a.w b.w c.w d.w;
    u = only_third a.u b.u c.u d.u;
    v = only_third a.v b.v c.v d.v;
  }

  pub fourth_between : IsBetween a b c d d
  fourth_between = record {
    i = 0;
    j = 0;
    k = 0;
    l = 1;
    some = omega arith;
    w = only_fourth a.w b.w c.w d.w;
    u = only_fourth a.u b.u c.u d.u;
    v = only_fourth a.v b.v c.v d.v;
  }

-- ---- they are near to mixtures of the edge's ends
within_more : (m n : ℕ) (z : ℤ) → m ≤ n → IsWithin (pos m) z → IsWithin (pos n) z
within_more m n z h k = record { low = omega (arith, ints, h, k.low); high = omega (arith, ints, h, k.high) }

four_apart : (num den i j k l s t : ℕ) (a b c d e : ℤ) → e ≡ sum_of_four i j k l a b c d → Apart num den s a c
    → Apart num den t b d
    → IsWithin (pos (num * (i + k * s + (j + l * t))))
    (pos den *ℤ (e -ℤ (pos (i + k * s) *ℤ a +ℤ pos (j + l * t) *ℤ b)))
four_apart num den i j k l s t a b c d e is h g =
    let f = mix_apart num den k l s t a b c d h g in
    let o = mul-le-mul_left num (fewer i j (k * s) (l * t)) in
    let p = within_more (num * (k * s + l * t)) (num * (i + k * s + (j + l * t)))
    (pos den *ℤ ((pos k *ℤ c +ℤ pos l *ℤ d) -ℤ (pos (k * s) *ℤ a +ℤ pos (l * t) *ℤ b))) o f in
    rw (is, same) p
  where
    fewer : (i j x y : ℕ) → x + y ≤ i + x + (j + y)
    fewer i j x y = omega arith

    same : pos den *ℤ (sum_of_four i j k l a b c d -ℤ (pos (i + k * s) *ℤ a +ℤ pos (j + l * t) *ℤ b))
        ≡ pos den *ℤ ((pos k *ℤ c +ℤ pos l *ℤ d) -ℤ (pos (k * s) *ℤ a +ℤ pos (l * t) *ℤ b))
    same = ap (λ (z : ℤ). pos den *ℤ z)
        (equal ((at (pos i) ⊗ at a ⊕ at (pos j) ⊗ at b ⊕ at (pos k) ⊗ at c ⊕ at (pos l) ⊗ at d) ⊖
        (at (pos (i + k * s)) ⊗ at a ⊕ at (pos (j + l * t)) ⊗ at b))
        ((at (pos k) ⊗ at c ⊕ at (pos l) ⊗ at d) ⊖ (at (pos (k * s)) ⊗ at a ⊕ at (pos (l * t)) ⊗ at b)) (omega arith))

some_scaled : (i j k l s t : ℕ) → 0 < i + j + k + l → 0 < s → 0 < t → 0 < i + k * s + (j + l * t)
some_scaled i j k l s t h m n =
    let p : 1 ≤ s = omega arith in
    let q : 1 ≤ t = omega arith in
    let o = mul-le-mul_left k p in
    let r = mul-le-mul_left l q in
    omega (arith, h, o, r)

-- how far a direction on a line lies from other lines
beyond_first : (k m : ℕ) (s line p w : ℤ) → line ≤ℤ s → pos 0 ≤ℤ w → pos k *ℤ p -ℤ s *ℤ w ≡ pos 0
    → pos 0 ≤ℤ (pos k *ℤ p -ℤ (line -ℤ pos m) *ℤ w)
beyond_first k m s line p w l before is =
    rw (equal (at (pos k) ⊗ at p ⊖ (at line ⊖ at (pos m)) ⊗ at w)
    ((at (pos k) ⊗ at p ⊖ at s ⊗ at w) ⊕ (at s ⊖ at line ⊕ at (pos m)) ⊗ at w) (omega arith))
    (plus (pos k *ℤ p -ℤ s *ℤ w) ((s -ℤ line +ℤ pos m) *ℤ w) is
    (product_at_least (s -ℤ line +ℤ pos m) w (omega (arith, ints, l)) before))
  where
    plus : (x y : ℤ) → x ≡ pos 0 → pos 0 ≤ℤ y → pos 0 ≤ℤ (x +ℤ y)
    plus x y e h = omega (arith, ints, e, h)

short_of_last : (k m : ℕ) (s line p w : ℤ) → s ≤ℤ line → pos 0 ≤ℤ w → pos k *ℤ p -ℤ s *ℤ w ≡ pos 0
    → pos 0 ≤ℤ ((line +ℤ pos m) *ℤ w -ℤ pos k *ℤ p)
short_of_last k m s line p w l before is =
    rw (equal ((at line ⊕ at (pos m)) ⊗ at w ⊖ at (pos k) ⊗ at p)
    ((at line ⊖ at s ⊕ at (pos m)) ⊗ at w ⊖ (at (pos k) ⊗ at p ⊖ at s ⊗ at w)) (omega arith))
    (minus (pos k *ℤ p -ℤ s *ℤ w) ((line -ℤ s +ℤ pos m) *ℤ w) is
    (product_at_least (line -ℤ s +ℤ pos m) w (omega (arith, ints, l)) before))
  where
    minus : (x y : ℤ) → x ≡ pos 0 → pos 0 ≤ℤ y → pos 0 ≤ℤ (y -ℤ x)
    minus x y e h = omega (arith, ints, e, h)

pub at_middle : (m i j : ℕ) (c : Framed) → pos 0 <ℤ c.w → right_of (along (middle_of 0 i)) c ≡ pos 0
    → above (along (middle_of 0 j)) c ≡ pos 0 → InSquare c (widened m (square_of 0 i j))
at_middle m i j c before right high =
    let k = 3 * 2 ^ 60 in
    let w : pos 0 ≤ℤ c.w = omega (arith, ints, before) in
    let s = along (middle_of 0 i) in
    let t = along (middle_of 0 j) in
    record {
      first_column = beyond_first k m s (along (2 * (i * 2 ^ 0))) c.u c.w
          (along_follows (2 * (i * 2 ^ 0)) (middle_of 0 i) (omega arith)) w right;
      last_column = short_of_last k m s (along (2 * (i * 2 ^ 0 + 2 ^ 0))) c.u c.w
          (along_follows (middle_of 0 i) (2 * (i * 2 ^ 0 + 2 ^ 0)) (omega arith)) w right;
      first_row = beyond_first k m t (along (2 * (j * 2 ^ 0))) c.v c.w
          (along_follows (2 * (j * 2 ^ 0)) (middle_of 0 j) (omega arith)) w high;
      last_row = short_of_last k m t (along (2 * (j * 2 ^ 0 + 2 ^ 0))) c.v c.w
          (along_follows (middle_of 0 j) (2 * (j * 2 ^ 0 + 2 ^ 0)) (omega arith)) w high;
    }

module _ (num den f : ℕ) (e g : Edge) (a : PassesNear num den e.a g.a) (b : PassesNear num den e.b g.b) where
  abbrev pub Hull : Framed → Type 0
  Hull = IsBetween (in_frame f e.a) (in_frame f e.b) (in_frame f g.a) (in_frame f g.b)

  pub first_share : (c : Framed) → Hull c → ℕ
  first_share c h = h.i + h.k * a.scale

  pub last_share : (c : Framed) → Hull c → ℕ
  last_share c h = h.j + h.l * b.scale

  pub some_share : (c : Framed) (h : Hull c) → 0 < first_share c h + last_share c h
  unfolding first_share last_share
  some_share c h = some_scaled h.i h.j h.k h.l a.scale b.scale h.some a.some b.some

  pub near_edge : (c : Framed) (h : Hull c) → AreNear num den (first_share c h + last_share c h)
      (mix (pos (first_share c h)) (pos (last_share c h)) (in_frame f e.a) (in_frame f e.b)) c
  unfolding first_share last_share
  near_edge c h =
      let fa = apart_in_frame f num den e.a g.a a in
      let fb = apart_in_frame f num den e.b g.b b in
      record {
        w = four_apart num den h.i h.j h.k h.l a.scale b.scale (in_frame f e.a).w (in_frame f e.b).w (in_frame f g.a).w
            (in_frame f g.b).w c.w h.w fa.w fb.w;
        u = four_apart num den h.i h.j h.k h.l a.scale b.scale (in_frame f e.a).u (in_frame f e.b).u (in_frame f g.a).u
            (in_frame f g.b).u c.u h.u fa.u fb.u;
        v = four_apart num den h.i h.j h.k h.l a.scale b.scale (in_frame f e.a).v (in_frame f e.b).v (in_frame f g.a).v
            (in_frame f g.b).v c.v h.v fa.v fb.v;
      }

  -- where a coordinate is 0, that of the mixture is small
  pub small : (n p r : ℕ) (x y z : ℤ) → z ≡ pos 0 → IsWithin (pos n) (pos den *ℤ (z -ℤ (pos p *ℤ x +ℤ pos r *ℤ y)))
      → IsWithin (pos n) (pos (den * p) *ℤ x +ℤ pos (den * r) *ℤ y)
  small n p r x y z is h =
      let same : pos (den * p) *ℤ x +ℤ pos (den * r) *ℤ y ≡ pos 0 -ℤ pos den *ℤ (pos 0 -ℤ (pos p *ℤ x +ℤ pos r *ℤ y)) =
      equal (at (pos (den * p)) ⊗ at x ⊕ at (pos (den * r)) ⊗ at y)
      (at (pos 0) ⊖ at (pos den) ⊗ (at (pos 0) ⊖ (at (pos p) ⊗ at x ⊕ at (pos r) ⊗ at y))) (omega arith) in
      let k = rw is at h in
      rw same (turned (pos den *ℤ (pos 0 -ℤ (pos p *ℤ x +ℤ pos r *ℤ y))) k)
    where
      turned : (z : ℤ) → IsWithin (pos n) z → IsWithin (pos n) (pos 0 -ℤ z)
      turned z h = record { low = omega (arith, ints, h.high); high = omega (arith, ints, h.low) }

  module _ (height : ℕ) (clear : StaysClear height e) (less : num < height * den) where
    never_center : (c : Framed) → Hull c → c.w ≡ pos 0 → c.u ≡ pos 0 → c.v ≡ pos 0 → ⊥
    never_center c h w u v =
        let p = first_share c h in
        let r = last_share c h in
        let near = near_edge c h in
        let far = high_in_frame f height (pos (num * (p + r))) (den * p) (den * r) e clear (record {
          w = small (num * (p + r)) p r (in_frame f e.a).w (in_frame f e.b).w c.w w near.w;
          u = small (num * (p + r)) p r (in_frame f e.a).u (in_frame f e.b).u c.u u near.u;
          v = small (num * (p + r)) p r (in_frame f e.a).v (in_frame f e.b).v c.v v near.v;
        }) in
        too_far p r (some_share c h) (numbers (height * (den * p + den * r)) (num * (p + r)) far)
      where
        numbers : (x y : ℕ) → pos x ≤ℤ pos y → x ≤ y
        numbers x y l = omega (arith, ints, l)

        too_far : (p r : ℕ) → 0 < p + r → height * (den * p + den * r) ≤ num * (p + r) → ⊥
        too_far p r some l =
            let next : num + 1 ≤ height * den = omega (arith, less) in
            let m = mul-le-mul_right (p + r) next in
            omega (arith, some, l, m)

    pub hull_cone : IsCone Hull
    hull_cone = record {
      mixed = between_mixed (in_frame f e.a) (in_frame f e.b) (in_frame f g.a) (in_frame f g.b);
      pointed = never_center;
    }

    module _ (m more i j : ℕ) (pays : Pays num den height m more) (hi : i < 2 ^ 30) (hj : j < 2 ^ 30)
        (missed : ¬ (MeetsSquare (in_frame f e.a) (in_frame f e.b) (widened (m + more) (square_of 0 i j)))) where
      never_in : (c : Framed) → Hull c → InSquare c (widened m (square_of 0 i j)) → ⊥
      never_in c h is =
          missed (near_meets num den height m more f i j e g a b clear pays hi hj c (first_share c h) (last_share c h)
          (some_share c h) (near_edge c h) is)

-- ---- in the frames of all faces
minus_four : (i j k l : ℕ) (a b c d e : ℤ) → e ≡ sum_of_four i j k l a b c d
    → neg_ℤ e ≡ sum_of_four i j k l (neg_ℤ a) (neg_ℤ b) (neg_ℤ c) (neg_ℤ d)
minus_four i j k l a b c d e h =
    rw (minus_is e, minus_is a, minus_is b, minus_is c, minus_is d)
    (ap (λ (z : ℤ). pos 0 -ℤ z) h
    ∙ equal (at (pos 0) ⊖ (at (pos i) ⊗ at a ⊕ at (pos j) ⊗ at b ⊕ at (pos k) ⊗ at c ⊕ at (pos l) ⊗ at d))
    (at (pos i) ⊗ (at (pos 0) ⊖ at a) ⊕ at (pos j) ⊗ (at (pos 0) ⊖ at b) ⊕ at (pos k) ⊗ (at (pos 0) ⊖ at c) ⊕
    at (pos l) ⊗ (at (pos 0) ⊖ at d)) (omega arith))

minus_times : (k p c : ℤ) → c ≡ k *ℤ p → neg_ℤ c ≡ k *ℤ neg_ℤ p
minus_times k p c h =
    rw (minus_is c, minus_is p)
    (ap (λ (z : ℤ). pos 0 -ℤ z) h ∙ equal (at (pos 0) ⊖ at k ⊗ at p) (at k ⊗ (at (pos 0) ⊖ at p)) (omega arith))

module _ (a b c d e : Point) (h : IsBetween (in_frame 0 a) (in_frame 0 b) (in_frame 0 c) (in_frame 0 d) (in_frame 0 e))
  where
    between_by : (f : ℕ) → (in_frame f e).w ≡ sum_of_four h.i h.j h.k h.l (in_frame f a).w (in_frame f b).w
        (in_frame f c).w (in_frame f d).w
        → (in_frame f e).u ≡ sum_of_four h.i h.j h.k h.l (in_frame f a).u (in_frame f b).u (in_frame f c).u
        (in_frame f d).u
        → (in_frame f e).v ≡ sum_of_four h.i h.j h.k h.l (in_frame f a).v (in_frame f b).v (in_frame f c).v
        (in_frame f d).v
        → IsBetween (in_frame f a) (in_frame f b) (in_frame f c) (in_frame f d) (in_frame f e)
    between_by f w u v =
        record { i = h.i; j = h.j; k = h.k; l = h.l; some = h.some; w = w; u = u; v = v }

    minus_x : neg_ℤ e.x ≡ sum_of_four h.i h.j h.k h.l (neg_ℤ a.x) (neg_ℤ b.x) (neg_ℤ c.x) (neg_ℤ d.x)
    minus_x = minus_four h.i h.j h.k h.l a.x b.x c.x d.x e.x h.w

    minus_y : neg_ℤ e.y ≡ sum_of_four h.i h.j h.k h.l (neg_ℤ a.y) (neg_ℤ b.y) (neg_ℤ c.y) (neg_ℤ d.y)
    minus_y = minus_four h.i h.j h.k h.l a.y b.y c.y d.y e.y h.u

    minus_z : neg_ℤ e.z ≡ sum_of_four h.i h.j h.k h.l (neg_ℤ a.z) (neg_ℤ b.z) (neg_ℤ c.z) (neg_ℤ d.z)
    minus_z = minus_four h.i h.j h.k h.l a.z b.z c.z d.z e.z h.v

    between_in : (f : ℕ) → IsBetween (in_frame f a) (in_frame f b) (in_frame f c) (in_frame f d) (in_frame f e)
    between_in zero = h
    between_in (suc zero) = between_by 1 h.u minus_x h.v
    between_in (suc (suc zero)) = between_by 2 h.v minus_x minus_y
    between_in (suc (suc (suc zero))) = between_by 3 minus_x minus_z minus_y
    between_in (suc (suc (suc (suc zero)))) = between_by 4 minus_y minus_z h.w
    between_in (suc (suc (suc (suc (suc n))))) = between_by 5 minus_z h.u h.w

times_in : (f : ℕ) (k : ℤ) (p c : Point) → IsTimes k (in_frame 0 p) (in_frame 0 c)
    → IsTimes k (in_frame f p) (in_frame f c)
times_in zero k p c h = h
times_in (suc zero) k p c h = record { w = h.u; u = minus_times k p.x c.x h.w; v = h.v }
times_in (suc (suc zero)) k p c h =
    record { w = h.v; u = minus_times k p.x c.x h.w; v = minus_times k p.y c.y h.u }
times_in (suc (suc (suc zero))) k p c h =
    record { w = minus_times k p.x c.x h.w; u = minus_times k p.z c.z h.v; v = minus_times k p.y c.y h.u }
times_in (suc (suc (suc (suc zero)))) k p c h =
    record { w = minus_times k p.y c.y h.u; u = minus_times k p.z c.z h.v; v = h.w }
times_in (suc (suc (suc (suc (suc n))))) k p c h = record { w = minus_times k p.z c.z h.v; u = h.u; v = h.w }

-- ---- directions that the hull doesn't have
beyond_times : (n : ℕ) (s k p w d e : ℤ) → pos 0 ≤ℤ k → d ≡ k *ℤ p → e ≡ k *ℤ w → pos 0 ≤ℤ (pos n *ℤ p -ℤ s *ℤ w)
    → pos 0 ≤ℤ (pos n *ℤ d -ℤ s *ℤ e)
beyond_times n s k p w d e l f g h =
    rw (
      f,
      g,
      equal (at (pos n) ⊗ (at k ⊗ at p) ⊖ at s ⊗ (at k ⊗ at w)) (at k ⊗ (at (pos n) ⊗ at p ⊖ at s ⊗ at w))
          (omega arith),
    ) (product_at_least k (pos n *ℤ p -ℤ s *ℤ w) l h)

short_times : (n : ℕ) (s k p w d e : ℤ) → pos 0 ≤ℤ k → d ≡ k *ℤ p → e ≡ k *ℤ w → pos 0 ≤ℤ (s *ℤ w -ℤ pos n *ℤ p)
    → pos 0 ≤ℤ (s *ℤ e -ℤ pos n *ℤ d)
short_times n s k p w d e l f g h =
    rw (
      f,
      g,
      equal (at s ⊗ (at k ⊗ at w) ⊖ at (pos n) ⊗ (at k ⊗ at p)) (at k ⊗ (at s ⊗ at w ⊖ at (pos n) ⊗ at p))
          (omega arith),
    ) (product_at_least k (s *ℤ w -ℤ pos n *ℤ p) l h)

in_square_times : (k : ℤ) (q : Square) (c d : Framed) → pos 0 ≤ℤ k → IsTimes k c d → InSquare c q → InSquare d q
in_square_times k q c d l t h =
    let n = 3 * 2 ^ 60 in
    record {
      first_column = beyond_times n q.u0 k c.u c.w d.u d.w l t.u t.w h.first_column;
      last_column = short_times n q.u1 k c.u c.w d.u d.w l t.u t.w h.last_column;
      first_row = beyond_times n q.v0 k c.v c.w d.v d.w l t.v t.w h.first_row;
      last_row = short_times n q.v1 k c.v c.w d.v d.w l t.v t.w h.last_row;
    }

point_of : Framed → Point
point_of c = record { x = c.w; y = c.u; z = c.v }

-- a direction of a square that the edge misses, with a margin that pays
pub outside : (num den height m more f i j : ℕ) (e g : Edge) (a : PassesNear num den e.a g.a)
    (b : PassesNear num den e.b g.b) → StaysClear height e → Pays num den height m more → i < 2 ^ 30 → j < 2 ^ 30
    → num < height * den → ¬ (MeetsSquare (in_frame f e.a) (in_frame f e.b) (widened (m + more) (square_of 0 i j)))
    → (p : Point) → InSquare (in_frame f p) (widened m (square_of 0 i j))
    → IsOutside (Hull num den 0 e g a b) (in_frame 0 p)
unfolding point_of
outside num den height m more f i j e g a b clear pays hi hj less missed p inside k c more_0 is h =
    never_in num den f e g a b height clear less m more i j pays hi hj missed (in_frame f (point_of c))
    (between_in e.a e.b g.a g.b (point_of c) h f)
    (in_square_times k (widened m (square_of 0 i j)) (in_frame f p) (in_frame f (point_of c)) (weaken (pos 0) k more_0)
    (times_in f k p (point_of c) is) inside)

-- ---- two directions of a cone aren't opposite
two_none : (p q x y t : ℤ) → t ≡ p *ℤ x -ℤ q *ℤ y → x ≡ pos 0 → y ≡ pos 0 → t ≡ pos 0
two_none p q x y t e f g =
    e ∙ ap₂ (λ (m n : ℤ). p *ℤ m -ℤ q *ℤ n) f g ∙ equal (at p ⊗ at (pos 0) ⊖ at q ⊗ at (pos 0)) (at (pos 0))
    (omega arith)

module _ (aw au av bw bu bv : ℤ) where
  abbrev own : Expr
  own = at bw ⊗ at bw ⊕ at bu ⊗ at bu ⊕ at bv ⊗ at bv

  abbrev both : Expr
  both = at aw ⊗ at bw ⊕ at au ⊗ at bu ⊕ at av ⊗ at bv

  abbrev nw : Expr
  nw = at au ⊗ at bv ⊖ at av ⊗ at bu

  abbrev nu : Expr
  nu = at av ⊗ at bw ⊖ at aw ⊗ at bv

  abbrev nv : Expr
  nv = at aw ⊗ at bu ⊖ at au ⊗ at bw

  back_w : value (own ⊗ at aw ⊕ (at (pos 0) ⊖ both) ⊗ at bw) ≡ value (at bu ⊗ nv ⊖ at bv ⊗ nu)
  back_w = equal (own ⊗ at aw ⊕ (at (pos 0) ⊖ both) ⊗ at bw) (at bu ⊗ nv ⊖ at bv ⊗ nu) (omega arith)

  back_u : value (own ⊗ at au ⊕ (at (pos 0) ⊖ both) ⊗ at bu) ≡ value (at bv ⊗ nw ⊖ at bw ⊗ nv)
  back_u = equal (own ⊗ at au ⊕ (at (pos 0) ⊖ both) ⊗ at bu) (at bv ⊗ nw ⊖ at bw ⊗ nv) (omega arith)

  back_v : value (own ⊗ at av ⊕ (at (pos 0) ⊖ both) ⊗ at bv) ≡ value (at bw ⊗ nu ⊖ at bu ⊗ nw)
  back_v = equal (own ⊗ at av ⊕ (at (pos 0) ⊖ both) ⊗ at bv) (at bw ⊗ nu ⊖ at bu ⊗ nw) (omega arith)

pub never_opposite : (K : Framed → Type 0) → IsCone K → (a b : Point) → K (in_frame 0 a) → K (in_frame 0 b)
    → ¬ (AreOpposite (record { a = a; b = b }))
never_opposite K cone a b ka kb h =
    let p = in_frame 0 a in
    let q = in_frame 0 b in
    let some = squares q (cone.pointed q kb) in
    let k = cone.mixed (dot_of q q) (pos 0 -ℤ dot_of p q) p q (weaken (pos 0) (dot_of q q) some)
    (minus_least (dot_of p q) h.away) (above_sum (dot_of q q) (pos 0 -ℤ dot_of p q) some
    (minus_least (dot_of p q) h.away)) ka kb in
    cone.pointed (mix (dot_of q q) (pos 0 -ℤ dot_of p q) p q) k
    (two_none q.u q.v _ _ _ (back_w p.w p.u p.v q.w q.u q.v) h.z h.y)
    (two_none q.v q.w _ _ _ (back_u p.w p.u p.v q.w q.u q.v) h.x h.z)
    (two_none q.w q.u _ _ _ (back_v p.w p.u p.v q.w q.u q.v) h.y h.x)
  where
    minus_least : (z : ℤ) → z ≤ℤ pos 0 → pos 0 ≤ℤ (pos 0 -ℤ z)
    minus_least z l = omega (arith, ints)
