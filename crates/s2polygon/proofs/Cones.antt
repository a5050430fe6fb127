-- Edges within a cone: what lies between any two of its directions lies in it, and the center doesn't. Of two such
-- edges and the two between their ends, an even number come over an arc whose ends don't lie in the cone.
use Rattle.std.proofs.Common.{◌≡◌, refl, sym, ap, ap₂, ◌∙◌, arith, ℤ, pos, ◌+ℤ◌, ◌-ℤ◌}
use Rattle.std.proofs.Common.{◌*ℤ◌, ◌≤ℤ◌, ◌<ℤ◌, Bool, true, false, not, ◌&&◌}
use Rattle.std.proofs.lemmas.Int.{ints, by_lt_z}
use Rattle.std.proofs.Math.Bool.{true≢false, xor, beq}
use Rattle.s2polygon.proofs.Changes.{xor_self}
use Rattle.s2polygon.proofs.Integers.{Expr, at, ◌⊕◌, ◌⊖◌, ◌⊗◌, equal, product_at_least, value}
use Rattle.s2polygon.proofs.Parity.{below_0, from_0}
use Rattle.s2polygon.proofs.Rejects.{product_above}
use Rattle.s2polygon.proofs.Steps.{xor_pairs}
use Rattle.s2polygon.proofs.Triangles.{arc}
use Rattle.s2polygon.proofs.Vectors.{minor, sum, triple}
use Rattle.s2polygon.specs.Crosses.{is_at_least_0}
use Rattle.s2polygon.specs.Frames.{normal_of}
use Rattle.s2polygon.specs.Meets.{mix}
use Rattle.s2polygon.specs.declared.frames.Framed.{Framed}

pub record IsCone (K : Framed → Type 0) : Type 0 where
  pub mixed : (x y : ℤ) (c d : Framed) → pos 0 ≤ℤ x → pos 0 ≤ℤ y → pos 0 <ℤ (x +ℤ y) → K c → K d → K (mix x y c d)
  pub pointed : (c : Framed) → K c → c.w ≡ pos 0 → c.u ≡ pos 0 → c.v ≡ pos 0 → ⊥

-- `c` is `k` times `p`
pub record IsTimes (k : ℤ) (p c : Framed) : Type 0 where
  pub w : c.w ≡ k *ℤ p.w
  pub u : c.u ≡ k *ℤ p.u
  pub v : c.v ≡ k *ℤ p.v

-- the cone doesn't have the direction `p`
abbrev pub IsOutside : (Framed → Type 0) → Framed → Type 0
IsOutside K p = (k : ℤ) (c : Framed) → pos 0 <ℤ k → IsTimes k p c → K c → ⊥

-- `c` is `x` times `p` and `y` times `z`
record IsMix (x y : ℤ) (p z c : Framed) : Type 0 where
  w : c.w ≡ x *ℤ p.w +ℤ y *ℤ z.w
  u : c.u ≡ x *ℤ p.u +ℤ y *ℤ z.u
  v : c.v ≡ x *ℤ p.v +ℤ y *ℤ z.v

-- ---- numbers
minus_up : (z : ℤ) → z ≤ℤ pos 0 → pos 0 ≤ℤ (pos 0 -ℤ z)
minus_up z l = omega (arith, ints)

up : (z : ℤ) → pos 0 <ℤ z → pos 0 ≤ℤ z
up z l = omega (arith, ints)

plus_up : (x y : ℤ) → pos 0 <ℤ x → y ≤ℤ pos 0 → pos 0 <ℤ (x +ℤ (pos 0 -ℤ y))
plus_up x y l m = omega (arith, ints)

both_0 : (z : ℤ) → pos 0 ≤ℤ z → z ≤ℤ pos 0 → z ≡ pos 0
both_0 z l m = omega (arith, ints)

meet_none : (x y : ℤ) → x *ℤ y +ℤ (pos 0 -ℤ y) *ℤ x ≡ pos 0
meet_none x y = equal (at x ⊗ at y ⊕ (at (pos 0) ⊖ at y) ⊗ at x) (at (pos 0)) (omega arith)

first_alone : (x y p z c : ℤ) → c ≡ x *ℤ p +ℤ y *ℤ z → y ≡ pos 0 → c ≡ x *ℤ p
first_alone x y p z c e f =
    e ∙ ap (λ (n : ℤ). x *ℤ p +ℤ n *ℤ z) f ∙ equal (at x ⊗ at p ⊕ at (pos 0) ⊗ at z) (at x ⊗ at p) (omega arith)

last_alone : (x y p z c : ℤ) → c ≡ x *ℤ p +ℤ y *ℤ z → x ≡ pos 0 → c ≡ y *ℤ z
last_alone x y p z c e f =
    e ∙ ap (λ (n : ℤ). n *ℤ p +ℤ y *ℤ z) f ∙ equal (at (pos 0) ⊗ at p ⊕ at y ⊗ at z) (at y ⊗ at z) (omega arith)

none_alone : (x y p z c : ℤ) → c ≡ x *ℤ p +ℤ y *ℤ z → x ≡ pos 0 → y ≡ pos 0 → c ≡ pos 0
none_alone x y p z c e f g =
    last_alone x y p z c e f ∙ ap (λ (n : ℤ). n *ℤ z) g ∙ equal (at (pos 0) ⊗ at z) (at (pos 0)) (omega arith)

twice_mixed : (m n e f a b p z d c : ℤ) → d ≡ e *ℤ p +ℤ f *ℤ z → c ≡ a *ℤ p +ℤ b *ℤ z
    → m *ℤ d +ℤ n *ℤ c ≡ (m *ℤ e +ℤ n *ℤ a) *ℤ p +ℤ (m *ℤ f +ℤ n *ℤ b) *ℤ z
twice_mixed m n e f a b p z d c h k =
    ap₂ (λ (s t : ℤ). m *ℤ s +ℤ n *ℤ t) h k
    ∙ equal (at m ⊗ (at e ⊗ at p ⊕ at f ⊗ at z) ⊕ at n ⊗ (at a ⊗ at p ⊕ at b ⊗ at z))
    ((at m ⊗ at e ⊕ at n ⊗ at a) ⊗ at p ⊕ (at m ⊗ at f ⊕ at n ⊗ at b) ⊗ at z) (omega arith)

sum_above_first : (x y z v : ℤ) → pos 0 <ℤ x → pos 0 <ℤ y → z ≤ℤ pos 0 → pos 0 ≤ℤ v
    → pos 0 <ℤ (x *ℤ y +ℤ (pos 0 -ℤ z) *ℤ v)
sum_above_first x y z v h k l m =
    sum (x *ℤ y) ((pos 0 -ℤ z) *ℤ v) (product_above x y h k) (product_at_least (pos 0 -ℤ z) v (minus_up z l) m)
  where
    sum : (p q : ℤ) → pos 0 <ℤ p → pos 0 ≤ℤ q → pos 0 <ℤ (p +ℤ q)
    sum p q h k = omega (arith, ints)

falls : (x y z v : ℤ) → pos 0 <ℤ x → z ≤ℤ pos 0 → pos 0 ≤ℤ v → (x *ℤ y +ℤ (pos 0 -ℤ z) *ℤ v) <ℤ pos 0 → y ≤ℤ pos 0
falls x y z v h l m less =
    by_lt_z (pos 0) y
    (λ (high : pos 0 <ℤ y). absurd (wrong (x *ℤ y) ((pos 0 -ℤ z) *ℤ v) (product_above x y h high)
    (product_at_least (pos 0 -ℤ z) v (minus_up z l) m) less))
    (λ (low : y ≤ℤ pos 0). low)
  where
    wrong : (p q : ℤ) → pos 0 <ℤ p → pos 0 ≤ℤ q → (p +ℤ q) <ℤ pos 0 → ⊥
    wrong p q h k l = omega (arith, ints)

turned_sum : (x y z v : ℤ) → (x *ℤ y +ℤ (pos 0 -ℤ z) *ℤ v) <ℤ pos 0 → pos 0 <ℤ (v *ℤ z +ℤ (pos 0 -ℤ y) *ℤ x)
turned_sum x y z v l =
    let e = equal (at v ⊗ at z ⊕ (at (pos 0) ⊖ at y) ⊗ at x) (at (pos 0) ⊖ (at x ⊗ at y ⊕ (at (pos 0) ⊖ at z) ⊗ at v))
    (omega arith) in
    rw e (minus (x *ℤ y +ℤ (pos 0 -ℤ z) *ℤ v) l)
  where
    minus : (p : ℤ) → p <ℤ pos 0 → pos 0 <ℤ (pos 0 -ℤ p)
    minus p l = omega (arith, ints)

-- ---- directions of the cone in the plane of an arc
module _ (K : Framed → Type 0) (p z : Framed) (cone : IsCone K) (start : IsOutside K p) (end : IsOutside K z) where
  never_start : (x y : ℤ) (c : Framed) → IsMix x y p z c → K c → pos 0 <ℤ x → y ≡ pos 0 → ⊥
  never_start x y c is k l e = start x c l (record {
    w = first_alone x y p.w z.w c.w is.w e;
    u = first_alone x y p.u z.u c.u is.u e;
    v = first_alone x y p.v z.v c.v is.v e;
  }) k

  never_end : (x y : ℤ) (c : Framed) → IsMix x y p z c → K c → x ≡ pos 0 → pos 0 <ℤ y → ⊥
  never_end x y c is k e l = end y c l (record {
    w = last_alone x y p.w z.w c.w is.w e;
    u = last_alone x y p.u z.u c.u is.u e;
    v = last_alone x y p.v z.v c.v is.v e;
  }) k

  never_none : (x y : ℤ) (c : Framed) → IsMix x y p z c → K c → x ≡ pos 0 → y ≡ pos 0 → ⊥
  never_none x y c is k e f =
      cone.pointed c k (none_alone x y p.w z.w c.w is.w e f) (none_alone x y p.u z.u c.u is.u e f)
      (none_alone x y p.v z.v c.v is.v e f)

  -- a direction on the arc lies between its ends
  strictly : (x y : ℤ) (c : Framed) → IsMix x y p z c → K c → pos 0 ≤ℤ x → pos 0 ≤ℤ y → (pos 0 <ℤ x) × (pos 0 <ℤ y)
  strictly x y c is k h l =
      by_lt_z (pos 0) x
      (λ (first : pos 0 <ℤ x). by_lt_z (pos 0) y
      (λ (last : pos 0 <ℤ y). (first, last))
      (λ (low : y ≤ℤ pos 0). absurd (never_start x y c is k first (both_0 y l low))))
      (λ (low : x ≤ℤ pos 0). by_lt_z (pos 0) y
      (λ (last : pos 0 <ℤ y). absurd (never_end x y c is k (both_0 x h low) last))
      (λ (none : y ≤ℤ pos 0). absurd (never_none x y c is k (both_0 x h low) (both_0 y l none))))

  module _ (a b e f : ℤ) (c d : Framed) (c_is : IsMix a b p z c) (d_is : IsMix e f p z d) (kc : K c) (kd : K d)
      (first : pos 0 <ℤ a) (last : pos 0 <ℤ b) where
    between : (m n : ℤ) → IsMix (m *ℤ e +ℤ n *ℤ a) (m *ℤ f +ℤ n *ℤ b) p z (mix m n d c)
    between m n = record {
      w = twice_mixed m n e f a b p.w z.w d.w c.w d_is.w c_is.w;
      u = twice_mixed m n e f a b p.u z.u d.u c.u d_is.u c_is.u;
      v = twice_mixed m n e f a b p.v z.v d.v c.v d_is.v c_is.v;
    }

    -- the mixture in the direction of the arc's start, and that of its end
    at_start : f ≤ℤ pos 0 → pos 0 <ℤ (b *ℤ e +ℤ (pos 0 -ℤ f) *ℤ a) → ⊥
    at_start l more =
        never_start _ _ _ (between b (pos 0 -ℤ f))
        (cone.mixed b (pos 0 -ℤ f) d c (up b last) (minus_up f l) (plus_up b f last l) kd kc) more (meet_none b f)

    at_end : e ≤ℤ pos 0 → pos 0 <ℤ (a *ℤ f +ℤ (pos 0 -ℤ e) *ℤ b) → ⊥
    at_end l more =
        never_end _ _ _ (between a (pos 0 -ℤ e))
        (cone.mixed a (pos 0 -ℤ e) d c (up a first) (minus_up e l) (plus_up a e first l) kd kc) (meet_none a e) more

    at_none : f ≤ℤ pos 0 → b *ℤ e +ℤ (pos 0 -ℤ f) *ℤ a ≡ pos 0 → ⊥
    at_none l none =
        never_none _ _ _ (between b (pos 0 -ℤ f))
        (cone.mixed b (pos 0 -ℤ f) d c (up b last) (minus_up f l) (plus_up b f last l) kd kc) none (meet_none b f)

    -- if one direction of the cone lies on the arc, so does each other of the plane
    both_on : (pos 0 <ℤ e) × (pos 0 <ℤ f)
    both_on =
        by_lt_z (pos 0) f
        (λ (high : pos 0 <ℤ f). by_lt_z (pos 0) e
        (λ (more : pos 0 <ℤ e). (more, high))
        (λ (low : e ≤ℤ pos 0). absurd (at_end low (sum_above_first a f e b first high low (up b last)))))
        (λ (low : f ≤ℤ pos 0). by_lt_z (pos 0) (b *ℤ e +ℤ (pos 0 -ℤ f) *ℤ a)
        (λ (more : pos 0 <ℤ (b *ℤ e +ℤ (pos 0 -ℤ f) *ℤ a)). absurd (at_start low more))
        (λ (most : (b *ℤ e +ℤ (pos 0 -ℤ f) *ℤ a) ≤ℤ pos 0). by_lt_z (b *ℤ e +ℤ (pos 0 -ℤ f) *ℤ a) (pos 0)
        (λ (less : (b *ℤ e +ℤ (pos 0 -ℤ f) *ℤ a) <ℤ pos 0).
        absurd (at_end (falls b e f a last low (up a first) less) (turned_sum b e f a less)))
        (λ (least : pos 0 ≤ℤ (b *ℤ e +ℤ (pos 0 -ℤ f) *ℤ a)).
        absurd (at_none low (both_0 (b *ℤ e +ℤ (pos 0 -ℤ f) *ℤ a) least most)))))

-- ---- four edges
-- where an edge of the cone comes over the plane of an arc, and whether that is on the arc
record IsOver (K : Framed → Type 0) (p z : Framed) (counted : Bool) : Type 0 where
  x : ℤ
  y : ℤ
  over : Framed
  in_cone : K over
  is : IsMix x y p z over
  ahead : counted ≡ true → (pos 0 ≤ℤ x) × (pos 0 ≤ℤ y)
  counted_if : pos 0 <ℤ x → pos 0 <ℤ y → counted ≡ true

record IsSeen (K : Framed → Type 0) (p z : Framed) (differs counted : Bool) : Type 0 where
  none : differs ≡ false → counted ≡ false
  some : differs ≡ true → IsOver K p z counted

module _ (K : Framed → Type 0) (p z : Framed) (cone : IsCone K) (start : IsOutside K p) (end : IsOutside K z) where
  -- if one is counted, each that ends on two sides is
  alike : (a b g q : Bool) → IsSeen K p z a g → IsSeen K p z b q → g ≡ true → q ≡ b
  alike true true g q s t e =
      let c = s.some refl in
      let d = t.some refl in
      let h = c.ahead e in
      let on = strictly K p z cone start end c.x c.y c.over c.is c.in_cone h.0 h.1 in
      let both = both_on K p z cone start end c.x c.y d.x d.y c.over d.over c.is d.is c.in_cone d.in_cone on.0 on.1 in
      d.counted_if both.0 both.1
  alike true false g q s t e = t.none refl
  alike false b g q s t e = absurd (true≢false (sym e ∙ s.none refl))

  even_of_four : (a b c d g q r s : Bool) → IsSeen K p z a g → IsSeen K p z b q → IsSeen K p z c r → IsSeen K p z d s
      → xor (xor a b) (xor c d) ≡ false → xor (xor g q) (xor r s) ≡ false
  unfolding xor
  even_of_four a b c d true q r s ha hb hc hd e =
      rw (alike a b true q ha hb refl, alike a c true r ha hc refl, alike a d true s ha hd refl)
      (rw (sym (alike a a true true ha ha refl)) at e)
  even_of_four a b c d false true r s ha hb hc hd e =
      rw (alike b c true r hb hc refl, alike b d true s hb hd refl)
      (rw (sym (alike b a true false hb ha refl), sym (alike b b true true hb hb refl)) at e)
  even_of_four a b c d false false true s ha hb hc hd e =
      rw (alike c d true s hc hd refl)
      (rw (
        sym (alike c a true false hc ha refl),
        sym (alike c b true false hc hb refl),
        sym (alike c c true true hc hc refl),
      ) at e)
  even_of_four a b c d false false false true ha hb hc hd e =
      rw (
        sym (alike d a true false hd ha refl),
        sym (alike d b true false hd hb refl),
        sym (alike d c true false hd hc refl),
        sym (alike d d true true hd hd refl),
      ) at e
  even_of_four a b c d false false false false ha hb hc hd e = refl

-- ---- an edge at an arc
-- the mixture of two directions that lies in the plane with the normal `n`
module _ (aw au av bw bu bv nw nu nv : ℤ) where
  abbrev to_a : Expr
  to_a = sum (at aw) (at au) (at av) (at nw) (at nu) (at nv)

  abbrev to_b : Expr
  to_b = sum (at bw) (at bu) (at bv) (at nw) (at nu) (at nv)

  abbrev edge_w : Expr
  edge_w = minor (at au) (at av) (at bu) (at bv)

  abbrev edge_u : Expr
  edge_u = minor (at av) (at aw) (at bv) (at bw)

  abbrev edge_v : Expr
  edge_v = minor (at aw) (at au) (at bw) (at bu)

  in_plane_w : value ((at (pos 0) ⊖ to_b) ⊗ at aw ⊕ to_a ⊗ at bw) ≡ value (minor edge_u edge_v (at nu) (at nv))
  in_plane_w = equal ((at (pos 0) ⊖ to_b) ⊗ at aw ⊕ to_a ⊗ at bw) (minor edge_u edge_v (at nu) (at nv)) (omega arith)

  in_plane_u : value ((at (pos 0) ⊖ to_b) ⊗ at au ⊕ to_a ⊗ at bu) ≡ value (minor edge_v edge_w (at nv) (at nw))
  in_plane_u = equal ((at (pos 0) ⊖ to_b) ⊗ at au ⊕ to_a ⊗ at bu) (minor edge_v edge_w (at nv) (at nw)) (omega arith)

  in_plane_v : value ((at (pos 0) ⊖ to_b) ⊗ at av ⊕ to_a ⊗ at bv) ≡ value (minor edge_w edge_u (at nw) (at nu))
  in_plane_v = equal ((at (pos 0) ⊖ to_b) ⊗ at av ⊕ to_a ⊗ at bv) (minor edge_w edge_u (at nw) (at nu)) (omega arith)

-- as a mixture of the two directions of that plane, where the others lie in the plane with the normal `m`
module _ (mw mu mv pw pu pv zw zu zv : ℤ) where
  abbrev to_p : Expr
  to_p = sum (at pw) (at pu) (at pv) (at mw) (at mu) (at mv)

  abbrev to_z : Expr
  to_z = sum (at zw) (at zu) (at zv) (at mw) (at mu) (at mv)

  abbrev arc_w : Expr
  arc_w = minor (at pu) (at pv) (at zu) (at zv)

  abbrev arc_u : Expr
  arc_u = minor (at pv) (at pw) (at zv) (at zw)

  abbrev arc_v : Expr
  arc_v = minor (at pw) (at pu) (at zw) (at zu)

  of_arc_w : value (minor (at mu) (at mv) arc_u arc_v) ≡ value (to_z ⊗ at pw ⊕ (at (pos 0) ⊖ to_p) ⊗ at zw)
  of_arc_w = equal (minor (at mu) (at mv) arc_u arc_v) (to_z ⊗ at pw ⊕ (at (pos 0) ⊖ to_p) ⊗ at zw) (omega arith)

  of_arc_u : value (minor (at mv) (at mw) arc_v arc_w) ≡ value (to_z ⊗ at pu ⊕ (at (pos 0) ⊖ to_p) ⊗ at zu)
  of_arc_u = equal (minor (at mv) (at mw) arc_v arc_w) (to_z ⊗ at pu ⊕ (at (pos 0) ⊖ to_p) ⊗ at zu) (omega arith)

  of_arc_v : value (minor (at mw) (at mu) arc_w arc_u) ≡ value (to_z ⊗ at pv ⊕ (at (pos 0) ⊖ to_p) ⊗ at zv)
  of_arc_v = equal (minor (at mw) (at mu) arc_w arc_u) (to_z ⊗ at pv ⊕ (at (pos 0) ⊖ to_p) ⊗ at zv) (omega arith)

module _ (a b p z : Framed) where
  abbrev n : Framed
  n = normal_of p z

  abbrev m : Framed
  m = normal_of a b

  meets : IsMix (triple z a b) (pos 0 -ℤ triple p a b) p z (mix (pos 0 -ℤ triple b p z) (triple a p z) a b)
  meets = record {
    w = in_plane_w a.w a.u a.v b.w b.u b.v n.w n.u n.v ∙ of_arc_w m.w m.u m.v p.w p.u p.v z.w z.u z.v;
    u = in_plane_u a.w a.u a.v b.w b.u b.v n.w n.u n.v ∙ of_arc_u m.w m.u m.v p.w p.u p.v z.w z.u z.v;
    v = in_plane_v a.w a.u a.v b.w b.u b.v n.w n.u n.v ∙ of_arc_v m.w m.u m.v p.w p.u p.v z.w z.u z.v;
  }

turned : (x y m n a b p z : ℤ) → (pos 0 -ℤ y) *ℤ a +ℤ x *ℤ b ≡ m *ℤ p +ℤ (pos 0 -ℤ n) *ℤ z
    → y *ℤ a +ℤ (pos 0 -ℤ x) *ℤ b ≡ (pos 0 -ℤ m) *ℤ p +ℤ n *ℤ z
turned x y m n a b p z e =
    equal (at y ⊗ at a ⊕ (at (pos 0) ⊖ at x) ⊗ at b) (at (pos 0) ⊖ ((at (pos 0) ⊖ at y) ⊗ at a ⊕ at x ⊗ at b))
    (omega arith)
    ∙ ap (λ (s : ℤ). pos 0 -ℤ s) e
    ∙ equal (at (pos 0) ⊖ (at m ⊗ at p ⊕ (at (pos 0) ⊖ at n) ⊗ at z)) ((at (pos 0) ⊖ at m) ⊗ at p ⊕ at n ⊗ at z)
    (omega arith)

minus_below : (z : ℤ) → z <ℤ pos 0 → pos 0 ≤ℤ (pos 0 -ℤ z)
minus_below z l = omega (arith, ints)

apart : (z : ℤ) → pos 0 ≤ℤ z → pos 0 <ℤ (pos 0 -ℤ z) → ⊥
apart z h k = omega (arith, ints)

below_up : (z : ℤ) → z <ℤ pos 0 → pos 0 <ℤ z → ⊥
below_up z h k = omega (arith, ints)

sum_down : (x y : ℤ) → pos 0 ≤ℤ x → y <ℤ pos 0 → pos 0 <ℤ ((pos 0 -ℤ y) +ℤ x)
sum_down x y h k = omega (arith, ints)

sum_up : (x y : ℤ) → x <ℤ pos 0 → pos 0 ≤ℤ y → pos 0 <ℤ (y +ℤ (pos 0 -ℤ x))
sum_up x y h k = omega (arith, ints)

-- of the sides of an edge on which the arc's start and its end lie
module _ (m n : ℤ) where
  falling_signs : (s t : Bool) → is_at_least_0 m ≡ s → is_at_least_0 n ≡ t
      → (beq s false && not (beq t false)) ≡ true → (pos 0 ≤ℤ n) × (pos 0 ≤ℤ (pos 0 -ℤ m))
  falling_signs false true e f h = (from_0 n f, minus_below m (below_0 m e))
  falling_signs true t e f h = absurd (true≢false (sym h))
  falling_signs false false e f h = absurd (true≢false (sym h))

  falling_answer : (s t : Bool) → is_at_least_0 m ≡ s → is_at_least_0 n ≡ t → pos 0 <ℤ n → pos 0 <ℤ (pos 0 -ℤ m)
      → (beq s false && not (beq t false)) ≡ true
  falling_answer false true e f h k = refl
  falling_answer true t e f h k = absurd (apart m (from_0 m e) k)
  falling_answer false false e f h k = absurd (below_up n (below_0 n f) h)

  rising_signs : (s t : Bool) → is_at_least_0 m ≡ s → is_at_least_0 n ≡ t
      → (beq s true && not (beq t true)) ≡ true → (pos 0 ≤ℤ (pos 0 -ℤ n)) × (pos 0 ≤ℤ m)
  rising_signs true false e f h = (minus_below n (below_0 n f), from_0 m e)
  rising_signs true true e f h = absurd (true≢false (sym h))
  rising_signs false t e f h = absurd (true≢false (sym h))

  rising_answer : (s t : Bool) → is_at_least_0 m ≡ s → is_at_least_0 n ≡ t → pos 0 <ℤ (pos 0 -ℤ n) → pos 0 <ℤ m
      → (beq s true && not (beq t true)) ≡ true
  rising_answer true false e f h k = refl
  rising_answer true true e f h k = absurd (apart n (from_0 n f) h)
  rising_answer false t e f h k = absurd (below_up m (below_0 m e) k)

module _ (K : Framed → Type 0) (p z : Framed) (cone : IsCone K) (a b : Framed) (ka : K a) (kb : K b) where
  arc_seen : IsSeen K p z (xor (is_at_least_0 (triple a p z)) (is_at_least_0 (triple b p z))) (arc p z a b)
  unfolding arc xor
  arc_seen = by (is_at_least_0 (triple a p z)) (is_at_least_0 (triple b p z)) refl refl
    where
      by : (s t : Bool) → is_at_least_0 (triple a p z) ≡ s → is_at_least_0 (triple b p z) ≡ t
          → IsSeen K p z (xor s t)
          (xor s t && (beq (is_at_least_0 (triple p a b)) t && not (beq (is_at_least_0 (triple z a b)) t)))
      by true true e f = record { none = λ h. refl; some = λ h. absurd (true≢false (sym h)) }
      by false false e f = record { none = λ h. refl; some = λ h. absurd (true≢false (sym h)) }
      by true false e f =
          let ha = from_0 (triple a p z) e in
          let hb = below_0 (triple b p z) f in
          record {
            none = λ h. absurd (true≢false h);
            some = λ h. record {
              x = triple z a b;
              y = pos 0 -ℤ triple p a b;
              over = mix (pos 0 -ℤ triple b p z) (triple a p z) a b;
              in_cone = cone.mixed (pos 0 -ℤ triple b p z) (triple a p z) a b (minus_below (triple b p z) hb) ha
                  (sum_down (triple a p z) (triple b p z) ha hb) ka kb;
              is = meets a b p z;
              ahead = falling_signs (triple p a b) (triple z a b) (is_at_least_0 (triple p a b))
                  (is_at_least_0 (triple z a b)) refl refl;
              counted_if = falling_answer (triple p a b) (triple z a b) (is_at_least_0 (triple p a b))
                  (is_at_least_0 (triple z a b)) refl refl;
            };
          }
      by false true e f =
          let ha = below_0 (triple a p z) e in
          let hb = from_0 (triple b p z) f in
          record {
            none = λ h. absurd (true≢false h);
            some = λ h. record {
              x = pos 0 -ℤ triple z a b;
              y = triple p a b;
              over = mix (triple b p z) (pos 0 -ℤ triple a p z) a b;
              in_cone = cone.mixed (triple b p z) (pos 0 -ℤ triple a p z) a b hb (minus_below (triple a p z) ha)
                  (sum_up (triple a p z) (triple b p z) ha hb) ka kb;
              is = record {
                w = turned (triple a p z) (triple b p z) (triple z a b) (triple p a b) a.w b.w p.w z.w
                    (meets a b p z).w;
                u = turned (triple a p z) (triple b p z) (triple z a b) (triple p a b) a.u b.u p.u z.u
                    (meets a b p z).u;
                v = turned (triple a p z) (triple b p z) (triple z a b) (triple p a b) a.v b.v p.v z.v
                    (meets a b p z).v;
              };
              ahead = rising_signs (triple p a b) (triple z a b) (is_at_least_0 (triple p a b))
                  (is_at_least_0 (triple z a b)) refl refl;
              counted_if = rising_answer (triple p a b) (triple z a b) (is_at_least_0 (triple p a b))
                  (is_at_least_0 (triple z a b)) refl refl;
            };
          }

cycle_even : (a b c d : Bool) → xor (xor (xor a b) (xor c d)) (xor (xor a c) (xor b d)) ≡ false
cycle_even a b c d =
    ap (λ (z : Bool). xor z (xor (xor a c) (xor b d))) (xor_pairs a b c d)
    ∙ xor_self (xor (xor a c) (xor b d))

-- the edges from `a` to `b` and from `c` to `d`, and those between their ends
pub arcs_even : (K : Framed → Type 0) (p z : Framed) → IsCone K → IsOutside K p → IsOutside K z → (a b c d : Framed)
    → K a → K b → K c → K d
    → xor (xor (arc p z a b) (arc p z c d)) (xor (arc p z a c) (arc p z b d)) ≡ false
arcs_even K p z cone start end a b c d ka kb kc kd =
    let on = λ (e : Framed). is_at_least_0 (triple e p z) in
    even_of_four K p z cone start end (xor (on a) (on b)) (xor (on c) (on d)) (xor (on a) (on c)) (xor (on b) (on d))
    (arc p z a b) (arc p z c d) (arc p z a c) (arc p z b d)
    (arc_seen K p z cone a b ka kb) (arc_seen K p z cone c d kc kd)
    (arc_seen K p z cone a c ka kc) (arc_seen K p z cone b d kb kd)
    (cycle_even (on a) (on b) (on c) (on d))
