-- Where two distances show that an edge misses a square, no mixture of its ends lies in it.
use Rattle.std.proofs.Common.{◌≡◌, ℕ, suc, zero, arith, ℤ, pos, negsuc, ◌+ℤ◌, ◌*ℤ◌, ◌-ℤ◌, ◌≤ℤ◌, ◌<ℤ◌, inl, inr, ◌*◌}
use Rattle.std.proofs.Common.{◌^◌, subst, sym}
use Rattle.std.proofs.lemmas.Int.{ints, by_lt_z}
use Rattle.s2polygon.proofs.Integers.{Expr, at, ◌⊕◌, ◌⊖◌, ◌⊗◌, value, equal, at_most, at_most_parts, less}
use Rattle.s2polygon.proofs.Integers.{below_parts, product_at_least, product_at_most, weaken}
use Rattle.s2polygon.specs.Crosses.{side}
use Rattle.s2polygon.specs.Frames.{normal_u_of, normal_v_of}
use Rattle.s2polygon.specs.Meets.{right_of, left_of, above, below, MeetsSquare}
use Rattle.s2polygon.specs.Tests.{rights, lefts, aboves, belows}
use Rattle.s2polygon.specs.Working.Apart.{AreBehind, AreApart}
use Rattle.s2polygon.specs.declared.frames.Framed.{Framed}
use Rattle.s2polygon.specs.declared.places.Square.{Square}

-- a product of a number above zero and one below
pub product_below : (x y : ℤ) → pos 0 <ℤ x → y <ℤ pos 0 → (x *ℤ y) <ℤ pos 0
product_below (pos (suc a)) (negsuc b) h k = omega (arith, ints)
product_below (pos zero) y h k = absurd (omega (arith, ints))
product_below (pos (suc a)) (pos b) h k = absurd (omega (arith, ints))
product_below (negsuc a) y h k = absurd (omega (arith, ints))

pub product_above : (x y : ℤ) → pos 0 <ℤ x → pos 0 <ℤ y → pos 0 <ℤ (x *ℤ y)
product_above (pos (suc a)) (pos (suc b)) h k = omega (arith, ints)
product_above (pos zero) y h k = absurd (omega (arith, ints))
product_above (pos (suc a)) (pos zero) h k = absurd (omega (arith, ints))
product_above (pos (suc a)) (negsuc b) h k = absurd (omega (arith, ints))
product_above (negsuc a) y h k = absurd (omega (arith, ints))

-- x * a + y * b is below zero, where both are
behind : (x y a b : ℤ) → pos 0 ≤ℤ x → pos 0 ≤ℤ y → pos 0 <ℤ (x +ℤ y) → a <ℤ pos 0 → b <ℤ pos 0 → pos 0 ≤ℤ
    (x *ℤ a +ℤ y *ℤ b) → ⊥
behind x y a b hx hy some ha hb h =
    let p = product_at_most x a hx (weaken a (pos 0) ha) in
    let q = product_at_most y b hy (weaken b (pos 0) hb) in
    by_lt_z (pos 0) x
    (λ (above : pos 0 <ℤ x). let r = product_below x a above ha in
    let s = below_parts (at x ⊗ at a) (at (pos 0)) r in let t = at_most_parts (at y ⊗ at b) (at (pos 0)) q in
    let u = at_most_parts (at (pos 0)) (at x ⊗ at a ⊕ at y ⊗ at b) h in omega arith)
    (λ (none : x ≤ℤ pos 0). let r = product_below y b (omega (arith, ints)) hb in
    let s = below_parts (at y ⊗ at b) (at (pos 0)) r in let t = at_most_parts (at x ⊗ at a) (at (pos 0)) p in
    let u = at_most_parts (at (pos 0)) (at x ⊗ at a ⊕ at y ⊗ at b) h in omega arith)

-- two of them cannot both be at least zero
never_both : (x y ai bi aj bj : ℤ) → pos 0 ≤ℤ x → pos 0 ≤ℤ y → pos 0 <ℤ (x +ℤ y) → ai <ℤ pos 0 → bj <ℤ pos 0
    → pos 0 <ℤ (ai *ℤ bj -ℤ bi *ℤ aj) → pos 0 ≤ℤ (x *ℤ ai +ℤ y *ℤ bi) → pos 0 ≤ℤ (x *ℤ aj +ℤ y *ℤ bj) → ⊥
never_both x y ai bi aj bj hx hy some hi hj turn h k =
    by_lt_z bi (pos 0)
    (λ (wrong : bi <ℤ pos 0). behind x y ai bi hx hy some hi wrong h)
    (λ (right : pos 0 ≤ℤ bi). by_lt_z (pos 0) x
    (λ (positive : pos 0 <ℤ x).
    let p = product_at_least (pos 0 -ℤ bj) (x *ℤ ai +ℤ y *ℤ bi) (omega (arith, ints)) h in
    let q = product_at_least bi (x *ℤ aj +ℤ y *ℤ bj) right k in
    let r = product_above x (ai *ℤ bj -ℤ bi *ℤ aj) positive turn in
    let p_parts = at_most_parts (at (pos 0)) ((at (pos 0) ⊖ at bj) ⊗ (at x ⊗ at ai ⊕ at y ⊗ at bi)) p in
    let q_parts = at_most_parts (at (pos 0)) (at bi ⊗ (at x ⊗ at aj ⊕ at y ⊗ at bj)) q in
    let r_parts = below_parts (at (pos 0)) (at x ⊗ (at ai ⊗ at bj ⊖ at bi ⊗ at aj)) r in
    omega arith)
    (λ (none : x ≤ℤ pos 0).
    let e : x ≡ pos 0 = omega (arith, ints) in
    let r = product_below y bj (omega (arith, ints)) hj in
    let k_at_zero = subst (λ (z : ℤ). pos 0 ≤ℤ (z *ℤ aj +ℤ y *ℤ bj)) e k in
    let s = below_parts (at y ⊗ at bj) (at (pos 0)) r in
    let t = at_most_parts (at (pos 0)) (at (pos 0) ⊗ at aj ⊕ at y ⊗ at bj) k_at_zero in omega arith))

apart_never : (x y pa pb qa qb turn scale : ℤ) → pos 0 ≤ℤ x → pos 0 ≤ℤ y → pos 0 <ℤ (x +ℤ y) → pos 0 <ℤ scale
    → pa *ℤ qb -ℤ pb *ℤ qa ≡ scale *ℤ turn → AreApart (record { at_a = pa; at_b = pb })
    (record { at_a = qa; at_b = qb }) turn
    → pos 0 ≤ℤ (x *ℤ pa +ℤ y *ℤ pb) → pos 0 ≤ℤ (x *ℤ qa +ℤ y *ℤ qb) → ⊥
apart_never x y pa pb qa qb turn scale hx hy some wide e (inl c) h k =
    never_both x y pa pb qa qb hx hy some c.0 c.1 (subst (λ (z : ℤ). pos 0 <ℤ z) (sym e)
    (product_above scale turn wide c.2)) h k
apart_never x y pa pb qa qb turn scale hx hy some wide e (inr c) h k =
    let p = subst (λ (z : ℤ). z <ℤ pos 0) (sym e) (product_below scale turn wide c.2) in
    let q = below_parts (at pa ⊗ at qb ⊖ at pb ⊗ at qa) (at (pos 0)) p in
    never_both x y qa qb pa pb hx hy some c.0 c.1 (less (at (pos 0)) (at qa ⊗ at pb ⊖ at qb ⊗ at pa) (omega arith)) k h

-- the distances of a mixture are mixtures of the distances
beyond_mix : (k : ℕ) (s x y pa wa pb wb : ℤ) → pos 0 ≤ℤ (pos k *ℤ (x *ℤ pa +ℤ y *ℤ pb) -ℤ s *ℤ (x *ℤ wa +ℤ y *ℤ wb))
    → pos 0 ≤ℤ (x *ℤ (pos k *ℤ pa -ℤ s *ℤ wa) +ℤ y *ℤ (pos k *ℤ pb -ℤ s *ℤ wb))
beyond_mix k s x y pa wa pb wb h =
    let p = at_most_parts (at (pos 0)) (at (pos k) ⊗ (at x ⊗ at pa ⊕ at y ⊗ at pb) ⊖ at s ⊗
    (at x ⊗ at wa ⊕ at y ⊗ at wb)) h in
    at_most (at (pos 0)) (at x ⊗ (at (pos k) ⊗ at pa ⊖ at s ⊗ at wa) ⊕ at y ⊗ (at (pos k) ⊗ at pb ⊖ at s ⊗ at wb))
    (omega arith)

short_mix : (k : ℕ) (s x y pa wa pb wb : ℤ) → pos 0 ≤ℤ (s *ℤ (x *ℤ wa +ℤ y *ℤ wb) -ℤ pos k *ℤ (x *ℤ pa +ℤ y *ℤ pb))
    → pos 0 ≤ℤ (x *ℤ (s *ℤ wa -ℤ pos k *ℤ pa) +ℤ y *ℤ (s *ℤ wb -ℤ pos k *ℤ pb))
short_mix k s x y pa wa pb wb h =
    let p = at_most_parts (at (pos 0)) (at s ⊗ (at x ⊗ at wa ⊕ at y ⊗ at wb) ⊖ at (pos k) ⊗
    (at x ⊗ at pa ⊕ at y ⊗ at pb)) h in
    at_most (at (pos 0)) (at x ⊗ (at s ⊗ at wa ⊖ at (pos k) ⊗ at pa) ⊕ at y ⊗ (at s ⊗ at wb ⊖ at (pos k) ⊗ at pb))
    (omega arith)

module _ (k : ℕ) (s t s2 t2 aw au av bw bu bv : ℤ) where
  abbrev pub kk : Expr
  kk = at (pos k)

  abbrev pub sided : Expr → Expr → Expr
  sided s t = kk ⊗ (at au ⊗ at bv ⊖ at av ⊗ at bu) ⊕ s ⊗ (at av ⊗ at bw ⊖ at aw ⊗ at bv) ⊕ t ⊗
      (at aw ⊗ at bu ⊖ at au ⊗ at bw)

  pub rights_aboves : value ((kk ⊗ at au ⊖ at s ⊗ at aw) ⊗ (kk ⊗ at bv ⊖ at t ⊗ at bw) ⊖
      (kk ⊗ at bu ⊖ at s ⊗ at bw) ⊗ (kk ⊗ at av ⊖ at t ⊗ at aw)) ≡ value (kk ⊗ sided (at s) (at t))
  rights_aboves = equal ((kk ⊗ at au ⊖ at s ⊗ at aw) ⊗ (kk ⊗ at bv ⊖ at t ⊗ at bw) ⊖ (kk ⊗ at bu ⊖ at s ⊗ at bw) ⊗
      (kk ⊗ at av ⊖ at t ⊗ at aw)) (kk ⊗ sided (at s) (at t)) (omega arith)

  pub belows_rights : value ((at t2 ⊗ at aw ⊖ kk ⊗ at av) ⊗ (kk ⊗ at bu ⊖ at s ⊗ at bw) ⊖
      (at t2 ⊗ at bw ⊖ kk ⊗ at bv) ⊗ (kk ⊗ at au ⊖ at s ⊗ at aw)) ≡ value (kk ⊗ sided (at s) (at t2))
  belows_rights = equal ((at t2 ⊗ at aw ⊖ kk ⊗ at av) ⊗ (kk ⊗ at bu ⊖ at s ⊗ at bw) ⊖ (at t2 ⊗ at bw ⊖ kk ⊗ at bv) ⊗
      (kk ⊗ at au ⊖ at s ⊗ at aw)) (kk ⊗ sided (at s) (at t2)) (omega arith)

  pub aboves_lefts : value ((kk ⊗ at av ⊖ at t ⊗ at aw) ⊗ (at s2 ⊗ at bw ⊖ kk ⊗ at bu) ⊖
      (kk ⊗ at bv ⊖ at t ⊗ at bw) ⊗ (at s2 ⊗ at aw ⊖ kk ⊗ at au)) ≡ value (kk ⊗ sided (at s2) (at t))
  aboves_lefts = equal ((kk ⊗ at av ⊖ at t ⊗ at aw) ⊗ (at s2 ⊗ at bw ⊖ kk ⊗ at bu) ⊖ (kk ⊗ at bv ⊖ at t ⊗ at bw) ⊗
      (at s2 ⊗ at aw ⊖ kk ⊗ at au)) (kk ⊗ sided (at s2) (at t)) (omega arith)

  pub lefts_belows : value ((at s2 ⊗ at aw ⊖ kk ⊗ at au) ⊗ (at t2 ⊗ at bw ⊖ kk ⊗ at bv) ⊖
      (at s2 ⊗ at bw ⊖ kk ⊗ at bu) ⊗ (at t2 ⊗ at aw ⊖ kk ⊗ at av)) ≡ value (kk ⊗ sided (at s2) (at t2))
  lefts_belows = equal ((at s2 ⊗ at aw ⊖ kk ⊗ at au) ⊗ (at t2 ⊗ at bw ⊖ kk ⊗ at bv) ⊖ (at s2 ⊗ at bw ⊖ kk ⊗ at bu) ⊗
      (at t2 ⊗ at aw ⊖ kk ⊗ at av)) (kk ⊗ sided (at s2) (at t2)) (omega arith)

  pub lefts_rights : value ((at s2 ⊗ at aw ⊖ kk ⊗ at au) ⊗ (kk ⊗ at bu ⊖ at s ⊗ at bw) ⊖
      (at s2 ⊗ at bw ⊖ kk ⊗ at bu) ⊗ (kk ⊗ at au ⊖ at s ⊗ at aw)) ≡ value
      (kk ⊗ (at s2 ⊖ at s) ⊗ (at aw ⊗ at bu ⊖ at au ⊗ at bw))
  lefts_rights = equal ((at s2 ⊗ at aw ⊖ kk ⊗ at au) ⊗ (kk ⊗ at bu ⊖ at s ⊗ at bw) ⊖ (at s2 ⊗ at bw ⊖ kk ⊗ at bu) ⊗
      (kk ⊗ at au ⊖ at s ⊗ at aw)) (kk ⊗ (at s2 ⊖ at s) ⊗ (at aw ⊗ at bu ⊖ at au ⊗ at bw)) (omega arith)

  pub aboves_belows : value ((kk ⊗ at av ⊖ at t ⊗ at aw) ⊗ (at t2 ⊗ at bw ⊖ kk ⊗ at bv) ⊖
      (kk ⊗ at bv ⊖ at t ⊗ at bw) ⊗ (at t2 ⊗ at aw ⊖ kk ⊗ at av)) ≡ value
      (kk ⊗ (at t2 ⊖ at t) ⊗ (at av ⊗ at bw ⊖ at aw ⊗ at bv))
  aboves_belows = equal ((kk ⊗ at av ⊖ at t ⊗ at aw) ⊗ (at t2 ⊗ at bw ⊖ kk ⊗ at bv) ⊖ (kk ⊗ at bv ⊖ at t ⊗ at bw) ⊗
      (at t2 ⊗ at aw ⊖ kk ⊗ at av)) (kk ⊗ (at t2 ⊖ at t) ⊗ (at av ⊗ at bw ⊖ at aw ⊗ at bv)) (omega arith)

pub scale_above : pos 0 <ℤ pos (3 * 2 ^ 60)
scale_above = omega (arith, ints)

of_rights : (a b : Framed) (q : Square) (m : MeetsSquare a b q) → pos 0 ≤ℤ
    (m.x *ℤ right_of q.u0 a +ℤ m.y *ℤ right_of q.u0 b)
of_rights a b q m = beyond_mix (3 * 2 ^ 60) q.u0 m.x m.y a.u a.w b.u b.w m.inside.first_column

pub rights_behind : (a b : Framed) (q : Square) → AreBehind (rights q a b) → ¬ (MeetsSquare a b q)
rights_behind a b q h m = behind m.x m.y (right_of q.u0 a) (right_of q.u0 b) m.x_at_least m.y_at_least m.not_both h.0
    h.1 (of_rights a b q m)

of_lefts : (a b : Framed) (q : Square) (m : MeetsSquare a b q) → pos 0 ≤ℤ
    (m.x *ℤ left_of q.u1 a +ℤ m.y *ℤ left_of q.u1 b)
of_lefts a b q m = short_mix (3 * 2 ^ 60) q.u1 m.x m.y a.u a.w b.u b.w m.inside.last_column

pub lefts_behind : (a b : Framed) (q : Square) → AreBehind (lefts q a b) → ¬ (MeetsSquare a b q)
lefts_behind a b q h m = behind m.x m.y (left_of q.u1 a) (left_of q.u1 b) m.x_at_least m.y_at_least m.not_both h.0
    h.1 (of_lefts a b q m)

of_aboves : (a b : Framed) (q : Square) (m : MeetsSquare a b q) → pos 0 ≤ℤ (m.x *ℤ above q.v0 a +ℤ m.y *ℤ above q.v0 b)
of_aboves a b q m = beyond_mix (3 * 2 ^ 60) q.v0 m.x m.y a.v a.w b.v b.w m.inside.first_row

pub aboves_behind : (a b : Framed) (q : Square) → AreBehind (aboves q a b) → ¬ (MeetsSquare a b q)
aboves_behind a b q h m = behind m.x m.y (above q.v0 a) (above q.v0 b) m.x_at_least m.y_at_least m.not_both h.0 h.1
    (of_aboves a b q m)

of_belows : (a b : Framed) (q : Square) (m : MeetsSquare a b q) → pos 0 ≤ℤ (m.x *ℤ below q.v1 a +ℤ m.y *ℤ below q.v1 b)
of_belows a b q m = short_mix (3 * 2 ^ 60) q.v1 m.x m.y a.v a.w b.v b.w m.inside.last_row

pub belows_behind : (a b : Framed) (q : Square) → AreBehind (belows q a b) → ¬ (MeetsSquare a b q)
belows_behind a b q h m = behind m.x m.y (below q.v1 a) (below q.v1 b) m.x_at_least m.y_at_least m.not_both h.0 h.1
    (of_belows a b q m)

pub rights_aboves_apart : (a b : Framed) (q : Square) → AreApart (rights q a b) (aboves q a b) (side q.u0 q.v0 a b)
    → ¬ (MeetsSquare a b q)
rights_aboves_apart a b q h m = apart_never m.x m.y (right_of q.u0 a) (right_of q.u0 b) (above q.v0 a) (above q.v0 b)
    (side q.u0 q.v0 a b) (pos (3 * 2 ^ 60))
    m.x_at_least m.y_at_least m.not_both scale_above
    (rights_aboves (3 * 2 ^ 60) q.u0 q.v0 q.u1 q.v1 a.w a.u a.v b.w b.u b.v) h (of_rights a b q m) (of_aboves a b q m)

pub belows_rights_apart : (a b : Framed) (q : Square) → AreApart (belows q a b) (rights q a b) (side q.u0 q.v1 a b)
    → ¬ (MeetsSquare a b q)
belows_rights_apart a b q h m = apart_never m.x m.y (below q.v1 a) (below q.v1 b) (right_of q.u0 a) (right_of q.u0 b)
    (side q.u0 q.v1 a b) (pos (3 * 2 ^ 60))
    m.x_at_least m.y_at_least m.not_both scale_above
    (belows_rights (3 * 2 ^ 60) q.u0 q.v0 q.u1 q.v1 a.w a.u a.v b.w b.u b.v) h (of_belows a b q m) (of_rights a b q m)

pub aboves_lefts_apart : (a b : Framed) (q : Square) → AreApart (aboves q a b) (lefts q a b) (side q.u1 q.v0 a b) → ¬
    (MeetsSquare a b q)
aboves_lefts_apart a b q h m = apart_never m.x m.y (above q.v0 a) (above q.v0 b) (left_of q.u1 a) (left_of q.u1 b)
    (side q.u1 q.v0 a b) (pos (3 * 2 ^ 60))
    m.x_at_least m.y_at_least m.not_both scale_above
    (aboves_lefts (3 * 2 ^ 60) q.u0 q.v0 q.u1 q.v1 a.w a.u a.v b.w b.u b.v) h (of_aboves a b q m) (of_lefts a b q m)

pub lefts_belows_apart : (a b : Framed) (q : Square) → AreApart (lefts q a b) (belows q a b) (side q.u1 q.v1 a b) → ¬
    (MeetsSquare a b q)
lefts_belows_apart a b q h m = apart_never m.x m.y (left_of q.u1 a) (left_of q.u1 b) (below q.v1 a) (below q.v1 b)
    (side q.u1 q.v1 a b) (pos (3 * 2 ^ 60))
    m.x_at_least m.y_at_least m.not_both scale_above
    (lefts_belows (3 * 2 ^ 60) q.u0 q.v0 q.u1 q.v1 a.w a.u a.v b.w b.u b.v) h (of_lefts a b q m) (of_belows a b q m)

pub lefts_rights_apart : (a b : Framed) (q : Square) → q.u0 <ℤ q.u1 → AreApart (lefts q a b) (rights q a b)
    (normal_v_of a b) → ¬ (MeetsSquare a b q)
lefts_rights_apart a b q wide h m = apart_never m.x m.y (left_of q.u1 a) (left_of q.u1 b) (right_of q.u0 a)
    (right_of q.u0 b) (normal_v_of a b) (pos (3 * 2 ^ 60) *ℤ (q.u1 -ℤ q.u0))
    m.x_at_least m.y_at_least m.not_both (product_above (pos (3 * 2 ^ 60)) (q.u1 -ℤ q.u0) scale_above
    (omega (arith, ints)))
    (lefts_rights (3 * 2 ^ 60) q.u0 q.v0 q.u1 q.v1 a.w a.u a.v b.w b.u b.v) h (of_lefts a b q m) (of_rights a b q m)

pub aboves_belows_apart : (a b : Framed) (q : Square) → q.v0 <ℤ q.v1 → AreApart (aboves q a b) (belows q a b)
    (normal_u_of a b) → ¬ (MeetsSquare a b q)
aboves_belows_apart a b q wide h m = apart_never m.x m.y (above q.v0 a) (above q.v0 b) (below q.v1 a) (below q.v1 b)
    (normal_u_of a b) (pos (3 * 2 ^ 60) *ℤ (q.v1 -ℤ q.v0))
    m.x_at_least m.y_at_least m.not_both (product_above (pos (3 * 2 ^ 60)) (q.v1 -ℤ q.v0) scale_above
    (omega (arith, ints)))
    (aboves_belows (3 * 2 ^ 60) q.u0 q.v0 q.u1 q.v1 a.w a.u a.v b.w b.u b.v) h (of_aboves a b q m) (of_belows a b q m)
