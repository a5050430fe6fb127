-- An edge whose ends are moved meets what it met, with a greater margin.
use Rattle.std.proofs.Common.{◌≡◌, refl, sym, ap, ap₂, ◌∙◌, ℕ, zero, suc, ◌+◌, ◌-◌, ◌*◌, ◌/◌, ◌^◌, ◌≤◌, ◌<◌, arith, ℤ}
use Rattle.std.proofs.Common.{pos}
use Rattle.std.proofs.Common.{negsuc, neg_ℤ, ◌+ℤ◌, ◌-ℤ◌, ◌*ℤ◌, ◌≤ℤ◌, ◌<ℤ◌, inl, unsigned_abs, mul-le-mul_right}
use Rattle.std.proofs.Common.{mul-le-mul_left}
use Rattle.std.proofs.Common.{div-add-mod', mod-lt}
use Rattle.std.proofs.lemmas.Int.{ints, unsigned_abs-mul}
use Rattle.s2polygon.proofs.Along.{along_follows, high, low}
use Rattle.s2polygon.proofs.Integers.{at, ◌⊕◌, ◌⊖◌, ◌⊗◌, equal, at_most, at_most_parts, factor_at_least}
use Rattle.s2polygon.proofs.Integers.{product_at_least}
use Rattle.s2polygon.proofs.Larger.{before}
use Rattle.s2polygon.proofs.Tests.{widened_wide}
use Rattle.s2polygon.proofs.Turned.{minus_is}
use Rattle.s2polygon.specs.Cells.{square_of, widened}
use Rattle.s2polygon.specs.Directions.{Point}
use Rattle.s2polygon.specs.Frames.{in_frame}
use Rattle.s2polygon.specs.Meets.{InSquare, MeetsSquare, mix}
use Rattle.s2polygon.specs.Moves.{IsNearBy, PassesNear, StaysClear, margin_of_moved, sum_of}
use Rattle.s2polygon.specs.Places.{along}
use Rattle.s2polygon.specs.declared.directions.Edge.{Edge}
use Rattle.s2polygon.specs.declared.frames.Framed.{Framed}
use Rattle.s2polygon.specs.declared.places.Square.{Square}

-- ---- numbers of at most a size
pub record IsWithin (most z : ℤ) : Type 0 where
  pub low : (pos 0 -ℤ most) ≤ℤ z
  pub high : z ≤ℤ most

within_minus : (most z : ℤ) → IsWithin most (neg_ℤ z) → IsWithin most z
within_minus most z h = record { low = omega (arith, ints, h.high); high = omega (arith, ints, h.low) }

pub within_size : (n : ℕ) (z : ℤ) → unsigned_abs z ≤ n → IsWithin (pos n) z
within_size n (pos i) h = record { low = omega (arith, ints, h); high = omega (arith, ints, h) }
within_size n (negsuc i) h = record { low = omega (arith, ints, h); high = omega (arith, ints, h) }

minus_mix : (x y p q : ℤ) → x *ℤ neg_ℤ p +ℤ y *ℤ neg_ℤ q ≡ neg_ℤ (x *ℤ p +ℤ y *ℤ q)
minus_mix x y p q =
    ap₂ (λ (s t : ℤ). x *ℤ s +ℤ y *ℤ t) (minus_is p) (minus_is q)
    ∙ equal (at x ⊗ (at (pos 0) ⊖ at p) ⊕ at y ⊗ (at (pos 0) ⊖ at q)) (at (pos 0) ⊖ (at x ⊗ at p ⊕ at y ⊗ at q))
    (omega arith)
    ∙ sym (minus_is (x *ℤ p +ℤ y *ℤ q))

minus_apart : (d s p q : ℤ) → d *ℤ (neg_ℤ q -ℤ s *ℤ neg_ℤ p) ≡ neg_ℤ (d *ℤ (q -ℤ s *ℤ p))
minus_apart d s p q =
    ap₂ (λ (x y : ℤ). d *ℤ (x -ℤ s *ℤ y)) (minus_is q) (minus_is p)
    ∙ equal (at d ⊗ ((at (pos 0) ⊖ at q) ⊖ at s ⊗ (at (pos 0) ⊖ at p))) (at (pos 0) ⊖ at d ⊗ (at q ⊖ at s ⊗ at p))
    (omega arith)
    ∙ sym (minus_is (d *ℤ (q -ℤ s *ℤ p)))

within_back : (most x y p q : ℤ) → IsWithin most (x *ℤ neg_ℤ p +ℤ y *ℤ neg_ℤ q) → IsWithin most (x *ℤ p +ℤ y *ℤ q)
within_back most x y p q h = within_minus most (x *ℤ p +ℤ y *ℤ q) (rw (minus_mix x y p q) at h)

minus_within : (most z : ℤ) → IsWithin most z → IsWithin most (neg_ℤ z)
minus_within most z h = record { low = omega (arith, ints, h.high); high = omega (arith, ints, h.low) }

-- products of such numbers
times_size : (most z s : ℤ) → IsWithin most z → (z *ℤ s) ≤ℤ (most *ℤ pos (unsigned_abs s))
times_size most z (pos n) h =
    let f = at_most_parts (at (pos 0)) ((at most ⊖ at z) ⊗ at (pos n))
    (product_at_least (most -ℤ z) (pos n) (omega (arith, ints, h.high)) (omega (arith, ints))) in
    at_most (at z ⊗ at (pos n)) (at most ⊗ at (pos n)) (omega arith)
times_size most z (negsuc n) h =
    let f = at_most_parts (at (pos 0)) ((at most ⊕ at z) ⊗ at (pos (suc n)))
    (product_at_least (most +ℤ z) (pos (suc n)) (omega (arith, ints, h.low)) (omega (arith, ints))) in
    let e : negsuc n ≡ pos 0 -ℤ pos (suc n) = omega (arith, ints) in
    let g = at_most (at z ⊗ (at (pos 0) ⊖ at (pos (suc n)))) (at most ⊗ at (pos (suc n))) (omega arith) in
    rw e g

pub least_product : (m n : ℕ) (x y : ℤ) → IsWithin (pos m) x → IsWithin (pos n) y → (pos 0 -ℤ pos (m * n)) ≤ℤ (x *ℤ y)
least_product m n x (pos i) h k =
    let f = at_most_parts (at (pos 0)) ((at (pos m) ⊕ at x) ⊗ at (pos i))
    (product_at_least (pos m +ℤ x) (pos i) (omega (arith, ints, h.low)) (omega (arith, ints))) in
    let l : i ≤ n = omega (arith, ints, k.high) in
    let g = mul-le-mul_left m l in
    at_most (at (pos 0) ⊖ at (pos (m * n))) (at x ⊗ at (pos i)) (omega arith)
least_product m n x (negsuc i) h k =
    let f = at_most_parts (at (pos 0)) ((at (pos m) ⊖ at x) ⊗ at (pos (suc i)))
    (product_at_least (pos m -ℤ x) (pos (suc i)) (omega (arith, ints, h.high)) (omega (arith, ints))) in
    let l : suc i ≤ n = omega (arith, ints, k.low) in
    let g = mul-le-mul_left m l in
    let e : negsuc i ≡ pos 0 -ℤ pos (suc i) = omega (arith, ints) in
    let o = at_most (at (pos 0) ⊖ at (pos (m * n))) (at x ⊗ (at (pos 0) ⊖ at (pos (suc i)))) (omega arith) in
    rw e o

-- ---- a mixture of an edge's ends is as large as the edge stays clear of the center
record IsSum (h : ℕ) (most : ℤ) (i j : ℕ) (ax ay az bx by bz sx sy sz : ℤ) (nx ny nz : ℕ) : Type 0 where
  x : ((pos i *ℤ ax +ℤ pos j *ℤ bx) *ℤ sx) ≤ℤ (most *ℤ pos nx)
  y : ((pos i *ℤ ay +ℤ pos j *ℤ by) *ℤ sy) ≤ℤ (most *ℤ pos ny)
  z : ((pos i *ℤ az +ℤ pos j *ℤ bz) *ℤ sz) ≤ℤ (most *ℤ pos nz)
  a : pos (h * (nx + ny + nz)) ≤ℤ (ax *ℤ sx +ℤ ay *ℤ sy +ℤ az *ℤ sz)
  b : pos (h * (nx + ny + nz)) ≤ℤ (bx *ℤ sx +ℤ by *ℤ sy +ℤ bz *ℤ sz)

high_sum : (h : ℕ) (most : ℤ) (i j : ℕ) (ax ay az bx by bz sx sy sz : ℤ) (nx ny nz : ℕ) → 0 < nx + ny + nz
    → IsSum h most i j ax ay az bx by bz sx sy sz nx ny nz → pos (h * (i + j)) ≤ℤ most
high_sum h most i j ax ay az bx by bz sx sy sz nx ny nz some s =
    let fx = at_most_parts ((at (pos i) ⊗ at ax ⊕ at (pos j) ⊗ at bx) ⊗ at sx) (at most ⊗ at (pos nx)) s.x in
    let fy = at_most_parts ((at (pos i) ⊗ at ay ⊕ at (pos j) ⊗ at by) ⊗ at sy) (at most ⊗ at (pos ny)) s.y in
    let fz = at_most_parts ((at (pos i) ⊗ at az ⊕ at (pos j) ⊗ at bz) ⊗ at sz) (at most ⊗ at (pos nz)) s.z in
    let da = (ax *ℤ sx +ℤ ay *ℤ sy +ℤ az *ℤ sz) -ℤ pos (h * (nx + ny + nz)) in
    let db = (bx *ℤ sx +ℤ by *ℤ sy +ℤ bz *ℤ sz) -ℤ pos (h * (nx + ny + nz)) in
    let fa = at_most_parts (at (pos 0)) (at (pos i) ⊗ ((at ax ⊗ at sx ⊕ at ay ⊗ at sy ⊕ at az ⊗ at sz) ⊖ at
    (pos (h * (nx + ny + nz)))))
    (product_at_least (pos i) da (omega (arith, ints)) (rest (pos (h * (nx + ny + nz)))
    (ax *ℤ sx +ℤ ay *ℤ sy +ℤ az *ℤ sz) s.a)) in
    let fb = at_most_parts (at (pos 0)) (at (pos j) ⊗ ((at bx ⊗ at sx ⊕ at by ⊗ at sy ⊕ at bz ⊗ at sz) ⊖ at
    (pos (h * (nx + ny + nz)))))
    (product_at_least (pos j) db (omega (arith, ints)) (rest (pos (h * (nx + ny + nz)))
    (bx *ℤ sx +ℤ by *ℤ sy +ℤ bz *ℤ sz) s.b)) in
    let g = at_most (at (pos 0)) (at (pos (nx + ny + nz)) ⊗ (at most ⊖ at (pos (h * (i + j))))) (omega arith) in
    back (pos (h * (i + j))) most
    (factor_at_least (pos (nx + ny + nz)) (most -ℤ pos (h * (i + j))) (above (nx + ny + nz) some) g)
  where
    rest : (p q : ℤ) → p ≤ℤ q → pos 0 ≤ℤ (q -ℤ p)
    rest p q l = omega (arith, ints)

    back : (p q : ℤ) → pos 0 ≤ℤ (q -ℤ p) → p ≤ℤ q
    back p q l = omega (arith, ints)

    above : (n : ℕ) → 0 < n → pos 0 <ℤ pos n
    above n l = omega (arith, ints)

high_mix : (h : ℕ) (most : ℤ) (i j : ℕ) (e : Edge) → StaysClear h e
    → IsWithin most (pos i *ℤ e.a.x +ℤ pos j *ℤ e.b.x) → IsWithin most (pos i *ℤ e.a.y +ℤ pos j *ℤ e.b.y)
    → IsWithin most (pos i *ℤ e.a.z +ℤ pos j *ℤ e.b.z) → pos (h * (i + j)) ≤ℤ most
high_mix h most i j e clear x y z =
    let s = sum_of e.a e.b in
    high_sum h most i j e.a.x e.a.y e.a.z e.b.x e.b.y e.b.z s.x s.y s.z (unsigned_abs s.x) (unsigned_abs s.y)
    (unsigned_abs s.z) clear.some (record {
      x = times_size most (pos i *ℤ e.a.x +ℤ pos j *ℤ e.b.x) s.x x;
      y = times_size most (pos i *ℤ e.a.y +ℤ pos j *ℤ e.b.y) s.y y;
      z = times_size most (pos i *ℤ e.a.z +ℤ pos j *ℤ e.b.z) s.z z;
      a = clear.a;
      b = clear.b;
    })

-- in the frame of a face
pub record AllWithin (most : ℤ) (i j : ℕ) (a b : Framed) : Type 0 where
  pub w : IsWithin most (pos i *ℤ a.w +ℤ pos j *ℤ b.w)
  pub u : IsWithin most (pos i *ℤ a.u +ℤ pos j *ℤ b.u)
  pub v : IsWithin most (pos i *ℤ a.v +ℤ pos j *ℤ b.v)

pub high_in_frame : (f h : ℕ) (most : ℤ) (i j : ℕ) (e : Edge) → StaysClear h e
    → AllWithin most i j (in_frame f e.a) (in_frame f e.b) → pos (h * (i + j)) ≤ℤ most
high_in_frame zero h most i j e c k = high_mix h most i j e c k.w k.u k.v
high_in_frame (suc zero) h most i j e c k =
    high_mix h most i j e c (within_back most (pos i) (pos j) e.a.x e.b.x k.u) k.w k.v
high_in_frame (suc (suc zero)) h most i j e c k =
    high_mix h most i j e c (within_back most (pos i) (pos j) e.a.x e.b.x k.u)
    (within_back most (pos i) (pos j) e.a.y e.b.y k.v) k.w
high_in_frame (suc (suc (suc zero))) h most i j e c k =
    high_mix h most i j e c (within_back most (pos i) (pos j) e.a.x e.b.x k.w)
    (within_back most (pos i) (pos j) e.a.y e.b.y k.v) (within_back most (pos i) (pos j) e.a.z e.b.z k.u)
high_in_frame (suc (suc (suc (suc zero)))) h most i j e c k =
    high_mix h most i j e c k.v (within_back most (pos i) (pos j) e.a.y e.b.y k.w)
    (within_back most (pos i) (pos j) e.a.z e.b.z k.u)
high_in_frame (suc (suc (suc (suc (suc n))))) h most i j e c k =
    high_mix h most i j e c k.v k.u (within_back most (pos i) (pos j) e.a.z e.b.z k.w)

-- ---- ends that are moved, in the frame of a face
abbrev pub Apart : ℕ → ℕ → ℕ → ℤ → ℤ → Type 0
Apart num den s p q = IsWithin (pos (num * s)) (pos den *ℤ (q -ℤ pos s *ℤ p))

apart : (num den s : ℕ) (p q : ℤ) → IsNearBy num den s p q → Apart num den s p q
apart num den s p q h =
    within_size (num * s) (pos den *ℤ (q -ℤ pos s *ℤ p)) (rw (unsigned_abs-mul (pos den) (q -ℤ pos s *ℤ p)) h)

apart_minus : (num den s : ℕ) (p q : ℤ) → IsNearBy num den s p q → Apart num den s (neg_ℤ p) (neg_ℤ q)
apart_minus num den s p q h =
    rw (minus_apart (pos den) (pos s) p q)
    (minus_within (pos (num * s)) (pos den *ℤ (q -ℤ pos s *ℤ p)) (apart num den s p q h))

pub record AllApart (num den s : ℕ) (p q : Framed) : Type 0 where
  pub w : Apart num den s p.w q.w
  pub u : Apart num den s p.u q.u
  pub v : Apart num den s p.v q.v

pub apart_in_frame : (f num den : ℕ) (p q : Point) (n : PassesNear num den p q)
    → AllApart num den n.scale (in_frame f p) (in_frame f q)
apart_in_frame zero num den p q n = record {
  w = apart num den n.scale p.x q.x n.x;
  u = apart num den n.scale p.y q.y n.y;
  v = apart num den n.scale p.z q.z n.z;
}
apart_in_frame (suc zero) num den p q n = record {
  w = apart num den n.scale p.y q.y n.y;
  u = apart_minus num den n.scale p.x q.x n.x;
  v = apart num den n.scale p.z q.z n.z;
}
apart_in_frame (suc (suc zero)) num den p q n = record {
  w = apart num den n.scale p.z q.z n.z;
  u = apart_minus num den n.scale p.x q.x n.x;
  v = apart_minus num den n.scale p.y q.y n.y;
}
apart_in_frame (suc (suc (suc zero))) num den p q n = record {
  w = apart_minus num den n.scale p.x q.x n.x;
  u = apart_minus num den n.scale p.z q.z n.z;
  v = apart_minus num den n.scale p.y q.y n.y;
}
apart_in_frame (suc (suc (suc (suc zero)))) num den p q n = record {
  w = apart_minus num den n.scale p.y q.y n.y;
  u = apart_minus num den n.scale p.z q.z n.z;
  v = apart num den n.scale p.x q.x n.x;
}
apart_in_frame (suc (suc (suc (suc (suc k))))) num den p q n = record {
  w = apart_minus num den n.scale p.z q.z n.z;
  u = apart num den n.scale p.y q.y n.y;
  v = apart num den n.scale p.x q.x n.x;
}

-- ---- mixtures that are moved
-- one coordinate of a mixture, and the same of the moved one
pub mix_apart : (num den i j s t : ℕ) (p q p2 q2 : ℤ) → Apart num den s p p2 → Apart num den t q q2
    → IsWithin (pos (num * (i * s + j * t)))
    (pos den *ℤ ((pos i *ℤ p2 +ℤ pos j *ℤ q2) -ℤ (pos (i * s) *ℤ p +ℤ pos (j * t) *ℤ q)))
mix_apart num den i j s t p q p2 q2 h k =
    record {
      low = at_most (at (pos 0) ⊖ at (pos (num * (i * s + j * t)))) (at (pos den) ⊗ ((at (pos i) ⊗ at p2 ⊕ at (pos j) ⊗
          at q2) ⊖ (at (pos (i * s)) ⊗ at p ⊕ at (pos (j * t)) ⊗ at q))) (
          let f = at_most_parts (at (pos i) ⊗ (at (pos 0) ⊖ at (pos (num * s)))) (at (pos i) ⊗ (at (pos den) ⊗
          (at p2 ⊖ at (pos s) ⊗ at p))) (scaled i (pos 0 -ℤ pos (num * s)) (pos den *ℤ (p2 -ℤ pos s *ℤ p)) h.low) in
          let g = at_most_parts (at (pos j) ⊗ (at (pos 0) ⊖ at (pos (num * t)))) (at (pos j) ⊗ (at (pos den) ⊗
          (at q2 ⊖ at (pos t) ⊗ at q))) (scaled j (pos 0 -ℤ pos (num * t)) (pos den *ℤ (q2 -ℤ pos t *ℤ q)) k.low) in
          omega arith);
      high = at_most (at (pos den) ⊗ ((at (pos i) ⊗ at p2 ⊕ at (pos j) ⊗
          at q2) ⊖ (at (pos (i * s)) ⊗ at p ⊕ at (pos (j * t)) ⊗ at q))) (at (pos (num * (i * s + j * t)))) (
          let f = at_most_parts (at (pos i) ⊗ (at (pos den) ⊗ (at p2 ⊖ at (pos s) ⊗ at p))) (at (pos i) ⊗
          at (pos (num * s))) (scaled i (pos den *ℤ (p2 -ℤ pos s *ℤ p)) (pos (num * s)) h.high) in
          let g = at_most_parts (at (pos j) ⊗ (at (pos den) ⊗ (at q2 ⊖ at (pos t) ⊗ at q))) (at (pos j) ⊗
          at (pos (num * t))) (scaled j (pos den *ℤ (q2 -ℤ pos t *ℤ q)) (pos (num * t)) k.high) in
          omega arith);
    }
  where
    scaled : (n : ℕ) (x y : ℤ) → x ≤ℤ y → (pos n *ℤ x) ≤ℤ (pos n *ℤ y)
    scaled n x y l =
        let f = at_most_parts (at (pos 0)) (at (pos n) ⊗ (at y ⊖ at x))
        (product_at_least (pos n) (y -ℤ x) (omega (arith, ints)) (omega (arith, ints))) in
        at_most (at (pos n) ⊗ at x) (at (pos n) ⊗ at y) (omega arith)

-- ---- one side of a square
-- `n` is the greater margin, `more` by how much it is greater, `k` the scale and `w` the coordinate along the axis
pub record IsPaidFor (k num den n more g : ℕ) (w : ℤ) : Type 0 where
  pub some : 0 < den
  pub enough : pos ((2 * k + n) * (num * g)) ≤ℤ (pos (den * more) *ℤ w)

pub above_none : (n : ℕ) → 0 < n → pos 0 <ℤ pos n
above_none n l = omega (arith, ints)

pub from_none : (n : ℕ) → pos 0 ≤ℤ pos n
from_none n = omega (arith, ints)

module _ (k num den n more g : ℕ) (w2 : ℤ) (h : IsPaidFor k num den n more g w2) where
  by_parts : (far near x y z v : ℤ) → near ≡ far +ℤ pos more → IsWithin (pos (k + n)) far
      → IsWithin (pos (num * g)) (z -ℤ x) → IsWithin (pos (num * g)) (v -ℤ y)
      → pos 0 ≤ℤ (pos k *ℤ z -ℤ near *ℤ v) → pos ((2 * k + n) * (num * g)) ≤ℤ (pos more *ℤ v)
      → pos 0 ≤ℤ (pos k *ℤ x -ℤ far *ℤ y)
  by_parts far near x y z v e l c d o paid =
      let first = at_most_parts (at (pos 0)) (at (pos k) ⊗ (at (pos (num * g)) ⊖ (at z ⊖ at x)))
      (product_at_least (pos k) (pos (num * g) -ℤ (z -ℤ x)) (from_none k) (omega (arith, ints, c.high))) in
      let second = at_most_parts (at (pos 0) ⊖ at (pos ((k + n) * (num * g)))) (at far ⊗ (at v ⊖ at y))
      (least_product (k + n) (num * g) far (v -ℤ y) l d) in
      let third = at_most_parts (at (pos 0)) (at (pos k) ⊗ at z ⊖ (at far ⊕ at (pos more)) ⊗ at v) (rw e at o) in
      let fourth = at_most_parts (at (pos ((2 * k + n) * (num * g)))) (at (pos more) ⊗ at v) paid in
      at_most (at (pos 0)) (at (pos k) ⊗ at x ⊖ at far ⊗ at y) (omega arith)

  -- what lies beyond a line lies beyond it with the greater margin
  stays_beyond : (far near p w p2 : ℤ) → near ≡ far +ℤ pos more → IsWithin (pos (k + n)) far
      → IsWithin (pos (num * g)) (pos den *ℤ (p2 -ℤ p)) → IsWithin (pos (num * g)) (pos den *ℤ (w2 -ℤ w))
      → pos 0 ≤ℤ (pos k *ℤ p2 -ℤ near *ℤ w2) → pos 0 ≤ℤ (pos k *ℤ p -ℤ far *ℤ w)
  stays_beyond far near p w p2 e l a b i =
      let o = at_most_parts (at (pos 0)) (at (pos den) ⊗ (at (pos k) ⊗ at p2 ⊖ at near ⊗ at w2))
      (product_at_least (pos den) (pos k *ℤ p2 -ℤ near *ℤ w2) (from_none den) i) in
      let paid = at_most_parts (at (pos ((2 * k + n) * (num * g)))) (at (pos (den * more)) ⊗ at w2) h.enough in
      let r = by_parts far near (pos den *ℤ p) (pos den *ℤ w) (pos den *ℤ p2) (pos den *ℤ w2) e l
      (rw (spread p2 p) at a) (rw (spread w2 w) at b)
      (at_most (at (pos 0)) (at (pos k) ⊗ (at (pos den) ⊗ at p2) ⊖ at near ⊗ (at (pos den) ⊗ at w2)) (omega arith))
      (at_most (at (pos ((2 * k + n) * (num * g)))) (at (pos more) ⊗ (at (pos den) ⊗ at w2)) (omega arith)) in
      let f = at_most_parts (at (pos 0)) (at (pos k) ⊗ (at (pos den) ⊗ at p) ⊖ at far ⊗ (at (pos den) ⊗ at w)) r in
      factor_at_least (pos den) (pos k *ℤ p -ℤ far *ℤ w) (above_none den h.some)
      (at_most (at (pos 0)) (at (pos den) ⊗ (at (pos k) ⊗ at p ⊖ at far ⊗ at w)) (omega arith))
    where
      spread : (x y : ℤ) → pos den *ℤ (x -ℤ y) ≡ pos den *ℤ x -ℤ pos den *ℤ y
      spread x y = equal (at (pos den) ⊗ (at x ⊖ at y)) (at (pos den) ⊗ at x ⊖ at (pos den) ⊗ at y) (omega arith)

  -- and what lies short of it
  stays_short : (far near p w p2 : ℤ) → far ≡ near +ℤ pos more → IsWithin (pos (k + n)) far
      → IsWithin (pos (num * g)) (pos den *ℤ (p2 -ℤ p)) → IsWithin (pos (num * g)) (pos den *ℤ (w2 -ℤ w))
      → pos 0 ≤ℤ (near *ℤ w2 -ℤ pos k *ℤ p2) → pos 0 ≤ℤ (far *ℤ w -ℤ pos k *ℤ p)
  stays_short far near p w p2 e l a b i =
      let o = at_most_parts (at (pos 0)) (at near ⊗ at w2 ⊖ at (pos k) ⊗ at p2) i in
      let r = stays_beyond (pos 0 -ℤ far) (pos 0 -ℤ near) (pos 0 -ℤ p) w (pos 0 -ℤ p2) (omega (arith, ints, e))
      (record { low = omega (arith, ints, l.high); high = omega (arith, ints, l.low) })
      (rw (turned p2 p) (record { low = omega (arith, ints, a.high); high = omega (arith, ints, a.low) })) b
      (at_most (at (pos 0)) (at (pos k) ⊗ (at (pos 0) ⊖ at p2) ⊖ (at (pos 0) ⊖ at near) ⊗ at w2) (omega arith)) in
      let f = at_most_parts (at (pos 0)) (at (pos k) ⊗ (at (pos 0) ⊖ at p) ⊖ (at (pos 0) ⊖ at far) ⊗ at w) r in
      at_most (at (pos 0)) (at far ⊗ at w ⊖ at (pos k) ⊗ at p) (omega arith)
    where
      turned : (x y : ℤ) → pos den *ℤ ((pos 0 -ℤ x) -ℤ (pos 0 -ℤ y)) ≡ pos 0 -ℤ pos den *ℤ (x -ℤ y)
      turned x y = equal (at (pos den) ⊗ ((at (pos 0) ⊖ at x) ⊖ (at (pos 0) ⊖ at y)))
          (at (pos 0) ⊖ at (pos den) ⊗ (at x ⊖ at y)) (omega arith)

-- ---- how large the coordinate along the axis is
-- a coordinate of a direction in a square, with a margin of at most a third of the scale
beside_axis : (k m w : ℕ) (line2 line p : ℤ) → 0 < k → 3 * m ≤ k → IsWithin (pos k) line → IsWithin (pos k) line2
    → pos 0 ≤ℤ (pos k *ℤ p -ℤ (line -ℤ pos m) *ℤ pos w) → pos 0 ≤ℤ ((line2 +ℤ pos m) *ℤ pos w -ℤ pos k *ℤ p)
    → IsWithin (pos (4 * w)) (pos 3 *ℤ p)
beside_axis k m w line2 line p some third l o h j =
    let a = at_most_parts (at (pos 0)) (at (pos k) ⊗ at p ⊖ (at line ⊖ at (pos m)) ⊗ at (pos w)) h in
    let b = at_most_parts (at (pos 0)) ((at line2 ⊕ at (pos m)) ⊗ at (pos w) ⊖ at (pos k) ⊗ at p) j in
    let c = at_most_parts (at (pos 0)) ((at (pos k) ⊕ at line) ⊗ at (pos w))
    (product_at_least (pos k +ℤ line) (pos w) (omega (arith, ints, l.low)) (from_none w)) in
    let d = at_most_parts (at (pos 0)) ((at (pos k) ⊖ at line2) ⊗ at (pos w))
    (product_at_least (pos k -ℤ line2) (pos w) (omega (arith, ints, o.high)) (from_none w)) in
    let e = mul-le-mul_right w third in
    let low = factor_at_least (pos k) (pos 3 *ℤ p +ℤ pos (4 * w)) (above_none k some)
    (at_most (at (pos 0)) (at (pos k) ⊗ (at (pos 3) ⊗ at p ⊕ at (pos (4 * w)))) (omega arith)) in
    let high = factor_at_least (pos k) (pos (4 * w) -ℤ pos 3 *ℤ p) (above_none k some)
    (at_most (at (pos 0)) (at (pos k) ⊗ (at (pos (4 * w)) ⊖ at (pos 3) ⊗ at p)) (omega arith)) in
    record { low = omega (arith, ints); high = omega (arith, ints) }

-- that of the mixture whose ends were not moved
as_large : (num den g w i j : ℕ) (a b p2 : ℤ) → IsWithin (pos (4 * w)) (pos 3 *ℤ p2)
    → IsWithin (pos (num * g)) (pos den *ℤ (p2 -ℤ (pos i *ℤ a +ℤ pos j *ℤ b)))
    → IsWithin (pos (4 * (den * w) + 3 * (num * g))) (pos (3 * den * i) *ℤ a +ℤ pos (3 * den * j) *ℤ b)
as_large num den g w i j a b p2 h k =
    let la = at_most_parts (at (pos 0)) (at (pos den) ⊗ (at (pos 3) ⊗ at p2 ⊕ at (pos (4 * w))))
    (product_at_least (pos den) (pos 3 *ℤ p2 +ℤ pos (4 * w)) (from_none den) (up (pos 3 *ℤ p2) (pos (4 * w)) h.low)) in
    let ha = at_most_parts (at (pos 0)) (at (pos den) ⊗ (at (pos (4 * w)) ⊖ at (pos 3) ⊗ at p2))
    (product_at_least (pos den) (pos (4 * w) -ℤ pos 3 *ℤ p2) (from_none den)
    (down (pos 3 *ℤ p2) (pos (4 * w)) h.high)) in
    let lb = at_most_parts (at (pos 0) ⊖ at (pos (num * g)))
    (at (pos den) ⊗ (at p2 ⊖ (at (pos i) ⊗ at a ⊕ at (pos j) ⊗ at b))) k.low in
    let hb = at_most_parts (at (pos den) ⊗ (at p2 ⊖ (at (pos i) ⊗ at a ⊕ at (pos j) ⊗ at b)))
    (at (pos (num * g))) k.high in
    record {
      low = at_most (at (pos 0) ⊖ at (pos (4 * (den * w) + 3 * (num * g))))
          (at (pos (3 * den * i)) ⊗ at a ⊕ at (pos (3 * den * j)) ⊗ at b) (omega arith);
      high = at_most (at (pos (3 * den * i)) ⊗ at a ⊕ at (pos (3 * den * j)) ⊗ at b)
          (at (pos (4 * (den * w) + 3 * (num * g)))) (omega arith);
    }
  where
    up : (x y : ℤ) → (pos 0 -ℤ y) ≤ℤ x → pos 0 ≤ℤ (x +ℤ y)
    up x y l = omega (arith, ints)

    down : (x y : ℤ) → x ≤ℤ y → pos 0 ≤ℤ (y -ℤ x)
    down x y l = omega (arith, ints)

-- so the margin pays for what is moved
paid : (k num den n more g h w i j left : ℕ) → g ≡ i + j → left + num ≡ h * den
    → 4 * num * (2 * k + n) ≤ 3 * more * left
    → h * (3 * den * i + 3 * den * j) ≤ 4 * (den * w) + 3 * (num * g)
    → (2 * k + n) * (num * g) ≤ den * more * w
paid k num den n more g h w i j left e f test l =
    let a = ap (λ (t : ℕ). t * g) f in
    let b = ap (λ (t : ℕ). 3 * h * den * t) e in
    let large : 3 * left * g ≤ 4 * (den * w) = omega (arith, a, b, l) in
    let c = mul-le-mul_right g test in
    let d = mul-le-mul_left more large in
    omega (arith, c, d)

-- ---- squares of leaves
place_within : (t : ℕ) → t ≤ 2 ^ 31 → IsWithin (pos (3 * 2 ^ 60)) (along t)
place_within t l =
    let first = low 0 (omega arith) in
    let last = high (2 ^ 31) (omega arith) in
    let a = along_follows 0 t (omega arith) in
    let b = along_follows t (2 ^ 31) l in
    record { low = omega (arith, ints, first, a); high = omega (arith, ints, last, b) }

-- a square whose lines lie on the face
pub record IsOnFace (q : Square) : Type 0 where
  pub u0 : IsWithin (pos (3 * 2 ^ 60)) q.u0
  pub u1 : IsWithin (pos (3 * 2 ^ 60)) q.u1
  pub v0 : IsWithin (pos (3 * 2 ^ 60)) q.v0
  pub v1 : IsWithin (pos (3 * 2 ^ 60)) q.v1

pub leaf_on_face : (i j : ℕ) → i < 2 ^ 30 → j < 2 ^ 30 → IsOnFace (square_of 0 i j)
leaf_on_face i j h k = record {
  u0 = place_within (2 * (i * 2 ^ 0)) (omega arith);
  u1 = place_within (2 * (i * 2 ^ 0 + 2 ^ 0)) (omega arith);
  v0 = place_within (2 * (j * 2 ^ 0)) (omega arith);
  v1 = place_within (2 * (j * 2 ^ 0 + 2 ^ 0)) (omega arith);
}

-- each coordinate of a direction is near to that of another
pub record AreNear (num den g : ℕ) (c c2 : Framed) : Type 0 where
  pub w : IsWithin (pos (num * g)) (pos den *ℤ (c2.w -ℤ c.w))
  pub u : IsWithin (pos (num * g)) (pos den *ℤ (c2.u -ℤ c.u))
  pub v : IsWithin (pos (num * g)) (pos den *ℤ (c2.v -ℤ c.v))

pub stays_in : (num den m more g : ℕ) (q : Square) (c c2 : Framed) → IsOnFace q
    → IsPaidFor (3 * 2 ^ 60) num den (m + more) more g c2.w → AreNear num den g c c2 → InSquare c2 (widened m q)
    → InSquare c (widened (m + more) q)
stays_in num den m more g q c c2 on p n i =
    let k = 3 * 2 ^ 60 in
    record {
      first_column = stays_beyond k num den (m + more) more g c2.w p (q.u0 -ℤ pos (m + more)) (q.u0 -ℤ pos m) c.u c.w
          c2.u (back q.u0) (wide_back k q.u0 on.u0) n.u n.w i.first_column;
      last_column = stays_short k num den (m + more) more g c2.w p (q.u1 +ℤ pos (m + more)) (q.u1 +ℤ pos m) c.u c.w
          c2.u (on_by q.u1) (wide_on k q.u1 on.u1) n.u n.w i.last_column;
      first_row = stays_beyond k num den (m + more) more g c2.w p (q.v0 -ℤ pos (m + more)) (q.v0 -ℤ pos m) c.v c.w
          c2.v (back q.v0) (wide_back k q.v0 on.v0) n.v n.w i.first_row;
      last_row = stays_short k num den (m + more) more g c2.w p (q.v1 +ℤ pos (m + more)) (q.v1 +ℤ pos m) c.v c.w
          c2.v (on_by q.v1) (wide_on k q.v1 on.v1) n.v n.w i.last_row;
    }
  where
    back : (z : ℤ) → z -ℤ pos m ≡ z -ℤ pos (m + more) +ℤ pos more
    back z = omega (arith, ints)

    on_by : (z : ℤ) → z +ℤ pos (m + more) ≡ z +ℤ pos m +ℤ pos more
    on_by z = omega (arith, ints)

    wide_back : (k : ℕ) (z : ℤ) → IsWithin (pos k) z → IsWithin (pos (k + (m + more))) (z -ℤ pos (m + more))
    wide_back k z l = record { low = omega (arith, ints, l.low); high = omega (arith, ints, l.high) }

    wide_on : (k : ℕ) (z : ℤ) → IsWithin (pos k) z → IsWithin (pos (k + (m + more))) (z +ℤ pos (m + more))
    wide_on k z l = record { low = omega (arith, ints, l.low); high = omega (arith, ints, l.high) }

-- ---- an edge
-- what pays, from the margin
pub record Pays (num den height m more : ℕ) : Type 0 where
  pub some : 0 < den
  pub left : ℕ
  pub left_is : left + num ≡ height * den
  pub most : m + more ≤ 2 ^ 60
  pub enough : 4 * num * (2 * (3 * 2 ^ 60) + (m + more)) ≤ 3 * more * left

module _ (num den height m more f i j : ℕ) (e g : Edge) (a : PassesNear num den e.a g.a)
    (b : PassesNear num den e.b g.b) (clear : StaysClear height e) (pays : Pays num den height m more) (hi : i < 2 ^ 30)
    (hj : j < 2 ^ 30) where
  abbrev ea : Framed
  ea = in_frame f e.a

  abbrev eb : Framed
  eb = in_frame f e.b

  abbrev ga : Framed
  ga = in_frame f g.a

  abbrev gb : Framed
  gb = in_frame f g.b

  -- the coordinate along the axis is so large that the margin pays
  pays_on : (w : ℕ) (c2 : Framed) (p r : ℕ) → c2.w ≡ pos w → AreNear num den (p + r) (mix (pos p) (pos r) ea eb) c2
      → InSquare c2 (widened m (square_of 0 i j)) → IsPaidFor (3 * 2 ^ 60) num den (m + more) more (p + r) c2.w
  pays_on w c2 p r is near inside =
      let k = 3 * 2 ^ 60 in
      let q = square_of 0 i j in
      let on = leaf_on_face i j hi hj in
      let most = pos (4 * (den * w) + 3 * (num * (p + r))) in
      let third : 3 * m ≤ k = omega (arith, pays.most) in
      let high = high_in_frame f height most (3 * den * p) (3 * den * r) e clear (record {
        w = as_large num den (p + r) w p r ea.w eb.w c2.w (itself w c2.w is) near.w;
        u = as_large num den (p + r) w p r ea.u eb.u c2.u (beside_axis k m w q.u1 q.u0 c2.u (omega arith) third on.u0
            on.u1 (rw is at inside.first_column) (rw is at inside.last_column)) near.u;
        v = as_large num den (p + r) w p r ea.v eb.v c2.v (beside_axis k m w q.v1 q.v0 c2.v (omega arith) third on.v0
            on.v1 (rw is at inside.first_row) (rw is at inside.last_row)) near.v;
      }) in
      record {
        some = pays.some;
        enough = rw is (by_product ((2 * k + (m + more)) * (num * (p + r))) (den * more) w
            (paid k num den (m + more) more (p + r) height w p r pays.left refl pays.left_is pays.enough
            (numbers (height * (3 * den * p + 3 * den * r)) (4 * (den * w) + 3 * (num * (p + r))) high)));
      }
    where
      itself : (w : ℕ) (z : ℤ) → z ≡ pos w → IsWithin (pos (4 * w)) (pos 3 *ℤ z)
      itself w z e = record { low = omega (arith, ints, e); high = omega (arith, ints, e) }

      numbers : (x y : ℕ) → pos x ≤ℤ pos y → x ≤ y
      numbers x y l = omega (arith, ints, l)

      by_product : (x y w : ℕ) → x ≤ y * w → pos x ≤ℤ (pos y *ℤ pos w)
      by_product x y w l = at_most (at (pos x)) (at (pos y) ⊗ at (pos w)) (omega (arith, l))

  -- a direction near a mixture of the edge's ends
  pub near_meets : (c2 : Framed) (p r : ℕ) → 0 < p + r → AreNear num den (p + r) (mix (pos p) (pos r) ea eb) c2
      → InSquare c2 (widened m (square_of 0 i j)) → MeetsSquare ea eb (widened (m + more) (square_of 0 i j))
  near_meets c2 p r some near is =
      let q = square_of 0 i j in
      let front = before c2 (widened m q) (inl (widened_wide m 0 i j)) is in
      record {
        x = pos p;
        y = pos r;
        x_at_least = from_none p;
        y_at_least = from_none r;
        not_both = above_none (p + r) some;
        inside = stays_in num den m more (p + r) q (mix (pos p) (pos r) ea eb) c2 (leaf_on_face i j hi hj)
            (pays_on (unsigned_abs c2.w) c2 p r (own c2.w front) near is) near is;
      }
    where
      own : (z : ℤ) → pos 0 ≤ℤ z → z ≡ pos (unsigned_abs z)
      own (pos n) l = refl
      own (negsuc n) l = absurd (omega (arith, ints, l))

  in_wider : (x y : ℕ) → 0 < x + y → InSquare (mix (pos x) (pos y) ga gb) (widened m (square_of 0 i j))
      → MeetsSquare ea eb (widened (m + more) (square_of 0 i j))
  in_wider x y some is =
      let p = x * a.scale in
      let r = y * b.scale in
      let c = mix (pos p) (pos r) ea eb in
      let c2 = mix (pos x) (pos y) ga gb in
      let fa = apart_in_frame f num den e.a g.a a in
      let fb = apart_in_frame f num den e.b g.b b in
      let near : AreNear num den (p + r) c c2 = record {
        w = mix_apart num den x y a.scale b.scale ea.w eb.w ga.w gb.w fa.w fb.w;
        u = mix_apart num den x y a.scale b.scale ea.u eb.u ga.u gb.u fa.u fb.u;
        v = mix_apart num den x y a.scale b.scale ea.v eb.v ga.v gb.v fa.v fb.v;
      } in
      near_meets c2 p r (scales x y a.scale b.scale some a.some b.some) near is
    where
      scales : (x y s t : ℕ) → 0 < x + y → 0 < s → 0 < t → 0 < x * s + y * t
      scales x y s t h k l =
          let m : 1 ≤ s = omega arith in
          let n : 1 ≤ t = omega arith in
          let o = mul-le-mul_left x m in
          let p = mul-le-mul_left y n in
          omega (arith, o, p)

pub pays_of : (num den height margin : ℕ) → num < height * den → margin_of_moved num den height margin ≤ 2 ^ 60
    → Pays num den height margin (28 * 2 ^ 60 * num / (3 * (height * den - num)) + 1)
pays_of num den height margin less most =
    let l = height * den - num in
    let some : 0 < 3 * l = omega (arith, less) in
    let r = mod-lt (28 * 2 ^ 60 * num) some in
    let d = div-add-mod' (28 * 2 ^ 60 * num) (3 * l) in
    record {
      some = denominator den less;
      left = l;
      left_is = omega (arith, less);
      most = most;
      enough = enough_by num l (28 * 2 ^ 60 * num / (3 * l)) margin most (omega (arith, r, d));
    }
  where
    denominator : (den : ℕ) → num < height * den → 0 < den
    denominator zero l = absurd (omega (arith, l))
    denominator (suc n) l = omega arith

    enough_by : (num l q m : ℕ) → m + (q + 1) ≤ 2 ^ 60 → 28 * 2 ^ 60 * num ≤ q * (3 * l) + 3 * l
        → 4 * num * (2 * (3 * 2 ^ 60) + (m + (q + 1))) ≤ 3 * (q + 1) * l
    enough_by num l q m t h =
        let f = mul-le-mul_left (4 * num) t in
        omega (arith, f, h)

pub meets_moved : (num den height margin f i j : ℕ) (e g : Edge) → PassesNear num den e.a g.a
    → PassesNear num den e.b g.b
    → StaysClear height e → num < height * den → margin_of_moved num den height margin ≤ 2 ^ 60
    → i < 2 ^ 30 → j < 2 ^ 30
    → MeetsSquare (in_frame f g.a) (in_frame f g.b) (widened margin (square_of 0 i j))
    → MeetsSquare (in_frame f e.a) (in_frame f e.b) (widened (margin_of_moved num den height margin) (square_of 0 i j))
meets_moved num den height margin f i j e g a b clear less most hi hj met =
    by met.x met.y met.x_at_least met.y_at_least met.not_both met.inside
  where
    by : (x y : ℤ) → pos 0 ≤ℤ x → pos 0 ≤ℤ y → pos 0 <ℤ (x +ℤ y)
        → InSquare (mix x y (in_frame f g.a) (in_frame f g.b)) (widened margin (square_of 0 i j))
        → MeetsSquare (in_frame f e.a) (in_frame f e.b) (widened (margin_of_moved num den height margin)
        (square_of 0 i j))
    by (pos x) (pos y) lx ly some is =
        in_wider num den height margin (28 * 2 ^ 60 * num / (3 * (height * den - num)) + 1) f i j e g a b clear
        (pays_of num den height margin less most) hi hj x y (omega (arith, ints, some)) is
    by (pos x) (negsuc y) lx ly some is = absurd (omega (arith, ints, ly))
    by (negsuc x) y lx ly some is = absurd (omega (arith, ints, lx))
