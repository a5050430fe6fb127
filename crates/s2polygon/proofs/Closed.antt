-- Edges of rings: closed, and the short way, in the frame of each face.
use Rattle.std.proofs.Common.{◌≡◌, refl, sym, ap, ap₂, ◌∙◌, ℕ, zero, suc, ◌+◌, ◌-◌, ◌≤◌, ◌<◌, arith, ℤ, pos}
use Rattle.std.proofs.Common.{neg_ℤ, ◌+ℤ◌, ◌-ℤ◌, ◌*ℤ◌, ◌≤ℤ◌, Bool, true, false, List, [], ◌∷◌}
use Rattle.std.proofs.Common.{All, length, cond, get_or, ◌==◌, eqb-true}
use Rattle.std.proofs.lemmas.Int.{ints}
use Rattle.std.proofs.lemmas.Bool.{eqb-false}
use Rattle.std.proofs.lemmas.List.Elements.{All-append, All-cons, All-get_or, All-nil}
use Rattle.std.proofs.Math.Bool.{xor}
use Rattle.s2polygon.proofs.Beside.{IsClosed}
use Rattle.s2polygon.proofs.Changes.{odd_both, xor_self}
use Rattle.s2polygon.proofs.Integers.{at, ◌⊖◌, ◌⊗◌, equal}
use Rattle.s2polygon.proofs.Middles.{difference}
use Rattle.s2polygon.proofs.Steps.{odd_more}
use Rattle.s2polygon.proofs.Turned.{drop}
use Rattle.s2polygon.specs.Directions.{IsDirection, Point, origin}
use Rattle.s2polygon.specs.Frames.{in_frame, normal_u_of, normal_v_of, normal_w_of}
use Rattle.s2polygon.specs.Parity.{is_odd_by}
use Rattle.s2polygon.specs.Rings.{AreOpposite, AreRings, after, corner, edge_from, edges_from}
use Rattle.s2polygon.specs.Rings.{ring_edges}
use Rattle.s2polygon.specs.Rings.{rings_edges, start_of}
use Rattle.s2polygon.specs.declared.directions.Edge.{Edge}
use Rattle.s2polygon.specs.declared.frames.Framed.{Framed}

-- ---- ends that lie opposite each other, in the frame of a face
minus_as : (z : ℤ) → pos 0 -ℤ z ≡ neg_ℤ z
minus_as z = omega (arith, ints)

left_minus : (p q : ℤ) → neg_ℤ p *ℤ q ≡ neg_ℤ (p *ℤ q)
left_minus p q =
    ap (λ (z : ℤ). z *ℤ q) (sym (minus_as p))
    ∙ equal ((at (pos 0) ⊖ at p) ⊗ at q) (at (pos 0) ⊖ at p ⊗ at q) (omega arith)
    ∙ minus_as (p *ℤ q)

right_minus : (p q : ℤ) → p *ℤ neg_ℤ q ≡ neg_ℤ (p *ℤ q)
right_minus p q =
    ap (λ (z : ℤ). p *ℤ z) (sym (minus_as q))
    ∙ equal (at p ⊗ (at (pos 0) ⊖ at q)) (at (pos 0) ⊖ at p ⊗ at q) (omega arith)
    ∙ minus_as (p *ℤ q)

pub both_minus : (p q : ℤ) → neg_ℤ p *ℤ neg_ℤ q ≡ p *ℤ q
both_minus p q =
    ap₂ (λ (y z : ℤ). y *ℤ z) (sym (minus_as p)) (sym (minus_as q))
    ∙ equal ((at (pos 0) ⊖ at p) ⊗ (at (pos 0) ⊖ at q)) (at p ⊗ at q) (omega arith)

-- a difference, from products as they stand in a frame
kept : (p q x y : ℤ) → x ≡ p → y ≡ q → x -ℤ y ≡ pos 0 → p -ℤ q ≡ pos 0
kept p q x y e f h = sym (ap₂ (λ (m n : ℤ). m -ℤ n) e f) ∙ h

turned_back : (p q x y : ℤ) → x ≡ p → y ≡ q → x -ℤ y ≡ pos 0 → q -ℤ p ≡ pos 0
turned_back p q x y e f h = other p q (kept p q x y e f h)
  where
    other : (p q : ℤ) → p -ℤ q ≡ pos 0 → q -ℤ p ≡ pos 0
    other p q g = omega (arith, ints)

below_0 : (p q x y : ℤ) → x ≡ neg_ℤ p → y ≡ neg_ℤ q → x -ℤ y ≡ pos 0 → p -ℤ q ≡ pos 0
below_0 p q x y e f h = other p q (kept (neg_ℤ p) (neg_ℤ q) x y e f h)
  where
    other : (p q : ℤ) → neg_ℤ p -ℤ neg_ℤ q ≡ pos 0 → p -ℤ q ≡ pos 0
    other p q g = omega (arith, ints)

below_back : (p q x y : ℤ) → x ≡ neg_ℤ p → y ≡ neg_ℤ q → x -ℤ y ≡ pos 0 → q -ℤ p ≡ pos 0
below_back p q x y e f h = other p q (kept (neg_ℤ p) (neg_ℤ q) x y e f h)
  where
    other : (p q : ℤ) → neg_ℤ p -ℤ neg_ℤ q ≡ pos 0 → q -ℤ p ≡ pos 0
    other p q g = omega (arith, ints)

pub record IsBack (a b : Framed) : Type 0 where
  pub w : normal_w_of a b ≡ pos 0
  pub u : normal_u_of a b ≡ pos 0
  pub v : normal_v_of a b ≡ pos 0
  pub away : (a.w *ℤ b.w +ℤ a.u *ℤ b.u +ℤ a.v *ℤ b.v) ≤ℤ pos 0

sum_xyz : (p q r x y z : ℤ) → x ≡ p → y ≡ q → z ≡ r → (x +ℤ y +ℤ z) ≤ℤ pos 0 → (p +ℤ q +ℤ r) ≤ℤ pos 0
sum_xyz p q r x y z e f g h = omega (arith, ints)

sum_yxz : (p q r x y z : ℤ) → x ≡ q → y ≡ p → z ≡ r → (x +ℤ y +ℤ z) ≤ℤ pos 0 → (p +ℤ q +ℤ r) ≤ℤ pos 0
sum_yxz p q r x y z e f g h = omega (arith, ints)

sum_zxy : (p q r x y z : ℤ) → x ≡ r → y ≡ p → z ≡ q → (x +ℤ y +ℤ z) ≤ℤ pos 0 → (p +ℤ q +ℤ r) ≤ℤ pos 0
sum_zxy p q r x y z e f g h = omega (arith, ints)

sum_xzy : (p q r x y z : ℤ) → x ≡ p → y ≡ r → z ≡ q → (x +ℤ y +ℤ z) ≤ℤ pos 0 → (p +ℤ q +ℤ r) ≤ℤ pos 0
sum_xzy p q r x y z e f g h = omega (arith, ints)

sum_yzx : (p q r x y z : ℤ) → x ≡ q → y ≡ r → z ≡ p → (x +ℤ y +ℤ z) ≤ℤ pos 0 → (p +ℤ q +ℤ r) ≤ℤ pos 0
sum_yzx p q r x y z e f g h = omega (arith, ints)

sum_zyx : (p q r x y z : ℤ) → x ≡ r → y ≡ q → z ≡ p → (x +ℤ y +ℤ z) ≤ℤ pos 0 → (p +ℤ q +ℤ r) ≤ℤ pos 0
sum_zyx p q r x y z e f g h = omega (arith, ints)

pub opposite : (f : ℕ) (a b : Point) → IsBack (in_frame f a) (in_frame f b) → AreOpposite (record { a = a; b = b })
opposite zero a b h = record {
  x = kept (a.y *ℤ b.z) (a.z *ℤ b.y) (a.y *ℤ b.z) (a.z *ℤ b.y) refl refl h.w;
  y = kept (a.z *ℤ b.x) (a.x *ℤ b.z) (a.z *ℤ b.x) (a.x *ℤ b.z) refl refl h.u;
  z = kept (a.x *ℤ b.y) (a.y *ℤ b.x) (a.x *ℤ b.y) (a.y *ℤ b.x) refl refl h.v;
  away = sum_xyz (a.x *ℤ b.x) (a.y *ℤ b.y) (a.z *ℤ b.z) (a.x *ℤ b.x) (a.y *ℤ b.y) (a.z *ℤ b.z) refl refl refl h.away;
}
opposite (suc zero) a b h = record {
  x = turned_back (a.z *ℤ b.y) (a.y *ℤ b.z) (a.z *ℤ b.y) (a.y *ℤ b.z) refl refl h.u;
  y = below_back (a.x *ℤ b.z) (a.z *ℤ b.x) (neg_ℤ a.x *ℤ b.z) (a.z *ℤ neg_ℤ b.x) (left_minus a.x b.z)
      (right_minus a.z b.x) h.w;
  z = below_back (a.y *ℤ b.x) (a.x *ℤ b.y) (a.y *ℤ neg_ℤ b.x) (neg_ℤ a.x *ℤ b.y) (right_minus a.y b.x)
      (left_minus a.x b.y) h.v;
  away = sum_yxz (a.x *ℤ b.x) (a.y *ℤ b.y) (a.z *ℤ b.z) (a.y *ℤ b.y) (neg_ℤ a.x *ℤ neg_ℤ b.x) (a.z *ℤ b.z) refl
      (both_minus a.x b.x) refl h.away;
}
opposite (suc (suc zero)) a b h = record {
  x = below_0 (a.y *ℤ b.z) (a.z *ℤ b.y) (neg_ℤ a.y *ℤ b.z) (a.z *ℤ neg_ℤ b.y) (left_minus a.y b.z)
      (right_minus a.z b.y) h.u;
  y = below_0 (a.z *ℤ b.x) (a.x *ℤ b.z) (a.z *ℤ neg_ℤ b.x) (neg_ℤ a.x *ℤ b.z) (right_minus a.z b.x)
      (left_minus a.x b.z) h.v;
  z = kept (a.x *ℤ b.y) (a.y *ℤ b.x) (neg_ℤ a.x *ℤ neg_ℤ b.y) (neg_ℤ a.y *ℤ neg_ℤ b.x) (both_minus a.x b.y)
      (both_minus a.y b.x) h.w;
  away = sum_zxy (a.x *ℤ b.x) (a.y *ℤ b.y) (a.z *ℤ b.z) (a.z *ℤ b.z) (neg_ℤ a.x *ℤ neg_ℤ b.x) (neg_ℤ a.y *ℤ neg_ℤ b.y)
      refl (both_minus a.x b.x) (both_minus a.y b.y) h.away;
}
opposite (suc (suc (suc zero))) a b h = record {
  x = turned_back (a.z *ℤ b.y) (a.y *ℤ b.z) (neg_ℤ a.z *ℤ neg_ℤ b.y) (neg_ℤ a.y *ℤ neg_ℤ b.z) (both_minus a.z b.y)
      (both_minus a.y b.z) h.w;
  y = turned_back (a.x *ℤ b.z) (a.z *ℤ b.x) (neg_ℤ a.x *ℤ neg_ℤ b.z) (neg_ℤ a.z *ℤ neg_ℤ b.x) (both_minus a.x b.z)
      (both_minus a.z b.x) h.v;
  z = turned_back (a.y *ℤ b.x) (a.x *ℤ b.y) (neg_ℤ a.y *ℤ neg_ℤ b.x) (neg_ℤ a.x *ℤ neg_ℤ b.y) (both_minus a.y b.x)
      (both_minus a.x b.y) h.u;
  away = sum_xzy (a.x *ℤ b.x) (a.y *ℤ b.y) (a.z *ℤ b.z) (neg_ℤ a.x *ℤ neg_ℤ b.x) (neg_ℤ a.z *ℤ neg_ℤ b.z)
      (neg_ℤ a.y *ℤ neg_ℤ b.y) (both_minus a.x b.x) (both_minus a.z b.z) (both_minus a.y b.y) h.away;
}
opposite (suc (suc (suc (suc zero)))) a b h = record {
  x = kept (a.y *ℤ b.z) (a.z *ℤ b.y) (neg_ℤ a.y *ℤ neg_ℤ b.z) (neg_ℤ a.z *ℤ neg_ℤ b.y) (both_minus a.y b.z)
      (both_minus a.z b.y) h.v;
  y = below_0 (a.z *ℤ b.x) (a.x *ℤ b.z) (neg_ℤ a.z *ℤ b.x) (a.x *ℤ neg_ℤ b.z) (left_minus a.z b.x)
      (right_minus a.x b.z) h.w;
  z = below_0 (a.x *ℤ b.y) (a.y *ℤ b.x) (a.x *ℤ neg_ℤ b.y) (neg_ℤ a.y *ℤ b.x) (right_minus a.x b.y)
      (left_minus a.y b.x) h.u;
  away = sum_yzx (a.x *ℤ b.x) (a.y *ℤ b.y) (a.z *ℤ b.z) (neg_ℤ a.y *ℤ neg_ℤ b.y) (neg_ℤ a.z *ℤ neg_ℤ b.z) (a.x *ℤ b.x)
      (both_minus a.y b.y) (both_minus a.z b.z) refl h.away;
}
opposite (suc (suc (suc (suc (suc n))))) a b h = record {
  x = below_back (a.z *ℤ b.y) (a.y *ℤ b.z) (neg_ℤ a.z *ℤ b.y) (a.y *ℤ neg_ℤ b.z) (left_minus a.z b.y)
      (right_minus a.y b.z) h.v;
  y = below_back (a.x *ℤ b.z) (a.z *ℤ b.x) (a.x *ℤ neg_ℤ b.z) (neg_ℤ a.z *ℤ b.x) (right_minus a.x b.z)
      (left_minus a.z b.x) h.u;
  z = turned_back (a.y *ℤ b.x) (a.x *ℤ b.y) (a.y *ℤ b.x) (a.x *ℤ b.y) refl refl h.w;
  away = sum_zyx (a.x *ℤ b.x) (a.y *ℤ b.y) (a.z *ℤ b.z) (neg_ℤ a.z *ℤ neg_ℤ b.z) (a.y *ℤ b.y) (a.x *ℤ b.x)
      (both_minus a.z b.z) refl refl h.away;
}

-- the edge has directions as its ends, which don't lie opposite each other
pub record IsSound (e : Edge) : Type 0 where
  pub a : IsDirection e.a
  pub b : IsDirection e.b
  pub apart : ¬ (AreOpposite e)

-- ---- rings
-- each ring has three corners or more
abbrev pub AreLong : List ℕ → Type 0
AreLong ends = (r : ℕ) → r < length ends → start_of ends r + 3 ≤ get_or ends r 0

module _ (test : Point → Bool) (corners : List Point) (from end : ℕ) where
  differs : Edge → Bool
  differs e = xor (test e.a) (test e.b)

  at_corner : ℕ → Bool
  at_corner i = test (corner corners i)

  pub next_is : (i : ℕ) → i + 1 < end → after from end i ≡ i + 1
  next_is i l = by (i + 1 == end) refl
    where
      by : (t : Bool) → (i + 1 == end) ≡ t → cond t from (i + 1) ≡ i + 1
      by false e = refl
      by true e = let f = eqb-true (i + 1) end e in absurd (omega arith)

  pub last_is : (i : ℕ) → i + 1 ≡ end → after from end i ≡ from
  last_is i l = by (i + 1 == end) refl
    where
      by : (t : Bool) → (i + 1 == end) ≡ t → cond t from (i + 1) ≡ from
      by true e = refl
      by false e = absurd (eqb-false (i + 1) end e l)

  some_edges : (n : ℕ) → from + n < end → is_odd_by differs (edges_from corners from end n)
      ≡ xor (at_corner from) (at_corner (from + n))
  unfolding differs at_corner
  some_edges zero l =
      let e : from + 0 ≡ from = omega arith in
      rw e (sym (xor_self (at_corner from)))
  some_edges (suc n) l =
      let more : from + suc n ≡ from + n + 1 = omega arith in
      odd_more differs (edges_from corners from end n) (edge_from corners from end (from + n))
      ∙ ap₂ xor (some_edges n (omega arith))
      (ap (λ (i : ℕ). xor (at_corner (from + n)) (at_corner i)) (next_is (from + n) (omega arith) ∙ sym more))
      ∙ drop (at_corner from) (at_corner (from + n)) (at_corner (from + suc n))

  all_edges : (n : ℕ) → from + suc n ≡ end → is_odd_by differs (edges_from corners from end (suc n)) ≡ false
  unfolding differs at_corner
  all_edges n l =
      odd_more differs (edges_from corners from end n) (edge_from corners from end (from + n))
      ∙ ap₂ xor (some_edges n (omega arith))
      (ap (λ (i : ℕ). xor (at_corner (from + n)) (at_corner i)) (last_is (from + n) (omega arith)))
      ∙ drop (at_corner from) (at_corner (from + n)) (at_corner from)
      ∙ xor_self (at_corner from)

  ring_even : from + 3 ≤ end → is_odd_by differs (edges_from corners from end (end - from)) ≡ false
  ring_even l =
      let n = end - from - 1 in
      let e : end - from ≡ suc n = omega arith in
      ap (λ (m : ℕ). is_odd_by differs (edges_from corners from end m)) e ∙ all_edges n (omega arith)

rings_closed : (corners : List Point) (ends : List ℕ) → AreLong ends → (n : ℕ) → n ≤ length ends
    → IsClosed (rings_edges corners ends n)
unfolding differs
rings_closed corners ends h zero l test = refl
rings_closed corners ends h (suc n) l test =
    odd_both (differs test corners 0 0) (rings_edges corners ends n) (ring_edges corners ends n)
    ∙ ap₂ xor (rings_closed corners ends h n (omega arith) test)
    (ring_even test corners (start_of ends n) (get_or ends n 0) (h n (omega arith)))
    ∙ xor_self false

-- the fact of each edge of rings
module _ (P : Edge → Type 0) (corners : List Point) where
  each_from : (from end n : ℕ) → from + n ≤ end → ((i : ℕ) → from ≤ i → i < end → P (edge_from corners from end i))
      → All P (edges_from corners from end n)
  each_from from end zero l h = All-nil P
  each_from from end (suc n) l h =
      All-append P (edges_from corners from end n) (edge_from corners from end (from + n) ∷ [])
      (each_from from end n (omega arith) h)
      (All-cons P (edge_from corners from end (from + n)) [] (h (from + n) (omega arith) (omega arith)) (All-nil P))

  each_of : (ends : List ℕ) → ((r : ℕ) → r < length ends → (i : ℕ) → start_of ends r ≤ i → i < get_or ends r 0
      → P (edge_from corners (start_of ends r) (get_or ends r 0) i))
      → ((r : ℕ) → r < length ends → start_of ends r ≤ get_or ends r 0) → (n : ℕ) → n ≤ length ends
      → All P (rings_edges corners ends n)
  each_of ends h k zero l = All-nil P
  each_of ends h k (suc n) l =
      let m = k n (omega arith) in
      All-append P (rings_edges corners ends n) (ring_edges corners ends n) (each_of ends h k n (omega arith))
      (each_from (start_of ends n) (get_or ends n 0) (get_or ends n 0 - start_of ends n) (omega arith)
      (h n (omega arith)))

pub closed : (corners : List Point) (ends : List ℕ) → AreLong ends → IsClosed (rings_edges corners ends (length ends))
closed corners ends h = rings_closed corners ends h (length ends) (omega arith)

pub are_long : (corners : List Point) (ends : List ℕ) → AreRings corners ends → AreLong ends
are_long corners ends h r l = (h.rings r l).begins

within : (i : ℕ) {m n : ℕ} → i < m → m ≤ n → i < n
within i k l = omega arith

least : (m n : ℕ) → m + 3 ≤ n → m ≤ n
least m n l = omega arith

follows : (from end i : ℕ) {n : ℕ} → from ≤ i → i < end → end ≤ n → after from end i < n
follows from end i {n} g k l = by (i + 1 == end) refl
  where
    by : (t : Bool) → (i + 1 == end) ≡ t → cond t from (i + 1) < n
    by true e = omega arith
    by false e = let ne = eqb-false (i + 1) end e in cases ne
      where
        cases : (i + 1 ≡ end → ⊥) → i + 1 < n
        cases ne = grind (arith, ne)

-- what is so of all corners is so of both ends of each edge
pub record HaveBoth (P : Point → Type 0) (e : Edge) : Type 0 where
  pub a : P e.a
  pub b : P e.b

pub all_both : (P : Point → Type 0) (corners : List Point) (ends : List ℕ) → AreLong ends
    → ((r : ℕ) → r < length ends → get_or ends r 0 ≤ length corners) → All P corners
    → All (HaveBoth P) (rings_edges corners ends (length ends))
all_both P corners ends long in_corners all =
    each_of (HaveBoth P) corners ends
    (λ r l i g k. record {
      a = All-get_or P corners i origin (within i k (in_corners r l)) all;
      b = All-get_or P corners (after (start_of ends r) (get_or ends r 0) i) origin
          (follows (start_of ends r) (get_or ends r 0) i g k (in_corners r l)) all;
    })
    (λ r l. least (start_of ends r) (get_or ends r 0) (long r l)) (length ends) (omega arith)

pub all_of : (P : Edge → Type 0) → ((e : Edge) → IsSound e → P e) → (corners : List Point) (ends : List ℕ)
    → AreRings corners ends → All IsDirection corners → All P (rings_edges corners ends (length ends))
all_of P each corners ends h directions =
    each_of P corners ends
    (λ r l i g k. let ring = h.rings r l in
    each (edge_from corners (start_of ends r) (get_or ends r 0) i) (record {
      a = All-get_or IsDirection corners i origin (within i k ring.ends_within) directions;
      b = All-get_or IsDirection corners (after (start_of ends r) (get_or ends r 0) i) origin
          (follows (start_of ends r) (get_or ends r 0) i g k ring.ends_within) directions;
      apart = ring.edges i g k;
    }))
    (λ r l. let ring = h.rings r l in least (start_of ends r) (get_or ends r 0) ring.begins) (length ends) (omega arith)
