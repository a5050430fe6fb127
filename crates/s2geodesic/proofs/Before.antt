-- Edges whose ends lie before a plane meet no square behind it.
use Rattle.std.proofs.Common.{◌≡◌, refl, sym, ap₂, ◌∙◌, ℕ, zero, suc, ◌+◌, ◌-◌, ◌≤◌, ◌<◌, ◌/◌, ◌^◌, arith, ℤ, pos}
use Rattle.std.proofs.Common.{negsuc, neg_ℤ, ◌+ℤ◌, ◌*ℤ◌, ◌≤ℤ◌, ◌<ℤ◌, Bool, true, false, cond, ◌==◌}
use Rattle.std.proofs.Common.{◌↔◌, IsTrue, subst}
use Rattle.std.proofs.Common.{List, [], ◌∷◌, All, length, get_or, rules}
use Rattle.std.proofs.lemmas.Bool.{eqb-false}
use Rattle.std.proofs.lemmas.Int.{ints}
use Rattle.std.proofs.lemmas.List.Elements.{All-append, All-get_or, All-head, All-nil, All-push, All-tail}
use Rattle.std.proofs.lemmas.List.Elements.{All-weaker}
use Rattle.std.proofs.Math.Bool.{true≢false}
use Rattle.std.specs.List.{list_any}
use Rattle.s2polygon.proofs.Changes.{touched_more}
use Rattle.s2polygon.proofs.Integers.{at, ◌⊕◌, ◌⊖◌, ◌⊗◌, equal, product_at_least, sum_above, above_sum}
use Rattle.s2polygon.proofs.Rejects.{product_above}
use Rattle.s2polygon.proofs.Turned.{minus_is}
use Rattle.s2geodesic.proofs.Sides.{leaf_high, leaf_wide}
use Rattle.s2polygon.specs.Cells.{square_of, widened}
use Rattle.s2cell.specs.Curve.{i_of, j_of}
use Rattle.s2polygon.specs.Directions.{Point, origin}
use Rattle.s2polygon.specs.Faces.{edges_on}
use Rattle.s2polygon.specs.Frames.{framed, in_frame}
use Rattle.s2geodesic.specs.Halves.{IsBehind, LieBefore, LiesOpposite}
use Rattle.s2polygon.specs.Leaves.{Region, is_touched}
use Rattle.s2polygon.specs.Meets.{InSquare, MeetsSquare, mix}
use Rattle.s2polygon.specs.Moves.{product_of}
use Rattle.s2polygon.specs.Rings.{AreRings, IsRing, after, corner, edge_from, edges_from, rings_edges, start_of}
use Rattle.s2polygon.specs.Tests.{meets_square}
use Rattle.s2polygon.specs.declared.directions.Edge.{Edge}
use Rattle.s2polygon.specs.declared.frames.FramedEdge.{FramedEdge}
use Rattle.s2polygon.specs.declared.places.Square.{Square}

-- ---- mixtures of directions
abbrev blend : ℤ → ℤ → Point → Point → Point
blend x y a b = record { x = x *ℤ a.x +ℤ y *ℤ b.x; y = x *ℤ a.y +ℤ y *ℤ b.y; z = x *ℤ a.z +ℤ y *ℤ b.z }

minus_mixed : (x y p q w : ℤ) → x *ℤ p +ℤ y *ℤ q ≡ w → x *ℤ neg_ℤ p +ℤ y *ℤ neg_ℤ q ≡ neg_ℤ w
minus_mixed x y p q w e =
    ap₂ (λ (s t : ℤ). x *ℤ s +ℤ y *ℤ t) (minus_is p) (minus_is q)
    ∙ equal (at x ⊗ (at (pos 0) ⊖ at p) ⊕ at y ⊗ (at (pos 0) ⊖ at q)) (at (pos 0) ⊖ (at x ⊗ at p ⊕ at y ⊗ at q))
    (omega arith)
    ∙ rw e (sym (minus_is w))

framed_by : (x y : ℤ) (wa ua va wb ub vb w u v : ℤ) → x *ℤ wa +ℤ y *ℤ wb ≡ w → x *ℤ ua +ℤ y *ℤ ub ≡ u
    → x *ℤ va +ℤ y *ℤ vb ≡ v
    → mix x y (record { w = wa; u = ua; v = va }) (record { w = wb; u = ub; v = vb }) ≡ record { w = w; u = u; v = v }
framed_by x y wa ua va wb ub vb w u v e f g = rw (e, f, g) refl

-- a mixture in the frame of a face is that of the directions
mixed : (f : ℕ) (a b : Point) (x y : ℤ) → mix x y (in_frame f a) (in_frame f b) ≡ in_frame f (blend x y a b)
mixed zero a b x y = refl
mixed (suc zero) a b x y =
    framed_by x y a.y (neg_ℤ a.x) a.z b.y (neg_ℤ b.x) b.z _ _ _ refl (minus_mixed x y a.x b.x _ refl) refl
mixed (suc (suc zero)) a b x y =
    framed_by x y a.z (neg_ℤ a.x) (neg_ℤ a.y) b.z (neg_ℤ b.x) (neg_ℤ b.y) _ _ _ refl (minus_mixed x y a.x b.x _ refl)
    (minus_mixed x y a.y b.y _ refl)
mixed (suc (suc (suc zero))) a b x y =
    framed_by x y (neg_ℤ a.x) (neg_ℤ a.z) (neg_ℤ a.y) (neg_ℤ b.x) (neg_ℤ b.z) (neg_ℤ b.y) _ _ _
    (minus_mixed x y a.x b.x _ refl) (minus_mixed x y a.z b.z _ refl) (minus_mixed x y a.y b.y _ refl)
mixed (suc (suc (suc (suc zero)))) a b x y =
    framed_by x y (neg_ℤ a.y) (neg_ℤ a.z) a.x (neg_ℤ b.y) (neg_ℤ b.z) b.x _ _ _ (minus_mixed x y a.y b.y _ refl)
    (minus_mixed x y a.z b.z _ refl) refl
mixed (suc (suc (suc (suc (suc f))))) a b x y =
    framed_by x y (neg_ℤ a.z) a.y a.x (neg_ℤ b.z) b.y b.x _ _ _ (minus_mixed x y a.z b.z _ refl) refl refl

blended : (n a b : Point) (x y : ℤ) → product_of n (blend x y a b) ≡ x *ℤ product_of n a +ℤ y *ℤ product_of n b
blended n a b x y =
    equal (at n.x ⊗ (at x ⊗ at a.x ⊕ at y ⊗ at b.x) ⊕ at n.y ⊗ (at x ⊗ at a.y ⊕ at y ⊗ at b.y)
    ⊕ at n.z ⊗ (at x ⊗ at a.z ⊕ at y ⊗ at b.z))
    (at x ⊗ (at n.x ⊗ at a.x ⊕ at n.y ⊗ at a.y ⊕ at n.z ⊗ at a.z)
    ⊕ at y ⊗ (at n.x ⊗ at b.x ⊕ at n.y ⊗ at b.y ⊕ at n.z ⊗ at b.z))
    (omega arith)

mixture_above : (x y p q : ℤ) → pos 0 ≤ℤ x → pos 0 ≤ℤ y → pos 0 <ℤ (x +ℤ y) → pos 0 <ℤ p → pos 0 <ℤ q
    → pos 0 <ℤ (x *ℤ p +ℤ y *ℤ q)
mixture_above (pos zero) y p q h k some l m =
    sum_above (pos 0 *ℤ p) (y *ℤ q) (product_at_least (pos 0) p h (omega (arith, ints, l)))
    (product_above y q (omega (arith, ints, some)) m)
mixture_above (pos (suc a)) y p q h k some l m =
    above_sum (pos (suc a) *ℤ p) (y *ℤ q) (product_above (pos (suc a)) p (omega (arith, ints)) l)
    (product_at_least y q k (omega (arith, ints, m)))
mixture_above (negsuc a) y p q h k some l m = absurd (omega (arith, ints, h))

-- an edge before a plane meets no square behind it
never_meets : (n : Point) (f : ℕ) (q : Square) → ((p : Point) → InSquare (in_frame f p) q → product_of n p ≤ℤ pos 0)
    → (a b : Point) → pos 0 <ℤ product_of n a → pos 0 <ℤ product_of n b
    → ¬ (MeetsSquare (in_frame f a) (in_frame f b) q)
never_meets n f q behind a b before_a before_b m =
    let within = subst (λ c. InSquare c q) (mixed f a b m.x m.y) m.inside in
    let most = behind (blend m.x m.y a b) within in
    let above = mixture_above m.x m.y (product_of n a) (product_of n b) m.x_at_least m.y_at_least m.not_both before_a
    before_b in
    apart _ _ (blended n a b m.x m.y) most above
  where
    apart : (s t : ℤ) → s ≡ t → s ≤ℤ pos 0 → pos 0 <ℤ t → ⊥
    apart s t e h k = omega (arith, ints, e, h, k)

-- ---- edges of rings
record HaveBoth (P : Point → Type 0) (e : Edge) : Type 0 where
  a : P e.a
  b : P e.b

module _ (P : Point → Type 0) (corners : List Point) (all : All P corners) where
  at_corner : (i : ℕ) → i < length corners → P (corner corners i)
  at_corner i l = All-get_or P corners i origin l all

  after_within : (from end i : ℕ) → from < end → i < end → after from end i < end
  after_within from end i l m = by (i + 1 == end) refl
    where
      by : (b : Bool) → (i + 1 == end) ≡ b → cond b from (i + 1) < end
      by true e = l
      by false e = let d = eqb-false (i + 1) end e in omega (arith, d)

  from_corners : (from end n : ℕ) → from + n ≤ end → end ≤ length corners
      → All (HaveBoth P) (edges_from corners from end n)
  from_corners from end zero l m = All-nil (HaveBoth P)
  from_corners from end (suc n) l m =
      All-push (HaveBoth P) (edges_from corners from end n) (edge_from corners from end (from + n))
      (from_corners from end n (omega arith) m)
      (record {
        a = at_corner (from + n) (omega arith);
        b = at_corner (after from end (from + n))
            (let w = after_within from end (from + n) (omega arith) (omega arith) in omega (arith, w));
      })

  of_rings : (ends : List ℕ) → ((r : ℕ) → r < length ends → IsRing corners ends r) → (n : ℕ) → n ≤ length ends
      → All (HaveBoth P) (rings_edges corners ends n)
  of_rings ends rings zero l = All-nil (HaveBoth P)
  of_rings ends rings (suc n) l =
      let ring = rings n (omega arith) in
      let begins = ring.begins in
      All-append (HaveBoth P) (rings_edges corners ends n) _ (of_rings ends rings n (omega arith))
      (from_corners (start_of ends n) (get_or ends n 0) (get_or ends n 0 - start_of ends n) (omega (arith, begins))
      ring.ends_within)

none_of : (test : FramedEdge → Bool) (f : ℕ) (es : List Edge) → All (λ e. test (framed f e) ≡ false) es
    → list_any test (edges_on f es) ≡ false
none_of test f [] h = refl
none_of test f (e ∷ es) h =
    rw (All-head (λ (e : Edge). test (framed f e) ≡ false) e es h)
    (none_of test f es (All-tail (λ (e : Edge). test (framed f e) ≡ false) e es h))

not_true : (b : Bool) → ¬ (IsTrue b) → b ≡ false
not_true true h = absurd (h (search rules))
not_true false h = refl

abbrev pub Testing : Type 0
Testing =
    (q : Square) (e : FramedEdge) → q.u0 <ℤ q.u1 → q.v0 <ℤ q.v1 → IsTrue (meets_square q e) ↔ MeetsSquare e.a e.b q

pub untouched : Testing → (n : Point) (r : Region) (corners : List Point) (ends : List ℕ) (x : ℕ)
    → r.edges ≡ rings_edges corners ends (length ends) → AreRings corners ends → LieBefore n corners
    → IsBehind n r.margin x → is_touched r x ≡ false
unfolding is_touched
untouched tests n r corners ends x edges rings before behind =
    let f = x / 4 ^ 30 in
    let q = widened r.margin (square_of 0 (i_of x) (j_of x)) in
    rw edges (none_of (meets_square q) f (rings_edges corners ends (length ends))
    (All-weaker (HaveBoth (λ p. pos 0 <ℤ product_of n p)) (λ e. meets_square q (framed f e) ≡ false)
    (λ e both. not_true (meets_square q (framed f e)) (λ t. never_meets n f q behind e.a e.b both.a both.b
    ((tests q (framed f e) (leaf_wide r.margin (i_of x) (j_of x)) (leaf_high r.margin (i_of x) (j_of x))).0 t)))
    (rings_edges corners ends (length ends))
    (of_rings (λ p. pos 0 <ℤ product_of n p) corners before ends rings.rings (length ends) (omega arith))))

pub opposite_untouched : Testing → (r : Region) (corners : List Point) (ends : List ℕ)
    → r.edges ≡ rings_edges corners ends (length ends) → AreRings corners ends → LiesOpposite corners r.outside
    → r.margin ≤ 2 ^ 60 → is_touched r r.outside ≡ false
opposite_untouched tests r corners ends edges rings opposite margin = by (is_touched r r.outside) refl
  where
    by : (b : Bool) → is_touched r r.outside ≡ b → is_touched r r.outside ≡ false
    by false e = e
    by true e = absurd (true≢false (sym (touched_more r (2 ^ 60) r.outside margin e)
        ∙ untouched tests opposite.normal (record r { margin = 2 ^ 60 }) corners ends r.outside edges rings
        opposite.before opposite.behind))
