-- Rings whose corners are moved touch what they touched, with a greater margin.
use Rattle.std.proofs.Common.{◌≡◌, refl, sym, ap, ap₂, ◌∙◌, ℕ, zero, suc, ◌+◌, ◌-◌, ◌*◌, ◌/◌, ◌^◌, ◌≤◌, ◌<◌, arith}
use Rattle.std.proofs.Common.{ℤ, pos, ◌+ℤ◌, ◌-ℤ◌, ◌*ℤ◌, ◌≤ℤ◌, ◌<ℤ◌, mul-le-mul_left, subst, unsigned_abs}
use Rattle.std.proofs.Common.{Bool, true, false, ◌&&◌, ◌↔◌, List, [], ◌∷◌, ◌++◌, All, length, get_or, nat_lt}
use Rattle.std.proofs.Common.{ltb-true}
use Rattle.std.proofs.Common.{ltb-false}
use Rattle.std.proofs.lemmas.Int.{ints}
use Rattle.std.proofs.lemmas.List.{get_or_past}
use Rattle.std.proofs.lemmas.List.Elements.{All-cons, All-head, All-nil, All-tail}
use Rattle.std.proofs.Math.Bool.{true≢false, xor}
use Rattle.std.specs.List.{list_any}
use Rattle.s2cell.specs.Curve.{i_of, j_of}
use Rattle.s2cell.specs.declared.TheConstants.{LEAVES}
use Rattle.s2polygon.proofs.Along.{along_follows, along_rises}
use Rattle.s2polygon.proofs.Arcs.{IsSteady, arcs, arcs_alike, directions_off, leaf_over}
use Rattle.s2polygon.proofs.Changes.{or_more, xor_none, xor_self}
use Rattle.s2polygon.proofs.Closed.{AreLong, HaveBoth, all_both, are_long, closed, last_is, next_is}
use Rattle.s2polygon.proofs.Cones.{IsCone, IsOutside, arcs_even}
use Rattle.s2polygon.proofs.Faraway.{IsEnd, IsFar, at_frame, beside, far_enough, far_from, framed_at}
use Rattle.s2polygon.proofs.Hulls.{Hull, at_middle, first_between, fourth_between, hull_cone, never_opposite, outside}
use Rattle.s2polygon.proofs.Hulls.{second_between, third_between}
use Rattle.s2polygon.proofs.Integers.{at, ◌⊕◌, ◌⊖◌, ◌⊗◌, equal, product_at_least}
use Rattle.s2polygon.proofs.Moving.{Pays, from_none, meets_moved, pays_of}
use Rattle.s2polygon.proofs.Parity.{xor_false}
use Rattle.s2polygon.proofs.Steps.{xor_moves, xor_pairs, xor_same}
use Rattle.s2polygon.proofs.Tests.{near_decides}
use Rattle.s2polygon.proofs.Triangles.{arc}
use Rattle.s2polygon.proofs.Turned.{abs_minus, below_side, drop, or_false, same_of}
use Rattle.s2polygon.specs.Cells.{square_of, widened}
use Rattle.s2polygon.specs.Directions.{Point, origin}
use Rattle.s2polygon.specs.Faces.{edges_on}
use Rattle.s2polygon.specs.Frames.{framed, in_frame}
use Rattle.s2polygon.specs.Leaves.{Region, inner_leaf, inside, is_touched, odd_at, outer_leaf}
use Rattle.s2polygon.specs.Meets.{InSquare}
use Rattle.s2polygon.specs.Moves.{AreMoved, AreNearRings, AreOffMiddles, IsOffMiddle, IsOffMiddles, PassesNear}
use Rattle.s2polygon.specs.Moves.{StaysClear, margin_of_moved, of_rings, paid_for, sizes_of}
use Rattle.s2polygon.specs.Neighbors.{place}
use Rattle.s2polygon.specs.Parity.{is_odd_by}
use Rattle.s2polygon.specs.Places.{along}
use Rattle.s2polygon.specs.Rings.{HasDirections, after, corner, edges_from, ring_edges, rings_edges, start_of}
use Rattle.s2polygon.specs.Tests.{meets_square}
use Rattle.s2polygon.specs.Ways.{middle_of}
use Rattle.s2polygon.specs.declared.directions.Edge.{Edge}
use Rattle.s2polygon.specs.declared.frames.Framed.{Framed}

-- ---- edges that are moved, one by one
Pairs : (Edge → Edge → Type 0) → List Edge → List Edge → Type 0
Pairs P [] [] = Unit {0}
Pairs P [] (g ∷ gs) = ⊥
Pairs P (e ∷ es) [] = ⊥
Pairs P (e ∷ es) (g ∷ gs) = P e g × Pairs P es gs

append_pairs : (P : Edge → Edge → Type 0) (es gs fs hs : List Edge) → Pairs P es gs → Pairs P fs hs
    → Pairs P (es ++ fs) (gs ++ hs)
unfolding Pairs
append_pairs P [] [] fs hs h k = k
append_pairs P [] (g ∷ gs) fs hs h k = absurd h
append_pairs P (e ∷ es) [] fs hs h k = absurd h
append_pairs P (e ∷ es) (g ∷ gs) fs hs h k = (h.0, append_pairs P es gs fs hs h.1 k)

-- both ends pass near
record EndsPass (num den : ℕ) (e g : Edge) : Type 0 where
  a : PassesNear num den e.a g.a
  b : PassesNear num den e.b g.b

module _ (num den : ℕ) (corners moved : List Point) (h : AreMoved num den corners moved) where
  itself : PassesNear num den origin origin
  itself = record {
    scale = 1;
    some = omega arith;
    x = omega arith;
    y = omega arith;
    z = omega arith;
  }

  any_near : (i : ℕ) → PassesNear num den (corner corners i) (corner moved i)
  any_near i = by (nat_lt i (length corners)) refl
    where
      by : (t : Bool) → nat_lt i (length corners) ≡ t → PassesNear num den (corner corners i) (corner moved i)
      by true e = h.near i (ltb-true i (length corners) e)
      by false e =
          let l = ltb-false i (length corners) e in
          let many = h.as_many in
          rw (get_or_past corners i origin l, get_or_past moved i origin (omega (arith, l, many))) itself

  from_pairs : (from end n : ℕ) → Pairs (EndsPass num den) (edges_from corners from end n) (edges_from moved from end n)
  unfolding Pairs
  from_pairs from end zero = record {}
  from_pairs from end (suc n) =
      append_pairs (EndsPass num den) (edges_from corners from end n) (edges_from moved from end n) _ _
      (from_pairs from end n)
      (record { a = any_near (from + n); b = any_near (after from end (from + n)) }, record {})

  ring_pairs : (ends : List ℕ) (n : ℕ) → Pairs (EndsPass num den) (rings_edges corners ends n)
      (rings_edges moved ends n)
  unfolding Pairs
  ring_pairs ends zero = record {}
  ring_pairs ends (suc n) =
      append_pairs (EndsPass num den) (rings_edges corners ends n) (rings_edges moved ends n) _ _ (ring_pairs ends n)
      (from_pairs (start_of ends n) (get_or ends n 0) (get_or ends n 0 - start_of ends n))

-- ---- what they touch
module _ (num den height margin f i j : ℕ) (less : num < height * den)
    (most : margin_of_moved num den height margin ≤ 2 ^ 60) (hi : i < 2 ^ 30) (hj : j < 2 ^ 30) where
  one_moved : (e g : Edge) → EndsPass num den e g → StaysClear height e
      → meets_square (widened margin (square_of 0 i j)) (framed f g) ≡ true
      → meets_square (widened (margin_of_moved num den height margin) (square_of 0 i j)) (framed f e) ≡ true
  one_moved e g p clear is =
      (near_decides (margin_of_moved num den height margin) 0 i j (framed f e)).1
      (meets_moved num den height margin f i j e g p.a p.b clear less most hi hj
      ((near_decides margin 0 i j (framed f g)).0 is))

  any_moved : (es gs : List Edge) → Pairs (EndsPass num den) es gs → All (StaysClear height) es
      → list_any (meets_square (widened margin (square_of 0 i j))) (edges_on f gs) ≡ true
      → list_any (meets_square (widened (margin_of_moved num den height margin) (square_of 0 i j))) (edges_on f es)
      ≡ true
  unfolding Pairs
  any_moved [] [] p c is = is
  any_moved [] (g ∷ gs) p c is = absurd p
  any_moved (e ∷ es) [] p c is = absurd p
  any_moved (e ∷ es) (g ∷ gs) p c is =
      or_more (meets_square (widened margin (square_of 0 i j)) (framed f g))
      (list_any (meets_square (widened margin (square_of 0 i j))) (edges_on f gs))
      (meets_square (widened (margin_of_moved num den height margin) (square_of 0 i j)) (framed f e))
      (list_any (meets_square (widened (margin_of_moved num den height margin) (square_of 0 i j))) (edges_on f es))
      (one_moved e g p.0 (All-head (StaysClear height) e es c))
      (any_moved es gs p.1 (All-tail (StaysClear height) e es c)) is

pub touched_moved : (num den height : ℕ) (r : Region) (corners moved : List Point) (ends : List ℕ) (x : ℕ)
    → AreNearRings num den height r.margin corners moved ends → is_touched (of_rings r moved ends) x ≡ true
    → is_touched (paid_for num den height (of_rings r corners ends)) x ≡ true
unfolding is_touched
touched_moved num den height r corners moved ends x h is =
    let place = below_side x in
    any_moved num den height r.margin (x / 4 ^ 30) (i_of x) (j_of x) h.less h.most place.0 place.1
    (rings_edges corners ends (length ends)) (rings_edges moved ends (length ends))
    (ring_pairs num den corners moved h.near ends (length ends)) h.clear is

-- ---- what lies inside
-- an odd number of the pairs of edges pass the test
odd_pairs : (Edge → Edge → Bool) → List Edge → List Edge → Bool
odd_pairs test [] gs = false
odd_pairs test (e ∷ es) [] = false
odd_pairs test (e ∷ es) (g ∷ gs) = xor (test e g) (odd_pairs test es gs)

odd_append : (P : Edge → Edge → Type 0) (test : Edge → Edge → Bool) (es gs fs hs : List Edge) → Pairs P es gs
    → odd_pairs test (es ++ fs) (gs ++ hs) ≡ xor (odd_pairs test es gs) (odd_pairs test fs hs)
unfolding Pairs odd_pairs
odd_append P test [] [] fs hs h = sym (xor_false (odd_pairs test fs hs))
odd_append P test [] (g ∷ gs) fs hs h = absurd h
odd_append P test (e ∷ es) [] fs hs h = absurd h
odd_append P test (e ∷ es) (g ∷ gs) fs hs h =
    ap (xor (test e g)) (odd_append P test es gs fs hs h.1)
    ∙ xor_moves (test e g) (odd_pairs test es gs) (odd_pairs test fs hs)

module _ (num den : ℕ) (corners moved : List Point) (h : AreMoved num den corners moved)
    (test : Point → Point → Bool) where
  differs : Edge → Edge → Bool
  differs e g = xor (test e.a g.a) (test e.b g.b)

  at_corner : ℕ → Bool
  at_corner i = test (corner corners i) (corner moved i)

  module _ (from end : ℕ) where
    one_more : (n : ℕ) → odd_pairs differs (edges_from corners from end (suc n)) (edges_from moved from end (suc n))
        ≡ xor (odd_pairs differs (edges_from corners from end n) (edges_from moved from end n))
        (xor (at_corner (from + n)) (at_corner (after from end (from + n))))
    unfolding differs at_corner odd_pairs
    one_more n =
        odd_append (EndsPass num den) differs (edges_from corners from end n) (edges_from moved from end n) _ _
        (from_pairs num den corners moved h from end n)
        ∙ ap (xor (odd_pairs differs (edges_from corners from end n) (edges_from moved from end n)))
        (xor_none (xor (at_corner (from + n)) (at_corner (after from end (from + n)))))

    some_edges : (n : ℕ) → from + n < end
        → odd_pairs differs (edges_from corners from end n) (edges_from moved from end n)
        ≡ xor (at_corner from) (at_corner (from + n))
    unfolding odd_pairs
    some_edges zero l =
        let e : from + 0 ≡ from = omega arith in
        rw e (sym (xor_self (at_corner from)))
    some_edges (suc n) l =
        let more : from + suc n ≡ from + n + 1 = omega arith in
        one_more n
        ∙ ap₂ xor (some_edges n (omega arith)) (ap (λ (i : ℕ). xor (at_corner (from + n)) (at_corner i))
        (next_is (λ p. true) corners from end (from + n) (omega arith) ∙ sym more))
        ∙ drop (at_corner from) (at_corner (from + n)) (at_corner (from + suc n))

    all_edges : (n : ℕ) → from + suc n ≡ end
        → odd_pairs differs (edges_from corners from end (suc n)) (edges_from moved from end (suc n)) ≡ false
    all_edges n l =
        one_more n
        ∙ ap₂ xor (some_edges n (omega arith)) (ap (λ (i : ℕ). xor (at_corner (from + n)) (at_corner i))
        (last_is (λ p. true) corners from end (from + n) (omega arith)))
        ∙ drop (at_corner from) (at_corner (from + n)) (at_corner from)
        ∙ xor_self (at_corner from)

    ring_even : from + 3 ≤ end
        → odd_pairs differs (edges_from corners from end (end - from)) (edges_from moved from end (end - from)) ≡ false
    ring_even l =
        let n = end - from - 1 in
        let e : end - from ≡ suc n = omega arith in
        ap (λ (m : ℕ). odd_pairs differs (edges_from corners from end m) (edges_from moved from end m)) e
        ∙ all_edges n (omega arith)

  rings_even : (ends : List ℕ) → AreLong ends → (n : ℕ) → n ≤ length ends
      → odd_pairs differs (rings_edges corners ends n) (rings_edges moved ends n) ≡ false
  unfolding odd_pairs
  rings_even ends rings zero l = refl
  rings_even ends rings (suc n) l =
      odd_append (EndsPass num den) differs (rings_edges corners ends n) (rings_edges moved ends n)
      (ring_edges corners ends n) (ring_edges moved ends n) (ring_pairs num den corners moved h ends n)
      ∙ ap₂ xor (rings_even ends rings n (omega arith))
      (ring_even (start_of ends n) (get_or ends n 0) (rings n (omega arith)))
      ∙ xor_self false

-- ---- their ends
sizes_in : (f : ℕ) (p : Point) (most : ℕ) → sizes_of p < most → (unsigned_abs (in_frame f p).w < most)
    × ((unsigned_abs (in_frame f p).u < most) × (unsigned_abs (in_frame f p).v < most))
sizes_in zero p most l = (omega (arith, l), (omega (arith, l), omega (arith, l)))
sizes_in (suc zero) p most l = rw (abs_minus p.x) (omega (arith, l), (omega (arith, l), omega (arith, l)))
sizes_in (suc (suc zero)) p most l =
    rw (abs_minus p.x, abs_minus p.y) (omega (arith, l), (omega (arith, l), omega (arith, l)))
sizes_in (suc (suc (suc zero))) p most l =
    rw (abs_minus p.x, abs_minus p.y, abs_minus p.z) (omega (arith, l), (omega (arith, l), omega (arith, l)))
sizes_in (suc (suc (suc (suc zero)))) p most l =
    rw (abs_minus p.y, abs_minus p.z) (omega (arith, l), (omega (arith, l), omega (arith, l)))
sizes_in (suc (suc (suc (suc (suc n))))) p most l =
    rw (abs_minus p.z) (omega (arith, l), (omega (arith, l), omega (arith, l)))

end_in : (most f : ℕ) (p : Point) → sizes_of p < most → IsOffMiddle (in_frame f p)
    → ((in_frame f p).w ≡ pos 0 → (in_frame f p).u ≡ pos 0 → (in_frame f p).v ≡ pos 0 → ⊥) → IsEnd most (in_frame f p)
end_in most f p l off some =
    let small = sizes_in f p most l in
    record { w = small.0; u = small.1.0; v = small.1.1; some = some; off = off }

-- the sum of the sizes of all coordinates
room : List Edge → ℕ
room [] = 0
room (e ∷ es) = sizes_of e.a + sizes_of e.b + room es

module _ (num den height most : ℕ) (less : num < height * den) where
  module _ (e g : Edge) (p : EndsPass num den e g) (clear : StaysClear height e) where
    abbrev hull : ℕ → Framed → Type 0
    hull f = Hull num den f e g p.a p.b

    cone : (f : ℕ) → IsCone (hull f)
    cone f = hull_cone num den f e g p.a p.b height clear less

    steady_given : HasDirections e → sizes_of e.a + sizes_of e.b < most → IsSteady most e
    steady_given d l = record {
      a = λ f. end_in most f e.a (omega (arith, l)) (directions_off e.a d.a f) ((cone f).pointed (in_frame f e.a)
          (first_between (in_frame f e.a) (in_frame f e.b) (in_frame f g.a) (in_frame f g.b)));
      b = λ f. end_in most f e.b (omega (arith, l)) (directions_off e.b d.b f) ((cone f).pointed (in_frame f e.b)
          (second_between (in_frame f e.a) (in_frame f e.b) (in_frame f g.a) (in_frame f g.b)));
      apart = never_opposite (hull 0) (cone 0) e.a e.b
          (first_between (in_frame 0 e.a) (in_frame 0 e.b) (in_frame 0 g.a) (in_frame 0 g.b))
          (second_between (in_frame 0 e.a) (in_frame 0 e.b) (in_frame 0 g.a) (in_frame 0 g.b));
    }

    steady_moved : HaveBoth IsOffMiddles g → sizes_of g.a + sizes_of g.b < most → IsSteady most g
    steady_moved d l = record {
      a = λ f. end_in most f g.a (omega (arith, l)) (d.a f) ((cone f).pointed (in_frame f g.a)
          (third_between (in_frame f e.a) (in_frame f e.b) (in_frame f g.a) (in_frame f g.b)));
      b = λ f. end_in most f g.b (omega (arith, l)) (d.b f) ((cone f).pointed (in_frame f g.b)
          (fourth_between (in_frame f e.a) (in_frame f e.b) (in_frame f g.a) (in_frame f g.b)));
      apart = never_opposite (hull 0) (cone 0) g.a g.b
          (third_between (in_frame 0 e.a) (in_frame 0 e.b) (in_frame 0 g.a) (in_frame 0 g.b))
          (fourth_between (in_frame 0 e.a) (in_frame 0 e.b) (in_frame 0 g.a) (in_frame 0 g.b));
    }

  all_given : (es gs : List Edge) → Pairs (EndsPass num den) es gs → All (StaysClear height) es
      → All HasDirections es → room es < most → All (IsSteady most) es
  unfolding Pairs room
  all_given [] gs p c d l = All-nil (IsSteady most)
  all_given (e ∷ es) [] p c d l = absurd p
  all_given (e ∷ es) (g ∷ gs) p c d l =
      All-cons (IsSteady most) e es
      (steady_given e g p.0 (All-head (StaysClear height) e es c) (All-head HasDirections e es d) (omega (arith, l)))
      (all_given es gs p.1 (All-tail (StaysClear height) e es c) (All-tail HasDirections e es d) (omega (arith, l)))

  all_moved : (es gs : List Edge) → Pairs (EndsPass num den) es gs → All (StaysClear height) es
      → All (HaveBoth IsOffMiddles) gs → room gs < most → All (IsSteady most) gs
  unfolding Pairs room
  all_moved [] [] p c d l = All-nil (IsSteady most)
  all_moved [] (g ∷ gs) p c d l = absurd p
  all_moved (e ∷ es) [] p c d l = All-nil (IsSteady most)
  all_moved (e ∷ es) (g ∷ gs) p c d l =
      All-cons (IsSteady most) g gs
      (steady_moved e g p.0 (All-head (StaysClear height) e es c) (All-head (HaveBoth IsOffMiddles) g gs d)
      (omega (arith, l)))
      (all_moved es gs p.1 (All-tail (StaysClear height) e es c) (All-tail (HaveBoth IsOffMiddles) g gs d)
      (omega (arith, l)))

-- ---- both lists at an arc from leaf to leaf
regroup : (p q z x y v : Bool) → xor (xor (xor p x) (xor q y)) (xor z v) ≡ xor (xor (xor p q) z) (xor (xor x y) v)
regroup p q z x y v =
    ap (λ (b : Bool). xor b (xor z v)) (xor_pairs p x q y) ∙ xor_pairs (xor p q) (xor x y) z v

-- a direction of the square of a leaf that no edge touches with the greater margin
record IsApartAt (m more : ℕ) (es : List Edge) (p : Point) : Type 0 where
  f : ℕ
  i : ℕ
  j : ℕ
  i_below : i < 2 ^ 30
  j_below : j < 2 ^ 30
  inside : InSquare (in_frame f p) (widened m (square_of 0 i j))
  missed : list_any (meets_square (widened (m + more) (square_of 0 i j))) (edges_on f es) ≡ false

apart_from : (m more : ℕ) (e : Edge) (es : List Edge) (p : Point) → IsApartAt m more (e ∷ es) p → IsApartAt m more es p
apart_from m more e es p h = record {
  f = h.f;
  i = h.i;
  j = h.j;
  i_below = h.i_below;
  j_below = h.j_below;
  inside = h.inside;
  missed = (or_false (meets_square (widened (m + more) (square_of 0 h.i h.j)) (framed h.f e)) _ h.missed).1;
}

module _ (num den height m more : ℕ) (less : num < height * den) (pays : Pays num den height m more) (p z : Point)
  where
    abbrev over : Point → Point → Bool
    over a b = arc (in_frame 0 p) (in_frame 0 z) (in_frame 0 a) (in_frame 0 b)

    outside_at : (e g : Edge) (es : List Edge) (h : EndsPass num den e g) → StaysClear height e → (q : Point)
        → IsApartAt m more (e ∷ es) q → IsOutside (Hull num den 0 e g h.a h.b) (in_frame 0 q)
    outside_at e g es h clear q here =
        outside num den height m more here.f here.i here.j e g h.a h.b clear pays here.i_below here.j_below less
        (λ meets. true≢false (sym ((near_decides (m + more) 0 here.i here.j (framed here.f e)).1 meets)
        ∙ (or_false (meets_square (widened (m + more) (square_of 0 here.i here.j)) (framed here.f e)) _ here.missed).0))
        q here.inside

    one_even : (e g : Edge) (es : List Edge) → EndsPass num den e g → StaysClear height e → IsApartAt m more (e ∷ es) p
        → IsApartAt m more (e ∷ es) z
        → xor (xor (over e.a e.b) (over g.a g.b)) (xor (over e.a g.a) (over e.b g.b)) ≡ false
    one_even e g es h clear start end =
        let a = in_frame 0 e.a in
        let b = in_frame 0 e.b in
        let c = in_frame 0 g.a in
        let d = in_frame 0 g.b in
        arcs_even (Hull num den 0 e g h.a h.b) (in_frame 0 p) (in_frame 0 z)
        (hull_cone num den 0 e g h.a h.b height clear less) (outside_at e g es h clear p start)
        (outside_at e g es h clear z end) a b c d
        (first_between a b c d) (second_between a b c d) (third_between a b c d) (fourth_between a b c d)

    all_even : (es gs : List Edge) → Pairs (EndsPass num den) es gs → All (StaysClear height) es → IsApartAt m more es p
        → IsApartAt m more es z
        → xor (xor (is_odd_by (λ e. over e.a e.b) es) (is_odd_by (λ e. over e.a e.b) gs))
        (odd_pairs (λ e g. xor (over e.a g.a) (over e.b g.b)) es gs) ≡ false
    unfolding Pairs odd_pairs xor
    all_even [] [] h c start end = refl
    all_even [] (g ∷ gs) h c start end = absurd h
    all_even (e ∷ es) [] h c start end = absurd h
    all_even (e ∷ es) (g ∷ gs) h c start end =
        regroup (over e.a e.b) (over g.a g.b) (xor (over e.a g.a) (over e.b g.b)) (is_odd_by (λ e. over e.a e.b) es)
        (is_odd_by (λ e. over e.a e.b) gs) (odd_pairs (λ e g. xor (over e.a g.a) (over e.b g.b)) es gs)
        ∙ ap₂ xor (one_even e g es h.0 (All-head (StaysClear height) e es c) start end)
        (all_even es gs h.1 (All-tail (StaysClear height) e es c) (apart_from m more e es p start)
        (apart_from m more e es z end))
        ∙ xor_self false

-- the middle of a leaf lies in its square
line_itself : (k : ℕ) (s : ℤ) → pos k *ℤ s -ℤ s *ℤ pos k ≡ pos 0
line_itself k s = equal (at (pos k) ⊗ at s ⊖ at s ⊗ at (pos k)) (at (pos 0)) (omega arith)

middle_inside : (m i j : ℕ) → InSquare (place (middle_of 0 i) (middle_of 0 j)) (widened m (square_of 0 i j))
middle_inside m i j =
    at_middle m i j (place (middle_of 0 i) (middle_of 0 j)) (omega (arith, ints))
    (line_itself (3 * 2 ^ 60) (along (middle_of 0 i))) (line_itself (3 * 2 ^ 60) (along (middle_of 0 j)))

-- and so does a direction beside it
beyond_beside : (k m q d : ℕ) (u line : ℤ) → line ≤ℤ u
    → pos 0 ≤ℤ (pos k *ℤ (u *ℤ pos q +ℤ pos d) -ℤ (line -ℤ pos m) *ℤ (pos k *ℤ pos q))
beyond_beside k m q d u line l =
    rw (equal (at (pos k) ⊗ (at u ⊗ at (pos q) ⊕ at (pos d)) ⊖ (at line ⊖ at (pos m)) ⊗ (at (pos k) ⊗ at (pos q)))
    (at (pos k) ⊗ ((at u ⊖ at line ⊕ at (pos m)) ⊗ at (pos q) ⊕ at (pos d))) (omega arith))
    (product_at_least (pos k) ((u -ℤ line +ℤ pos m) *ℤ pos q +ℤ pos d) (from_none k)
    (plus ((u -ℤ line +ℤ pos m) *ℤ pos q) d
    (product_at_least (u -ℤ line +ℤ pos m) (pos q) (omega (arith, ints, l)) (from_none q))))
  where
    plus : (x : ℤ) (d : ℕ) → pos 0 ≤ℤ x → pos 0 ≤ℤ (x +ℤ pos d)
    plus x d h = omega (arith, ints, h)

short_of_beside : (k m q d : ℕ) (u line : ℤ) → d ≤ q → u <ℤ line
    → pos 0 ≤ℤ ((line +ℤ pos m) *ℤ (pos k *ℤ pos q) -ℤ pos k *ℤ (u *ℤ pos q +ℤ pos d))
short_of_beside k m q d u line few l =
    rw (equal ((at line ⊕ at (pos m)) ⊗ (at (pos k) ⊗ at (pos q)) ⊖ at (pos k) ⊗ (at u ⊗ at (pos q) ⊕ at (pos d)))
    (at (pos k) ⊗ ((at line ⊖ at u ⊖ at (pos 1) ⊕ at (pos m)) ⊗ at (pos q) ⊕ (at (pos q) ⊖ at (pos d)))) (omega arith))
    (product_at_least (pos k) ((line -ℤ u -ℤ pos 1 +ℤ pos m) *ℤ pos q +ℤ (pos q -ℤ pos d)) (from_none k)
    (plus ((line -ℤ u -ℤ pos 1 +ℤ pos m) *ℤ pos q)
    (product_at_least (line -ℤ u -ℤ pos 1 +ℤ pos m) (pos q) (omega (arith, ints, l)) (from_none q))))
  where
    plus : (x : ℤ) → pos 0 ≤ℤ x → pos 0 ≤ℤ (x +ℤ (pos q -ℤ pos d))
    plus x h = omega (arith, ints, h, few)

beside_inside : (s m i j : ℕ) → 0 < s
    → InSquare (beside s (along (middle_of 0 i)) (along (middle_of 0 j))) (widened m (square_of 0 i j))
beside_inside s m i j some =
    let k = 3 * 2 ^ 60 in
    let one : 1 ≤ s = omega arith in
    let few = mul-le-mul_left s one in
    record {
      first_column = beyond_beside k m (s * s) s (along (middle_of 0 i)) (along (2 * (i * 2 ^ 0)))
          (along_follows (2 * (i * 2 ^ 0)) (middle_of 0 i) (omega arith));
      last_column = short_of_beside k m (s * s) s (along (middle_of 0 i)) (along (2 * (i * 2 ^ 0 + 2 ^ 0)))
          (omega (arith, few)) (along_rises (middle_of 0 i) (2 * (i * 2 ^ 0 + 2 ^ 0)) (omega arith));
      first_row = beyond_beside k m (s * s) 1 (along (middle_of 0 j)) (along (2 * (j * 2 ^ 0)))
          (along_follows (2 * (j * 2 ^ 0)) (middle_of 0 j) (omega arith));
      last_row = short_of_beside k m (s * s) 1 (along (middle_of 0 j)) (along (2 * (j * 2 ^ 0 + 2 ^ 0)))
          (omega (arith, few, one)) (along_rises (middle_of 0 j) (2 * (j * 2 ^ 0 + 2 ^ 0)) (omega arith));
    }

same_start : (m a b : Bool) → xor (xor m a) (xor m b) ≡ xor a b
same_start m a b = xor_pairs m a m b ∙ ap (λ (t : Bool). xor t (xor a b)) (xor_self m) ∙ xor_false (xor a b)

same_of_even : (a b v : Bool) → xor (xor a b) v ≡ false → v ≡ false → a ≡ b
same_of_even a b v e f = same_of a b (sym (xor_none (xor a b)) ∙ ap (xor (xor a b)) (sym f) ∙ e)

module _ (num den height : ℕ) (r : Region) (corners moved : List Point) (ends : List ℕ)
    (h : AreNearRings num den height r.margin corners moved ends) (g : AreOffMiddles corners moved ends) where
  abbrev given : List Edge
  given = rings_edges corners ends (length ends)

  abbrev moved_edges : List Edge
  moved_edges = rings_edges moved ends (length ends)

  abbrev wider : Region
  wider = paid_for num den height (of_rings r corners ends)

  abbrev more : ℕ
  more = 28 * 2 ^ 60 * num / (3 * (height * den - num)) + 1

  long : AreLong ends
  long = are_long corners ends g.rings

  pairs : Pairs (EndsPass num den) given moved_edges
  pairs = ring_pairs num den corners moved h.near ends (length ends)

  both_off : All (HaveBoth IsOffMiddles) moved_edges
  both_off =
      all_both IsOffMiddles moved ends long
      (λ r l. let within = (g.rings.rings r l).ends_within in let many = h.near.as_many in omega (arith, within, many))
      g.off

  apart_at : (x : ℕ) (p : Point) → is_touched wider x ≡ false
      → InSquare (in_frame (x / 4 ^ 30) p) (widened r.margin (square_of 0 (i_of x) (j_of x)))
      → IsApartAt r.margin more given p
  unfolding is_touched
  apart_at x p e inside = record {
    f = x / 4 ^ 30;
    i = i_of x;
    j = j_of x;
    i_below = (below_side x).0;
    j_below = (below_side x).1;
    inside = inside;
    missed = e;
  }

  abbrev place_of : ℕ → Framed
  place_of x = place (middle_of 0 (i_of x)) (middle_of 0 (j_of x))

  abbrev middle : ℕ → Point
  middle x = at_frame (x / 4 ^ 30) (place_of x)

  middle_apart : (x : ℕ) → is_touched wider x ≡ false → IsApartAt r.margin more given (middle x)
  middle_apart x e =
      apart_at x (middle x) e
      (subst (λ (c : Framed). InSquare c (widened r.margin (square_of 0 (i_of x) (j_of x))))
      (sym (framed_at (x / 4 ^ 30) (place_of x))) (middle_inside r.margin (i_of x) (j_of x)))

  -- arcs to a far direction in the square of a leaf `y` that isn't touched
  module _ (y : ℕ) (out : is_touched wider y ≡ false) where
    most : ℕ
    most = 2 ^ 62 + room given + room moved_edges

    abbrev beside_y : Framed
    beside_y = beside (far_enough most) (along (middle_of 0 (i_of y))) (along (middle_of 0 (j_of y)))

    abbrev end : Point
    end = at_frame (y / 4 ^ 30) beside_y

    large : 2 ^ 62 ≤ most
    unfolding most
    large = omega arith

    far : (f : ℕ) → IsFar (far_enough most) (in_frame f end)
    far = far_from (far_enough most) (y / 4 ^ 30) (along (middle_of 0 (i_of y))) (along (middle_of 0 (j_of y)))

    end_apart : IsApartAt r.margin more given end
    end_apart =
        apart_at y end out
        (subst (λ (c : Framed). InSquare c (widened r.margin (square_of 0 (i_of y) (j_of y))))
        (sym (framed_at (y / 4 ^ 30) beside_y)) (beside_inside (far_enough most) r.margin (i_of y) (j_of y)
        (omega arith)))

    given_steady : All (IsSteady most) given
    unfolding most
    given_steady = all_given num den height most h.less given moved_edges pairs h.clear g.directions (omega arith)

    moved_steady : All (IsSteady most) moved_edges
    unfolding most
    moved_steady = all_moved num den height most h.less given moved_edges pairs h.clear both_off (omega arith)

    abbrev given_arcs : ℕ → Framed → Bool
    given_arcs = arcs most large end far given given_steady (closed corners ends long)

    abbrev moved_arcs : ℕ → Framed → Bool
    moved_arcs = arcs most large end far moved_edges moved_steady (closed moved ends long)

    -- from a leaf that isn't touched both lists are come over alike
    arcs_of : (x : ℕ) → is_touched wider x ≡ false → given_arcs (x / 4 ^ 30) (place_of x)
        ≡ moved_arcs (x / 4 ^ 30) (place_of x)
    unfolding differs at_corner
    arcs_of x e =
        let f = x / 4 ^ 30 in
        let p = middle x in
        ap (given_arcs f) (sym (framed_at f (place_of x)))
        ∙ arcs_alike most large end far given given_steady (closed corners ends long) f p
        ∙ same_of_even (given_arcs 0 (in_frame 0 p)) (moved_arcs 0 (in_frame 0 p)) _
        (all_even num den height r.margin more h.less (pays_of num den height r.margin h.less h.most) p end given
        moved_edges pairs h.clear (middle_apart x e) end_apart)
        (rings_even num den corners moved h.near
        (λ a b. arc (in_frame 0 p) (in_frame 0 end) (in_frame 0 a) (in_frame 0 b)) ends long (length ends)
        (omega arith))
        ∙ sym (arcs_alike most large end far moved_edges moved_steady (closed moved ends long) f p)
        ∙ ap (moved_arcs f) (framed_at f (place_of x))

    odd_alike : (x : ℕ) → x < LEAVES → y < LEAVES → is_touched wider x ≡ false
        → xor (odd_at given x) (odd_at given y) ≡ xor (odd_at moved_edges x) (odd_at moved_edges y)
    odd_alike x l k e =
        ap₂ xor (leaf_over most large end far given given_steady (closed corners ends long) x (omega (arith, l)))
        (leaf_over most large end far given given_steady (closed corners ends long) y (omega (arith, k)))
        ∙ same_start _ (given_arcs (x / 4 ^ 30) (place_of x)) (given_arcs (y / 4 ^ 30) (place_of y))
        ∙ ap₂ xor (arcs_of x e) (arcs_of y out)
        ∙ sym (ap₂ xor (leaf_over most large end far moved_edges moved_steady (closed moved ends long) x
        (omega (arith, l)))
        (leaf_over most large end far moved_edges moved_steady (closed moved ends long) y (omega (arith, k)))
        ∙ same_start _ (moved_arcs (x / 4 ^ 30) (place_of x)) (moved_arcs (y / 4 ^ 30) (place_of y)))

  same_sides : (px py po qx qy qo : Bool) → xor px py ≡ xor qx qy → xor px po ≡ xor py po → xor qx qo ≡ xor qy qo
  same_sides px py po qx qy qo e k =
      ap (λ (z : Bool). xor z qo) (same_of qx qy (sym e
      ∙ sym (drop px po py)
      ∙ ap₂ xor k (xor_same po py)
      ∙ xor_self (xor py po)))

  pub sides_moved : (x y : ℕ) → x < LEAVES → y < LEAVES → is_touched wider x ≡ false → is_touched wider y ≡ false
      → (inside (of_rings r corners ends) x ≡ inside (of_rings r corners ends) y)
      ↔ (inside (of_rings r moved ends) x ≡ inside (of_rings r moved ends) y)
  sides_moved x y l k a b =
      let e = odd_alike y b x l k a in (
        same_sides (odd_at given x) (odd_at given y) (odd_at given r.outside) (odd_at moved_edges x)
            (odd_at moved_edges y) (odd_at moved_edges r.outside) e,
        same_sides (odd_at moved_edges x) (odd_at moved_edges y) (odd_at moved_edges r.outside) (odd_at given x)
            (odd_at given y) (odd_at given r.outside) (sym e),
      )

  away : (z : ℕ) → is_touched wider z ≡ false → is_touched (of_rings r moved ends) z ≡ false
  away z e = by (is_touched (of_rings r moved ends) z) refl
    where
      by : (t : Bool) → is_touched (of_rings r moved ends) z ≡ t → is_touched (of_rings r moved ends) z ≡ false
      by false p = p
      by true p = absurd (true≢false (sym (touched_moved num den height r corners moved ends z h p) ∙ e))

  pub outer_moved : (x : ℕ) → x < LEAVES → r.outside < LEAVES → is_touched wider r.outside ≡ false
      → outer_leaf (of_rings r moved ends) x ≡ true → outer_leaf wider x ≡ true
  outer_moved x l k out is = by (is_touched wider x) refl
    where
      by : (t : Bool) → is_touched wider x ≡ t → outer_leaf wider x ≡ true
      by true e = rw e refl
      by false e =
          rw (e, odd_alike r.outside out x l k e)
          (rw (away x e) at is)

  pub inner_moved : (x : ℕ) → x < LEAVES → r.outside < LEAVES → is_touched wider r.outside ≡ false
      → inner_leaf wider x ≡ true → inner_leaf (of_rings r moved ends) x ≡ true
  inner_moved x l k out is = by (is_touched wider x) refl
    where
      none : (a : Bool) → a && false ≡ false
      none true = refl
      none false = refl

      by : (t : Bool) → is_touched wider x ≡ t → inner_leaf (of_rings r moved ends) x ≡ true
      by true e = absurd (true≢false (sym (rw e at is) ∙ none (inside wider x)))
      by false e = rw (away x e, sym (odd_alike r.outside out x l k e)) (rw e at is)
