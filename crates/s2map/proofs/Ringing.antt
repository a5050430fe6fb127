-- Rings, edge by edge and ring by ring: an even number of edges has just one end that passes a test.
use Rattle.std.proofs.Common.{◌≡◌, refl, sym, ap, ap₂, ◌∙◌, ℕ, zero, suc, ◌+◌, ◌-◌, ◌<◌, ◌≤◌, ◌==◌, arith, Bool}
use Rattle.std.proofs.Common.{true, false, cond, nat_lt, ltb-true, ltb-false, eqb-true, List, [], ◌∷◌, ◌++◌}
use Rattle.std.proofs.Common.{All, append_assoc, length, lit≤, subst, take, get_or, inl, inr, ◌⊎◌}
use Rattle.std.proofs.Math.Bool.{xor}
use Rattle.std.proofs.lemmas.Bool.{cases_lt, eqb-false}
use Rattle.std.proofs.lemmas.List.{get_or_past, take_all, take_more}
use Rattle.std.proofs.lemmas.List.Elements.{All-append, All-cons, All-get_or, All-nil}
use Rattle.s2polygon.proofs.Changes.{odd_both, xor_self}
use Rattle.s2polygon.proofs.Ringing.{IsAfter}
use Rattle.s2polygon.proofs.Steps.{odd_more}
use Rattle.s2polygon.proofs.Turned.{drop}
use Rattle.s2polygon.specs.Rings.{after, start_of}
use Rattle.s2map.specs.Map.{IsMapEdge, IsMapPlace}
use Rattle.s2polygon.specs.Parity.{is_odd_by}
use Rattle.s2map.specs.Rings.{AreRings, IsRing, corner, edge_from, edges_from, origin, ring_edges, rings_edges}
use Rattle.s2map.specs.Working.Even.{IsPart, has_one}
use Rattle.s2map.specs.declared.place.MapEdge.{MapEdge}
use Rattle.s2map.specs.declared.place.Place.{Place}

-- the edge that code makes of two corners
pub edge_made : (corners : List Place) (from end i next : ℕ) → IsAfter from end i next
    → ◌≡◌ {A = MapEdge} (record { a = corner corners i; b = corner corners next }) (edge_from corners from end i)
edge_made corners from end i next n =
    ap (λ (k : ℕ). record { a = corner corners i; b = corner corners k }) n.is

-- ---- a ring
-- the edges of a ring up to corner `i`
pub record RingedTo (corners : List Place) (from end i : ℕ) (old new : List MapEdge) : Type 0 where
  pub first : from ≤ i
  pub edges : new ≡ old ++ edges_from corners from end (i - from)

pub ringed_next : (corners : List Place) (from end i : ℕ) (old new : List MapEdge) (e : MapEdge)
    → RingedTo corners from end i old new
    → e ≡ edge_from corners from end i → RingedTo corners from end (i + 1) old (new ++ (e ∷ []))
ringed_next corners from end i old new e h is =
    let l = h.first in
    let more : i + 1 - from ≡ suc (i - from) = omega arith in
    let at : from + (i - from) ≡ i = omega arith in
    record {
      first = omega arith;
      edges = rw more (ap (λ (l : List MapEdge). l ++ (e ∷ [])) h.edges ∙ append_assoc old
          (edges_from corners from end (i - from)) (e ∷ [])
          ∙ ap (λ (x : MapEdge). old ++ (edges_from corners from end (i - from) ++ (x ∷ [])))
          (is ∙ ap (edge_from corners from end) (sym at)));
    }

-- the edges of the first `n` rings
pub record RingsTo (corners : List Place) (ends : List ℕ) (n from : ℕ) (new : List MapEdge) : Type 0 where
  pub edges : new ≡ rings_edges corners ends n
  pub start : from ≡ start_of ends n
  pub within : from ≤ length corners
  pub rings : (r : ℕ) → r < n → IsRing corners ends r

pub rings_next : (corners : List Place) (ends : List ℕ) (n from end : ℕ) (old new : List MapEdge)
    → RingsTo corners ends n from old
    → end ≡ get_or ends n 0 → from + 3 ≤ end → end ≤ length corners → new ≡ old ++ edges_from corners from end
    (end - from)
    → RingsTo corners ends (n + 1) end new
rings_next corners ends n from end old new h e long within is =
    let one : n + 1 ≡ suc n = omega arith in
    let s = h.start in
    record {
      edges = rw one (is ∙ ap (λ (l : List MapEdge). l ++ edges_from corners from end (end - from)) h.edges
          ∙ ap (λ (l : List MapEdge). rings_edges corners ends n ++ l) (same_ring s e));
      start = rw one e;
      within = within;
      rings = λ r l. by r (cases_lt r n) l;
    }
  where
    same_ring : from ≡ start_of ends n → end ≡ get_or ends n 0 → edges_from corners from end (end - from)
        ≡ ring_edges corners ends n
    same_ring p q = rw (p, q) refl

    last : IsRing corners ends n
    last =
        let p = sym h.start in
        let q = sym e in
        record {
          begins = rw (p, q) long;
          ends_within = rw q within;
        }

    by : (r : ℕ) → (r < n) ⊎ (n ≤ r) → r < n + 1 → IsRing corners ends r
    by r (inl l) m = h.rings r l
    by r (inr l) m = let same : r ≡ n = omega arith in rw same last

-- ---- each corner ends one edge and begins another
module _ (test : Place → Bool) (corners : List Place) (from end : ℕ) where
  at_corner : ℕ → Bool
  at_corner i = test (corner corners i)

  next_is : (i : ℕ) → i + 1 < end → after from end i ≡ i + 1
  next_is i l = by (i + 1 == end) refl
    where
      by : (t : Bool) → (i + 1 == end) ≡ t → cond t from (i + 1) ≡ i + 1
      by false e = refl
      by true e = let f = eqb-true (i + 1) end e in absurd (omega arith)

  last_is : (i : ℕ) → i + 1 ≡ end → after from end i ≡ from
  last_is i l = by (i + 1 == end) refl
    where
      by : (t : Bool) → (i + 1 == end) ≡ t → cond t from (i + 1) ≡ from
      by true e = refl
      by false e = absurd (eqb-false (i + 1) end e l)

  some_edges : (n : ℕ) → from + n < end → is_odd_by (has_one test) (edges_from corners from end n)
      ≡ xor (at_corner from) (at_corner (from + n))
  unfolding at_corner
  some_edges zero l =
      let e : from + 0 ≡ from = omega arith in
      rw e (sym (xor_self (at_corner from)))
  some_edges (suc n) l =
      let more : from + suc n ≡ from + n + 1 = omega arith in
      odd_more (has_one test) (edges_from corners from end n) (edge_from corners from end (from + n))
      ∙ ap₂ xor (some_edges n (omega arith))
      (ap (λ (i : ℕ). xor (at_corner (from + n)) (at_corner i)) (next_is (from + n) (omega arith) ∙ sym more))
      ∙ drop (at_corner from) (at_corner (from + n)) (at_corner (from + suc n))

  all_edges : (n : ℕ) → from + suc n ≡ end → is_odd_by (has_one test) (edges_from corners from end (suc n)) ≡ false
  unfolding at_corner
  all_edges n l =
      odd_more (has_one test) (edges_from corners from end n) (edge_from corners from end (from + n))
      ∙ ap₂ xor (some_edges n (omega arith))
      (ap (λ (i : ℕ). xor (at_corner (from + n)) (at_corner i)) (last_is (from + n) (omega arith)))
      ∙ drop (at_corner from) (at_corner (from + n)) (at_corner from)
      ∙ xor_self (at_corner from)

  ring_even : from + 3 ≤ end → is_odd_by (has_one test) (edges_from corners from end (end - from)) ≡ false
  ring_even l =
      let n = end - from - 1 in
      let e : end - from ≡ suc n = omega arith in
      ap (λ (m : ℕ). is_odd_by (has_one test) (edges_from corners from end m)) e ∙ all_edges n (omega arith)

rings_even : (corners : List Place) (ends : List ℕ) → ((r : ℕ) → r < length ends → IsRing corners ends r) → (n : ℕ)
    → n ≤ length ends → (test : Place → Bool) → is_odd_by (has_one test) (rings_edges corners ends n) ≡ false
rings_even corners ends h zero l test = refl
rings_even corners ends h (suc n) l test =
    odd_both (has_one test) (rings_edges corners ends n) (ring_edges corners ends n)
    ∙ ap₂ xor (rings_even corners ends h n (omega arith) test)
    (ring_even test corners (start_of ends n) (get_or ends n 0) (h n (omega arith)).begins)
    ∙ xor_self false

-- ---- each edge lies between two places
corner_is : (corners : List Place) → All IsMapPlace corners → (i : ℕ) → IsMapPlace (corner corners i)
corner_is corners h i = by (nat_lt i (length corners)) refl
  where
    at_origin : IsMapPlace origin
    at_origin = record { longitude = lit≤ tt; latitude = lit≤ tt }

    by : (t : Bool) → nat_lt i (length corners) ≡ t → IsMapPlace (corner corners i)
    by true e = All-get_or IsMapPlace corners i origin (ltb-true i (length corners) e) h
    by false e = rw (get_or_past corners i origin (ltb-false i (length corners) e)) at_origin

module _ (corners : List Place) (places : All IsMapPlace corners) where
  each_from : (from end n : ℕ) → All IsMapEdge (edges_from corners from end n)
  each_from from end zero = All-nil IsMapEdge
  each_from from end (suc n) =
      All-append IsMapEdge (edges_from corners from end n) (edge_from corners from end (from + n) ∷ [])
      (each_from from end n)
      (All-cons IsMapEdge (edge_from corners from end (from + n)) []
      (record {
        a = corner_is corners places (from + n);
        b = corner_is corners places (after from end (from + n));
      }) (All-nil IsMapEdge))

  each_of : (ends : List ℕ) (n : ℕ) → All IsMapEdge (rings_edges corners ends n)
  each_of ends zero = All-nil IsMapEdge
  each_of ends (suc n) = All-append IsMapEdge (rings_edges corners ends n) (ring_edges corners ends n) (each_of ends n)
      (each_from (start_of ends n) (get_or ends n 0) (get_or ends n 0 - start_of ends n))

pub part_of_rings : (corners : List Place) (ends : List ℕ) → AreRings corners ends → All IsMapPlace corners
    → IsPart (rings_edges corners ends (length ends))
part_of_rings corners ends h places = record {
  edges = each_of corners places ends (length ends);
  even = rings_even corners ends h.rings (length ends) (omega arith);
}

-- ---- corners that are looked at in turn
pub places_next : (corners : List Place) (i : ℕ) → i < length corners → All IsMapPlace (take i corners)
    → IsMapPlace (corner corners i) → All IsMapPlace (take (i + 1) corners)
places_next corners i l h k =
    subst (All IsMapPlace) (sym (take_more corners i origin l))
    (All-append IsMapPlace (take i corners) (corner corners i ∷ []) h
    (All-cons IsMapPlace (corner corners i) [] k (All-nil IsMapPlace)))

pub places_all : (corners : List Place) (i : ℕ) → length corners ≤ i → All IsMapPlace (take i corners)
    → All IsMapPlace corners
places_all corners i l h = subst (All IsMapPlace) (take_all i corners l) h

pub parts_next : (parts : List (List MapEdge)) (part : List MapEdge) → All IsPart parts → IsPart part
    → All IsPart (parts ++ (part ∷ []))
parts_next parts part h k =
    All-append IsPart parts (part ∷ []) h (All-cons IsPart part [] k (All-nil IsPart))
