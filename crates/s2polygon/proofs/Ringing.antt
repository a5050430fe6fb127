-- Rings, edge by edge and ring by ring.
use Rattle.std.proofs.Common.{◌≡◌, ◌≢◌, refl, sym, ap, ◌∙◌, ℕ, suc, ◌+◌, ◌-◌, ◌<◌, ◌≤◌, ◌==◌, arith, Bool}
use Rattle.std.proofs.Common.{true, false, cond, nat_lt, ltb-true, ltb-false, eqb-true, List, [], ◌∷◌, ◌++◌}
use Rattle.std.proofs.Common.{append_assoc, length, get_or, inl, inr, ◌⊎◌}
use Rattle.std.proofs.lemmas.Bool.Decides.{Decides-eqb}
use Rattle.std.proofs.lemmas.List.{get_or_read}
use Rattle.s2polygon.specs.Directions.{Point, origin}
use Rattle.s2polygon.specs.Rings.{AreOpposite, FaultMeans, after, corner, HasNoOpposite, IsRing}
use Rattle.s2polygon.specs.Rings.{edge_from, edges_from, ring_edges, rings_edges, start_of}
use Rattle.s2polygon.specs.Working.Rings.{RingFaultMeans, RingsFaultMeans}
use Rattle.s2polygon.specs.declared.directions.Edge.{Edge}
use Rattle.s2polygon.specs.declared.fault.PolygonFault.{PolygonFault}
use Rattle.s2polygon.specs.declared.fault.PolygonFault.TheVariants.{NoRing, WrongEnd, TooFewCorners, Antipodal}
use Rattle.s2polygon.specs.declared.fault.PolygonFault.TheVariants.{NotALeaf, MarginTooLarge, Memory}

less_or_same : (j i : ℕ) → j ≤ i → (j < i) ⊎ (j ≡ i)
less_or_same j i h = by (nat_lt j i) refl
  where
    by : (t : Bool) → nat_lt j i ≡ t → (j < i) ⊎ (j ≡ i)
    by true e = inl (ltb-true j i e)
    by false e = let l = ltb-false j i e in let same : j ≡ i = omega arith in inr same

-- ---- the corner after one
pub record IsAfter (from end i next : ℕ) : Type 0 where
  pub is : next ≡ after from end i
  pub within : next < end

pub after_last : (from end i next : ℕ) → from < end → i + 1 ≡ end → next ≡ from → IsAfter from end i next
after_last from end i next h e f = record {
  is = f ∙ sym (ap (λ (t : Bool). cond t from (i + 1)) ((Decides-eqb (i + 1) end).1 e));
  within = omega arith;
}

pub after_other : (from end i next : ℕ) → i < end → i + 1 ≢ end → next ≡ i + 1 → IsAfter from end i next
after_other from end i next h e f = record {
  is = f ∙ sym (ap (λ (t : Bool). cond t from (i + 1)) (by (i + 1 == end) refl));
  within = omega arith;
}
  where
    by : (t : Bool) → (i + 1 == end) ≡ t → (i + 1 == end) ≡ false
    by true is = absurd (e (eqb-true (i + 1) end is))
    by false is = is

-- the edge that code makes of two corners
pub edge_made : (corners : List Point) (from end i next : ℕ) (a b : Point) → i < end → end ≤ length corners
    → IsAfter from end i next
    → a ≡ get_or corners i a → b ≡ get_or corners next b → ◌≡◌ {A = Edge} (record { a = a; b = b })
    (edge_from corners from end i)
edge_made corners from end i next a b h l n p q =
    let w = n.within in
    let first = get_or_read corners i a (omega arith) p origin in
    let last = get_or_read corners next b (omega arith) q origin ∙ ap (corner corners) n.is in
    rw (first, last) refl

-- ---- a ring
-- the edges of a ring up to corner `i`
pub record RingedTo (corners : List Point) (from end i : ℕ) (old new : List Edge) : Type 0 where
  pub first : from ≤ i
  pub edges : new ≡ old ++ edges_from corners from end (i - from)
  pub proper : (j : ℕ) → from ≤ j → j < i → ¬ (AreOpposite (edge_from corners from end j))

pub ringed_next : (corners : List Point) (from end i : ℕ) (old new : List Edge) (e : Edge)
    → RingedTo corners from end i old new
    → e ≡ edge_from corners from end i → ¬ (AreOpposite e) → RingedTo corners from end (i + 1) old (new ++ (e ∷ []))
ringed_next corners from end i old new e h is apart =
    let l = h.first in
    let more : i + 1 - from ≡ suc (i - from) = omega arith in
    let at : from + (i - from) ≡ i = omega arith in
    record {
      first = omega arith;
      edges = rw more (ap (λ (l : List Edge). l ++ (e ∷ [])) h.edges ∙ append_assoc old
          (edges_from corners from end (i - from)) (e ∷ [])
          ∙ ap (λ (x : Edge). old ++ (edges_from corners from end (i - from) ++ (x ∷ [])))
          (is ∙ ap (edge_from corners from end) (sym at)));
      proper = λ j k m. by j k (less_or_same j i (omega arith));
    }
  where
    by : (j : ℕ) → from ≤ j → (j < i) ⊎ (j ≡ i) → ¬ (AreOpposite (edge_from corners from end j))
    by j k (inl l) = h.proper j k l
    by j k (inr s) = rw (s, sym is) apart

-- the edges of the first `n` rings
pub record RingsTo (corners : List Point) (ends : List ℕ) (n from : ℕ) (new : List Edge) : Type 0 where
  pub edges : new ≡ rings_edges corners ends n
  pub start : from ≡ start_of ends n
  pub within : from ≤ length corners
  pub rings : (r : ℕ) → r < n → IsRing corners ends r

pub rings_next : (corners : List Point) (ends : List ℕ) (n from end : ℕ) (old new : List Edge)
    → RingsTo corners ends n from old
    → end ≡ get_or ends n 0 → from + 3 ≤ end → end ≤ length corners → new ≡ old ++ edges_from corners from end
    (end - from)
    → HasNoOpposite corners from end → RingsTo corners ends (n + 1) end new
rings_next corners ends n from end old new h e long within is apart =
    let one : n + 1 ≡ suc n = omega arith in
    let s = h.start in
    record {
      edges = rw one (is ∙ ap (λ (l : List Edge). l ++ edges_from corners from end (end - from)) h.edges
          ∙ ap (λ (l : List Edge). rings_edges corners ends n ++ l) (same_ring s e));
      start = rw one e;
      within = within;
      rings = λ r l. by r (less_or_same r n (omega arith));
    }
  where
    same_ring : from ≡ start_of ends n → end ≡ get_or ends n 0 → edges_from corners from end (end - from)
        ≡ ring_edges corners ends n
    same_ring p q = rw (p, q) refl

    last : IsRing corners ends n
    last =
        let p = sym h.start in
        let q = sym e in
        record {
          begins = rw (p, q) long;
          ends_within = rw q within;
          edges = rw (p, q) apart;
        }

    by : (r : ℕ) → (r < n) ⊎ (r ≡ n) → IsRing corners ends r
    by r (inl l) = h.rings r l
    by r (inr s) = rw s last

-- a fault of one ring is one of the rings
pub ring_fault : (corners : List Point) (ends : List ℕ) (r from end : ℕ) (fault : PolygonFault) → r < length ends
    → from ≡ start_of ends r
    → end ≡ get_or ends r 0 → RingFaultMeans corners from end fault → RingsFaultMeans corners ends fault
ring_fault corners ends r from end NoRing l s e h = absurd h
ring_fault corners ends r from end (WrongEnd k) l s e h = absurd h
ring_fault corners ends r from end (TooFewCorners k) l s e h = absurd h
ring_fault corners ends r from end (Antipodal i) l s e h =
    let p = sym s in
    let q = sym e in
    (r, record { ring = l; first = rw p h.first; last = rw q h.last; opposite = rw (p, q) h.opposite })
ring_fault corners ends r from end NotALeaf l s e h = absurd h
ring_fault corners ends r from end MarginTooLarge l s e h = absurd h
ring_fault corners ends r from end Memory l s e h = tt

-- a fault of the rings is one of the polygon
pub rings_fault : (corners : List Point) (ends : List ℕ) (outside margin : ℕ) (fault : PolygonFault)
    → RingsFaultMeans corners ends fault
    → FaultMeans corners ends outside margin fault
rings_fault corners ends outside margin NoRing h = h
rings_fault corners ends outside margin (WrongEnd k) h = h
rings_fault corners ends outside margin (TooFewCorners k) h = h
rings_fault corners ends outside margin (Antipodal i) h = h
rings_fault corners ends outside margin NotALeaf h = absurd h
rings_fault corners ends outside margin MarginTooLarge h = absurd h
rings_fault corners ends outside margin Memory h = tt
