-- Short edges, ring by ring.
use Rattle.std.proofs.Common.{◌≡◌, sym, subst, ℕ, suc, ◌+◌, ◌-◌, ◌≤◌, arith}
use Rattle.std.proofs.Common.{All, List, get_or}
use Rattle.std.proofs.lemmas.List.Elements.{All-append, All-push}
use Rattle.s2geodesic.specs.Rounded.{IsShort}
use Rattle.s2geodesic.specs.Working.Shortness.{AreShort}
use Rattle.s2polygon.proofs.Integers.{at, ◌⊕◌, ◌⊗◌, equal}
use Rattle.s2polygon.specs.Directions.{Point}
use Rattle.s2polygon.specs.Moves.{product_of}
use Rattle.s2polygon.specs.Rings.{edge_from, edges_from, ring_edges, rings_edges, start_of}

pub either_way : (p q : Point) → product_of p q ≡ product_of q p
either_way p q =
    equal (at p.x ⊗ at q.x ⊕ at p.y ⊗ at q.y ⊕ at p.z ⊗ at q.z) (at q.x ⊗ at p.x ⊕ at q.y ⊗ at p.y ⊕ at q.z ⊗ at p.z)
    (omega arith)

-- the edges of a ring up to corner `i` are short
pub record ShortTo (corners : List Point) (from end i : ℕ) : Type 0 where
  pub first : from ≤ i
  pub short : AreShort corners from end (i - from)

pub short_next : (corners : List Point) (from end i : ℕ) → ShortTo corners from end i
    → IsShort (edge_from corners from end i) → ShortTo corners from end (i + 1)
short_next corners from end i h this =
    let l = h.first in
    let more : i + 1 - from ≡ suc (i - from) = omega arith in
    let place : from + (i - from) ≡ i = omega arith in
    record {
      first = omega arith;
      short = rw more (All-push IsShort (edges_from corners from end (i - from))
          (edge_from corners from end (from + (i - from))) h.short
          (subst (λ (j : ℕ). IsShort (edge_from corners from end j)) (sym place) this));
    }

-- the edges of the first `n` rings are short
pub record ShortRings (corners : List Point) (ends : List ℕ) (n from : ℕ) : Type 0 where
  pub start : from ≡ start_of ends n
  pub short : All IsShort (rings_edges corners ends n)

pub rings_next : (corners : List Point) (ends : List ℕ) (n from end : ℕ) → ShortRings corners ends n from
    → end ≡ get_or ends n 0 → AreShort corners from end (end - from) → ShortRings corners ends (n + 1) end
rings_next corners ends n from end h e this =
    let one : n + 1 ≡ suc n = omega arith in
    record {
      start = rw one e;
      short = rw one (All-append IsShort (rings_edges corners ends n) (ring_edges corners ends n) h.short
          (same_ring h.start e));
    }
  where
    same_ring : from ≡ start_of ends n → end ≡ get_or ends n 0 → All IsShort (ring_edges corners ends n)
    same_ring p q =
        subst (λ (k : ℕ). All IsShort (edges_from corners k (get_or ends n 0) (get_or ends n 0 - k))) p
        (subst (λ (k : ℕ). All IsShort (edges_from corners from k (k - from))) q this)
