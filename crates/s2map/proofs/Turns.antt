-- Places a turn apart are one place.
use Rattle.std.proofs.Common.{◌≡◌, refl, sym, ◌∙◌, ap₂, ◌*◌, ◌≤◌, ℤ, pos, neg_ℤ, ◌+ℤ◌, ◌*ℤ◌}
use Rattle.std.proofs.Common.{arith, int_le, lit≤, Bool, true, false, List, []}
use Rattle.std.proofs.Common.{◌∷◌}
use Rattle.std.proofs.Common.{All, ◌||◌}
use Rattle.std.proofs.lemmas.Int.{ints}
use Rattle.std.proofs.lemmas.List.Elements.{All-head, All-tail}
use Rattle.std.proofs.Math.Bool.{xor}
use Rattle.s2degrees.specs.Degrees.{turn}
use Rattle.s2polygon.proofs.Integers.{at, ◌⊕◌, ◌⊖◌, ◌⊗◌, equal}
use Rattle.s2map.proofs.Answers.{le_false, le_not, le_out, le_true}
use Rattle.s2map.proofs.Meanings.{far_turns}
use Rattle.s2map.specs.Map.{IsMapEdge, IsMapPlace, inside, inside_part, passes_north, passes_on_turns}
use Rattle.s2map.specs.Map.{place_turned, side, turned, turns}
use Rattle.s2map.specs.declared.place.MapEdge.{MapEdge}
use Rattle.s2map.specs.declared.place.Place.{Place}

le_moved : (a x t : ℤ) → int_le (a +ℤ t) (x +ℤ t) ≡ int_le a x
le_moved a x t = by (int_le a x) refl
  where
    by : (c : Bool) → int_le a x ≡ c → int_le (a +ℤ t) (x +ℤ t) ≡ int_le a x
    by true e = (let h = le_out a x e in le_true (a +ℤ t) (x +ℤ t) (omega (arith, ints, h))) ∙ sym e
    by false e = (let h = le_not a x e in le_false (a +ℤ t) (x +ℤ t) (omega (arith, ints, h))) ∙ sym e

-- the place and the edge, moved east by as much
module _ (p : Place) (e : MapEdge) (t : ℤ) where
  abbrev moved : Place → Place
  moved c = record c { longitude = c.longitude +ℤ t }

  abbrev edge_moved : MapEdge
  edge_moved = record { a = moved e.a; b = moved e.b }

  side_moved : side edge_moved (moved p) ≡ side e p
  side_moved =
      let ax = at e.a.longitude in
      let ay = at e.a.latitude in
      let bx = at e.b.longitude in
      let by = at e.b.latitude in
      let x = at p.longitude in
      let y = at p.latitude in
      let d = at t in
      equal (((bx ⊕ d) ⊖ (ax ⊕ d)) ⊗ (y ⊖ ay) ⊖ ((x ⊕ d) ⊖ (ax ⊕ d)) ⊗ (by ⊖ ay))
      ((bx ⊖ ax) ⊗ (y ⊖ ay) ⊖ (x ⊖ ax) ⊗ (by ⊖ ay)) (omega arith)

  passes_moved : passes_north (moved p) edge_moved ≡ passes_north p e
  passes_moved = rw (le_moved e.a.longitude p.longitude t, le_moved e.b.longitude p.longitude t, side_moved) refl

-- an edge some turns east, seen from a place one turn east
one_less : (p : Place) (e : MapEdge) (k j : ℤ) → ((x : ℤ) → x +ℤ k *ℤ pos turn ≡ (x +ℤ j *ℤ pos turn) +ℤ pos turn)
    → passes_north (place_turned (pos 1) p) (turned k e) ≡ passes_north p (turned j e)
one_less p e k j h =
    rw (h e.a.longitude, h e.b.longitude) (passes_moved p (turned j e) (pos turn))

-- seven answers, and the same moved by one, where the first and the last are no
moved_by_one : (a b c d e f g h : Bool) → a ≡ false → h ≡ false
    → xor a (xor b (xor c (xor d (xor e (xor f (xor g false)))))) ≡ xor b
    (xor c (xor d (xor e (xor f (xor g (xor h false))))))
unfolding xor
moved_by_one a b c d e f g h ea eh = rw (ea, eh) (none_first (xor b (xor c (xor d (xor e (xor f (xor g false)))))))
  where
    none_first : (x : Bool) → xor false x ≡ x
    none_first true = refl
    none_first false = refl

module _ (p : Place) (is : IsMapPlace p) (next : IsMapPlace (place_turned (pos 1) p)) where
  turned_passing : (e : MapEdge) → IsMapEdge e → passes_on_turns (place_turned (pos 1) p) e ≡ passes_on_turns p e
  turned_passing e edge =
      let q = place_turned (pos 1) p in
      let last : passes_north q (turned (pos 4) e) ≡ false = far_turns q e (pos 4) next edge (lit≤ tt) in
      let first : passes_north p (turned (neg_ℤ (pos 4)) e) ≡ false =
      far_turns p e (neg_ℤ (pos 4)) is edge (lit≤ tt) in
      let f = λ (k : ℤ). passes_north p (turned k e) in
      rw (
        one_less p e (neg_ℤ (pos 3)) (neg_ℤ (pos 4)) (λ x. omega (arith, ints)),
        one_less p e (neg_ℤ (pos 2)) (neg_ℤ (pos 3)) (λ x. omega (arith, ints)),
        one_less p e (neg_ℤ (pos 1)) (neg_ℤ (pos 2)) (λ x. omega (arith, ints)),
        one_less p e (pos 0) (neg_ℤ (pos 1)) (λ x. omega (arith, ints)),
        one_less p e (pos 1) (pos 0) (λ x. omega (arith, ints)),
        one_less p e (pos 2) (pos 1) (λ x. omega (arith, ints)),
        one_less p e (pos 3) (pos 2) (λ x. omega (arith, ints)),
      )
      (moved_by_one (f (neg_ℤ (pos 4))) (f (neg_ℤ (pos 3))) (f (neg_ℤ (pos 2))) (f (neg_ℤ (pos 1))) (f (pos 0))
      (f (pos 1)) (f (pos 2)) (f (pos 3)) first
      (sym (one_less p e (pos 4) (pos 3) (λ x. omega (arith, ints))) ∙ last))

  turned_part : (es : List MapEdge) → All IsMapEdge es → inside_part (place_turned (pos 1) p) es ≡ inside_part p es
  turned_part [] edges = refl
  turned_part (e ∷ es) edges =
      ap₂ xor (turned_passing e (All-head IsMapEdge e es edges)) (turned_part es (All-tail IsMapEdge e es edges))

  pub turned_inside : (shape : List (List MapEdge)) → All (All IsMapEdge) shape
      → inside shape (place_turned (pos 1) p) ≡ inside shape p
  turned_inside [] parts = refl
  turned_inside (es ∷ shape) parts =
      ap₂ ◌||◌ (turned_part es (All-head (All IsMapEdge) es shape parts))
      (turned_inside shape (All-tail (All IsMapEdge) es shape parts))
