-- Consequences of the definitions: of turns, of places on an edge, of an edge that is turned round.
use Rattle.std.proofs.Common.{◌≡◌, refl, ℕ, ◌*◌, ◌<◌, ◌≤◌, ℤ, pos, ◌+ℤ◌, ◌-ℤ◌, ◌*ℤ◌, ◌≤ℤ◌, ◌<ℤ◌, arith, int_le, int_lt}
use Rattle.std.proofs.Common.{unsigned_abs, negsuc, Bool, true, false, not, cond, ◌&&◌, ◌⊎◌, inl, inr}
use Rattle.std.proofs.lemmas.Bool.{and_parts, or_cases}
use Rattle.std.proofs.lemmas.Int.{ints}
use Rattle.s2degrees.specs.Degrees.{quarter, turn}
use Rattle.s2map.proofs.Answers.{le_false, le_out, le_true, lt_out, some_of_five}
use Rattle.s2map.proofs.Corners.{all_left, all_right}
use Rattle.s2polygon.proofs.Integers.{at, ◌⊖◌, ◌⊗◌, equal}
use Rattle.s2map.specs.Boxes.{InBox, lies_aside, lies_east, lies_north, lies_south, lies_west, meets}
use Rattle.s2map.specs.Boxes.{east_corner, west_corner}
use Rattle.s2map.specs.Edges.{LiesOn}
use Rattle.s2map.specs.Map.{IsMapEdge, IsMapPlace, is_west, passes_north, side, turned}
use Rattle.s2map.specs.declared.place.MapBox.{MapBox}
use Rattle.s2map.specs.declared.place.MapEdge.{MapEdge}
use Rattle.s2map.specs.declared.place.Place.{Place}

-- ---- an edge with both ends on one side of the place's meridian
all_west : (p : Place) (e : MapEdge) → e.a.longitude ≤ℤ p.longitude → e.b.longitude ≤ℤ p.longitude
    → passes_north p e ≡ false
all_west p e h k = rw (le_true e.a.longitude p.longitude h, le_true e.b.longitude p.longitude k) refl

all_east : (p : Place) (e : MapEdge) → p.longitude <ℤ e.a.longitude → p.longitude <ℤ e.b.longitude
    → passes_north p e ≡ false
all_east p e h k = rw (le_false e.a.longitude p.longitude h, le_false e.b.longitude p.longitude k) refl

-- a longitude some turns away
east_of : (x y : ℤ) (k : ℕ) → unsigned_abs x ≤ 6 * quarter → unsigned_abs y ≤ 6 * quarter → 3 < k
    → y <ℤ (x +ℤ pos k *ℤ pos turn)
east_of x y k h l m = omega (arith, ints)

west_of : (x y : ℤ) (k : ℕ) → unsigned_abs x ≤ 6 * quarter → unsigned_abs y ≤ 6 * quarter → 2 < k
    → (x +ℤ negsuc k *ℤ pos turn) ≤ℤ y
west_of x y k h l m = omega (arith, ints)

pub far_turns : (p : Place) (e : MapEdge) (k : ℤ) → IsMapPlace p → IsMapEdge e → 3 < unsigned_abs k
    → passes_north p (turned k e) ≡ false
far_turns p e (pos k) h l m = all_east p (turned (pos k) e)
    (east_of e.a.longitude p.longitude k l.a.longitude h.longitude m)
    (east_of e.b.longitude p.longitude k l.b.longitude h.longitude m)
far_turns p e (negsuc k) h l m = all_west p (turned (negsuc k) e)
    (west_of e.a.longitude p.longitude k l.a.longitude h.longitude (omega arith))
    (west_of e.b.longitude p.longitude k l.b.longitude h.longitude (omega arith))

-- ---- a place of the edge in the box
module _ (q : MapBox) (e : MapEdge) (p : Place) (i : InBox q p) (off : q.west <ℤ p.longitude) (on : LiesOn e p) where
  longitude_not : (w : ℤ) → e.a.longitude ≤ℤ w → e.b.longitude ≤ℤ w → w <ℤ p.longitude → ⊥
  longitude_not w h k l = by on.longitude
    where
      by : ((e.a.longitude ≤ℤ p.longitude) × (p.longitude ≤ℤ e.b.longitude)) ⊎ ((e.b.longitude ≤ℤ p.longitude)
          × (p.longitude ≤ℤ e.a.longitude)) → ⊥
      by (inl b) = let m = b.1 in omega (arith, ints)
      by (inr b) = let m = b.1 in omega (arith, ints)

  west_not : lies_west q e ≡ true → ⊥
  west_not t =
      let two = and_parts (int_le e.a.longitude q.west) (int_le e.b.longitude q.west) t in
      longitude_not q.west (le_out e.a.longitude q.west two.0) (le_out e.b.longitude q.west two.1) off

  east_not : lies_east q e ≡ true → ⊥
  east_not t =
      let two = and_parts (int_lt q.east e.a.longitude) (int_lt q.east e.b.longitude) t in
      by (lt_out q.east e.a.longitude two.0) (lt_out q.east e.b.longitude two.1) i.east on.longitude
    where
      by : q.east <ℤ e.a.longitude → q.east <ℤ e.b.longitude → p.longitude ≤ℤ q.east
          → ((e.a.longitude ≤ℤ p.longitude) × (p.longitude ≤ℤ e.b.longitude)) ⊎ ((e.b.longitude ≤ℤ p.longitude)
          × (p.longitude ≤ℤ e.a.longitude)) → ⊥
      by h k l (inl b) = let m = b.0 in omega (arith, ints)
      by h k l (inr b) = let m = b.0 in omega (arith, ints)

  south_not : lies_south q e ≡ true → ⊥
  south_not t =
      let two = and_parts (int_lt e.a.latitude q.south) (int_lt e.b.latitude q.south) t in
      by (lt_out e.a.latitude q.south two.0) (lt_out e.b.latitude q.south two.1) i.south on.latitude
    where
      by : e.a.latitude <ℤ q.south → e.b.latitude <ℤ q.south → q.south ≤ℤ p.latitude
          → ((e.a.latitude ≤ℤ p.latitude) × (p.latitude ≤ℤ e.b.latitude)) ⊎ ((e.b.latitude ≤ℤ p.latitude)
          × (p.latitude ≤ℤ e.a.latitude)) → ⊥
      by h k l (inl b) = let m = b.1 in omega (arith, ints)
      by h k l (inr b) = let m = b.1 in omega (arith, ints)

  north_not : lies_north q e ≡ true → ⊥
  north_not t =
      let two = and_parts (int_lt q.north e.a.latitude) (int_lt q.north e.b.latitude) t in
      by (lt_out q.north e.a.latitude two.0) (lt_out q.north e.b.latitude two.1) i.north on.latitude
    where
      by : q.north <ℤ e.a.latitude → q.north <ℤ e.b.latitude → p.latitude ≤ℤ q.north
          → ((e.a.latitude ≤ℤ p.latitude) × (p.latitude ≤ℤ e.b.latitude)) ⊎ ((e.b.latitude ≤ℤ p.latitude)
          × (p.latitude ≤ℤ e.a.latitude)) → ⊥
      by h k l (inl b) = let m = b.0 in omega (arith, ints)
      by h k l (inr b) = let m = b.0 in omega (arith, ints)

  aside_not : lies_aside q e ≡ true → ⊥
  aside_not t = elim (or_cases
      (int_lt (pos 0) (side e (west_corner q e)) && int_lt (pos 0) (side e (east_corner q e)))
      (int_lt (side e (west_corner q e)) (pos 0) && int_lt (side e (east_corner q e)) (pos 0)) t) [
        | inl u ↦
            let two = and_parts (int_lt (pos 0) (side e (west_corner q e)))
            (int_lt (pos 0) (side e (east_corner q e))) u in
            above (side e p) (all_left q e (lt_out (pos 0) (side e (west_corner q e)) two.0)
            (lt_out (pos 0) (side e (east_corner q e)) two.1) p i) on.line
        | inr u ↦
            let two = and_parts (int_lt (side e (west_corner q e)) (pos 0))
            (int_lt (side e (east_corner q e)) (pos 0)) u in
            below (side e p) (all_right q e (lt_out (side e (west_corner q e)) (pos 0) two.0)
            (lt_out (side e (east_corner q e)) (pos 0) two.1) p i) on.line
      ]
    where
      above : (s : ℤ) → pos 0 <ℤ s → s ≡ pos 0 → ⊥
      above s h k = omega (arith, ints)

      below : (s : ℤ) → s <ℤ pos 0 → s ≡ pos 0 → ⊥
      below s h k = omega (arith, ints)

  pub met : meets q e ≡ true
  met = by (meets q e) refl
    where
      by : (t : Bool) → meets q e ≡ t → meets q e ≡ true
      by true h = h
      by false h = elim (some_of_five (lies_west q e) (lies_east q e) (lies_south q e) (lies_north q e)
          (lies_aside q e) h) [
            | inl t ↦ absurd (west_not t)
            | inr (inl t) ↦ absurd (east_not t)
            | inr (inr (inl t)) ↦ absurd (south_not t)
            | inr (inr (inr (inl t))) ↦ absurd (north_not t)
            | inr (inr (inr (inr t))) ↦ absurd (aside_not t)
          ]

-- ---- an edge that is turned round
module _ (p : Place) (e : MapEdge) where
  abbrev turned_round : MapEdge
  turned_round = record { a = e.b; b = e.a }

  other_side : side turned_round p ≡ pos 0 -ℤ side e p
  other_side =
      let ax = at e.a.longitude in
      let ay = at e.a.latitude in
      let bx = at e.b.longitude in
      let by = at e.b.latitude in
      let x = at p.longitude in
      let y = at p.latitude in
      equal ((ax ⊖ bx) ⊗ (y ⊖ by) ⊖ (x ⊖ bx) ⊗ (ay ⊖ by))
      (at (pos 0) ⊖ ((bx ⊖ ax) ⊗ (y ⊖ ay) ⊖ (x ⊖ ax) ⊗ (by ⊖ ay))) (omega arith)

  below_other : int_lt (side turned_round p) (pos 0) ≡ int_lt (pos 0) (side e p)
  below_other = rw other_side (flip (side e p))
    where
      flip : (s : ℤ) → int_lt (pos 0 -ℤ s) (pos 0) ≡ int_lt (pos 0) s
      flip s = grind (arith, ints)

  above_other : int_lt (pos 0) (side turned_round p) ≡ int_lt (side e p) (pos 0)
  above_other = rw other_side (flip (side e p))
    where
      flip : (s : ℤ) → int_lt (pos 0) (pos 0 -ℤ s) ≡ int_lt s (pos 0)
      flip s = grind (arith, ints)

  exchanged : (a b s n : Bool) → cond b (not a && n) (a && s) ≡ cond a (not b && s) (b && n)
  exchanged true true s n = refl
  exchanged true false s n = refl
  exchanged false true s n = refl
  exchanged false false s n = refl

  pub same_passing : passes_north p turned_round ≡ passes_north p e
  same_passing =
      rw (below_other, above_other) (exchanged (is_west p e.a) (is_west p e.b) (int_lt (side e p) (pos 0))
      (int_lt (pos 0) (side e p)))
