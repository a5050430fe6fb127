-- The positions and the rings of a shape, as they are written one after the other.
use Rattle.std.proofs.Common.{◌≡◌, ◌∙◌, ℕ, zero, suc, ◌+◌, ◌-◌, ◌<◌, ◌≤◌}
use Rattle.std.proofs.Common.{◌⊎◌, List, [], ◌∷◌, ◌++◌, ap, sym, refl, arith}
use Rattle.std.proofs.Common.{append_assoc, drop, get_or, length, map, take, if◌then◌else◌, inl, inr, Bool}
use Rattle.std.specs.Prelude.{slice_set}
use Rattle.std.proofs.lemmas.Bool.{le-ltb, lt-ltb}
use Rattle.std.proofs.lemmas.List.{drop_more, length-map, map_more, set-append_right, length-take-le}
use Rattle.std.proofs.Math.ListN.{drop_of_length-le}
use Rattle.s2shape.specs.Reading.{Shape}
use Rattle.s2shape.specs.declared.shape.Part.{Part}
use Rattle.s2shape.specs.declared.shape.Position.{Position}
use Rattle.s2union_c.specs.Reading.{HasNoRoomForShape, no_polygon, place_of}
use Rattle.s2union_c.specs.Reading.{polygon_number, polygon_of_ring, rings_from}
use Rattle.s2union_c.specs.Status.{no_room}
use Rattle.s2union_c.specs.declared.reading.Place.{Place}
use Rattle.s2union_c.specs.declared.reading.Ring.{Ring}

-- ---- one more element, behind those that were written

written_next : {X : Type 0} (front old out : List X) (k : ℕ) (v : X) → length front ≡ k → k < length old
    → out ≡ front ++ drop k old → slice_set out k v ≡ (front ++ v ∷ []) ++ drop (k + 1) old
written_next {X} front old out k v long lt so_far =
    let none : k - k ≡ 0 = omega arith in
    let rest : slice_set (drop k old) (k - k) v ≡ v ∷ drop (k + 1) old =
    ap (λ n. slice_set (drop k old) n v) none ∙ ap (λ (xs : List X). slice_set xs 0 v) (drop_more old k v lt) in
    ap (λ xs. slice_set xs k v) so_far
    ∙ set-append_right front (drop k old) k k v long (omega arith)
    ∙ ap (λ xs. front ++ xs) rest
    ∙ sym (append_assoc front (v ∷ []) (drop (k + 1) old))

-- the positions
pub places_next : (positions : List Position) (old out : List Place) (k : ℕ) (d : Position) (v : Place)
    → k < length positions → length positions ≤ length old → out ≡ map place_of (take k positions) ++ drop k old
    → v ≡ place_of (get_or positions k d)
    → slice_set out k v ≡ map place_of (take (k + 1) positions) ++ drop (k + 1) old
places_next positions old out k d v lt room so_far is =
    let front = map place_of (take k positions) in
    let long : length front ≡ k = length-map (take k positions) place_of ∙ length-take-le k positions (omega arith) in
    written_next front old out k v long (omega arith) so_far
    ∙ ap (λ p. (front ++ p ∷ []) ++ drop (k + 1) old) is
    ∙ ap (λ xs. xs ++ drop (k + 1) old) (sym (map_more place_of positions k d lt))

-- a ring
ring_at : ℕ → List ℕ → List Part → ℕ → Ring
ring_at first ends parts k = record { end = get_or ends k 0; polygon = polygon_of_ring (first + k) 0 parts }

rings_length : (first : ℕ) (ends : List ℕ) (parts : List Part) → length (rings_from first ends parts) ≡ length ends
unfolding rings_from
rings_length first [] parts = refl
rings_length first (end ∷ ends) parts = ap suc (rings_length (suc first) ends parts)

rings_more : (first : ℕ) (ends : List ℕ) (parts : List Part) (k : ℕ) → k < length ends
    → rings_from first (take (suc k) ends) parts
    ≡ rings_from first (take k ends) parts ++ ring_at first ends parts k ∷ []
unfolding rings_from ring_at
rings_more first [] parts k lt = absurd (omega arith)
rings_more first (end ∷ ends) parts zero lt =
    let same : first ≡ first + 0 = omega arith in
    ap (λ n. record { end = end; polygon = polygon_of_ring n 0 parts } ∷ []) same
rings_more first (end ∷ ends) parts (suc k) lt =
    let same : suc first + k ≡ first + suc k = omega arith in
    ap (λ xs. record { end = end; polygon = polygon_of_ring first 0 parts } ∷ xs)
    (rings_more (suc first) ends parts k (omega arith)
    ∙ ap (λ n. rings_from (suc first) (take k ends) parts
    ++ record { end = get_or ends k 0; polygon = polygon_of_ring n 0 parts } ∷ []) same)

pub rings_next : (ends : List ℕ) (parts : List Part) (old out : List Ring) (k polygon : ℕ) → k < length ends
    → length ends ≤ length old → out ≡ rings_from 0 (take k ends) parts ++ drop k old
    → polygon ≡ polygon_of_ring k 0 parts
    → slice_set out k record { end = get_or ends k 0; polygon = polygon }
    ≡ rings_from 0 (take (k + 1) ends) parts ++ drop (k + 1) old
unfolding ring_at
rings_next ends parts old out k polygon lt room so_far is =
    let front = rings_from 0 (take k ends) parts in
    let long : length front ≡ k = rings_length 0 (take k ends) parts ∙ length-take-le k ends (omega arith) in
    let on : suc k ≡ k + 1 = omega arith in
    let start : polygon_of_ring k 0 parts ≡ polygon_of_ring (0 + k) 0 parts =
    (let same : k ≡ 0 + k = omega arith in ap (λ n. polygon_of_ring n 0 parts) same) in
    written_next front old out k record { end = get_or ends k 0; polygon = polygon } long (omega arith) so_far
    ∙ ap (λ n. (front ++ record { end = get_or ends k 0; polygon = n } ∷ []) ++ drop (k + 1) old) (is ∙ start)
    ∙ ap (λ xs. xs ++ drop (k + 1) old) (sym (rings_more 0 ends parts k lt))
    ∙ ap (λ n. rings_from 0 (take n ends) parts ++ drop (k + 1) old) on

-- ---- the part of a ring

-- a part that ends before a ring is passed over
pub passed_over : (ring at : ℕ) (parts : List Part) (d : Part) → at < length parts → (get_or parts at d).end ≤ ring
    → polygon_of_ring ring at (drop at parts) ≡ polygon_of_ring ring (at + 1) (drop (at + 1) parts)
unfolding polygon_of_ring
passed_over ring at parts d lt le =
    let part = get_or parts at d in
    let on : suc at ≡ at + 1 = omega arith in
    ap (polygon_of_ring ring at) (drop_more parts at d lt)
    ∙ ap (λ (b : Bool). if b then polygon_number part.kind at else polygon_of_ring ring (suc at) (drop (at + 1) parts))
    (le-ltb ring part.end le)
    ∙ ap (λ n. polygon_of_ring ring n (drop (at + 1) parts)) on

-- a ring lies in the part that ends beyond it
pub found_in : (ring at : ℕ) (parts : List Part) (d : Part) → at < length parts → ring < (get_or parts at d).end
    → polygon_of_ring ring at (drop at parts) ≡ polygon_number (get_or parts at d).kind at
unfolding polygon_of_ring
found_in ring at parts d lt beyond =
    let part = get_or parts at d in
    ap (polygon_of_ring ring at) (drop_more parts at d lt)
    ∙ ap (λ (b : Bool). if b then polygon_number part.kind at else polygon_of_ring ring (suc at) (drop (at + 1) parts))
    (lt-ltb ring part.end beyond)

-- after all parts
pub in_none : (ring at : ℕ) (parts : List Part) → length parts ≤ at
    → polygon_of_ring ring at (drop at parts) ≡ no_polygon
unfolding polygon_of_ring
in_none ring at parts le = ap (polygon_of_ring ring at) (drop_of_length-le parts le)

-- ---- buffers that are too short

pub no_room_for : (s : Shape) (places : List Place) (rings : List Ring) (p r : ℕ) → p ≡ length s.positions
    → r ≡ length s.rings → (length places < p) ⊎ (length rings < r)
    → HasNoRoomForShape s no_room record {
      places_old = places;
      places_new = places;
      places_len = p;
      rings_old = rings;
      rings_new = rings;
      rings_len = r;
    }
no_room_for s places rings p r ps rs short =
    let places_long = length-map s.positions place_of in
    let rings_long = rings_length 0 s.rings s.parts in
    record {
      status_is = refl;
      places_len_is = ps ∙ sym places_long;
      rings_len_is = rs ∙ sym rings_long;
      short = elim short [ inl h ↦ inl (omega arith) | inr h ↦ inr (omega arith) ];
      same = record { places = refl; rings = refl };
    }
