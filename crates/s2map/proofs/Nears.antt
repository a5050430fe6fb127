-- The edges that are left for a box: what is known of a smaller box by them.
use Rattle.std.proofs.Common.{◌≡◌, refl, sym, ap, ap₂, ◌∙◌, pos, arith, int_le, int_lt, ◌⊎◌, inl, inr, Bool, true}
use Rattle.std.proofs.Common.{false, not, cond, ◌&&◌, ◌||◌, List, [], ◌∷◌, All, filter, map, flat_map, subst}
use Rattle.std.proofs.Math.Bool.{xor}
use Rattle.std.proofs.lemmas.Bool.{and_parts, both_ways, or_cases, or_left, or_parts, or_right}
use Rattle.std.proofs.lemmas.Int.{ints}
use Rattle.std.proofs.lemmas.List.Concat.{flat_map-cons}
use Rattle.std.proofs.lemmas.List.Elements.{All-head, All-nil, All-tail}
use Rattle.std.proofs.lemmas.List.Folds.{list_any-append}
use Rattle.std.specs.List.{list_any}
use Rattle.s2polygon.proofs.Changes.{odd_both, xor_none, xor_self}
use Rattle.s2polygon.proofs.Parity.{xor_false}
use Rattle.s2polygon.proofs.Steps.{odd_of_both}
use Rattle.s2polygon.specs.Parity.{is_odd_by}
use Rattle.s2map.proofs.Answers.{le_out, le_true, lt_out, lt_true, some_of_five}
use Rattle.s2map.proofs.Corners.{all_left, all_right}
use Rattle.s2map.proofs.Passing.{step}
use Rattle.s2map.specs.Boxes.{InBox, IsBox, east_corner, holds_box, lies_aside, lies_east, lies_north, lies_south}
use Rattle.s2map.specs.Boxes.{lies_west, meets, met_by, part_of, rises, south_west, west_corner}
use Rattle.s2map.specs.Map.{inside_part, on_turns, passes_north, place_turned, side, turned, turns}
use Rattle.s2map.specs.Working.Even.{IsPart, has_one, passes_over}
use Rattle.s2map.specs.Working.Near.{HasNearEdges, HoldsBox, IsKnown, IsSummary, PartNear, changes, has_edges}
use Rattle.s2map.specs.Working.Near.{has_some, is_whole}
use Rattle.s2map.specs.Working.Near.{narrowed, near_box, part_by, seen}
use Rattle.s2map.specs.declared.near.Known.{Known}
use Rattle.s2map.specs.declared.near.Near.{Near}
use Rattle.s2map.specs.declared.place.MapBox.{MapBox}
use Rattle.s2map.specs.declared.place.MapEdge.{MapEdge}
use Rattle.s2map.specs.declared.place.Place.{Place}
use Rattle.s2map.specs.declared.shape.BoxPart.TheVariants.{Out, In, Met}

none_of_five : (a b c d e : Bool) → (a ≡ true) ⊎ (b ≡ true) ⊎ (c ≡ true) ⊎ (d ≡ true) ⊎ (e ≡ true)
    → (not a && (not b && (not c && (not d && not e)))) ≡ false
none_of_five true b c d e h = refl
none_of_five false true c d e h = refl
none_of_five false false true d e h = refl
none_of_five false false false true e h = refl
none_of_five false false false false true h = refl
none_of_five false false false false false (inl h) = cc
none_of_five false false false false false (inr (inl h)) = cc
none_of_five false false false false false (inr (inr (inl h))) = cc
none_of_five false false false false false (inr (inr (inr (inl h)))) = cc
none_of_five false false false false false (inr (inr (inr (inr h)))) = cc

-- ---- a box that has another one
module _ (q s : MapBox) (h : HoldsBox q s) where
  pub held : (p : Place) → InBox s p → InBox q p
  held p i = record {
    west = let l = h.west in let m = i.west in omega (arith, ints);
    east = let l = h.east in let m = i.east in omega (arith, ints);
    south = let l = h.south in let m = i.south in omega (arith, ints);
    north = let l = h.north in let m = i.north in omega (arith, ints);
  }

  module _ (is : IsBox s) where
    in_west : (up : Bool) → InBox q (record { longitude = s.west; latitude = cond up s.north s.south })
    in_west true = held (record { longitude = s.west; latitude = s.north }) (record {
      west = omega (arith, ints);
      east = is.wide;
      south = is.high;
      north = omega (arith, ints);
    })
    in_west false = held (record { longitude = s.west; latitude = s.south }) (record {
      west = omega (arith, ints);
      east = is.wide;
      south = omega (arith, ints);
      north = is.high;
    })

    in_east : (up : Bool) → InBox q (record { longitude = s.east; latitude = cond up s.south s.north })
    in_east true = held (record { longitude = s.east; latitude = s.south }) (record {
      west = is.wide;
      east = omega (arith, ints);
      south = omega (arith, ints);
      north = is.high;
    })
    in_east false = held (record { longitude = s.east; latitude = s.north }) (record {
      west = is.wide;
      east = omega (arith, ints);
      south = is.high;
      north = omega (arith, ints);
    })

    -- an edge that doesn't meet the larger box doesn't meet the smaller one
    aside : (e : MapEdge) → lies_aside q e ≡ true → lies_aside s e ≡ true
    aside e t = elim (or_cases
        (int_lt (pos 0) (side e (west_corner q e)) && int_lt (pos 0) (side e (east_corner q e)))
        (int_lt (side e (west_corner q e)) (pos 0) && int_lt (side e (east_corner q e)) (pos 0)) t) [
          | inl u ↦
              let two = and_parts (int_lt (pos 0) (side e (west_corner q e)))
              (int_lt (pos 0) (side e (east_corner q e))) u in
              let all = all_left q e (lt_out (pos 0) (side e (west_corner q e)) two.0)
              (lt_out (pos 0) (side e (east_corner q e)) two.1) in
              rw (
                lt_true (pos 0) (side e (west_corner s e)) (all (west_corner s e) (in_west (rises e))),
                lt_true (pos 0) (side e (east_corner s e)) (all (east_corner s e) (in_east (rises e))),
              ) refl
          | inr u ↦
              let two = and_parts (int_lt (side e (west_corner q e)) (pos 0))
              (int_lt (side e (east_corner q e)) (pos 0)) u in
              let all = all_right q e (lt_out (side e (west_corner q e)) (pos 0) two.0)
              (lt_out (side e (east_corner q e)) (pos 0) two.1) in
              or_right (int_lt (pos 0) (side e (west_corner s e)) && int_lt (pos 0) (side e (east_corner s e)))
              (int_lt (side e (west_corner s e)) (pos 0) && int_lt (side e (east_corner s e)) (pos 0))
              (rw (
                lt_true (side e (west_corner s e)) (pos 0) (all (west_corner s e) (in_west (rises e))),
                lt_true (side e (east_corner s e)) (pos 0) (all (east_corner s e) (in_east (rises e))),
              ) refl)
        ]

    west : (e : MapEdge) → lies_west q e ≡ true → lies_west s e ≡ true
    west e t =
        let two = and_parts (int_le e.a.longitude q.west) (int_le e.b.longitude q.west) t in
        let l = le_out e.a.longitude q.west two.0 in
        let m = le_out e.b.longitude q.west two.1 in
        let k = h.west in
        rw (
          le_true e.a.longitude s.west (omega (arith, ints)),
          le_true e.b.longitude s.west (omega (arith, ints)),
        ) refl

    east : (e : MapEdge) → lies_east q e ≡ true → lies_east s e ≡ true
    east e t =
        let two = and_parts (int_lt q.east e.a.longitude) (int_lt q.east e.b.longitude) t in
        let l = lt_out q.east e.a.longitude two.0 in
        let m = lt_out q.east e.b.longitude two.1 in
        let k = h.east in
        rw (
          lt_true s.east e.a.longitude (omega (arith, ints)),
          lt_true s.east e.b.longitude (omega (arith, ints)),
        ) refl

    south : (e : MapEdge) → lies_south q e ≡ true → lies_south s e ≡ true
    south e t =
        let two = and_parts (int_lt e.a.latitude q.south) (int_lt e.b.latitude q.south) t in
        let l = lt_out e.a.latitude q.south two.0 in
        let m = lt_out e.b.latitude q.south two.1 in
        let k = h.south in
        rw (
          lt_true e.a.latitude s.south (omega (arith, ints)),
          lt_true e.b.latitude s.south (omega (arith, ints)),
        ) refl

    north : (e : MapEdge) → lies_north q e ≡ true → lies_north s e ≡ true
    north e t =
        let two = and_parts (int_lt q.north e.a.latitude) (int_lt q.north e.b.latitude) t in
        let l = lt_out q.north e.a.latitude two.0 in
        let m = lt_out q.north e.b.latitude two.1 in
        let k = h.north in
        rw (
          lt_true s.north e.a.latitude (omega (arith, ints)),
          lt_true s.north e.b.latitude (omega (arith, ints)),
        ) refl

    pub missed : (e : MapEdge) → meets q e ≡ false → meets s e ≡ false
    missed e n = none_of_five (lies_west s e) (lies_east s e) (lies_south s e) (lies_north s e) (lies_aside s e)
        (elim (some_of_five (lies_west q e) (lies_east q e) (lies_south q e) (lies_north q e) (lies_aside q e) n) [
          | inl t ↦ inl (west e t)
          | inr (inl t) ↦ inr (inl (east e t))
          | inr (inr (inl t)) ↦ inr (inr (inl (south e t)))
          | inr (inr (inr (inl t))) ↦ inr (inr (inr (inl (north e t))))
          | inr (inr (inr (inr t))) ↦ inr (inr (inr (inr (aside e t))))
        ])

-- ---- lists of which some elements are left out
module _ {A : Type 0} (f m : A → Bool) (none : (x : A) → m x ≡ false → f x ≡ false) where
  odd_kept : (xs : List A) → is_odd_by f (filter m xs) ≡ is_odd_by f xs
  odd_kept [] = refl
  odd_kept (x ∷ xs) = by (m x) refl (odd_kept xs)
    where
      by : (t : Bool) → m x ≡ t → is_odd_by f (filter m xs) ≡ is_odd_by f xs
          → is_odd_by f (cond t (x ∷ filter m xs) (filter m xs)) ≡ xor (f x) (is_odd_by f xs)
      by true e same = ap (xor (f x)) same
      by false e same = same ∙ sym (ap (λ b. xor b (is_odd_by f xs)) (none x e) ∙ xor_false (is_odd_by f xs))

  kept_again : (xs : List A) → filter f (filter m xs) ≡ filter f xs
  kept_again [] = refl
  kept_again (x ∷ xs) = by (m x) refl (kept_again xs)
    where
      by : (t : Bool) → m x ≡ t → filter f (filter m xs) ≡ filter f xs
          → filter f (cond t (x ∷ filter m xs) (filter m xs)) ≡ cond (f x) (x ∷ filter f xs) (filter f xs)
      by true e same = ap (λ (l : List A). cond (f x) (x ∷ l) l) same
      by false e same = same ∙ sym (ap (λ b. cond b (x ∷ filter f xs) (filter f xs)) (none x e))

some_kept : {A : Type 0} (m : A → Bool) (xs : List A) → has_some (filter m xs) ≡ list_any m xs
some_kept m [] = refl
some_kept m (x ∷ xs) = by (m x) (some_kept m xs)
  where
    by : (t : Bool) → has_some (filter m xs) ≡ list_any m xs
        → has_some (cond t (x ∷ filter m xs) (filter m xs)) ≡ t || list_any m xs
    by true same = refl
    by false same = same

odd_alike : {A : Type 0} (f g : A → Bool) → ((x : A) → f x ≡ g x) → (xs : List A) → is_odd_by f xs ≡ is_odd_by g xs
odd_alike f g same [] = refl
odd_alike f g same (x ∷ xs) = ap₂ xor (same x) (odd_alike f g same xs)

-- ---- edges on each turn
odd_on_turns : (f : MapEdge → Bool) (es : List MapEdge) → is_odd_by f (flat_map on_turns es)
    ≡ is_odd_by (λ e. is_odd_by f (on_turns e)) es
odd_on_turns f [] = refl
odd_on_turns f (e ∷ es) =
    ap (is_odd_by f) (flat_map-cons on_turns e es)
    ∙ odd_both f (on_turns e) (flat_map on_turns es)
    ∙ ap (xor (is_odd_by f (on_turns e))) (odd_on_turns f es)

any_on_turns : (f : MapEdge → Bool) (es : List MapEdge) → list_any f (flat_map on_turns es)
    ≡ list_any (λ e. list_any f (on_turns e)) es
any_on_turns f [] = refl
any_on_turns f (e ∷ es) =
    ap (list_any f) (flat_map-cons on_turns e es)
    ∙ list_any-append f (on_turns e) (flat_map on_turns es)
    ∙ ap (λ b. list_any f (on_turns e) || b) (any_on_turns f es)

inside_on_turns : (p : Place) (es : List MapEdge) → is_odd_by (passes_north p) (flat_map on_turns es)
    ≡ inside_part p es
inside_on_turns p es = odd_on_turns (passes_north p) es

met_on_turns : (q : MapBox) (es : List MapEdge) → list_any (meets q) (flat_map on_turns es) ≡ met_by q es
met_on_turns q es = any_on_turns (meets q) es

even_on_turns : (test : Place → Bool) (es : List MapEdge) → IsPart es
    → is_odd_by (has_one test) (flat_map on_turns es) ≡ false
even_on_turns test es part =
    odd_on_turns (has_one test) es
    ∙ odd_alike (λ e. is_odd_by (has_one test) (on_turns e))
    (has_one (λ c. is_odd_by (λ k. test (place_turned k c)) turns))
    (λ e. odd_of_both (λ k. test (place_turned k e.a)) (λ k. test (place_turned k e.b))
    (λ k. has_one test (turned k e)) (λ k. refl) turns) es
    ∙ part.even (λ c. is_odd_by (λ k. test (place_turned k c)) turns)

-- ---- a smaller box, of one part
twice : (a b : Bool) → xor a (xor a b) ≡ b
unfolding xor
twice true true = refl
twice true false = refl
twice false true = refl
twice false false = refl

module _ (q s : MapBox) (box : IsBox q) (is : IsBox s) (h : HoldsBox q s) where
  from : InBox q (south_west q)
  from = record {
    west = omega (arith, ints);
    east = box.wide;
    south = omega (arith, ints);
    north = box.high;
  }

  to : InBox q (south_west s)
  to = in_west q s h is false

  no_change : (e : MapEdge) → meets q e ≡ false → changes (south_west q) (south_west s) e ≡ false
  no_change e n =
      let p = south_west q in
      let r = south_west s in
      ap (λ b. xor b (has_one (passes_over p r) e)) (step p r e q from to n)
      ∙ xor_self (has_one (passes_over p r) e)

  all_changes : (es : List MapEdge) → IsPart es
      → is_odd_by (changes (south_west q) (south_west s)) (filter (meets q) (flat_map on_turns es))
      ≡ xor (inside_part (south_west q) es) (inside_part (south_west s) es)
  all_changes es part =
      let p = south_west q in
      let r = south_west s in
      let xs = flat_map on_turns es in
      odd_kept (changes p r) (meets q) no_change xs
      ∙ odd_of_both (λ e. xor (passes_north p e) (passes_north r e)) (has_one (passes_over p r)) (changes p r)
      (λ e. refl) xs
      ∙ ap₂ xor (odd_of_both (passes_north p) (passes_north r) (λ e. xor (passes_north p e) (passes_north r e))
      (λ e. refl) xs
      ∙ ap₂ xor (inside_on_turns p es) (inside_on_turns r es)) (even_on_turns (passes_over p r) es part)
      ∙ xor_none (xor (inside_part p es) (inside_part r es))

  abbrev part_near : Bool → List MapEdge → PartNear
  part_near odd edges = record { odd = odd; edges = edges }

  near_narrowed : (es : List MapEdge) → IsPart es → narrowed (south_west q) s (near_box q es) ≡ near_box s es
  near_narrowed es part =
      ap₂ part_near
      (ap (xor (inside_part (south_west q) es)) (all_changes es part)
      ∙ twice (inside_part (south_west q) es) (inside_part (south_west s) es))
      (kept_again (meets s) (meets q) (missed q s h is) (flat_map on_turns es))

  -- a part of which no edge is left, and that doesn't have the box inside
  dry : (odd : Bool) (l : List MapEdge) → has_some l ≡ false → (not (has_some l) && odd) ≡ false
      → is_whole (narrowed (south_west q) s (part_near odd l)) ≡ false
  unfolding xor
  dry odd (e ∷ l) k w = cc
  dry true [] k w = cc
  dry false [] k w = refl

  still_none : (odd : Bool) (l : List MapEdge) → has_some l ≡ false
      → has_edges (narrowed (south_west q) s (part_near odd l)) ≡ false
  still_none odd (e ∷ l) k = cc
  still_none odd [] k = refl

  -- ---- of all parts
  abbrev down : List PartNear → List PartNear
  down parts = map (narrowed (south_west q) s) parts

  any_whole : (shape : List (List MapEdge)) → All IsPart shape → list_any is_whole (map (near_box q) shape) ≡ false
      → list_any is_whole (down (filter has_edges (map (near_box q) shape)))
      ≡ list_any is_whole (map (near_box s) shape)
  any_whole [] parts none = refl
  any_whole (es ∷ shape) parts none =
      let two = or_parts (is_whole (near_box q es)) (list_any is_whole (map (near_box q) shape)) none in
      let rest = any_whole shape (All-tail IsPart es shape parts) two.1 in
      by (has_edges (near_box q es)) refl two.0 rest
    where
      same : narrowed (south_west q) s (near_box q es) ≡ near_box s es
      same = near_narrowed es (All-head IsPart es shape parts)

      by : (t : Bool) → has_edges (near_box q es) ≡ t → is_whole (near_box q es) ≡ false
          → list_any is_whole (down (filter has_edges (map (near_box q) shape)))
          ≡ list_any is_whole (map (near_box s) shape)
          → list_any is_whole (down (cond t (near_box q es ∷ filter has_edges (map (near_box q) shape))
          (filter has_edges (map (near_box q) shape))))
          ≡ is_whole (near_box s es) || list_any is_whole (map (near_box s) shape)
      by true e w rest = ap₂ ◌||◌ (ap is_whole same) rest
      by false e w rest =
          rest
          ∙ sym (ap (λ b. b || list_any is_whole (map (near_box s) shape)) (ap is_whole (sym same)
          ∙ dry (near_box q es).odd (near_box q es).edges e w))

  edges_left : (shape : List (List MapEdge)) → All IsPart shape
      → filter has_edges (down (filter has_edges (map (near_box q) shape)))
      ≡ filter has_edges (map (near_box s) shape)
  edges_left [] parts = refl
  edges_left (es ∷ shape) parts =
      by (has_edges (near_box q es)) refl (edges_left shape (All-tail IsPart es shape parts))
    where
      same : narrowed (south_west q) s (near_box q es) ≡ near_box s es
      same = near_narrowed es (All-head IsPart es shape parts)

      by : (t : Bool) → has_edges (near_box q es) ≡ t
          → filter has_edges (down (filter has_edges (map (near_box q) shape)))
          ≡ filter has_edges (map (near_box s) shape)
          → filter has_edges (down (cond t (near_box q es ∷ filter has_edges (map (near_box q) shape))
          (filter has_edges (map (near_box q) shape))))
          ≡ cond (has_edges (near_box s es)) (near_box s es ∷ filter has_edges (map (near_box s) shape))
          (filter has_edges (map (near_box s) shape))
      by true e rest =
          ap₂ (λ (n : PartNear) (l : List PartNear). cond (has_edges n) (n ∷ l) l) same rest
      by false e rest =
          rest
          ∙ sym (ap (λ b. cond b (near_box s es ∷ filter has_edges (map (near_box s) shape))
          (filter has_edges (map (near_box s) shape))) (ap has_edges (sym same)
          ∙ still_none (near_box q es).odd (near_box q es).edges e))

  down_seen : (xs : List Near) → map (λ n. narrowed (south_west q) s (seen n)) xs ≡ down (map seen xs)
  down_seen [] = refl
  down_seen (x ∷ xs) = ap (λ (l : List PartNear). narrowed (south_west q) s (seen x) ∷ l) (down_seen xs)

  pub known_within : (shape : List (List MapEdge)) (k l : Known) → All IsPart shape → IsKnown shape q k
      → k.inside ≡ false → IsSummary (map (λ n. narrowed (south_west q) s (seen n)) k.parts.items) l
      → IsKnown shape s l
  known_within shape k l parts known none_has sum =
      let none = sym known.inside ∙ none_has in
      let left = down_seen k.parts.items ∙ ap down (known.left none_has) in
      record {
        inside = sum.inside ∙ ap (list_any is_whole) left ∙ any_whole shape parts none;
        left = λ o. sum.left o ∙ ap (filter has_edges) left ∙ edges_left shape parts;
        near = sum.near;
      }

  -- ---- a box in one that a part has whole inside
  still_whole : (odd : Bool) (l : List MapEdge) → (not (has_some l) && odd) ≡ true
      → is_whole (narrowed (south_west q) s (part_near odd l)) ≡ true
  unfolding xor
  still_whole odd (e ∷ l) w = cc
  still_whole true [] w = refl
  still_whole false [] w = cc

  one_still_whole : (shape : List (List MapEdge)) → All IsPart shape
      → list_any is_whole (map (near_box q) shape) ≡ true → list_any is_whole (map (near_box s) shape) ≡ true
  one_still_whole [] parts w = cc
  one_still_whole (es ∷ shape) parts w =
      let same = near_narrowed es (All-head IsPart es shape parts) in
      elim (or_cases (is_whole (near_box q es)) (list_any is_whole (map (near_box q) shape)) w) [
        | inl h ↦
            or_left (is_whole (near_box s es)) (list_any is_whole (map (near_box s) shape))
            (ap is_whole (sym same) ∙ still_whole (near_box q es).odd (near_box q es).edges h)
        | inr h ↦
            or_right (is_whole (near_box s es)) (list_any is_whole (map (near_box s) shape))
            (one_still_whole shape (All-tail IsPart es shape parts) h)
      ]

  pub known_whole : (shape : List (List MapEdge)) (k l : Known) → All IsPart shape → IsKnown shape q k
      → k.inside ≡ true → l.inside ≡ true → l.parts.items ≡ [] → IsKnown shape s l
  known_whole shape k l parts known whole inside none = record {
    inside = inside ∙ sym (one_still_whole shape parts (sym known.inside ∙ whole));
    left = λ o. absurd (both_ways l.inside o inside);
    near = subst (All HasNearEdges) (sym none) (All-nil HasNearEdges);
  }

-- ---- how the box lies
module _ (q : MapBox) where
  any_holds : (shape : List (List MapEdge)) → list_any is_whole (map (near_box q) shape)
      ≡ list_any (holds_box q) shape
  any_holds [] = refl
  any_holds (es ∷ shape) =
      ap₂ ◌||◌ (ap (λ b. not b && inside_part (south_west q) es)
      (some_kept (meets q) (flat_map on_turns es) ∙ met_on_turns q es)) (any_holds shape)

  any_met : (shape : List (List MapEdge)) → list_any has_edges (map (near_box q) shape) ≡ list_any (met_by q) shape
  any_met [] = refl
  any_met (es ∷ shape) =
      ap₂ ◌||◌ (some_kept (meets q) (flat_map on_turns es) ∙ met_on_turns q es) (any_met shape)

  some_mapped : (xs : List Near) → has_some (map seen xs) ≡ has_some xs
  some_mapped [] = refl
  some_mapped (x ∷ xs) = refl

  pub part_known : (shape : List (List MapEdge)) (k : Known) → IsKnown shape q k → part_by k ≡ part_of shape q
  part_known shape k known = by k.inside refl
    where
      inside : k.inside ≡ list_any (holds_box q) shape
      inside = known.inside ∙ any_holds shape

      by : (t : Bool) → k.inside ≡ t → cond k.inside In (cond (has_some k.parts.items) Met Out) ≡ part_of shape q
      by true e =
          ap (λ b. cond b In (cond (has_some k.parts.items) Met Out)) e
          ∙ sym (ap (λ b. cond b In (cond (list_any (met_by q) shape) Met Out)) (sym inside ∙ e))
      by false e =
          ap₂ (λ (a b : Bool). cond a In (cond b Met Out)) inside
          (sym (some_mapped k.parts.items) ∙ ap has_some (known.left e)
          ∙ some_kept has_edges (map (near_box q) shape) ∙ any_met shape)

  pub open_known : (k : Known) → part_by k ≡ Met → k.inside ≡ false
  open_known k = by k.inside
    where
      by : (t : Bool) → cond t In (cond (has_some k.parts.items) Met Out) ≡ Met → t ≡ false
      by true e = cc
      by false e = refl
