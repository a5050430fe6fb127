-- Two places of a box that an edge doesn't meet: the edge passes north of just one of them if, and only if, the step
-- from one to the other passes south of just one of its ends.
use Rattle.std.proofs.Common.{◌≡◌, refl, sym, ap₂, ◌∙◌, ℤ, pos, ◌-ℤ◌, ◌*ℤ◌, ◌≤ℤ◌, ◌<ℤ◌, arith, int_le, int_lt}
use Rattle.std.proofs.Common.{Bool, true, false, not, cond, ◌&&◌, ◌⊎◌, inl, inr}
use Rattle.std.proofs.lemmas.Bool.{and_parts, or_cases}
use Rattle.std.proofs.lemmas.Int.{ints, by_lt_z}
use Rattle.std.proofs.Math.Bool.{xor}
use Rattle.s2map.proofs.Answers.{le_false, le_not, le_out, le_true, lt_false, lt_out, lt_true}
use Rattle.s2map.proofs.Answers.{some_of_five}
use Rattle.s2polygon.proofs.Steps.{xor_pairs}
use Rattle.s2map.proofs.Products.{at_a, at_b, north_of_east, north_of_west, not_above, not_above_0, not_below}
use Rattle.s2map.proofs.Products.{not_below_0, south_of_east, south_of_west}
use Rattle.s2map.proofs.Corners.{all_left, all_right}
use Rattle.s2map.specs.Boxes.{InBox, east_corner, lies_aside, lies_east, lies_north, lies_south, lies_west, meets}
use Rattle.s2map.specs.Boxes.{west_corner}
use Rattle.s2map.specs.Map.{is_west, passes_north, side}
use Rattle.s2map.specs.Working.Even.{passes_over}
use Rattle.s2map.specs.declared.place.MapBox.{MapBox}
use Rattle.s2map.specs.declared.place.MapEdge.{MapEdge}
use Rattle.s2map.specs.declared.place.Place.{Place}

-- what is so of the two places and the edge
abbrev pub IsStep : Place → Place → MapEdge → Type 0
IsStep p q e = xor (passes_north p e) (passes_north q e) ≡ xor (passes_over p q e.a) (passes_over p q e.b)

-- ---- by answers alone: a and b are the ends' answers, s and n those of the side
never : (a b s n : Bool) → (a ≡ true → b ≡ false → s ≡ false) → (a ≡ false → b ≡ true → n ≡ false)
    → cond a (not b && s) (b && n) ≡ false
never true true s n h k = refl
never true false s n h k = h refl refl
never false true s n h k = k refl refl
never false false s n h k = refl

always : (a b s n : Bool) → (a ≡ true → b ≡ false → s ≡ true) → (a ≡ false → b ≡ true → n ≡ true)
    → cond a (not b && s) (b && n) ≡ xor a b
unfolding xor
always true true s n h k = refl
always true false s n h k = h refl refl
always false true s n h k = k refl refl
always false false s n h k = refl

aside : (a b t : Bool) → (xor a b ≡ true → t ≡ false) → (xor a b && t) ≡ false
unfolding xor
aside true true t h = refl
aside true false t h = h refl
aside false true t h = h refl
aside false false t h = refl

over : (a b t : Bool) → (xor a b ≡ true → t ≡ true) → (xor a b && t) ≡ xor a b
unfolding xor
over true true t h = refl
over true false t h = h refl
over false true t h = h refl
over false false t h = refl

just_one : (a b : Bool) → xor a b ≡ true → ((a ≡ true) × (b ≡ false)) ⊎ ((a ≡ false) × (b ≡ true))
unfolding xor
just_one true true e = cc
just_one true false e = inl (refl, refl)
just_one false true e = inr (refl, refl)
just_one false false e = cc

module _ (p q : Place) (e : MapEdge) where
  -- the edge passes north of neither, and no end counts
  flat : passes_north p e ≡ false → passes_north q e ≡ false → passes_over p q e.a ≡ false → passes_over p q e.b ≡ false
      → IsStep p q e
  unfolding xor
  flat f g h k = rw (f, g, h, k) refl

  -- the edge passes north of each place that lies between its ends, and each end counts
  full : passes_north p e ≡ xor (is_west p e.a) (is_west p e.b) → passes_north q e
      ≡ xor (is_west q e.a) (is_west q e.b) → passes_over p q e.a ≡ xor (is_west p e.a) (is_west q e.a)
      → passes_over p q e.b ≡ xor (is_west p e.b) (is_west q e.b) → IsStep p q e
  full f g h k =
      ap₂ xor f g ∙ xor_pairs (is_west p e.a) (is_west p e.b) (is_west q e.a) (is_west q e.b) ∙ sym (ap₂ xor h k)

  -- ---- the edge lies west of both, or there
  west : e.a.longitude ≤ℤ p.longitude → e.b.longitude ≤ℤ p.longitude → e.a.longitude ≤ℤ q.longitude
      → e.b.longitude ≤ℤ q.longitude → IsStep p q e
  unfolding xor
  west h k l m = rw (
    le_true e.a.longitude p.longitude h,
    le_true e.b.longitude p.longitude k,
    le_true e.a.longitude q.longitude l,
    le_true e.b.longitude q.longitude m,
  ) refl

  -- it lies east of both
  east : p.longitude <ℤ e.a.longitude → p.longitude <ℤ e.b.longitude → q.longitude <ℤ e.a.longitude
      → q.longitude <ℤ e.b.longitude → IsStep p q e
  unfolding xor
  east h k l m = rw (
    le_false e.a.longitude p.longitude h,
    le_false e.b.longitude p.longitude k,
    le_false e.a.longitude q.longitude l,
    le_false e.b.longitude q.longitude m,
  ) refl

  -- it lies south of both
  south : e.a.latitude ≤ℤ p.latitude → e.b.latitude ≤ℤ p.latitude → e.a.latitude ≤ℤ q.latitude → e.b.latitude
      ≤ℤ q.latitude → IsStep p q e
  south h k l m =
      flat (beside p h k) (beside q l m)
      (aside (is_west p e.a) (is_west q e.a) (int_lt p.latitude e.a.latitude) (λ _. lt_false p.latitude e.a.latitude h))
      (aside (is_west p e.b) (is_west q e.b) (int_lt p.latitude e.b.latitude) (λ _. lt_false p.latitude e.b.latitude k))
    where
      beside : (r : Place) → e.a.latitude ≤ℤ r.latitude → e.b.latitude ≤ℤ r.latitude → passes_north r e ≡ false
      beside r h k = never (is_west r e.a) (is_west r e.b) (int_lt (side e r) (pos 0)) (int_lt (pos 0) (side e r))
          (λ a b. lt_false (side e r) (pos 0) (north_of_east e.a.longitude e.a.latitude e.b.longitude e.b.latitude
          r.longitude r.latitude (le_out e.a.longitude r.longitude a) (le_not e.b.longitude r.longitude b) h k))
          (λ a b. lt_false (pos 0) (side e r) (north_of_west e.a.longitude e.a.latitude e.b.longitude e.b.latitude
          r.longitude r.latitude (le_out e.b.longitude r.longitude b) (le_not e.a.longitude r.longitude a) h k))

  -- it lies north of both
  north : p.latitude <ℤ e.a.latitude → p.latitude <ℤ e.b.latitude → q.latitude <ℤ e.a.latitude → q.latitude
      <ℤ e.b.latitude → IsStep p q e
  north h k l m =
      full (beside p h k) (beside q l m)
      (over (is_west p e.a) (is_west q e.a) (int_lt p.latitude e.a.latitude) (λ _. lt_true p.latitude e.a.latitude h))
      (over (is_west p e.b) (is_west q e.b) (int_lt p.latitude e.b.latitude) (λ _. lt_true p.latitude e.b.latitude k))
    where
      beside : (r : Place) → r.latitude <ℤ e.a.latitude → r.latitude <ℤ e.b.latitude → passes_north r e
          ≡ xor (is_west r e.a) (is_west r e.b)
      beside r h k = always (is_west r e.a) (is_west r e.b) (int_lt (side e r) (pos 0)) (int_lt (pos 0) (side e r))
          (λ a b. lt_true (side e r) (pos 0) (south_of_east e.a.longitude e.a.latitude e.b.longitude e.b.latitude
          r.longitude r.latitude (le_out e.a.longitude r.longitude a) (le_not e.b.longitude r.longitude b) h k))
          (λ a b. lt_true (pos 0) (side e r) (south_of_west e.a.longitude e.a.latitude e.b.longitude e.b.latitude
          r.longitude r.latitude (le_out e.b.longitude r.longitude b) (le_not e.a.longitude r.longitude a) h k))

  -- ---- both lie on its left, or on its right, as each place of the box does
  module _ (box : MapBox) (in_p : InBox box p) (in_q : InBox box q) where
    -- where an end counts, the place at its longitude and the first place's latitude is one of the box
    below_end : (c : Place) → xor (is_west p c) (is_west q c) ≡ true
        → InBox box (record { longitude = c.longitude; latitude = p.latitude })
    below_end c h = elim (just_one (is_west p c) (is_west q c) h) [
      | inl (a, b) ↦ record {
        west = let l = le_not c.longitude q.longitude b in let m = in_q.west in omega (arith, ints);
        east = let l = le_out c.longitude p.longitude a in let m = in_p.east in omega (arith, ints);
        south = in_p.south;
        north = in_p.north;
      }
      | inr (a, b) ↦ record {
        west = let l = le_not c.longitude p.longitude a in let m = in_p.west in omega (arith, ints);
        east = let l = le_out c.longitude q.longitude b in let m = in_q.east in omega (arith, ints);
        south = in_p.south;
        north = in_p.north;
      }
    ]

    abbrev wide : ℤ
    wide = e.b.longitude -ℤ e.a.longitude

    abbrev below : Place → Place
    below c = record { longitude = c.longitude; latitude = p.latitude }

    above_of_a : pos 0 <ℤ side e (below e.a) → pos 0 <ℤ (wide *ℤ (p.latitude -ℤ e.a.latitude))
    above_of_a h = rw (at_a e.a.longitude e.a.latitude e.b.longitude e.b.latitude p.latitude) at h

    above_of_b : pos 0 <ℤ side e (below e.b) → pos 0 <ℤ (wide *ℤ (p.latitude -ℤ e.b.latitude))
    above_of_b h = rw (at_b e.a.longitude e.a.latitude e.b.longitude e.b.latitude p.latitude) at h

    below_of_a : side e (below e.a) <ℤ pos 0 → (wide *ℤ (p.latitude -ℤ e.a.latitude)) <ℤ pos 0
    below_of_a h = rw (at_a e.a.longitude e.a.latitude e.b.longitude e.b.latitude p.latitude) at h

    below_of_b : side e (below e.b) <ℤ pos 0 → (wide *ℤ (p.latitude -ℤ e.b.latitude)) <ℤ pos 0
    below_of_b h = rw (at_b e.a.longitude e.a.latitude e.b.longitude e.b.latitude p.latitude) at h

    left : ((r : Place) → InBox box r → pos 0 <ℤ side e r) → IsStep p q e
    left h = by_lt_z wide (pos 0) back ahead
      where
        -- the edge goes west
        back : wide <ℤ pos 0 → IsStep p q e
        back w =
            full (beside p in_p) (beside q in_q)
            (over (is_west p e.a) (is_west q e.a) (int_lt p.latitude e.a.latitude) (λ t. lt_true p.latitude e.a.latitude
            (let l = not_above wide (p.latitude -ℤ e.a.latitude) w (above_of_a (h (below e.a) (below_end e.a t))) in
            omega (arith, ints))))
            (over (is_west p e.b) (is_west q e.b) (int_lt p.latitude e.b.latitude) (λ t. lt_true p.latitude e.b.latitude
            (let l = not_above wide (p.latitude -ℤ e.b.latitude) w (above_of_b (h (below e.b) (below_end e.b t))) in
            omega (arith, ints))))
          where
            beside : (r : Place) → InBox box r → passes_north r e ≡ xor (is_west r e.a) (is_west r e.b)
            beside r i = always (is_west r e.a) (is_west r e.b) (int_lt (side e r) (pos 0)) (int_lt (pos 0) (side e r))
                (λ a b. let l = le_out e.a.longitude r.longitude a in let m = le_not e.b.longitude r.longitude b in
                absurd (omega (arith, ints)))
                (λ a b. lt_true (pos 0) (side e r) (h r i))

        -- it goes east, or straight north or south
        ahead : pos 0 ≤ℤ wide → IsStep p q e
        ahead w =
            flat (beside p in_p) (beside q in_q)
            (aside (is_west p e.a) (is_west q e.a) (int_lt p.latitude e.a.latitude) (λ t. lt_false p.latitude
            e.a.latitude
            (let l = not_below wide (p.latitude -ℤ e.a.latitude) w (above_of_a (h (below e.a) (below_end e.a t))) in
            omega (arith, ints))))
            (aside (is_west p e.b) (is_west q e.b) (int_lt p.latitude e.b.latitude) (λ t. lt_false p.latitude
            e.b.latitude
            (let l = not_below wide (p.latitude -ℤ e.b.latitude) w (above_of_b (h (below e.b) (below_end e.b t))) in
            omega (arith, ints))))
          where
            beside : (r : Place) → InBox box r → passes_north r e ≡ false
            beside r i = never (is_west r e.a) (is_west r e.b) (int_lt (side e r) (pos 0)) (int_lt (pos 0) (side e r))
                (λ a b. let m = h r i in lt_false (side e r) (pos 0) (omega (arith, ints)))
                (λ a b. let l = le_not e.a.longitude r.longitude a in let m = le_out e.b.longitude r.longitude b in
                absurd (omega (arith, ints)))

    right : ((r : Place) → InBox box r → side e r <ℤ pos 0) → IsStep p q e
    right h = by_lt_z (pos 0) wide ahead back
      where
        -- the edge goes east
        ahead : pos 0 <ℤ wide → IsStep p q e
        ahead w =
            full (beside p in_p) (beside q in_q)
            (over (is_west p e.a) (is_west q e.a) (int_lt p.latitude e.a.latitude) (λ t. lt_true p.latitude e.a.latitude
            (let l = not_above_0 wide (p.latitude -ℤ e.a.latitude) w (below_of_a (h (below e.a) (below_end e.a t))) in
            omega (arith, ints))))
            (over (is_west p e.b) (is_west q e.b) (int_lt p.latitude e.b.latitude) (λ t. lt_true p.latitude e.b.latitude
            (let l = not_above_0 wide (p.latitude -ℤ e.b.latitude) w (below_of_b (h (below e.b) (below_end e.b t))) in
            omega (arith, ints))))
          where
            beside : (r : Place) → InBox box r → passes_north r e ≡ xor (is_west r e.a) (is_west r e.b)
            beside r i = always (is_west r e.a) (is_west r e.b) (int_lt (side e r) (pos 0)) (int_lt (pos 0) (side e r))
                (λ a b. lt_true (side e r) (pos 0) (h r i))
                (λ a b. let l = le_not e.a.longitude r.longitude a in let m = le_out e.b.longitude r.longitude b in
                absurd (omega (arith, ints)))

        -- it goes west, or straight north or south
        back : wide ≤ℤ pos 0 → IsStep p q e
        back w =
            flat (beside p in_p) (beside q in_q)
            (aside (is_west p e.a) (is_west q e.a) (int_lt p.latitude e.a.latitude) (λ t. lt_false p.latitude
            e.a.latitude
            (let l = not_below_0 wide (p.latitude -ℤ e.a.latitude) w (below_of_a (h (below e.a) (below_end e.a t))) in
            omega (arith, ints))))
            (aside (is_west p e.b) (is_west q e.b) (int_lt p.latitude e.b.latitude) (λ t. lt_false p.latitude
            e.b.latitude
            (let l = not_below_0 wide (p.latitude -ℤ e.b.latitude) w (below_of_b (h (below e.b) (below_end e.b t))) in
            omega (arith, ints))))
          where
            beside : (r : Place) → InBox box r → passes_north r e ≡ false
            beside r i = never (is_west r e.a) (is_west r e.b) (int_lt (side e r) (pos 0)) (int_lt (pos 0) (side e r))
                (λ a b. let l = le_out e.a.longitude r.longitude a in let m = le_not e.b.longitude r.longitude b in
                absurd (omega (arith, ints)))
                (λ a b. let m = h r i in lt_false (pos 0) (side e r) (omega (arith, ints)))

    -- ---- the edge doesn't meet the box
    pub step : meets box e ≡ false → IsStep p q e
    step h = elim (some_of_five (lies_west box e) (lies_east box e) (lies_south box e) (lies_north box e)
        (lies_aside box e) h) [
          | inl t ↦
              let two = and_parts (int_le e.a.longitude box.west) (int_le e.b.longitude box.west) t in
              let l = le_out e.a.longitude box.west two.0 in
              let m = le_out e.b.longitude box.west two.1 in
              let x = in_p.west in
              let y = in_q.west in
              west (omega (arith, ints)) (omega (arith, ints)) (omega (arith, ints)) (omega (arith, ints))
          | inr (inl t) ↦
              let two = and_parts (int_lt box.east e.a.longitude) (int_lt box.east e.b.longitude) t in
              let l = lt_out box.east e.a.longitude two.0 in
              let m = lt_out box.east e.b.longitude two.1 in
              let x = in_p.east in
              let y = in_q.east in
              east (omega (arith, ints)) (omega (arith, ints)) (omega (arith, ints)) (omega (arith, ints))
          | inr (inr (inl t)) ↦
              let two = and_parts (int_lt e.a.latitude box.south) (int_lt e.b.latitude box.south) t in
              let l = lt_out e.a.latitude box.south two.0 in
              let m = lt_out e.b.latitude box.south two.1 in
              let x = in_p.south in
              let y = in_q.south in
              south (omega (arith, ints)) (omega (arith, ints)) (omega (arith, ints)) (omega (arith, ints))
          | inr (inr (inr (inl t))) ↦
              let two = and_parts (int_lt box.north e.a.latitude) (int_lt box.north e.b.latitude) t in
              let l = lt_out box.north e.a.latitude two.0 in
              let m = lt_out box.north e.b.latitude two.1 in
              let x = in_p.north in
              let y = in_q.north in
              north (omega (arith, ints)) (omega (arith, ints)) (omega (arith, ints)) (omega (arith, ints))
          | inr (inr (inr (inr t))) ↦ elim (or_cases
              (int_lt (pos 0) (side e (west_corner box e)) && int_lt (pos 0) (side e (east_corner box e)))
              (int_lt (side e (west_corner box e)) (pos 0) && int_lt (side e (east_corner box e)) (pos 0)) t) [
                | inl u ↦
                    let two = and_parts (int_lt (pos 0) (side e (west_corner box e)))
                    (int_lt (pos 0) (side e (east_corner box e))) u in
                    left (all_left box e (lt_out (pos 0) (side e (west_corner box e)) two.0)
                    (lt_out (pos 0) (side e (east_corner box e)) two.1))
                | inr u ↦
                    let two = and_parts (int_lt (side e (west_corner box e)) (pos 0))
                    (int_lt (side e (east_corner box e)) (pos 0)) u in
                    right (all_right box e (lt_out (side e (west_corner box e)) (pos 0) two.0)
                    (lt_out (side e (east_corner box e)) (pos 0) two.1))
              ]
        ]
