-- Each side of a leaf is a side of another leaf.
use Rattle.std.proofs.Common.{◌≡◌, ◌≢◌, refl, sym, ap, ap₂, ◌∙◌, ℕ, zero, suc, ◌+◌, ◌-◌, ◌*◌, ◌/◌, ◌%◌, ◌^◌, ◌≤◌, ◌<◌}
use Rattle.std.proofs.Common.{arith, ℤ, pos, neg_ℤ, ◌-ℤ◌, inl, inr, ◌⊎◌, Bool, true, false, nat_lt, ltb-true, ltb-false}
use Rattle.std.proofs.lemmas.Int.{ints}
use Rattle.s2cell.specs.Curve.{AreNeighbours, i_of, i_within, j_of, j_within, quadrant, quadrants, turn}
use Rattle.s2cell.specs.declared.TheConstants.{LEAVES}
use Rattle.s2cell.proofs.Levels.{at_bounds}
use Rattle.s2cell.proofs.Places.{leaf_exists, place_is}
use Rattle.s2cell.proofs.Squares.{one_place, place_of_leaf}
use Rattle.s2polygon.proofs.Along.{high, low}
use Rattle.s2polygon.proofs.Turned.{below_side, from_0, from_1, from_2, from_3, from_4, from_5, right, up}
use Rattle.s2polygon.specs.Directions.{Point}
use Rattle.s2polygon.specs.Frames.{in_frame}
use Rattle.s2polygon.specs.Neighbors.{IsMiddleAt, IsMiddleOfSide, ShareASide, place}
use Rattle.s2polygon.specs.Places.{along, whole}
use Rattle.s2polygon.specs.declared.frames.Framed.{Framed}

same_framed : {w u v k l m : ℤ} → w ≡ k → u ≡ l → v ≡ m → ◌≡◌ {A = Framed} (record { w = w; u = u; v = v })
    (record { w = k; u = l; v = m })
same_framed e f g = rw (e, f, g) refl

-- ---- places from the other end of a side
mirror_low : (t : ℕ) → t ≤ 2 ^ 31 → t < 2 ^ 30 → pos 0 -ℤ along t ≡ along (2 ^ 31 - t)
mirror_low t h l =
    rw (low t l, high (2 ^ 31 - t) (omega arith)) (turned (2 ^ 60) ((2 ^ 31 - t) * (2 ^ 31 - t)))
  where
    turned : (m n : ℕ) → pos 0 -ℤ (pos m -ℤ pos n) ≡ pos n -ℤ pos m
    turned m n = omega (arith, ints)

mirror_high : (t : ℕ) → t ≤ 2 ^ 31 → 2 ^ 30 < t → pos 0 -ℤ along t ≡ along (2 ^ 31 - t)
mirror_high t h l =
    let twice : 2 ^ 31 - (2 ^ 31 - t) ≡ t = omega arith in
    rw (high t (omega arith), low (2 ^ 31 - t) (omega arith), twice) (turned (t * t) (2 ^ 60))
  where
    turned : (m n : ℕ) → pos 0 -ℤ (pos m -ℤ pos n) ≡ pos n -ℤ pos m
    turned m n = omega (arith, ints)

mirror : (t : ℕ) → t ≤ 2 ^ 31 → t ≢ 2 ^ 30 → pos 0 -ℤ along t ≡ along (2 ^ 31 - t)
mirror t h some = by (nat_lt t (2 ^ 30)) refl
  where
    more : 2 ^ 30 ≤ t → 2 ^ 30 < t
    more l = by_equal (nat_lt (2 ^ 30) t) refl
      where
        by_equal : (c : Bool) → nat_lt (2 ^ 30) t ≡ c → 2 ^ 30 < t
        by_equal true e = ltb-true (2 ^ 30) t e
        by_equal false e = let k = ltb-false (2 ^ 30) t e in absurd (some (omega arith))

    by : (c : Bool) → nat_lt t (2 ^ 30) ≡ c → pos 0 -ℤ along t ≡ along (2 ^ 31 - t)
    by true e = mirror_low t h (ltb-true t (2 ^ 30) e)
    by false e = mirror_high t h (more (ltb-false t (2 ^ 30) e))

-- the middle of a leaf, and of the leaf as far from the other end
mirrored : (i : ℕ) → i < 2 ^ 30 → pos 0 -ℤ along (2 * i + 1) ≡ along (2 * (2 ^ 30 - 1 - i) + 1)
mirrored i h =
    let other : 2 ^ 31 - (2 * i + 1) ≡ 2 * (2 ^ 30 - 1 - i) + 1 = omega arith in
    mirror (2 * i + 1) (omega arith) (λ e. odd i e) ∙ ap along other
  where
    odd : (i : ℕ) → 2 * i + 1 ≡ 2 ^ 30 → ⊥
    odd i e = omega arith

-- ---- a leaf by its place
pub record LeafAt (f i j : ℕ) : Type 0 where
  pub leaf : ℕ
  pub below : leaf < LEAVES
  pub face : leaf / 4 ^ 30 ≡ f
  pub row : i_of leaf ≡ i
  pub column : j_of leaf ≡ j

leaf_at : (f i j : ℕ) → f < 6 → i < 2 ^ 30 → j < 2 ^ 30 → LeafAt f i j
leaf_at f i j hf hi hj =
    let there = leaf_exists 30 (f % 2) i j (omega arith) hi hj in
    let small = (at_bounds 30 (f % 2) there.0 i j there.1).leaf in
    let n = 4 ^ 30 * f + there.0 in
    let same = one_place n (n / 4 ^ 30) (i_of n) (j_of n) f i j (place_is n) (place_of_leaf f there.0 i j there.1) in
    record { leaf = n; below = omega (arith, small, hf); face = same.0; row = same.1; column = same.2 }

-- ---- over the border of a face
abbrev left : Framed → Framed
left c = record { w = pos 0 -ℤ c.u; u = c.w; v = c.v }

abbrev down : Framed → Framed
down c = record { w = pos 0 -ℤ c.v; u = c.u; v = c.w }

twice : (z : ℤ) → pos 0 -ℤ (pos 0 -ℤ z) ≡ z
twice z = omega (arith, ints)

left_right : (c : Framed) → left (right c) ≡ c
left_right c = same_framed (twice c.w) refl refl

down_up : (c : Framed) → down (up c) ≡ c
down_up c = same_framed (twice c.w) refl refl

-- the face after the next
after_0 : (p : Point) → in_frame 2 p ≡ up (right (in_frame 0 p))
after_0 p = from_1 p ∙ ap (λ (c : Framed). up c) (from_0 p)

after_1 : (p : Point) → in_frame 3 p ≡ right (up (in_frame 1 p))
after_1 p = from_2 p ∙ ap (λ (c : Framed). right c) (from_1 p)

after_2 : (p : Point) → in_frame 4 p ≡ up (right (in_frame 2 p))
after_2 p = from_3 p ∙ ap (λ (c : Framed). up c) (from_2 p)

after_3 : (p : Point) → in_frame 5 p ≡ right (up (in_frame 3 p))
after_3 p = from_4 p ∙ ap (λ (c : Framed). right c) (from_3 p)

after_4 : (p : Point) → in_frame 0 p ≡ up (right (in_frame 4 p))
after_4 p = from_5 p ∙ ap (λ (c : Framed). up c) (from_4 p)

after_5 : (p : Point) → in_frame 1 p ≡ right (up (in_frame 5 p))
after_5 p = from_0 p ∙ ap (λ (c : Framed). right c) (from_5 p)

-- another leaf than that at (i, j) of face `f`, with the point as the middle of a side
record Found (f i j : ℕ) (p : Point) : Type 0 where
  face : ℕ
  k : ℕ
  l : ℕ
  face_below : face < 6
  k_below : k < 2 ^ 30
  l_below : l < 2 ^ 30
  other : face ≡ f → k ≡ i → l ≡ j → ⊥
  side : IsMiddleAt face k l p

module _ (p : Point) (f i j : ℕ) (hi : i < 2 ^ 30) (hj : j < 2 ^ 30) where
  -- from face `f` to face `g`, over the right side of `f`, and back over the left side of `f`
  right_next : (g : ℕ) → g < 6 → g ≢ f → in_frame g p ≡ right (in_frame f p)
      → in_frame f p ≡ place (2 ^ 31) (2 * j + 1) → Found f i j p
  right_next g h some next e = record {
    face = g;
    k = 0;
    l = j;
    face_below = h;
    k_below = omega arith;
    l_below = hj;
    other = λ q r s. some q;
    side = inl (next ∙ ap (λ (c : Framed). right c) e);
  }

  left_last : (g : ℕ) → g < 6 → g ≢ f → in_frame f p ≡ right (in_frame g p)
      → in_frame f p ≡ place 0 (2 * j + 1) → Found f i j p
  left_last g h some next e = record {
    face = g;
    k = 2 ^ 30 - 1;
    l = j;
    face_below = h;
    k_below = omega arith;
    l_below = hj;
    other = λ q r s. some q;
    side = inr (inl (sym (left_right (in_frame g p)) ∙ ap (λ (c : Framed). left c) (sym next ∙ e)));
  }

  up_next : (g : ℕ) → g < 6 → g ≢ f → in_frame g p ≡ up (in_frame f p)
      → in_frame f p ≡ place (2 * i + 1) (2 ^ 31) → Found f i j p
  up_next g h some next e = record {
    face = g;
    k = i;
    l = 0;
    face_below = h;
    k_below = hi;
    l_below = omega arith;
    other = λ q r s. some q;
    side = inr (inr (inl (next ∙ ap (λ (c : Framed). up c) e)));
  }

  down_last : (g : ℕ) → g < 6 → g ≢ f → in_frame f p ≡ up (in_frame g p)
      → in_frame f p ≡ place (2 * i + 1) 0 → Found f i j p
  down_last g h some next e = record {
    face = g;
    k = i;
    l = 2 ^ 30 - 1;
    face_below = h;
    k_below = hi;
    l_below = omega arith;
    other = λ q r s. some q;
    side = inr (inr (inr (sym (down_up (in_frame g p)) ∙ ap (λ (c : Framed). down c) (sym next ∙ e))));
  }

  -- the face after the next, over the upper side of an even face, and the right side of an odd one
  up_after : (g : ℕ) → g < 6 → g ≢ f → in_frame g p ≡ up (right (in_frame f p))
      → in_frame f p ≡ place (2 * i + 1) (2 ^ 31) → Found f i j p
  up_after g h some next e = record {
    face = g;
    k = 0;
    l = 2 ^ 30 - 1 - i;
    face_below = h;
    k_below = omega arith;
    l_below = omega arith;
    other = λ q r s. some q;
    side = inl (next ∙ ap (λ (c : Framed). up (right c)) e ∙ same_framed refl refl (mirrored i hi));
  }

  left_before : (g : ℕ) → g < 6 → g ≢ f → in_frame f p ≡ up (right (in_frame g p))
      → in_frame f p ≡ place 0 (2 * j + 1) → Found f i j p
  left_before g h some next e = record {
    face = g;
    k = 2 ^ 30 - 1 - j;
    l = 2 ^ 30 - 1;
    face_below = h;
    k_below = omega arith;
    l_below = omega arith;
    other = λ q r s. some q;
    side = inr (inr (inr (sym (ap (λ (c : Framed). left c) (down_up (right (in_frame g p))) ∙ left_right (in_frame g p))
        ∙ ap (λ (c : Framed). left (down c)) (sym next ∙ e) ∙ same_framed refl (mirrored j hj) refl)));
  }

  right_after : (g : ℕ) → g < 6 → g ≢ f → in_frame g p ≡ right (up (in_frame f p))
      → in_frame f p ≡ place (2 ^ 31) (2 * j + 1) → Found f i j p
  right_after g h some next e = record {
    face = g;
    k = 2 ^ 30 - 1 - j;
    l = 0;
    face_below = h;
    k_below = omega arith;
    l_below = omega arith;
    other = λ q r s. some q;
    side = inr (inr (inl (next ∙ ap (λ (c : Framed). right (up c)) e ∙ same_framed refl (mirrored j hj) refl)));
  }

  down_before : (g : ℕ) → g < 6 → g ≢ f → in_frame f p ≡ right (up (in_frame g p))
      → in_frame f p ≡ place (2 * i + 1) 0 → Found f i j p
  down_before g h some next e = record {
    face = g;
    k = 2 ^ 30 - 1;
    l = 2 ^ 30 - 1 - i;
    face_below = h;
    k_below = omega arith;
    l_below = omega arith;
    other = λ q r s. some q;
    side = inr (inl (sym (ap (λ (c : Framed). down c) (left_right (up (in_frame g p))) ∙ down_up (in_frame g p))
        ∙ ap (λ (c : Framed). down (left c)) (sym next ∙ e) ∙ same_framed refl refl (mirrored i hi)));
  }

  on_face : (k l : ℕ) → f < 6 → k < 2 ^ 30 → l < 2 ^ 30 → (k ≡ i → l ≡ j → ⊥) → IsMiddleAt f k l p → Found f i j p
  on_face k l h hk hl some side = record {
    face = f;
    k = k;
    l = l;
    face_below = h;
    k_below = hk;
    l_below = hl;
    other = λ q r s. some r s;
    side = side;
  }

over_right : (p : Point) (f i j : ℕ) → f < 6 → i < 2 ^ 30 → j < 2 ^ 30 → in_frame f p ≡ place (2 ^ 31) (2 * j + 1)
    → Found f i j p
over_right p zero i j h hi hj e = right_next p 0 i j hi hj 1 (omega arith) (λ q. omega (arith, q)) (from_0 p) e
over_right p (suc zero) i j h hi hj e =
    right_after p 1 i j hi hj 3 (omega arith) (λ q. omega (arith, q)) (after_1 p)
    e
over_right p (suc (suc zero)) i j h hi hj e =
    right_next p 2 i j hi hj 3 (omega arith) (λ q. omega (arith, q)) (from_2 p) e
over_right p (suc (suc (suc zero))) i j h hi hj e =
    right_after p 3 i j hi hj 5 (omega arith) (λ q. omega (arith, q)) (after_3 p)
    e
over_right p (suc (suc (suc (suc zero)))) i j h hi hj e =
    right_next p 4 i j hi hj 5 (omega arith) (λ q. omega (arith, q)) (from_4 p) e
over_right p (suc (suc (suc (suc (suc zero))))) i j h hi hj e =
    right_after p 5 i j hi hj 1 (omega arith) (λ q. omega (arith, q)) (after_5 p)
    e
over_right p (suc (suc (suc (suc (suc (suc f)))))) i j h hi hj e = absurd (omega (arith, h))

over_up : (p : Point) (f i j : ℕ) → f < 6 → i < 2 ^ 30 → j < 2 ^ 30 → in_frame f p ≡ place (2 * i + 1) (2 ^ 31)
    → Found f i j p
over_up p zero i j h hi hj e =
    up_after p 0 i j hi hj 2 (omega arith) (λ q. omega (arith, q)) (after_0 p) e
over_up p (suc zero) i j h hi hj e = up_next p 1 i j hi hj 2 (omega arith) (λ q. omega (arith, q)) (from_1 p) e
over_up p (suc (suc zero)) i j h hi hj e =
    up_after p 2 i j hi hj 4 (omega arith) (λ q. omega (arith, q)) (after_2 p) e
over_up p (suc (suc (suc zero))) i j h hi hj e =
    up_next p 3 i j hi hj 4 (omega arith) (λ q. omega (arith, q)) (from_3 p) e
over_up p (suc (suc (suc (suc zero)))) i j h hi hj e =
    up_after p 4 i j hi hj 0 (omega arith) (λ q. omega (arith, q)) (after_4 p) e
over_up p (suc (suc (suc (suc (suc zero))))) i j h hi hj e =
    up_next p 5 i j hi hj 0 (omega arith) (λ q. omega (arith, q)) (from_5 p) e
over_up p (suc (suc (suc (suc (suc (suc f)))))) i j h hi hj e = absurd (omega (arith, h))

over_left : (p : Point) (f i j : ℕ) → f < 6 → i < 2 ^ 30 → j < 2 ^ 30 → in_frame f p ≡ place 0 (2 * j + 1)
    → Found f i j p
over_left p zero i j h hi hj e =
    left_before p 0 i j hi hj 4 (omega arith) (λ q. omega (arith, q)) (after_4 p) e
over_left p (suc zero) i j h hi hj e = left_last p 1 i j hi hj 0 (omega arith) (λ q. omega (arith, q)) (from_0 p) e
over_left p (suc (suc zero)) i j h hi hj e =
    left_before p 2 i j hi hj 0 (omega arith) (λ q. omega (arith, q)) (after_0 p) e
over_left p (suc (suc (suc zero))) i j h hi hj e =
    left_last p 3 i j hi hj 2 (omega arith) (λ q. omega (arith, q)) (from_2 p) e
over_left p (suc (suc (suc (suc zero)))) i j h hi hj e =
    left_before p 4 i j hi hj 2 (omega arith) (λ q. omega (arith, q)) (after_2 p) e
over_left p (suc (suc (suc (suc (suc zero))))) i j h hi hj e =
    left_last p 5 i j hi hj 4 (omega arith) (λ q. omega (arith, q)) (from_4 p) e
over_left p (suc (suc (suc (suc (suc (suc f)))))) i j h hi hj e = absurd (omega (arith, h))

over_down : (p : Point) (f i j : ℕ) → f < 6 → i < 2 ^ 30 → j < 2 ^ 30 → in_frame f p ≡ place (2 * i + 1) 0
    → Found f i j p
over_down p zero i j h hi hj e = down_last p 0 i j hi hj 5 (omega arith) (λ q. omega (arith, q)) (from_5 p) e
over_down p (suc zero) i j h hi hj e =
    down_before p 1 i j hi hj 5 (omega arith) (λ q. omega (arith, q)) (after_5 p)
    e
over_down p (suc (suc zero)) i j h hi hj e =
    down_last p 2 i j hi hj 1 (omega arith) (λ q. omega (arith, q)) (from_1 p) e
over_down p (suc (suc (suc zero))) i j h hi hj e =
    down_before p 3 i j hi hj 1 (omega arith) (λ q. omega (arith, q)) (after_1 p)
    e
over_down p (suc (suc (suc (suc zero)))) i j h hi hj e =
    down_last p 4 i j hi hj 3 (omega arith) (λ q. omega (arith, q)) (from_3 p) e
over_down p (suc (suc (suc (suc (suc zero))))) i j h hi hj e =
    down_before p 5 i j hi hj 3 (omega arith) (λ q. omega (arith, q)) (after_3 p)
    e
over_down p (suc (suc (suc (suc (suc (suc f)))))) i j h hi hj e = absurd (omega (arith, h))

-- ---- each side
below_or_last : (i : ℕ) → i < 2 ^ 30 → (i + 1 < 2 ^ 30) ⊎ (i + 1 ≡ 2 ^ 30)
below_or_last i h = by (nat_lt (i + 1) (2 ^ 30)) refl
  where
    by : (c : Bool) → nat_lt (i + 1) (2 ^ 30) ≡ c → (i + 1 < 2 ^ 30) ⊎ (i + 1 ≡ 2 ^ 30)
    by true e = inl (ltb-true (i + 1) (2 ^ 30) e)
    by false e = let l = ltb-false (i + 1) (2 ^ 30) e in inr (omega arith)

module _ (p : Point) (f : ℕ) (h : f < 6) where
  by_left : (i j : ℕ) → i < 2 ^ 30 → j < 2 ^ 30 → in_frame f p ≡ place (2 * i) (2 * j + 1) → Found f i j p
  by_left zero j hi hj e = over_left p f zero j h hi hj e
  by_left (suc i) j hi hj e =
      let next : suc i ≡ i + 1 = omega arith in
      on_face p f (suc i) j hi hj i j h (omega arith) hj (λ q r. omega (arith, q))
      (inr (inl (e ∙ ap (λ (k : ℕ). place (2 * k) (2 * j + 1)) next)))

  by_down : (i j : ℕ) → i < 2 ^ 30 → j < 2 ^ 30 → in_frame f p ≡ place (2 * i + 1) (2 * j) → Found f i j p
  by_down i zero hi hj e = over_down p f i zero h hi hj e
  by_down i (suc j) hi hj e =
      let next : suc j ≡ j + 1 = omega arith in
      on_face p f i (suc j) hi hj i j h hi (omega arith) (λ q r. omega (arith, r))
      (inr (inr (inr (e ∙ ap (λ (k : ℕ). place (2 * i + 1) (2 * k)) next))))

  by_right : (i j : ℕ) → i < 2 ^ 30 → j < 2 ^ 30 → in_frame f p ≡ place (2 * (i + 1)) (2 * j + 1) → Found f i j p
  by_right i j hi hj e = by (below_or_last i hi)
    where
      by : (i + 1 < 2 ^ 30) ⊎ (i + 1 ≡ 2 ^ 30) → Found f i j p
      by (inl l) = on_face p f i j hi hj (i + 1) j h l hj (λ q r. omega (arith, q)) (inl e)
      by (inr l) = over_right p f i j h hi hj (e ∙ ap (λ (k : ℕ). place (2 * k) (2 * j + 1)) l)

  by_up : (i j : ℕ) → i < 2 ^ 30 → j < 2 ^ 30 → in_frame f p ≡ place (2 * i + 1) (2 * (j + 1)) → Found f i j p
  by_up i j hi hj e = by (below_or_last j hj)
    where
      by : (j + 1 < 2 ^ 30) ⊎ (j + 1 ≡ 2 ^ 30) → Found f i j p
      by (inl l) = on_face p f i j hi hj i (j + 1) h hi l (λ q r. omega (arith, r)) (inr (inr (inl e)))
      by (inr l) = over_up p f i j h hi hj (e ∙ ap (λ (k : ℕ). place (2 * i + 1) (2 * k)) l)

  found : (i j : ℕ) → i < 2 ^ 30 → j < 2 ^ 30 → IsMiddleAt f i j p → Found f i j p
  found i j hi hj (inl e) = by_left i j hi hj e
  found i j hi hj (inr (inl e)) = by_right i j hi hj e
  found i j hi hj (inr (inr (inl e))) = by_down i j hi hj e
  found i j hi hj (inr (inr (inr e))) = by_up i j hi hj e

moved_to : (p : Point) (f i j g k l : ℕ) → f ≡ g → i ≡ k → j ≡ l → IsMiddleAt g k l p → IsMiddleAt f i j p
moved_to p f i j g k l q r s side = rw (q, r, s) side

as_leaf : (x : ℕ) (p : Point) → Found (x / 4 ^ 30) (i_of x) (j_of x) p
    → (y : ℕ) × (y < LEAVES) × (y ≢ x) × IsMiddleOfSide y p
as_leaf x p h = of_leaf (leaf_at h.face h.k h.l h.face_below h.k_below h.l_below)
  where
    of_leaf : LeafAt h.face h.k h.l → (y : ℕ) × (y < LEAVES) × (y ≢ x) × IsMiddleOfSide y p
    of_leaf l = (
      l.leaf,
      l.below,
      λ e. h.other (sym l.face ∙ ap (λ (n : ℕ). n / 4 ^ 30) e) (sym l.row ∙ ap i_of e) (sym l.column ∙ ap j_of e),
      moved_to p (l.leaf / 4 ^ 30) (i_of l.leaf) (j_of l.leaf) h.face h.k h.l l.face l.row l.column h.side,
    )

pub other_leaf : (x : ℕ) (p : Point) → x < LEAVES → IsMiddleOfSide x p
    → (y : ℕ) × (y < LEAVES) × (y ≢ x) × IsMiddleOfSide y p
other_leaf x p l side =
    as_leaf x p (found p (x / 4 ^ 30) (omega (arith, l)) (i_of x) (j_of x) (below_side x).0 (below_side x).1 side)

-- ---- leaves of one face
twice_minus : (z : ℤ) → neg_ℤ (neg_ℤ z) ≡ z
twice_minus z = omega (arith, ints)

-- the point that has the given coordinates in the frame of a face
point_of : ℕ → Framed → Point
point_of zero c = record { x = c.w; y = c.u; z = c.v }
point_of (suc zero) c = record { x = neg_ℤ c.u; y = c.w; z = c.v }
point_of (suc (suc zero)) c = record { x = neg_ℤ c.u; y = neg_ℤ c.v; z = c.w }
point_of (suc (suc (suc zero))) c = record { x = neg_ℤ c.w; y = neg_ℤ c.v; z = neg_ℤ c.u }
point_of (suc (suc (suc (suc zero)))) c = record { x = c.v; y = neg_ℤ c.w; z = neg_ℤ c.u }
point_of (suc (suc (suc (suc (suc n))))) c = record { x = c.v; y = c.u; z = neg_ℤ c.w }

framed_back : (f : ℕ) (c : Framed) → in_frame f (point_of f c) ≡ c
unfolding point_of
framed_back zero c = refl
framed_back (suc zero) c = same_framed refl (twice_minus c.u) refl
framed_back (suc (suc zero)) c = same_framed refl (twice_minus c.u) (twice_minus c.v)
framed_back (suc (suc (suc zero))) c = same_framed (twice_minus c.w) (twice_minus c.u) (twice_minus c.v)
framed_back (suc (suc (suc (suc zero)))) c = same_framed (twice_minus c.w) (twice_minus c.u) refl
framed_back (suc (suc (suc (suc (suc n))))) c = same_framed (twice_minus c.w) refl refl

framed_at : (f g : ℕ) (s t u v : ℕ) → f ≡ g → s ≡ u → t ≡ v → in_frame g (point_of f (place s t)) ≡ place u v
framed_at f g s t u v e h k = rw (sym e) (framed_back f (place s t) ∙ ap₂ place h k)

pub share_on_face : (x y : ℕ) → x / 4 ^ 30 ≡ y / 4 ^ 30 → AreNeighbours (i_of x) (j_of x) (i_of y) (j_of y)
    → ShareASide x y
share_on_face x y e h = by h
  where
    on : (s t u v : ℕ) → s ≡ u → t ≡ v → in_frame (y / 4 ^ 30) (point_of (x / 4 ^ 30) (place s t)) ≡ place u v
    on s t u v = framed_at (x / 4 ^ 30) (y / 4 ^ 30) s t u v e

    by : AreNeighbours (i_of x) (j_of x) (i_of y) (j_of y) → ShareASide x y
    by (inl (p, inl q)) = record {
      point = point_of (x / 4 ^ 30) (place (2 * i_of x + 1) (2 * (j_of x + 1)));
      first = inr (inr (inr (framed_back (x / 4 ^ 30) (place (2 * i_of x + 1) (2 * (j_of x + 1))))));
      second = inr (inr (inl (on (2 * i_of x + 1) (2 * (j_of x + 1)) (2 * i_of y + 1) (2 * j_of y)
          (ap (λ (i : ℕ). 2 * i + 1) p) (ap (λ (j : ℕ). 2 * j) q))));
    }
    by (inl (p, inr q)) = record {
      point = point_of (x / 4 ^ 30) (place (2 * i_of x + 1) (2 * j_of x));
      first = inr (inr (inl (framed_back (x / 4 ^ 30) (place (2 * i_of x + 1) (2 * j_of x)))));
      second = inr (inr (inr (on (2 * i_of x + 1) (2 * j_of x) (2 * i_of y + 1) (2 * (j_of y + 1))
          (ap (λ (i : ℕ). 2 * i + 1) p) (ap (λ (j : ℕ). 2 * j) (sym q)))));
    }
    by (inr (p, inl q)) = record {
      point = point_of (x / 4 ^ 30) (place (2 * (i_of x + 1)) (2 * j_of x + 1));
      first = inr (inl (framed_back (x / 4 ^ 30) (place (2 * (i_of x + 1)) (2 * j_of x + 1))));
      second = inl (on (2 * (i_of x + 1)) (2 * j_of x + 1) (2 * i_of y) (2 * j_of y + 1)
          (ap (λ (i : ℕ). 2 * i) q) (ap (λ (j : ℕ). 2 * j + 1) p));
    }
    by (inr (p, inr q)) = record {
      point = point_of (x / 4 ^ 30) (place (2 * i_of x) (2 * j_of x + 1));
      first = inl (framed_back (x / 4 ^ 30) (place (2 * i_of x) (2 * j_of x + 1)));
      second = inr (inl (on (2 * i_of x) (2 * j_of x + 1) (2 * (i_of y + 1)) (2 * j_of y + 1)
          (ap (λ (i : ℕ). 2 * i) (sym q)) (ap (λ (j : ℕ). 2 * j + 1) p)));
    }

-- ---- the three leaves at a corner of the cube
pub around_corner : ShareASide 768614336404564650 2305843009213693951
    × ShareASide 768614336404564650 2305843009213693952 × ShareASide 2305843009213693951 2305843009213693952
unfolding i_of j_of i_within j_within quadrant quadrants turn
around_corner = (
  record {
    point = record { x = whole; y = whole; z = along (2 ^ 31 - 1) };
    first = inr (inl refl);
    second = inl refl;
  },
  record {
    point = record { x = whole; y = along (2 ^ 31 - 1); z = whole };
    first = inr (inr (inr refl));
    second = inl refl;
  },
  record {
    point = record { x = along (2 ^ 31 - 1); y = whole; z = whole };
    first = inr (inr (inr refl));
    second = inr (inr (inl refl));
  },
)
