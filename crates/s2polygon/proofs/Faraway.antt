-- A direction that lies in no plane through places and ends of edges.
use Rattle.std.proofs.Common.{◌≡◌, ◌≢◌, refl, sym, ap, ◌∙◌, ℕ, zero, suc, ◌+◌, ◌*◌, ◌^◌, ◌≤◌, ◌<◌, arith, ℤ, pos}
use Rattle.std.proofs.Common.{neg_ℤ, ◌+ℤ◌, ◌-ℤ◌, ◌*ℤ◌, ◌≤ℤ◌, ◌<ℤ◌, ◌⊎◌, inl, inr, mul-le-mul, subst, unsigned_abs}
use Rattle.std.proofs.lemmas.Int.{ints, by_lt_z}
use Rattle.s2polygon.proofs.Along.{along_rises}
use Rattle.s2polygon.proofs.Integers.{at, ◌⊕◌, ◌⊖◌, ◌⊗◌, equal, product_at_least}
use Rattle.s2polygon.proofs.Middles.{IsAtEnd}
use Rattle.s2polygon.proofs.Quarters.{alike, back, is_0, other_none}
use Rattle.s2polygon.proofs.Sides.{along_place}
use Rattle.s2polygon.proofs.Sizes.{within_difference, within_product}
use Rattle.s2polygon.proofs.Triangles.{IsAlong, IsApart, sign_of}
use Rattle.s2polygon.proofs.Turned.{from_0, from_1, from_2, from_3, from_4, from_5, minus_minus, right, up}
use Rattle.s2polygon.proofs.Turning.{none_at_ends, none_at_starts}
use Rattle.s2polygon.proofs.Vectors.{at_place, column_plane, exchanged, row_plane, triple, turned_on}
use Rattle.s2polygon.specs.Crosses.{is_at_least_0}
use Rattle.s2polygon.specs.Directions.{Point}
use Rattle.s2polygon.specs.Frames.{in_frame, normal_of}
use Rattle.s2polygon.specs.Meets.{above, left_of}
use Rattle.s2polygon.specs.Moves.{IsOffMiddle}
use Rattle.s2polygon.specs.Places.{along, whole}
use Rattle.s2polygon.specs.Working.Rings.{IsNone, dot_of}
use Rattle.s2polygon.specs.declared.frames.Framed.{Framed}

-- ---- the direction
pub record IsSmall (most : ℕ) (m : Framed) : Type 0 where
  pub w : unsigned_abs m.w < most
  pub u : unsigned_abs m.u < most
  pub v : unsigned_abs m.v < most

-- it lies in no plane whose normal has small numbers
abbrev pub IsFar : ℕ → Framed → Type 0
IsFar most z = (m : Framed) → IsSmall most m → dot_of z m ≡ pos 0 → IsNone m

whole_some : pos (3 * 2 ^ 60) ≢ pos 0
whole_some e = omega (arith, ints, e)

-- a number less than the step, and a multiple of the step
high_none : (s : ℕ) (p m : ℤ) → unsigned_abs p < s → p +ℤ pos s *ℤ m ≡ pos 0 → m ≡ pos 0
high_none s p m h e =
    by_lt_z (pos 0) m
    (λ (l : pos 0 <ℤ m). absurd (over (pos s *ℤ m) (rw (more s m) at (product_at_least (pos s) (m -ℤ pos 1) (least s)
    (omega (arith, ints, l)))) e))
    (λ (l : m ≤ℤ pos 0). by_lt_z m (pos 0)
    (λ (k : m <ℤ pos 0). absurd (under (pos s *ℤ m) (rw (fewer s m) at (product_at_least (pos s)
    (pos 0 -ℤ m -ℤ pos 1) (least s) (omega (arith, ints, k)))) e))
    (λ (k : pos 0 ≤ℤ m). both m l k))
  where
    least : (s : ℕ) → pos 0 ≤ℤ pos s
    least s = omega (arith, ints)

    both : (m : ℤ) → m ≤ℤ pos 0 → pos 0 ≤ℤ m → m ≡ pos 0
    both m l k = omega (arith, ints)

    more : (s : ℕ) (m : ℤ) → pos s *ℤ (m -ℤ pos 1) ≡ pos s *ℤ m -ℤ pos s
    more s m = equal (at (pos s) ⊗ (at m ⊖ at (pos 1))) (at (pos s) ⊗ at m ⊖ at (pos s)) (omega arith)

    fewer : (s : ℕ) (m : ℤ) → pos s *ℤ (pos 0 -ℤ m -ℤ pos 1) ≡ pos 0 -ℤ pos s *ℤ m -ℤ pos s
    fewer s m = equal (at (pos s) ⊗ (at (pos 0) ⊖ at m ⊖ at (pos 1))) (at (pos 0) ⊖ at (pos s) ⊗ at m ⊖ at (pos s))
        (omega arith)

    over : (x : ℤ) → pos 0 ≤ℤ (x -ℤ pos s) → p +ℤ x ≡ pos 0 → ⊥
    over x l f = omega (arith, ints, l, f, h)

    under : (x : ℤ) → pos 0 ≤ℤ (pos 0 -ℤ x -ℤ pos s) → p +ℤ x ≡ pos 0 → ⊥
    under x l f = omega (arith, ints, l, f, h)

low_none : (s : ℕ) (p m : ℤ) → unsigned_abs p < s → p +ℤ pos s *ℤ m ≡ pos 0 → p ≡ pos 0
low_none s p m h e =
    sym (ap (λ (z : ℤ). p +ℤ pos s *ℤ z) (high_none s p m h e)
    ∙ equal (at p ⊕ at (pos s) ⊗ at (pos 0)) (at p) (omega arith)) ∙ e

-- a direction beside the place (u, v) of a face, in the frame of the face
abbrev pub beside : ℕ → ℤ → ℤ → Framed
beside s u v = record {
  w = whole *ℤ pos (s * s);
  u = u *ℤ pos (s * s) +ℤ pos s;
  v = v *ℤ pos (s * s) +ℤ pos 1;
}

split : (k s : ℕ) (u v p q r : ℤ) → pos k *ℤ pos (s * s) *ℤ p +ℤ (u *ℤ pos (s * s) +ℤ pos s) *ℤ q
    +ℤ (v *ℤ pos (s * s) +ℤ pos 1) *ℤ r ≡ r +ℤ pos s *ℤ (q +ℤ pos s *ℤ (pos k *ℤ p +ℤ u *ℤ q +ℤ v *ℤ r))
split k s u v p q r =
    equal (at (pos k) ⊗ at (pos (s * s)) ⊗ at p ⊕ (at u ⊗ at (pos (s * s)) ⊕ at (pos s)) ⊗ at q ⊕
    (at v ⊗ at (pos (s * s)) ⊕ at (pos 1)) ⊗ at r)
    (at r ⊕ at (pos s) ⊗ (at q ⊕ at (pos s) ⊗ (at (pos k) ⊗ at p ⊕ at u ⊗ at q ⊕ at v ⊗ at r))) (omega arith)

far_beside : (s : ℕ) (u v : ℤ) → IsFar s (beside s u v)
far_beside s u v m h e =
    let inner = whole *ℤ m.w +ℤ u *ℤ m.u +ℤ v *ℤ m.v in
    let f = sym (split (3 * 2 ^ 60) s u v m.w m.u m.v) ∙ e in
    let g = high_none s m.v (m.u +ℤ pos s *ℤ inner) h.v f in
    let row = low_none s m.u inner h.u g in
    let column = low_none s m.v (m.u +ℤ pos s *ℤ inner) h.v f in
    record {
      w = other_none whole m.w (sym (alone m.w m.u m.v row column) ∙ high_none s m.u inner h.u g) whole_some;
      u = row;
      v = column;
    }
  where
    alone : (p q r : ℤ) → q ≡ pos 0 → r ≡ pos 0 → whole *ℤ p +ℤ u *ℤ q +ℤ v *ℤ r ≡ whole *ℤ p
    alone p q r e f = rw (e, f) (single (3 * 2 ^ 60) p)
      where
        single : (k : ℕ) (p : ℤ) → pos k *ℤ p +ℤ u *ℤ pos 0 +ℤ v *ℤ pos 0 ≡ pos k *ℤ p
        single k p = equal (at (pos k) ⊗ at p ⊕ at u ⊗ at (pos 0) ⊕ at v ⊗ at (pos 0)) (at (pos k) ⊗ at p) (omega arith)

minus_small : (most : ℕ) (z : ℤ) → unsigned_abs z < most → unsigned_abs (pos 0 -ℤ z) < most
minus_small most z h = omega (arith, ints)

right_sum : (cw cu cv mw mu mv : ℤ) → cw *ℤ (pos 0 -ℤ mu) +ℤ cu *ℤ mw +ℤ cv *ℤ mv
    ≡ cu *ℤ mw +ℤ (pos 0 -ℤ cw) *ℤ mu +ℤ cv *ℤ mv
right_sum cw cu cv mw mu mv =
    equal (at cw ⊗ (at (pos 0) ⊖ at mu) ⊕ at cu ⊗ at mw ⊕ at cv ⊗ at mv)
    (at cu ⊗ at mw ⊕ (at (pos 0) ⊖ at cw) ⊗ at mu ⊕ at cv ⊗ at mv) (omega arith)

up_sum : (cw cu cv mw mu mv : ℤ) → cw *ℤ (pos 0 -ℤ mv) +ℤ cu *ℤ mu +ℤ cv *ℤ mw
    ≡ cv *ℤ mw +ℤ cu *ℤ mu +ℤ (pos 0 -ℤ cw) *ℤ mv
up_sum cw cu cv mw mu mv =
    equal (at cw ⊗ (at (pos 0) ⊖ at mv) ⊕ at cu ⊗ at mu ⊕ at cv ⊗ at mw)
    (at cv ⊗ at mw ⊕ at cu ⊗ at mu ⊕ (at (pos 0) ⊖ at cw) ⊗ at mv) (omega arith)

far_right : (most : ℕ) (c : Framed) → IsFar most c → IsFar most (right c)
far_right most c far m h e =
    let n = far (record { w = pos 0 -ℤ m.u; u = m.w; v = m.v })
    (record { w = minus_small most m.u h.u; u = h.w; v = h.v }) (right_sum c.w c.u c.v m.w m.u m.v ∙ e) in
    record { w = n.u; u = back m.u n.w; v = n.v }

far_up : (most : ℕ) (c : Framed) → IsFar most c → IsFar most (up c)
far_up most c far m h e =
    let n = far (record { w = pos 0 -ℤ m.v; u = m.u; v = m.w })
    (record { w = minus_small most m.v h.v; u = h.u; v = h.w }) (up_sum c.w c.u c.v m.w m.u m.v ∙ e) in
    record { w = n.v; u = n.u; v = back m.v n.w }

-- in the frame of one face, and so in those of all
module _ (most : ℕ) (p : Point) where
  far_1 : IsFar most (in_frame 0 p) → IsFar most (in_frame 1 p)
  far_1 h = subst (IsFar most) (sym (from_0 p)) (far_right most (in_frame 0 p) h)

  far_2 : IsFar most (in_frame 1 p) → IsFar most (in_frame 2 p)
  far_2 h = subst (IsFar most) (sym (from_1 p)) (far_up most (in_frame 1 p) h)

  far_3 : IsFar most (in_frame 2 p) → IsFar most (in_frame 3 p)
  far_3 h = subst (IsFar most) (sym (from_2 p)) (far_right most (in_frame 2 p) h)

  far_4 : IsFar most (in_frame 3 p) → IsFar most (in_frame 4 p)
  far_4 h = subst (IsFar most) (sym (from_3 p)) (far_up most (in_frame 3 p) h)

  far_5 : IsFar most (in_frame 4 p) → IsFar most (in_frame 5 p)
  far_5 h = subst (IsFar most) (sym (from_4 p)) (far_right most (in_frame 4 p) h)

  far_0 : IsFar most (in_frame 5 p) → IsFar most (in_frame 0 p)
  far_0 h = subst (IsFar most) (sym (from_5 p)) (far_up most (in_frame 5 p) h)

  far_first : (f : ℕ) → IsFar most (in_frame f p) → IsFar most (in_frame 0 p)
  far_first zero h = h
  far_first (suc zero) h = far_0 (far_5 (far_4 (far_3 (far_2 h))))
  far_first (suc (suc zero)) h = far_0 (far_5 (far_4 (far_3 h)))
  far_first (suc (suc (suc zero))) h = far_0 (far_5 (far_4 h))
  far_first (suc (suc (suc (suc zero)))) h = far_0 (far_5 h)
  far_first (suc (suc (suc (suc (suc n))))) h = far_0 h

  far_in : (f : ℕ) → IsFar most (in_frame 0 p) → IsFar most (in_frame f p)
  far_in zero h = h
  far_in (suc zero) h = far_1 h
  far_in (suc (suc zero)) h = far_2 (far_1 h)
  far_in (suc (suc (suc zero))) h = far_3 (far_2 (far_1 h))
  far_in (suc (suc (suc (suc zero)))) h = far_4 (far_3 (far_2 (far_1 h)))
  far_in (suc (suc (suc (suc (suc n))))) h = far_5 (far_4 (far_3 (far_2 (far_1 h))))

-- the point whose direction has these coordinates in the frame of a face
pub at_frame : ℕ → Framed → Point
at_frame zero c = record { x = c.w; y = c.u; z = c.v }
at_frame (suc zero) c = record { x = neg_ℤ c.u; y = c.w; z = c.v }
at_frame (suc (suc zero)) c = record { x = neg_ℤ c.u; y = neg_ℤ c.v; z = c.w }
at_frame (suc (suc (suc zero))) c = record { x = neg_ℤ c.w; y = neg_ℤ c.v; z = neg_ℤ c.u }
at_frame (suc (suc (suc (suc zero)))) c = record { x = c.v; y = neg_ℤ c.w; z = neg_ℤ c.u }
at_frame (suc (suc (suc (suc (suc n))))) c = record { x = c.v; y = c.u; z = neg_ℤ c.w }

pub framed_at : (f : ℕ) (c : Framed) → in_frame f (at_frame f c) ≡ c
unfolding at_frame
framed_at zero c = refl
framed_at (suc zero) c = rw (minus_minus c.u) refl
framed_at (suc (suc zero)) c = rw (minus_minus c.u, minus_minus c.v) refl
framed_at (suc (suc (suc zero))) c = rw (minus_minus c.w, minus_minus c.u, minus_minus c.v) refl
framed_at (suc (suc (suc (suc zero)))) c = rw (minus_minus c.w, minus_minus c.u) refl
framed_at (suc (suc (suc (suc (suc n))))) c = rw (minus_minus c.w) refl

-- a direction beside a place of a face that is far
pub far_from : (most f : ℕ) (u v : ℤ) (g : ℕ) → IsFar most (in_frame g (at_frame f (beside most u v)))
far_from most f u v g =
    far_in most (at_frame f (beside most u v)) g (far_first most (at_frame f (beside most u v)) f
    (subst (IsFar most) (sym (framed_at f (beside most u v))) (far_beside most u v)))

-- ---- places
-- a place on a face, in the middle of a row or of a column
pub record IsMiddle (u v : ℤ) : Type 0 where
  pub u_small : unsigned_abs u ≤ 2 ^ 62
  pub v_small : unsigned_abs v ≤ 2 ^ 62
  pub half : ℕ
  pub below : half < 2 ^ 30
  pub is : (u ≡ along (2 * half + 1)) ⊎ (v ≡ along (2 * half + 1))

pub middle_of_row : (s m : ℕ) → s ≤ 2 ^ 31 → 2 * m + 1 ≤ 2 ^ 31 → IsMiddle (along s) (along (2 * m + 1))
middle_of_row s m h k = record {
  u_small = along_place s h;
  v_small = along_place (2 * m + 1) k;
  half = m;
  below = omega arith;
  is = inr refl;
}

pub middle_of_column : (m t : ℕ) → 2 * m + 1 ≤ 2 ^ 31 → t ≤ 2 ^ 31 → IsMiddle (along (2 * m + 1)) (along t)
middle_of_column m t h k = record {
  u_small = along_place (2 * m + 1) h;
  v_small = along_place t k;
  half = m;
  below = omega arith;
  is = inl refl;
}

-- the numbers of normals are less than this where those of the ends of edges are less than `most`
abbrev pub far_enough : ℕ → ℕ
far_enough most = 2 * (most * most) + 1

product_small : (most : ℕ) (s t x y : ℤ) → unsigned_abs s ≤ most → unsigned_abs t ≤ most → unsigned_abs x < most
    → unsigned_abs y < most → unsigned_abs (s *ℤ y -ℤ t *ℤ x) < far_enough most
product_small most s t x y hs ht hx hy =
    let p = within_product s y most most hs (omega (arith, hy)) in
    let q = within_product t x most most ht (omega (arith, hx)) in
    let d = within_difference (s *ℤ y) (t *ℤ x) (most * most) (most * most) p q in
    omega (arith, d)

-- an end of an edge, in the frame of a face: its numbers are less than `most`, not all are 0, and it lies on no line
-- of middles
pub record IsEnd (most : ℕ) (c : Framed) : Type 0 where
  pub w : unsigned_abs c.w < most
  pub u : unsigned_abs c.u < most
  pub v : unsigned_abs c.v < most
  pub some : c.w ≡ pos 0 → c.u ≡ pos 0 → c.v ≡ pos 0 → ⊥
  pub off : IsOffMiddle c

whole_small : unsigned_abs whole ≤ 2 ^ 62
whole_small = omega arith

normal_small : (most : ℕ) (w u v : ℤ) (c : Framed) → unsigned_abs w ≤ most → unsigned_abs u ≤ most
    → unsigned_abs v ≤ most → IsEnd most c
    → IsSmall (far_enough most) (normal_of (record { w = w; u = u; v = v }) c)
normal_small most w u v c hw hu hv h = record {
  w = product_small most u v c.u c.v hu hv h.u h.v;
  u = product_small most v w c.v c.w hv hw h.v h.w;
  v = product_small most w u c.w c.u hw hu h.w h.u;
}

scale_none : (k : ℕ) (s x w : ℤ) → pos k ≢ pos 0 → w ≡ pos 0 → pos k *ℤ x -ℤ s *ℤ w ≡ pos 0 → x ≡ pos 0
scale_none k s x w some f e =
    other_none (pos k) x (sym (ap (λ (z : ℤ). pos k *ℤ x -ℤ s *ℤ z) f
    ∙ equal (at (pos k) ⊗ at x ⊖ at s ⊗ at (pos 0)) (at (pos k) ⊗ at x) (omega arith)) ∙ e) some

none_scale : (k : ℕ) (s x w : ℤ) → pos k ≢ pos 0 → w ≡ pos 0 → s *ℤ w -ℤ pos k *ℤ x ≡ pos 0 → x ≡ pos 0
none_scale k s x w some f e = scale_none k s x w some f (turned (s *ℤ w) (pos k *ℤ x) e)
  where
    turned : (x y : ℤ) → x -ℤ y ≡ pos 0 → y -ℤ x ≡ pos 0
    turned x y e = omega (arith, ints)

-- an end on the line of a row, and of a column, lies where the line ends
at_row : (most m : ℕ) (c : Framed) → IsEnd most c → m < 2 ^ 30 → above (along (2 * m + 1)) c ≡ pos 0 → IsAtEnd c.v c.w
at_row most m c h l e = by (is_0 c.w)
  where
    by : (c.w ≡ pos 0) ⊎ (c.w ≢ pos 0) → IsAtEnd c.v c.w
    by (inl f) =
        record { across = scale_none (3 * 2 ^ 60) (along (2 * m + 1)) c.v c.w whole_some f e; before = f }
    by (inr some) = absurd (h.off.rows m l some e)

at_column : (most m : ℕ) (c : Framed) → IsEnd most c → m < 2 ^ 30 → left_of (along (2 * m + 1)) c ≡ pos 0
    → IsAtEnd c.u c.w
at_column most m c h l e = by (is_0 c.w)
  where
    by : (c.w ≡ pos 0) ⊎ (c.w ≢ pos 0) → IsAtEnd c.u c.w
    by (inl f) =
        record { across = none_scale (3 * 2 ^ 60) (along (2 * m + 1)) c.u c.w whole_some f e; before = f }
    by (inr some) = absurd (h.off.columns m l some e)

-- no end of an edge lies in the direction of such a place
no_end_at : (most : ℕ) (u v : ℤ) (c : Framed) → IsMiddle u v → IsEnd most c → IsNone (normal_of (at_place u v) c) → ⊥
no_end_at most u v c h k n = by h.is
  where
    minus_none : (x y : ℤ) → x -ℤ y ≡ pos 0 → y -ℤ x ≡ pos 0
    minus_none x y e = omega (arith, ints)

    by : (u ≡ along (2 * h.half + 1)) ⊎ (v ≡ along (2 * h.half + 1)) → ⊥
    by (inl e) =
        let l = at_column most h.half c k h.below
        (sym (ap (λ (z : ℤ). z *ℤ c.w -ℤ pos (3 * 2 ^ 60) *ℤ c.u) e)
        ∙ minus_none (pos (3 * 2 ^ 60) *ℤ c.u) (u *ℤ c.w) n.v) in
        k.some l.before l.across (none_scale (3 * 2 ^ 60) v c.v c.w whole_some l.before n.u)
    by (inr e) =
        let l = at_row most h.half c k h.below
        (sym (ap (λ (z : ℤ). pos (3 * 2 ^ 60) *ℤ c.v -ℤ z *ℤ c.w) e)
        ∙ minus_none (v *ℤ c.w) (pos (3 * 2 ^ 60) *ℤ c.v) n.u) in
        k.some l.before (scale_none (3 * 2 ^ 60) u c.u c.w whole_some l.before n.v) l.across

module _ (most : ℕ) (large : 2 ^ 62 ≤ most) (z : Framed) (far : IsFar (far_enough most) z) where
  -- an end of an edge isn't in the plane of a place and the far direction
  off_plane : (u v : ℤ) (c : Framed) → IsMiddle u v → IsEnd most c → triple c (at_place u v) z ≢ pos 0
  off_plane u v c h k e =
      no_end_at most u v c h k (far (normal_of (at_place u v) c)
      (normal_small most whole u v c (less whole whole_small) (less u h.u_small) (less v h.v_small) k)
      (exchanged z c (at_place u v) ∙ ap (λ (t : ℤ). pos 0 -ℤ t) (turned_on z c (at_place u v) ∙ e)))
    where
      less : (x : ℤ) → unsigned_abs x ≤ 2 ^ 62 → unsigned_abs x ≤ most
      less x l = omega (arith, l, large)

  -- and the far direction isn't in the plane of an edge
  off_edge : (a b : Framed) → IsEnd most a → IsEnd most b → ¬ (IsNone (normal_of a b)) → triple z a b ≢ pos 0
  off_edge a b h k some e =
      some (far (normal_of a b) (normal_small most a.w a.u a.v b (less a.w h.w) (less a.u h.u) (less a.v h.v) k) e)
    where
      less : (x : ℤ) → unsigned_abs x < most → unsigned_abs x ≤ most
      less x l = omega (arith, l)

  row_sum : (k : ℕ) (t zw zu zv : ℤ) → zw *ℤ (pos 0 -ℤ t) +ℤ zu *ℤ pos 0 +ℤ zv *ℤ pos k ≡ pos k *ℤ zv -ℤ t *ℤ zw
  row_sum k t zw zu zv =
      equal (at zw ⊗ (at (pos 0) ⊖ at t) ⊕ at zu ⊗ at (pos 0) ⊕ at zv ⊗ at (pos k))
      (at (pos k) ⊗ at zv ⊖ at t ⊗ at zw) (omega arith)

  column_sum : (k : ℕ) (s zw zu zv : ℤ) → zw *ℤ s +ℤ zu *ℤ (pos 0 -ℤ pos k) +ℤ zv *ℤ pos 0 ≡ s *ℤ zw -ℤ pos k *ℤ zu
  column_sum k s zw zu zv =
      equal (at zw ⊗ at s ⊕ at zu ⊗ (at (pos 0) ⊖ at (pos k)) ⊕ at zv ⊗ at (pos 0))
      (at s ⊗ at zw ⊖ at (pos k) ⊗ at zu) (omega arith)

  place_small : (x : ℤ) → unsigned_abs x ≤ 2 ^ 62 → unsigned_abs x < far_enough most
  place_small x h = let m = mul-le-mul large large in omega (arith, h, m)

  none_small : unsigned_abs (pos 0) < far_enough most
  none_small = omega arith

  -- nor in that of a row or a column
  off_row : (t : ℤ) → unsigned_abs t ≤ 2 ^ 62 → above t z ≢ pos 0
  off_row t h e =
      whole_some (far (record { w = pos 0 -ℤ t; u = pos 0; v = whole })
      (record {
        w = minus_small (far_enough most) t (place_small t h);
        u = none_small;
        v = place_small whole whole_small;
      })
      (row_sum (3 * 2 ^ 60) t z.w z.u z.v ∙ e)).v

  off_column : (s : ℤ) → unsigned_abs s ≤ 2 ^ 62 → left_of s z ≢ pos 0
  off_column s h e =
      whole_some (back whole (far (record { w = s; u = pos 0 -ℤ whole; v = pos 0 })
      (record {
        w = place_small s h;
        u = minus_small (far_enough most) whole (place_small whole whole_small);
        v = none_small;
      })
      (column_sum (3 * 2 ^ 60) s z.w z.u z.v ∙ e)).u)

-- ---- one edge and one piece of a way
product_some : (d y x : ℤ) → x ≡ d *ℤ y → d ≢ pos 0 → y ≢ pos 0 → x ≢ pos 0
product_some d y x e h k f = k (other_none d y (sym e ∙ f) h)

apart_some : (s m : ℤ) → s <ℤ m → (m -ℤ s) ≢ pos 0
apart_some s m l e = omega (arith, ints)

module _ (most : ℕ) (large : 2 ^ 62 ≤ most) (z a b : Framed) (far : IsFar (far_enough most) z) (ha : IsEnd most a)
    (hb : IsEnd most b) (some : ¬ (IsNone (normal_of a b))) where
  pub row_apart : (s u m : ℕ) → s < u → u ≤ 2 ^ 31 → 2 * m + 1 ≤ 2 ^ 31
      → IsApart (at_place (along s) (along (2 * m + 1))) (at_place (along u) (along (2 * m + 1))) z a b
  row_apart s u m l h k =
      let t = along (2 * m + 1) in
      let d = apart_some (along s) (along u) (along_rises s u l) in
      let p = middle_of_row s m (omega arith) k in
      let q = middle_of_row u m h k in
      record {
        plane = product_some (along u -ℤ along s) (above t z) (triple z (at_place (along s) t) (at_place (along u) t))
            (row_plane (along s) (along u) t z) d (off_row most large z far t p.v_small);
        first_a = off_plane most large z far (along s) t a p ha;
        first_b = off_plane most large z far (along s) t b p hb;
        last_a = off_plane most large z far (along u) t a q ha;
        last_b = off_plane most large z far (along u) t b q hb;
        ends = λ e f. on_row (at_row most m a ha (omega arith) (other_none (along u -ℤ along s) (above t a)
            (sym (row_plane (along s) (along u) t a) ∙ e) d))
            (at_row most m b hb (omega arith) (other_none (along u -ℤ along s) (above t b)
            (sym (row_plane (along s) (along u) t b) ∙ f) d));
        far = off_edge most large z far a b ha hb some;
      }
    where
      on_row : IsAtEnd a.v a.w → IsAtEnd b.v b.w → ⊥
      on_row i j = some (record {
        w = none_at_ends b.v a.v a.u b.u j.across i.across;
        u = none_at_starts a.v b.v b.w a.w i.across j.across;
        v = none_at_starts a.w b.w b.u a.u i.before j.before;
      })

  pub column_apart : (m t u : ℕ) → t < u → u ≤ 2 ^ 31 → 2 * m + 1 ≤ 2 ^ 31
      → IsApart (at_place (along (2 * m + 1)) (along t)) (at_place (along (2 * m + 1)) (along u)) z a b
  column_apart m t u l h k =
      let s = along (2 * m + 1) in
      let d = apart_some (along t) (along u) (along_rises t u l) in
      let p = middle_of_column m t k (omega arith) in
      let q = middle_of_column m u k h in
      record {
        plane = product_some (along u -ℤ along t) (left_of s z) (triple z (at_place s (along t)) (at_place s (along u)))
            (column_plane s (along t) (along u) z) d (off_column most large z far s p.u_small);
        first_a = off_plane most large z far s (along t) a p ha;
        first_b = off_plane most large z far s (along t) b p hb;
        last_a = off_plane most large z far s (along u) a q ha;
        last_b = off_plane most large z far s (along u) b q hb;
        ends = λ e f. on_column (at_column most m a ha (omega arith) (other_none (along u -ℤ along t) (left_of s a)
            (sym (column_plane s (along t) (along u) a) ∙ e) d))
            (at_column most m b hb (omega arith) (other_none (along u -ℤ along t) (left_of s b)
            (sym (column_plane s (along t) (along u) b) ∙ f) d));
        far = off_edge most large z far a b ha hb some;
      }
    where
      on_column : IsAtEnd a.u a.w → IsAtEnd b.u b.w → ⊥
      on_column i j = some (record {
        w = none_at_starts a.u b.u b.v a.v i.across j.across;
        u = none_at_ends b.w a.w a.v b.v j.before i.before;
        v = none_at_starts a.w b.w b.u a.u i.before j.before;
      })

-- a direction is some way from the center
square_least : (x : ℤ) → pos 0 ≤ℤ (x *ℤ x)
square_least x = alike x x (is_at_least_0 x) (is_at_least_0 x) (sign_of x) (sign_of x) refl

square_none : (x : ℤ) → x *ℤ x ≡ pos 0 → x ≡ pos 0
square_none x e = by (is_0 x)
  where
    by : (x ≡ pos 0) ⊎ (x ≢ pos 0) → x ≡ pos 0
    by (inl f) = f
    by (inr h) = other_none x x e h

pub squares : (a : Framed) → (a.w ≡ pos 0 → a.u ≡ pos 0 → a.v ≡ pos 0 → ⊥) → pos 0 <ℤ dot_of a a
squares a some =
    by_lt_z (pos 0) (dot_of a a) (λ (l : pos 0 <ℤ dot_of a a). l)
    (λ (l : dot_of a a ≤ℤ pos 0). absurd (some
    (square_none a.w (first (a.w *ℤ a.w) (a.u *ℤ a.u) (a.v *ℤ a.v) (square_least a.w) (square_least a.u)
    (square_least a.v) l))
    (square_none a.u (second (a.w *ℤ a.w) (a.u *ℤ a.u) (a.v *ℤ a.v) (square_least a.w) (square_least a.u)
    (square_least a.v) l))
    (square_none a.v (third (a.w *ℤ a.w) (a.u *ℤ a.u) (a.v *ℤ a.v) (square_least a.w) (square_least a.u)
    (square_least a.v) l))))
  where
    first : (x y z : ℤ) → pos 0 ≤ℤ x → pos 0 ≤ℤ y → pos 0 ≤ℤ z → (x +ℤ y +ℤ z) ≤ℤ pos 0 → x ≡ pos 0
    first x y z e f g l = omega (arith, ints)

    second : (x y z : ℤ) → pos 0 ≤ℤ x → pos 0 ≤ℤ y → pos 0 ≤ℤ z → (x +ℤ y +ℤ z) ≤ℤ pos 0 → y ≡ pos 0
    second x y z e f g l = omega (arith, ints)

    third : (x y z : ℤ) → pos 0 ≤ℤ x → pos 0 ≤ℤ y → pos 0 ≤ℤ z → (x +ℤ y +ℤ z) ≤ℤ pos 0 → z ≡ pos 0
    third x y z e f g l = omega (arith, ints)

-- the edge isn't between ends on one line with the center, or both lie in one direction
pub some_or_along : (a b : Framed) → (a.w ≡ pos 0 → a.u ≡ pos 0 → a.v ≡ pos 0 → ⊥) →
    (IsNone (normal_of a b) → pos 0 <ℤ dot_of a b)
    → (¬ (IsNone (normal_of a b))) ⊎ IsAlong a b
some_or_along a b h short = by (is_0 (normal_of a b).w) (is_0 (normal_of a b).u) (is_0 (normal_of a b).v)
  where
    by : ((normal_of a b).w ≡ pos 0) ⊎ ((normal_of a b).w ≢ pos 0)
        → ((normal_of a b).u ≡ pos 0) ⊎ ((normal_of a b).u ≢ pos 0)
        → ((normal_of a b).v ≡ pos 0) ⊎ ((normal_of a b).v ≢ pos 0) → (¬ (IsNone (normal_of a b))) ⊎ IsAlong a b
    by (inr x) y t = inl (λ n. x n.w)
    by (inl x) (inr y) t = inl (λ n. y n.u)
    by (inl x) (inl y) (inr t) = inl (λ n. t n.v)
    by (inl x) (inl y) (inl t) =
        let n : IsNone (normal_of a b) = record { w = x; u = y; v = t } in
        inr (record { none = n; own = squares a h; between = short n })
