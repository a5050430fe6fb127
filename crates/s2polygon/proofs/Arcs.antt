-- How often the edges of closed rings come over arcs from places to one far direction: a way along rows and columns has
-- the parity of the arcs from its two ends.
use Rattle.std.proofs.Common.{◌≡◌, refl, sym, ap, ap₂, ◌∙◌, ℕ, zero, suc, ◌+◌, ◌*◌, ◌/◌, ◌^◌, ◌≤◌, ◌<◌, arith, ℤ, pos}
use Rattle.std.proofs.Common.{◌-ℤ◌, ◌*ℤ◌, ◌<ℤ◌, ◌⊎◌, inl, inr, Bool, true, false, ◌&&◌, List, All, min, max, nat_lt}
use Rattle.std.proofs.Common.{◌%◌, length, ltb-true, ltb-false, unsigned_abs}
use Rattle.std.proofs.lemmas.Int.{ints, by_lt_z}
use Rattle.std.proofs.Math.Bool.{xor, beq}
use Rattle.s2cell.specs.Curve.{i_of, j_of}
use Rattle.s2polygon.proofs.Along.{along_rises}
use Rattle.s2polygon.proofs.Beside.{IsClosed, leaf_by, odd_same, odd_xor}
use Rattle.s2polygon.proofs.Changes.{xor_none, xor_self}
use Rattle.s2polygon.proofs.Closed.{IsSound, all_of, opposite}
use Rattle.s2polygon.proofs.Faraway.{IsEnd, IsFar, column_apart, far_enough, row_apart, some_or_along}
use Rattle.s2polygon.proofs.Middles.{beyond_middle, difference, odd_off_line, short_of_middle}
use Rattle.s2polygon.proofs.Steps.{column_piece, never_of_crossing, row_piece, xor_same}
use Rattle.s2polygon.proofs.Triangles.{IsAlong, IsApart, arc, arc_right, arc_up, like_answers, over_piece, piece_over}
use Rattle.s2polygon.proofs.Triangles.{within}
use Rattle.s2polygon.proofs.Turned.{drop, from_0, from_1, from_2, from_3, from_4, join, odd_mapped}
use Rattle.s2polygon.proofs.Turned.{abs_minus, proper, right, up}
use Rattle.s2polygon.proofs.Vectors.{column_plane, row_plane, triple}
use Rattle.s2polygon.specs.Crosses.{crosses_column_at, crosses_row_at, is_at_least_0, side}
use Rattle.s2polygon.specs.Directions.{IsDirection, Point}
use Rattle.s2polygon.specs.Faces.{crosses_border, edges_on, top_of}
use Rattle.s2polygon.specs.Frames.{framed, in_frame, normal_of}
use Rattle.s2polygon.specs.Leaves.{odd_at}
use Rattle.s2polygon.specs.Meets.{above, left_of}
use Rattle.s2polygon.specs.Moves.{IsOdd, IsOffMiddles}
use Rattle.s2polygon.specs.Neighbors.{place}
use Rattle.s2polygon.specs.Parity.{is_odd_by, is_odd_over}
use Rattle.s2polygon.specs.Rings.{AreOpposite, AreRings, rings_edges}
use Rattle.s2polygon.specs.Places.{along}
use Rattle.s2polygon.specs.Ways.{Piece, row, column, crosses, middle_of}
use Rattle.s2polygon.specs.Working.Rings.{IsNone, dot_of}
use Rattle.s2polygon.specs.declared.directions.Edge.{Edge}
use Rattle.s2polygon.specs.declared.frames.Framed.{Framed}
use Rattle.s2polygon.specs.declared.frames.FramedEdge.{FramedEdge}

-- ---- pieces of rows and of columns
same_crossing : (s t x y p q : Bool) → s ≡ x → t ≡ y → (xor s t && xor p q && beq p t) ≡ (xor x y && xor p q && beq p y)
same_crossing s t x y p q e f = rw (e, f) refl

risen : (u v : ℤ) → u <ℤ v → pos 0 <ℤ (v -ℤ u)
risen u v l = omega (arith, ints)

scale_answer : (d y x : ℤ) → pos 0 <ℤ d → x ≡ d *ℤ y → is_at_least_0 y ≡ is_at_least_0 x
scale_answer d y x h e = like_answers (pos 1) d y x one h (once x ∙ e)
  where
    one : pos 0 <ℤ pos 1
    one = omega (arith, ints)

    once : (x : ℤ) → pos 1 *ℤ x ≡ x
    once x = omega (arith, ints)

as_row : (t low high : ℕ) (e : FramedEdge) → low < high → crosses_row_at (along t) (along low) (along high) e
    ≡ over_piece (place low t) (place high t) e.a e.b
as_row t low high e l =
    same_crossing (is_at_least_0 (above (along t) e.a)) (is_at_least_0 (above (along t) e.b)) _ _
    (is_at_least_0 (side (along low) (along t) e.a e.b)) (is_at_least_0 (side (along high) (along t) e.a e.b))
    (on e.a) (on e.b)
  where
    on : (c : Framed) → is_at_least_0 (above (along t) c) ≡ is_at_least_0 (triple c (place low t) (place high t))
    on c = scale_answer (along high -ℤ along low) (above (along t) c) (triple c (place low t) (place high t))
        (risen (along low) (along high) (along_rises low high l)) (row_plane (along low) (along high) (along t) c)

as_column : (s low high : ℕ) (e : FramedEdge) → low < high → crosses_column_at (along s) (along low) (along high) e
    ≡ over_piece (place s low) (place s high) e.a e.b
as_column s low high e l =
    same_crossing (is_at_least_0 (left_of (along s) e.a)) (is_at_least_0 (left_of (along s) e.b)) _ _
    (is_at_least_0 (side (along s) (along low) e.a e.b)) (is_at_least_0 (side (along s) (along high) e.a e.b))
    (on e.a) (on e.b)
  where
    on : (c : Framed) → is_at_least_0 (left_of (along s) c) ≡ is_at_least_0 (triple c (place s low) (place s high))
    on c = scale_answer (along high -ℤ along low) (left_of (along s) c) (triple c (place s low) (place s high))
        (risen (along low) (along high) (along_rises low high l)) (column_plane (along s) (along low) (along high) c)

-- an edge whose ends are off the lines of middles, with numbers less than `most`, and don't lie opposite each other
pub record IsSteady (most : ℕ) (e : Edge) : Type 0 where
  pub a : (f : ℕ) → IsEnd most (in_frame f e.a)
  pub b : (f : ℕ) → IsEnd most (in_frame f e.b)
  pub apart : ¬ (AreOpposite e)

-- directions lie on no line of middles
pub directions_off : (p : Point) → IsDirection p → IsOffMiddles p
directions_off p d f =
    let h = proper f p d in
    record {
      rows = λ m l some e. some (beyond_middle m (in_frame f p).v (in_frame f p).w h.w e).before;
      columns = λ m l some e. some (short_of_middle m (in_frame f p).u (in_frame f p).w h.w e).before;
    }

-- nor do points with odd coordinates
odd_in : (f : ℕ) (p : Point) → IsOdd p → unsigned_abs (in_frame f p).w % 2 ≡ 1
odd_in zero p h = h.x
odd_in (suc zero) p h = h.y
odd_in (suc (suc zero)) p h = h.z
odd_in (suc (suc (suc zero))) p h = rw (abs_minus p.x) h.x
odd_in (suc (suc (suc (suc zero)))) p h = rw (abs_minus p.y) h.y
odd_in (suc (suc (suc (suc (suc n))))) p h = rw (abs_minus p.z) h.z

pub odd_off : (p : Point) → IsOdd p → IsOffMiddles p
odd_off p h f = record {
  rows = λ m l some e. odd_off_line m (in_frame f p).v (in_frame f p).w (odd_in f p h)
      (difference (pos (3 * 2 ^ 60) *ℤ (in_frame f p).v) (along (2 * m + 1) *ℤ (in_frame f p).w) e);
  columns = λ m l some e. odd_off_line m (in_frame f p).u (in_frame f p).w (odd_in f p h)
      (sym (difference (along (2 * m + 1) *ℤ (in_frame f p).w) (pos (3 * 2 ^ 60) *ℤ (in_frame f p).u) e));
}

end_of : (f : ℕ) (p : Point) → IsDirection p → IsEnd (2 ^ 62) (in_frame f p)
end_of f p d =
    let h = proper f p d in
    record {
      w = less h.w;
      u = less h.u;
      v = less h.v;
      some = h.some;
      off = directions_off p d f;
    }
  where
    less : {n : ℕ} → n < 2 ^ 31 → n < 2 ^ 62
    less {n} l = omega (arith, l)

steady_of : (e : Edge) → IsSound e → IsSteady (2 ^ 62) e
steady_of e s = record { a = λ f. end_of f e.a s.a; b = λ f. end_of f e.b s.b; apart = s.apart }

pub all_steady : (corners : List Point) (ends : List ℕ) → AreRings corners ends → All IsDirection corners
    → All (IsSteady (2 ^ 62)) (rings_edges corners ends (length ends))
all_steady = all_of (IsSteady (2 ^ 62)) steady_of

-- ---- on the next face
next_right : (p z a b : Framed) {k l m n : Framed} → k ≡ right p → l ≡ right z → m ≡ right a → n ≡ right b → arc k l m n
    ≡ arc p z a b
next_right p z a b e f g h = rw (e, f, g, h) (arc_right p z a b)

next_up : (p z a b : Framed) {k l m n : Framed} → k ≡ up p → l ≡ up z → m ≡ up a → n ≡ up b → arc k l m n ≡ arc p z a b
next_up p z a b e f g h = rw (e, f, g, h) (arc_up p z a b)

-- an arc is the same in the frames of all faces
arc_in : ℕ → Point → Point → Point → Point → Bool
arc_in f p z a b = arc (in_frame f p) (in_frame f z) (in_frame f a) (in_frame f b)

arc_on_1 : (p z a b : Point) → arc_in 1 p z a b ≡ arc_in 0 p z a b
unfolding arc_in
arc_on_1 p z a b =
    next_right (in_frame 0 p) (in_frame 0 z) (in_frame 0 a) (in_frame 0 b) (from_0 p) (from_0 z) (from_0 a) (from_0 b)

arc_on_2 : (p z a b : Point) → arc_in 2 p z a b ≡ arc_in 1 p z a b
unfolding arc_in
arc_on_2 p z a b =
    next_up (in_frame 1 p) (in_frame 1 z) (in_frame 1 a) (in_frame 1 b) (from_1 p) (from_1 z) (from_1 a) (from_1 b)

arc_on_3 : (p z a b : Point) → arc_in 3 p z a b ≡ arc_in 2 p z a b
unfolding arc_in
arc_on_3 p z a b =
    next_right (in_frame 2 p) (in_frame 2 z) (in_frame 2 a) (in_frame 2 b) (from_2 p) (from_2 z) (from_2 a) (from_2 b)

arc_on_4 : (p z a b : Point) → arc_in 4 p z a b ≡ arc_in 3 p z a b
unfolding arc_in
arc_on_4 p z a b =
    next_up (in_frame 3 p) (in_frame 3 z) (in_frame 3 a) (in_frame 3 b) (from_3 p) (from_3 z) (from_3 a) (from_3 b)

arc_on_5 : (p z a b : Point) → arc_in 5 p z a b ≡ arc_in 4 p z a b
unfolding arc_in
arc_on_5 p z a b =
    next_right (in_frame 4 p) (in_frame 4 z) (in_frame 4 a) (in_frame 4 b) (from_4 p) (from_4 z) (from_4 a) (from_4 b)

one_arc : (f : ℕ) (p z a b : Point) → arc_in f p z a b ≡ arc_in 0 p z a b
unfolding arc_in
one_arc zero p z a b = refl
one_arc (suc zero) p z a b = arc_on_1 p z a b
one_arc (suc (suc zero)) p z a b = arc_on_2 p z a b ∙ arc_on_1 p z a b
one_arc (suc (suc (suc zero))) p z a b = arc_on_3 p z a b ∙ arc_on_2 p z a b ∙ arc_on_1 p z a b
one_arc (suc (suc (suc (suc zero)))) p z a b =
    arc_on_4 p z a b ∙ arc_on_3 p z a b ∙ arc_on_2 p z a b ∙ arc_on_1 p z a b
one_arc (suc (suc (suc (suc (suc n))))) p z a b =
    arc_on_5 p z a b ∙ arc_on_4 p z a b ∙ arc_on_3 p z a b ∙ arc_on_2 p z a b ∙ arc_on_1 p z a b

-- ---- arcs to a far direction
module _ (most : ℕ) (large : 2 ^ 62 ≤ most) (z : Point)
    (far : (f : ℕ) → IsFar (far_enough most) (in_frame f z)) where
  abbrev far_in : ℕ → Framed
  far_in f = in_frame f z

  abbrev IsSeen : ℕ → Framed → Framed → Edge → Type 0
  IsSeen f p q e = IsApart p q (far_in f) (in_frame f e.a) (in_frame f e.b) ⊎ IsAlong (in_frame f e.a) (in_frame f e.b)

  short_way : (f : ℕ) (e : Edge) → IsSteady most e → IsNone (normal_of (in_frame f e.a) (in_frame f e.b))
      → pos 0 <ℤ dot_of (in_frame f e.a) (in_frame f e.b)
  short_way f e h n =
      by_lt_z (pos 0) (dot_of (in_frame f e.a) (in_frame f e.b))
      (λ (l : pos 0 <ℤ dot_of (in_frame f e.a) (in_frame f e.b)). l)
      (λ l. absurd (h.apart (opposite f e.a e.b (record { w = n.w; u = n.u; v = n.v; away = l }))))

  seen : (f : ℕ) (p q : Framed) (e : Edge) → IsSteady most e
      → (¬ (IsNone (normal_of (in_frame f e.a) (in_frame f e.b)))
      → IsApart p q (far_in f) (in_frame f e.a) (in_frame f e.b)) → IsSeen f p q e
  seen f p q e h apart =
      by (some_or_along (in_frame f e.a) (in_frame f e.b) (h.a f).some (short_way f e h))
    where
      by : (¬ (IsNone (normal_of (in_frame f e.a) (in_frame f e.b)))) ⊎ IsAlong (in_frame f e.a) (in_frame f e.b)
          → IsSeen f p q e
      by (inl some) = inl (apart some)
      by (inr n) = inr n

  -- pieces of one row or column, and the places on it
  record IsLine (f : ℕ) (line : ℕ → ℕ → Piece) (at : ℕ → Framed) : Type 0 where
    rises : (s u low high : ℕ) (e : FramedEdge) → min s u ≡ low → max s u ≡ high → low < high
        → crosses (line s u) e ≡ over_piece (at low) (at high) e.a e.b
    stays : (s : ℕ) (e : FramedEdge) → crosses (line s s) e ≡ false
    apart : (low high : ℕ) (e : Edge) → low < high → high ≤ 2 ^ 31 → IsSteady most e → IsSeen f (at low) (at high) e

  row_line : (f m : ℕ) → 2 * m + 1 ≤ 2 ^ 31 → IsLine f (λ s u. row (2 * m + 1) s u) (λ s. place s (2 * m + 1))
  row_line f m k = record {
    rises = λ s u low high e p q l. sym (row_piece (2 * m + 1) s u e)
        ∙ ap₂ (λ (x y : ℕ). crosses_row_at (along (2 * m + 1)) (along x) (along y) e) p q
        ∙ as_row (2 * m + 1) low high e l;
    stays = λ s e. sym (row_piece (2 * m + 1) s s e)
        ∙ ap₂ (λ (x y : ℕ). crosses_row_at (along (2 * m + 1)) (along x) (along y) e) (least s) (greatest s)
        ∙ never_of_crossing (above (along (2 * m + 1)) e.a) (above (along (2 * m + 1)) e.b)
        (side (along s) (along (2 * m + 1)) e.a e.b);
    apart = λ low high e l h sound. seen f (place low (2 * m + 1)) (place high (2 * m + 1)) e sound
        (λ some. row_apart most large (far_in f) (in_frame f e.a) (in_frame f e.b) (far f) (sound.a f)
        (sound.b f) some low high m l h k);
  }
    where
      least : (s : ℕ) → min s s ≡ s
      least s = omega arith

      greatest : (s : ℕ) → max s s ≡ s
      greatest s = omega arith

  column_line : (f m : ℕ) → 2 * m + 1 ≤ 2 ^ 31 → IsLine f (λ t u. column (2 * m + 1) t u) (λ t. place (2 * m + 1) t)
  column_line f m k = record {
    rises = λ s u low high e p q l. sym (column_piece (2 * m + 1) s u e)
        ∙ ap₂ (λ (x y : ℕ). crosses_column_at (along (2 * m + 1)) (along x) (along y) e) p q
        ∙ as_column (2 * m + 1) low high e l;
    stays = λ s e. sym (column_piece (2 * m + 1) s s e)
        ∙ ap₂ (λ (x y : ℕ). crosses_column_at (along (2 * m + 1)) (along x) (along y) e) (least s) (greatest s)
        ∙ never_of_crossing (left_of (along (2 * m + 1)) e.a) (left_of (along (2 * m + 1)) e.b)
        (side (along (2 * m + 1)) (along s) e.a e.b);
    apart = λ low high e l h sound. seen f (place (2 * m + 1) low) (place (2 * m + 1) high) e sound
        (λ some. column_apart most large (far_in f) (in_frame f e.a) (in_frame f e.b) (far f) (sound.a f)
        (sound.b f) some m low high l h k);
  }
    where
      least : (s : ℕ) → min s s ≡ s
      least s = omega arith

      greatest : (s : ℕ) → max s s ≡ s
      greatest s = omega arith

  module _ (es : List Edge) (sound : All (IsSteady most) es) (closed : IsClosed es) where
    -- whether the edges come over the arc from the place an odd number of times
    abbrev pub arcs : ℕ → Framed → Bool
    arcs f p = is_odd_by (λ e. arc p (far_in f) (in_frame f e.a) (in_frame f e.b)) es

    pub arcs_alike : (f : ℕ) (p : Point) → arcs f (in_frame f p) ≡ arcs 0 (in_frame 0 p)
    unfolding arc_in
    arcs_alike f p =
        odd_same (λ e. arc_in f p z e.a e.b) (λ e. arc_in 0 p z e.a e.b) (IsSteady most)
        (λ e h. one_arc f p z e.a e.b) es sound

    both_ends : (f : ℕ) (p q : Framed) (test : Edge → Bool)
        → ((e : Edge) → IsSteady most e → test e ≡ over_piece p q (in_frame f e.a) (in_frame f e.b))
        → ((e : Edge) → IsSteady most e → IsSeen f p q e) → is_odd_by test es ≡ xor (arcs f p) (arcs f q)
    both_ends f p q test is apart =
        odd_same test (λ e. xor (xor (arc p (far_in f) (in_frame f e.a) (in_frame f e.b))
        (arc q (far_in f) (in_frame f e.a) (in_frame f e.b)))
        (xor (within p q (far_in f) (in_frame f e.a)) (within p q (far_in f) (in_frame f e.b)))) (IsSteady most)
        (λ e h. is e h ∙ piece_over p q (far_in f) (in_frame f e.a) (in_frame f e.b) (apart e h)) es sound
        ∙ odd_xor (λ e. xor (arc p (far_in f) (in_frame f e.a) (in_frame f e.b))
        (arc q (far_in f) (in_frame f e.a) (in_frame f e.b)))
        (λ e. xor (within p q (far_in f) (in_frame f e.a)) (within p q (far_in f) (in_frame f e.b))) es
        ∙ ap₂ xor (odd_xor (λ e. arc p (far_in f) (in_frame f e.a) (in_frame f e.b))
        (λ e. arc q (far_in f) (in_frame f e.a) (in_frame f e.b)) es)
        (closed (λ p_point. within p q (far_in f) (in_frame f p_point)))
        ∙ xor_none (xor (arcs f p) (arcs f q))

    line_over : (f : ℕ) (line : ℕ → ℕ → Piece) (at : ℕ → Framed) → IsLine f line at → (s u : ℕ) → s ≤ 2 ^ 31
        → u ≤ 2 ^ 31
        → is_odd_over (line s u) (edges_on f es) ≡ xor (arcs f (at s)) (arcs f (at u))
    line_over f line at is s u h k = odd_mapped f (line s u) es ∙ by (nat_lt s u) refl
      where
        rising : (low high : ℕ) → min s u ≡ low → max s u ≡ high → low < high → high ≤ 2 ^ 31
            → is_odd_by (λ e. crosses (line s u) (framed f e)) es ≡ xor (arcs f (at low)) (arcs f (at high))
        rising low high p q l m =
            both_ends f (at low) (at high) (λ e. crosses (line s u) (framed f e))
            (λ e sound_edge. is.rises s u low high (framed f e) p q l)
            (λ e sound_edge. is.apart low high e l m sound_edge)

        level : s ≡ u → is_odd_by (λ e. crosses (line s u) (framed f e)) es ≡ xor (arcs f (at s)) (arcs f (at u))
        level e =
            odd_same (λ g. crosses (line s u) (framed f g)) (λ g. xor (arc (at s) (far_in f) (in_frame f g.a)
            (in_frame f g.b)) (arc (at u) (far_in f) (in_frame f g.a) (in_frame f g.b))) (IsSteady most)
            (λ g sound_edge. none s u g e) es sound
            ∙ odd_xor (λ g. arc (at s) (far_in f) (in_frame f g.a) (in_frame f g.b))
            (λ g. arc (at u) (far_in f) (in_frame f g.a) (in_frame f g.b)) es
          where
            none : (s u : ℕ) (g : Edge) → s ≡ u → crosses (line s u) (framed f g)
                ≡ xor (arc (at s) (far_in f) (in_frame f g.a) (in_frame f g.b))
                (arc (at u) (far_in f) (in_frame f g.a) (in_frame f g.b))
            none s u g e = rw e (is.stays u (framed f g)
                ∙ sym (xor_self (arc (at u) (far_in f) (in_frame f g.a) (in_frame f g.b))))

        falling : (c : Bool) → nat_lt u s ≡ c → u ≤ s → is_odd_by (λ e. crosses (line s u) (framed f e)) es
            ≡ xor (arcs f (at s)) (arcs f (at u))
        falling true q l =
            let m = ltb-true u s q in
            rising u s (omega arith) (omega arith) m h ∙ xor_same (arcs f (at u)) (arcs f (at s))
        falling false q l = let m = ltb-false u s q in level (omega arith)

        by : (c : Bool) → nat_lt s u ≡ c → is_odd_by (λ e. crosses (line s u) (framed f e)) es
            ≡ xor (arcs f (at s)) (arcs f (at u))
        by true p = let l = ltb-true s u p in rising s u (omega arith) (omega arith) l k
        by false p = falling (nat_lt u s) refl (ltb-false s u p)

    pub row_over : (f m s u : ℕ) → 2 * m + 1 ≤ 2 ^ 31 → s ≤ 2 ^ 31 → u ≤ 2 ^ 31
        → is_odd_over (row (2 * m + 1) s u) (edges_on f es)
        ≡ xor (arcs f (place s (2 * m + 1))) (arcs f (place u (2 * m + 1)))
    row_over f m s u k h l =
        line_over f (λ s u. row (2 * m + 1) s u) (λ s. place s (2 * m + 1)) (row_line f m k) s u h l

    pub column_over : (f m t u : ℕ) → 2 * m + 1 ≤ 2 ^ 31 → t ≤ 2 ^ 31 → u ≤ 2 ^ 31
        → is_odd_over (column (2 * m + 1) t u) (edges_on f es)
        ≡ xor (arcs f (place (2 * m + 1) t)) (arcs f (place (2 * m + 1) u))
    column_over f m t u k h l =
        line_over f (λ t u. column (2 * m + 1) t u) (λ t. place (2 * m + 1) t) (column_line f m k) t u h l

    -- ---- the middles of the faces
    abbrev middles : ℕ → Bool
    middles f = arcs f (place (middle_of 30 0) (middle_of 30 0))

    row_border : (f : ℕ) → ((p : Point) → in_frame (suc f) p ≡ right (in_frame f p))
        → is_odd_by (λ e. xor (crosses (row (middle_of 30 0) (middle_of 30 0) (2 ^ 31)) (framed f e))
        (crosses (row (middle_of 30 0) 0 (middle_of 30 0)) (framed (suc f) e))) es ≡ xor (middles f) (middles (suc f))
    row_border f next =
        odd_xor (λ e. crosses (row (middle_of 30 0) (middle_of 30 0) (2 ^ 31)) (framed f e))
        (λ e. crosses (row (middle_of 30 0) 0 (middle_of 30 0)) (framed (suc f) e)) es
        ∙ ap₂ xor (sym (odd_mapped f (row (middle_of 30 0) (middle_of 30 0) (2 ^ 31)) es)
        ∙ row_over f (2 ^ 29) (middle_of 30 0) (2 ^ 31) (omega arith) (omega arith) (omega arith))
        (sym (odd_mapped (suc f) (row (middle_of 30 0) 0 (middle_of 30 0)) es)
        ∙ row_over (suc f) (2 ^ 29) 0 (middle_of 30 0) (omega arith) (omega arith) (omega arith))
        ∙ join (middles f) (arcs f (place (2 ^ 31) (middle_of 30 0))) (arcs (suc f) (place 0 (middle_of 30 0)))
        (middles (suc f))
        (odd_same (λ e. arc (place (2 ^ 31) (middle_of 30 0)) (far_in f) (in_frame f e.a) (in_frame f e.b))
        (λ e. arc (place 0 (middle_of 30 0)) (far_in (suc f)) (in_frame (suc f) e.a) (in_frame (suc f) e.b))
        (IsSteady most)
        (λ e h. sym (next_right (place (2 ^ 31) (middle_of 30 0)) (far_in f) (in_frame f e.a) (in_frame f e.b) refl
        (next z) (next e.a) (next e.b))) es
        sound)

    column_border : (f : ℕ) → ((p : Point) → in_frame (suc f) p ≡ up (in_frame f p))
        → is_odd_by (λ e. xor (crosses (column (middle_of 30 0) (middle_of 30 0) (2 ^ 31)) (framed f e))
        (crosses (column (middle_of 30 0) 0 (middle_of 30 0)) (framed (suc f) e))) es
        ≡ xor (middles f) (middles (suc f))
    column_border f next =
        odd_xor (λ e. crosses (column (middle_of 30 0) (middle_of 30 0) (2 ^ 31)) (framed f e))
        (λ e. crosses (column (middle_of 30 0) 0 (middle_of 30 0)) (framed (suc f) e)) es
        ∙ ap₂ xor (sym (odd_mapped f (column (middle_of 30 0) (middle_of 30 0) (2 ^ 31)) es)
        ∙ column_over f (2 ^ 29) (middle_of 30 0) (2 ^ 31) (omega arith) (omega arith) (omega arith))
        (sym (odd_mapped (suc f) (column (middle_of 30 0) 0 (middle_of 30 0)) es)
        ∙ column_over (suc f) (2 ^ 29) 0 (middle_of 30 0) (omega arith) (omega arith) (omega arith))
        ∙ join (middles f) (arcs f (place (middle_of 30 0) (2 ^ 31))) (arcs (suc f) (place (middle_of 30 0) 0))
        (middles (suc f))
        (odd_same (λ e. arc (place (middle_of 30 0) (2 ^ 31)) (far_in f) (in_frame f e.a) (in_frame f e.b))
        (λ e. arc (place (middle_of 30 0) 0) (far_in (suc f)) (in_frame (suc f) e.a) (in_frame (suc f) e.b))
        (IsSteady most)
        (λ e h. sym (next_up (place (middle_of 30 0) (2 ^ 31)) (far_in f) (in_frame f e.a) (in_frame f e.b) refl
        (next z) (next e.a) (next e.b))) es
        sound)

    border_over : (f : ℕ) → f < 5 → is_odd_by (crosses_border f) es ≡ xor (middles f) (middles (suc f))
    border_over zero l = row_border 0 from_0
    border_over (suc zero) l = column_border 1 from_1
    border_over (suc (suc zero)) l = row_border 2 from_2
    border_over (suc (suc (suc zero))) l = column_border 3 from_3
    border_over (suc (suc (suc (suc zero)))) l = row_border 4 from_4
    border_over (suc (suc (suc (suc (suc f))))) l = absurd (omega (arith, l))

    top_over : (f : ℕ) → f < 6 → top_of es f ≡ xor (middles 0) (middles f)
    unfolding top_of
    top_over zero l = sym (xor_self (middles 0))
    top_over (suc f) l =
        ap₂ xor (top_over f (omega arith)) (border_over f (omega (arith, l)))
        ∙ drop (middles 0) (middles f) (middles (suc f))

    pub leaf_over : (x : ℕ) → x / 4 ^ 30 < 6 → odd_at es x
        ≡ xor (middles 0) (arcs (x / 4 ^ 30) (place (middle_of 0 (i_of x)) (middle_of 0 (j_of x))))
    unfolding odd_at
    leaf_over x l =
        let f = x / 4 ^ 30 in
        leaf_by (edges_on f es) (λ s t. arcs f (place s t)) (record {
          rows = λ m s u h k l. row_over f m s u h k l;
          columns = λ m n p h k l. column_over f m (2 * n + 1) (2 * p + 1) h k l;
        }) (top_of es f) x
        ∙ ap (λ (t : Bool). xor t (xor (middles f) (arcs f (place (middle_of 0 (i_of x)) (middle_of 0 (j_of x))))))
        (top_over f l)
        ∙ drop (middles 0) (middles f) (arcs f (place (middle_of 0 (i_of x)) (middle_of 0 (j_of x))))
