-- Edges that are turned round.
use Rattle.std.proofs.Common.{◌≡◌, refl, sym, ap, ap₂, ◌∙◌, ℕ, ◌+◌, ◌*◌, ◌^◌, ◌≤◌, ◌<◌, arith, ℤ, pos}
use Rattle.std.proofs.Common.{◌+ℤ◌, ◌-ℤ◌, ◌*ℤ◌, ◌<ℤ◌, unsigned_abs, Bool, true, false, min, max, nat_lt, ltb-true}
use Rattle.std.proofs.Common.{ltb-false}
use Rattle.std.proofs.lemmas.Int.{ints}
use Rattle.std.proofs.Math.Bool.{xor}
use Rattle.s2polygon.specs.Ways.{row, column, crosses}
use Rattle.s2polygon.proofs.Along.{along_rises}
use Rattle.s2polygon.proofs.Changes.{xor_self}
use Rattle.s2polygon.proofs.Integers.{Expr, at, ◌⊕◌, ◌⊖◌, ◌⊗◌, value, equal, below_parts, less}
use Rattle.s2polygon.proofs.Rejects.{product_above, product_below}
use Rattle.s2polygon.proofs.Steps.{never_of_crossing, row_piece, column_piece, xor_same, xor_pairs}
use Rattle.s2polygon.proofs.Middles.{beyond_middle, short_of_middle}
use Rattle.s2polygon.proofs.Rays.{Follows, AreTwoLines, ray, changes, crossing_is, changes_alike}
use Rattle.s2polygon.specs.Crosses.{side, crosses_row_at, crosses_column_at}
use Rattle.s2polygon.specs.Frames.{normal_u_of, normal_v_of, normal_w_of}
use Rattle.s2polygon.specs.Meets.{above, left_of}
use Rattle.s2polygon.specs.Places.{along}
use Rattle.s2polygon.specs.declared.frames.Framed.{Framed}
use Rattle.s2polygon.specs.declared.frames.FramedEdge.{FramedEdge}

-- ---- the two lines of a place
module _ (k : ℕ) (s t aw au av bw bu bv : ℤ) where
  abbrev kk : Expr
  kk = at (pos k)

  abbrev nw : Expr
  nw = at au ⊗ at bv ⊖ at av ⊗ at bu

  abbrev nu : Expr
  nu = at av ⊗ at bw ⊖ at aw ⊗ at bv

  abbrev nv : Expr
  nv = at aw ⊗ at bu ⊖ at au ⊗ at bw

  abbrev sided : Expr
  sided = kk ⊗ nw ⊕ at s ⊗ nu ⊕ at t ⊗ nv

  abbrev row_of : Expr → Expr → Expr
  row_of p w = kk ⊗ p ⊖ at t ⊗ w

  abbrev column_of : Expr → Expr → Expr
  column_of p w = at s ⊗ w ⊖ kk ⊗ p

  scaled_none : (w : ℤ) → value sided ≡ pos 0 → value (at w ⊗ sided) ≡ pos 0
  scaled_none w e = ap (λ (z : ℤ). w *ℤ z) e ∙ equal (at w ⊗ at (pos 0)) (at (pos 0)) (omega arith)

  plus_none : (x y : ℤ) → y ≡ pos 0 → x +ℤ y ≡ x
  plus_none x y e = omega (arith, ints)

  pub lines_start : value sided ≡ pos 0 → value (nu ⊗ column_of (at au) (at aw)) ≡ value (nv ⊗ row_of (at av) (at aw))
  lines_start e =
      equal (nu ⊗ column_of (at au) (at aw)) (nv ⊗ row_of (at av) (at aw) ⊕ at aw ⊗ sided) (omega arith)
      ∙ plus_none (value (nv ⊗ row_of (at av) (at aw))) (value (at aw ⊗ sided)) (scaled_none aw e)

  pub lines_end : value sided ≡ pos 0 → value (nu ⊗ column_of (at bu) (at bw)) ≡ value (nv ⊗ row_of (at bv) (at bw))
  lines_end e =
      equal (nu ⊗ column_of (at bu) (at bw)) (nv ⊗ row_of (at bv) (at bw) ⊕ at bw ⊗ sided) (omega arith)
      ∙ plus_none (value (nv ⊗ row_of (at bv) (at bw))) (value (at bw ⊗ sided)) (scaled_none bw e)

-- a direction in the frame of a face, with coordinates of 32 bits
pub record IsProper (c : Framed) : Type 0 where
  pub w : unsigned_abs c.w < 2 ^ 31
  pub u : unsigned_abs c.u < 2 ^ 31
  pub v : unsigned_abs c.v < 2 ^ 31
  pub some : c.w ≡ pos 0 → c.u ≡ pos 0 → c.v ≡ pos 0 → ⊥

pub none_at_ends : (x y p q : ℤ) → x ≡ pos 0 → y ≡ pos 0 → p *ℤ x -ℤ y *ℤ q ≡ pos 0
none_at_ends x y p q e f =
    ap₂ (λ (m n : ℤ). p *ℤ m -ℤ n *ℤ q) e f ∙ equal (at p ⊗ at (pos 0) ⊖ at (pos 0) ⊗ at q) (at (pos 0)) (omega arith)

pub none_at_starts : (x y p q : ℤ) → x ≡ pos 0 → y ≡ pos 0 → x *ℤ p -ℤ q *ℤ y ≡ pos 0
none_at_starts x y p q e f =
    ap₂ (λ (m n : ℤ). m *ℤ p -ℤ q *ℤ n) e f ∙ equal (at (pos 0) ⊗ at p ⊖ at q ⊗ at (pos 0)) (at (pos 0)) (omega arith)

-- a middle of leaves lies on a row and on a column
middle_lines : (m n : ℕ) (a b : Framed) → IsProper a → IsProper b
    → AreTwoLines (above (along (2 * n + 1)) a) (above (along (2 * n + 1)) b) (normal_u_of a b)
    (left_of (along (2 * m + 1)) a) (left_of (along (2 * m + 1)) b) (normal_v_of a b)
    (side (along (2 * m + 1)) (along (2 * n + 1)) a b)
middle_lines m n a b ha hb = record {
  start = lines_start (3 * 2 ^ 60) (along (2 * m + 1)) (along (2 * n + 1)) a.w a.u a.v b.w b.u b.v;
  end = lines_end (3 * 2 ^ 60) (along (2 * m + 1)) (along (2 * n + 1)) a.w a.u a.v b.w b.u b.v;
  one = λ e f. none_at_starts a.w b.w b.u a.u (beyond_middle n a.v a.w ha.w e).before
      (beyond_middle n b.v b.w hb.w f).before;
  other = λ e f. none_at_ends b.w a.w a.v b.v (short_of_middle m b.u b.w hb.w f).before
      (short_of_middle m a.u a.w ha.w e).before;
  first = λ e f. ha.some (beyond_middle n a.v a.w ha.w e).before (short_of_middle m a.u a.w ha.w f).across
      (beyond_middle n a.v a.w ha.w e).across;
  last = λ e f. hb.some (beyond_middle n b.v b.w hb.w e).before (short_of_middle m b.u b.w hb.w f).across
      (beyond_middle n b.v b.w hb.w e).across;
}

-- just one of the edge and of the same edge, turned round, comes over the row beyond the place (s, t)
abbrev pub turns_row : ℕ → ℕ → Framed → Framed → Bool
turns_row s t a b = changes (above (along t) a) (above (along t) b) (normal_u_of a b) (side (along s) (along t) a b)

-- over the column
abbrev pub turns_column : ℕ → ℕ → Framed → Framed → Bool
turns_column s t a b = changes (left_of (along s) a) (left_of (along s) b) (normal_v_of a b)
    (side (along s) (along t) a b)

pub at_middle : (m n : ℕ) (a b : Framed) → IsProper a → IsProper b
    → turns_row (2 * m + 1) (2 * n + 1) a b ≡ turns_column (2 * m + 1) (2 * n + 1) a b
at_middle m n a b ha hb =
    changes_alike (above (along (2 * n + 1)) a) (above (along (2 * n + 1)) b) (normal_u_of a b)
    (left_of (along (2 * m + 1)) a) (left_of (along (2 * m + 1)) b) (normal_v_of a b)
    (side (along (2 * m + 1)) (along (2 * n + 1)) a b) (middle_lines m n a b ha hb)

-- ---- what a piece's crossing changes by
-- how the side of an edge follows the places of a row

module _ (k : ℕ) (s s2 t t2 nw nu nv : ℤ) where
  abbrev row_side : ℤ → Expr
  row_side z = at (pos k) ⊗ at nw ⊕ at z ⊗ at nu ⊕ at t ⊗ at nv

  pub row_follows : s <ℤ s2 → Follows nu (value (row_side s)) (value (row_side s2))
  row_follows h =
      let d : pos 0 <ℤ (s2 -ℤ s) = omega (arith, ints) in
      record {
        falls = λ l. let f = below_parts ((at s2 ⊖ at s) ⊗ at nu) (at (pos 0)) (product_below (s2 -ℤ s) nu d l) in
            less (row_side s2) (row_side s) (omega arith);
        rises = λ l. let f = below_parts (at (pos 0)) ((at s2 ⊖ at s) ⊗ at nu) (product_above (s2 -ℤ s) nu d l) in
            less (row_side s) (row_side s2) (omega arith);
        stays = λ e. ap (λ (z : ℤ). pos k *ℤ nw +ℤ s *ℤ z +ℤ t *ℤ nv) e
            ∙ equal (at (pos k) ⊗ at nw ⊕ at s ⊗ at (pos 0) ⊕ at t ⊗ at nv)
            (at (pos k) ⊗ at nw ⊕ at s2 ⊗ at (pos 0) ⊕ at t ⊗ at nv) (omega arith)
            ∙ sym (ap (λ (z : ℤ). pos k *ℤ nw +ℤ s2 *ℤ z +ℤ t *ℤ nv) e);
      }

  abbrev column_side : ℤ → Expr
  column_side z = at (pos k) ⊗ at nw ⊕ at s ⊗ at nu ⊕ at z ⊗ at nv

  pub column_follows : t <ℤ t2 → Follows nv (value (column_side t)) (value (column_side t2))
  column_follows h =
      let d : pos 0 <ℤ (t2 -ℤ t) = omega (arith, ints) in
      record {
        falls = λ l. let f = below_parts ((at t2 ⊖ at t) ⊗ at nv) (at (pos 0)) (product_below (t2 -ℤ t) nv d l) in
            less (column_side t2) (column_side t) (omega arith);
        rises = λ l. let f = below_parts (at (pos 0)) ((at t2 ⊖ at t) ⊗ at nv) (product_above (t2 -ℤ t) nv d l) in
            less (column_side t) (column_side t2) (omega arith);
        stays = λ e. ap (λ (z : ℤ). pos k *ℤ nw +ℤ s *ℤ nu +ℤ t *ℤ z) e
            ∙ equal (at (pos k) ⊗ at nw ⊕ at s ⊗ at nu ⊕ at t ⊗ at (pos 0))
            (at (pos k) ⊗ at nw ⊕ at s ⊗ at nu ⊕ at t2 ⊗ at (pos 0)) (omega arith)
            ∙ sym (ap (λ (z : ℤ). pos k *ℤ nw +ℤ s *ℤ nu +ℤ t2 *ℤ z) e);
      }

-- ---- an edge and the same edge, turned round
module _ (k : ℕ) (s t aw au av bw bu bv : ℤ) where
  abbrev sided_from : Expr
  sided_from = at (pos k) ⊗ (at au ⊗ at bv ⊖ at av ⊗ at bu) ⊕ at s ⊗ (at av ⊗ at bw ⊖ at aw ⊗ at bv) ⊕ at t ⊗
      (at aw ⊗ at bu ⊖ at au ⊗ at bw)

  abbrev sided_back : Expr
  sided_back = at (pos k) ⊗ (at bu ⊗ at av ⊖ at bv ⊗ at au) ⊕ at s ⊗ (at bv ⊗ at aw ⊖ at bw ⊗ at av) ⊕ at t ⊗
      (at bw ⊗ at au ⊖ at bu ⊗ at aw)

  side_back : value sided_back ≡ value (at (pos 0) ⊖ sided_from)
  side_back = equal sided_back (at (pos 0) ⊖ sided_from) (omega arith)

turned_side : (s t : ℤ) (a b : Framed) → side s t b a ≡ pos 0 -ℤ side s t a b
turned_side s t a b = side_back (3 * 2 ^ 60) s t a.w a.u a.v b.w b.u b.v

turned_product : (p q r s : ℤ) → r *ℤ q -ℤ s *ℤ p ≡ pos 0 -ℤ (p *ℤ s -ℤ q *ℤ r)
turned_product p q r s =
    equal (at r ⊗ at q ⊖ at s ⊗ at p) (at (pos 0) ⊖ (at p ⊗ at s ⊖ at q ⊗ at r)) (omega arith)

turned_u : (a b : Framed) → normal_u_of b a ≡ pos 0 -ℤ normal_u_of a b
turned_u a b = turned_product a.v a.w b.v b.w

turned_v : (a b : Framed) → normal_v_of b a ≡ pos 0 -ℤ normal_v_of a b
turned_v a b = turned_product a.w a.u b.w b.u

-- the rays from the two ends of a piece
abbrev row_ray : ℕ → ℕ → Framed → Framed → Bool
row_ray s t a b = ray (above (along t) a) (above (along t) b) (normal_u_of a b) (side (along s) (along t) a b)

abbrev column_ray : ℕ → ℕ → Framed → Framed → Bool
column_ray s t a b = ray (left_of (along s) a) (left_of (along s) b) (normal_v_of a b) (side (along s) (along t) a b)

row_rays : (t s u : ℕ) (e : FramedEdge) → crosses_row_at (along t) (along (min s u)) (along (max s u)) e
    ≡ xor (row_ray s t e.a e.b) (row_ray u t e.a e.b)
row_rays t s u e = by (nat_lt s u) refl
  where
    rising : (s u : ℕ) → s < u → crosses_row_at (along t) (along s) (along u) e
        ≡ xor (row_ray s t e.a e.b) (row_ray u t e.a e.b)
    rising s u l = crossing_is (above (along t) e.a) (above (along t) e.b) (normal_u_of e.a e.b)
        (side (along s) (along t) e.a e.b) (side (along u) (along t) e.a e.b)
        (row_follows (3 * 2 ^ 60) (along s) (along u) (along t) (along t) (normal_w_of e.a e.b) (normal_u_of e.a e.b)
        (normal_v_of e.a e.b) (along_rises s u l))

    by : (c : Bool) → nat_lt s u ≡ c → crosses_row_at (along t) (along (min s u)) (along (max s u)) e
        ≡ xor (row_ray s t e.a e.b) (row_ray u t e.a e.b)
    by true p =
        let l = ltb-true s u p in
        let low : min s u ≡ s = omega arith in
        let high : max s u ≡ u = omega arith in
        rw (low, high) (rising s u l)
    by false p = falling (nat_lt u s) refl (ltb-false s u p)
      where
        falling : (c : Bool) → nat_lt u s ≡ c → u ≤ s → crosses_row_at (along t) (along (min s u)) (along (max s u)) e
            ≡ xor (row_ray s t e.a e.b) (row_ray u t e.a e.b)
        falling true q l =
            let m = ltb-true u s q in
            let low : min s u ≡ u = omega arith in
            let high : max s u ≡ s = omega arith in
            rw (low, high) (rising u s m ∙ xor_same (row_ray u t e.a e.b) (row_ray s t e.a e.b))
        falling false q l =
            let m = ltb-false u s q in
            let one : s ≡ u = omega arith in
            let low : min s u ≡ u = omega arith in
            let high : max s u ≡ u = omega arith in
            rw (low, high, one) (never_of_crossing (above (along t) e.a) (above (along t) e.b)
            (side (along u) (along t) e.a e.b) ∙ sym (xor_self (row_ray u t e.a e.b)))

column_rays : (s t u : ℕ) (e : FramedEdge) → crosses_column_at (along s) (along (min t u)) (along (max t u)) e
    ≡ xor (column_ray s t e.a e.b) (column_ray s u e.a e.b)
column_rays s t u e = by (nat_lt t u) refl
  where
    rising : (t u : ℕ) → t < u → crosses_column_at (along s) (along t) (along u) e
        ≡ xor (column_ray s t e.a e.b) (column_ray s u e.a e.b)
    rising t u l = crossing_is (left_of (along s) e.a) (left_of (along s) e.b) (normal_v_of e.a e.b)
        (side (along s) (along t) e.a e.b) (side (along s) (along u) e.a e.b)
        (column_follows (3 * 2 ^ 60) (along s) (along s) (along t) (along u) (normal_w_of e.a e.b) (normal_u_of e.a e.b)
        (normal_v_of e.a e.b) (along_rises t u l))

    by : (c : Bool) → nat_lt t u ≡ c → crosses_column_at (along s) (along (min t u)) (along (max t u)) e
        ≡ xor (column_ray s t e.a e.b) (column_ray s u e.a e.b)
    by true p =
        let l = ltb-true t u p in
        let low : min t u ≡ t = omega arith in
        let high : max t u ≡ u = omega arith in
        rw (low, high) (rising t u l)
    by false p = falling (nat_lt u t) refl (ltb-false t u p)
      where
        falling : (c : Bool) → nat_lt u t ≡ c → u ≤ t
            → crosses_column_at (along s) (along (min t u)) (along (max t u)) e
            ≡ xor (column_ray s t e.a e.b) (column_ray s u e.a e.b)
        falling true q l =
            let m = ltb-true u t q in
            let low : min t u ≡ u = omega arith in
            let high : max t u ≡ t = omega arith in
            rw (low, high) (rising u t m ∙ xor_same (column_ray s u e.a e.b) (column_ray s t e.a e.b))
        falling false q l =
            let m = ltb-false u t q in
            let one : t ≡ u = omega arith in
            let low : min t u ≡ u = omega arith in
            let high : max t u ≡ u = omega arith in
            rw (low, high, one) (never_of_crossing (left_of (along s) e.a) (left_of (along s) e.b)
            (side (along s) (along u) e.a e.b) ∙ sym (xor_self (column_ray s u e.a e.b)))

row_back : (s t : ℕ) (a b : Framed) → row_ray s t b a ≡ ray (above (along t) b) (above (along t) a)
    (pos 0 -ℤ normal_u_of a b) (pos 0 -ℤ side (along s) (along t) a b)
row_back s t a b = ap₂ (λ (n p : ℤ). ray (above (along t) b) (above (along t) a) n p) (turned_u a b)
    (turned_side (along s) (along t) a b)

column_back : (s t : ℕ) (a b : Framed) → column_ray s t b a ≡ ray (left_of (along s) b) (left_of (along s) a)
    (pos 0 -ℤ normal_v_of a b) (pos 0 -ℤ side (along s) (along t) a b)
column_back s t a b = ap₂ (λ (n p : ℤ). ray (left_of (along s) b) (left_of (along s) a) n p) (turned_v a b)
    (turned_side (along s) (along t) a b)

row_turns : (s t : ℕ) (a b : Framed) → xor (row_ray s t a b) (row_ray s t b a) ≡ turns_row s t a b
row_turns s t a b = ap (xor (row_ray s t a b)) (row_back s t a b)

column_turns : (s t : ℕ) (a b : Framed) → xor (column_ray s t a b) (column_ray s t b a) ≡ turns_column s t a b
column_turns s t a b = ap (xor (column_ray s t a b)) (column_back s t a b)

-- just one of the edge and the same edge, turned round, crosses the piece
module _ (e f : FramedEdge) (start : f.a ≡ e.b) (end : f.b ≡ e.a) where
  pub row_turned : (t s u : ℕ) → xor (crosses (row t s u) e) (crosses (row t s u) f)
      ≡ xor (turns_row s t e.a e.b) (turns_row u t e.a e.b)
  row_turned t s u =
      ap₂ xor (sym (row_piece t s u e) ∙ row_rays t s u e) (sym (row_piece t s u f) ∙ row_rays t s u f)
      ∙ ap₂ (λ (a b : Framed). xor (xor (row_ray s t e.a e.b) (row_ray u t e.a e.b))
      (xor (row_ray s t a b) (row_ray u t a b)))
      start end
      ∙ xor_pairs (row_ray s t e.a e.b) (row_ray u t e.a e.b) (row_ray s t e.b e.a) (row_ray u t e.b e.a)
      ∙ ap₂ xor (row_turns s t e.a e.b) (row_turns u t e.a e.b)

  pub column_turned : (s t u : ℕ) → xor (crosses (column s t u) e) (crosses (column s t u) f)
      ≡ xor (turns_column s t e.a e.b) (turns_column s u e.a e.b)
  column_turned s t u =
      ap₂ xor (sym (column_piece s t u e) ∙ column_rays s t u e) (sym (column_piece s t u f) ∙ column_rays s t u f)
      ∙ ap₂ (λ (a b : Framed). xor (xor (column_ray s t e.a e.b) (column_ray s u e.a e.b))
      (xor (column_ray s t a b) (column_ray s u a b)))
      start end
      ∙ xor_pairs (column_ray s t e.a e.b) (column_ray s u e.a e.b) (column_ray s t e.b e.a) (column_ray s u e.b e.a)
      ∙ ap₂ xor (column_turns s t e.a e.b) (column_turns s u e.a e.b)
