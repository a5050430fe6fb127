-- Turning edges round changes no leaf that isn't touched.
use Rattle.std.proofs.Common.{◌≡◌, refl, sym, ap, ap₂, ◌∙◌, ℕ, zero, suc, ◌+◌, ◌*◌, ◌/◌, ◌^◌, ◌<◌, arith, ℤ, pos}
use Rattle.std.proofs.Common.{negsuc, neg_ℤ, ◌+ℤ◌, ◌-ℤ◌, ◌*ℤ◌, ◌≤ℤ◌, ◌<ℤ◌, ◌⊎◌, inl, inr, unsigned_abs, Bool, true}
use Rattle.std.proofs.Common.{false, List, [], ◌∷◌}
use Rattle.std.proofs.Common.{◌++◌, ◌||◌, ◌&&◌, All, pow-suc}
use Rattle.std.proofs.lemmas.Int.{ints}
use Rattle.std.proofs.lemmas.List.Elements.{All-head, All-tail}
use Rattle.std.proofs.lemmas.Bool.Decides.{Decides-like, same_from_decides}
use Rattle.std.proofs.Math.Bool.{true≢false, xor}
use Rattle.std.specs.List.{list_any}
use Rattle.s2cell.specs.Curve.{At, i_of, j_of}
use Rattle.s2cell.specs.declared.TheConstants.{LEAVES}
use Rattle.s2cell.proofs.Places.{place_is}
use Rattle.s2polygon.proofs.Along.{along_rises}
use Rattle.s2polygon.proofs.Cells.{row_held}
use Rattle.s2polygon.proofs.Changes.{odd_both, xor_none, xor_self}
use Rattle.s2polygon.proofs.Integers.{Expr, at, ◌⊕◌, ◌⊖◌, ◌⊗◌, value, equal}
use Rattle.s2polygon.proofs.Middles.{beyond_middle, short_of_middle}
use Rattle.s2polygon.proofs.Parity.{not_crossed, xor_false}
use Rattle.s2polygon.proofs.Rays.{AreTwoLines, Follows, IsOn, changes, changes_alike, changes_decides}
use Rattle.s2polygon.proofs.Steps.{xor_pairs, xor_moves, xor_same}
use Rattle.s2polygon.proofs.Tests.{leaves_out_near, near_decides}
use Rattle.s2polygon.proofs.Turning.{IsProper, turns_row, turns_column, at_middle, row_turned, column_turned}
use Rattle.s2polygon.proofs.Turning.{row_follows}
use Rattle.s2polygon.proofs.Turning.{none_at_ends, none_at_starts}
use Rattle.s2polygon.specs.Cells.{odd_of, square_of, step_to, widened}
use Rattle.s2polygon.specs.Crosses.{side}
use Rattle.s2polygon.specs.Directions.{IsDirection, Point}
use Rattle.s2polygon.specs.Faces.{crosses_border, edges_on, top_of}
use Rattle.s2polygon.specs.Frames.{framed, in_frame, normal_of, normal_u_of, normal_v_of, normal_w_of}
use Rattle.s2polygon.specs.Leaves.{Region, inner_leaf, inside, is_touched, odd_at, outer_leaf}
use Rattle.s2polygon.specs.Meets.{MeetsSquare, above, left_of, mix}
use Rattle.s2polygon.specs.Parity.{is_odd_along, is_odd_by, is_odd_over}
use Rattle.s2polygon.specs.Places.{along}
use Rattle.s2polygon.specs.Rings.{HasDirections, turned, turned_round}
use Rattle.s2polygon.specs.Tests.{meets_square}
use Rattle.s2polygon.specs.Ways.{Piece, row, column, crosses, middle_of}
use Rattle.s2polygon.specs.Working.Holding.{HoldsPiece, Misses}
use Rattle.s2polygon.specs.declared.directions.Edge.{Edge}
use Rattle.s2polygon.specs.declared.frames.Framed.{Framed}
use Rattle.s2polygon.specs.declared.frames.FramedEdge.{FramedEdge}
use Rattle.s2polygon.specs.declared.places.Square.{Square}

-- ---- directions in the frames of the faces
pub abs_minus : (z : ℤ) → unsigned_abs (neg_ℤ z) ≡ unsigned_abs z
abs_minus (pos zero) = refl
abs_minus (pos (suc n)) = refl
abs_minus (negsuc n) = refl

short_minus : (z : ℤ) → unsigned_abs z < 2 ^ 31 → unsigned_abs (neg_ℤ z) < 2 ^ 31
short_minus z h = rw (abs_minus z) h

none_minus : (z : ℤ) → neg_ℤ z ≡ pos 0 → z ≡ pos 0
none_minus z e = omega (arith, ints)

pub proper : (f : ℕ) (p : Point) → IsDirection p → IsProper (in_frame f p)
proper zero p d = record { w = d.x; u = d.y; v = d.z; some = λ e f g. d.some (record { x = e; y = f; z = g }) }
proper (suc zero) p d = record {
  w = d.y;
  u = short_minus p.x d.x;
  v = d.z;
  some = λ e f g. d.some (record { x = none_minus p.x f; y = e; z = g });
}
proper (suc (suc zero)) p d = record {
  w = d.z;
  u = short_minus p.x d.x;
  v = short_minus p.y d.y;
  some = λ e f g. d.some (record { x = none_minus p.x f; y = none_minus p.y g; z = e });
}
proper (suc (suc (suc zero))) p d = record {
  w = short_minus p.x d.x;
  u = short_minus p.z d.z;
  v = short_minus p.y d.y;
  some = λ e f g. d.some (record { x = none_minus p.x e; y = none_minus p.y g; z = none_minus p.z f });
}
proper (suc (suc (suc (suc zero)))) p d = record {
  w = short_minus p.y d.y;
  u = short_minus p.z d.z;
  v = d.x;
  some = λ e f g. d.some (record { x = g; y = none_minus p.y e; z = none_minus p.z f });
}
proper (suc (suc (suc (suc (suc n))))) p d = record {
  w = short_minus p.z d.z;
  u = d.y;
  v = d.x;
  some = λ e f g. d.some (record { x = g; y = f; z = none_minus p.z e });
}

-- ---- over the side that two faces share
-- from an even face to the next
abbrev pub right : Framed → Framed
right c = record { w = c.u; u = pos 0 -ℤ c.w; v = c.v }

-- from an odd one
abbrev pub up : Framed → Framed
up c = record { w = c.v; u = c.u; v = pos 0 -ℤ c.w }

pub minus_is : (z : ℤ) → neg_ℤ z ≡ pos 0 -ℤ z
minus_is z = omega (arith, ints)

pub minus_minus : (z : ℤ) → neg_ℤ (neg_ℤ z) ≡ z
minus_minus z = omega (arith, ints)

pub minus_twice : (z : ℤ) → z ≡ pos 0 -ℤ neg_ℤ z
minus_twice z = omega (arith, ints)

at_even : (p : Point) (w u v s t : ℤ) → s ≡ t → ◌≡◌ {A = Framed} (record { w = w; u = s; v = v })
    (record { w = w; u = t; v = v })
at_even p w u v s t e = rw e refl

at_odd : (p : Point) (w u v s t : ℤ) → s ≡ t → ◌≡◌ {A = Framed} (record { w = w; u = u; v = s })
    (record { w = w; u = u; v = t })
at_odd p w u v s t e = rw e refl

pub from_0 : (p : Point) → in_frame 1 p ≡ right (in_frame 0 p)
from_0 p = at_even p p.y p.x p.z (neg_ℤ p.x) (pos 0 -ℤ p.x) (minus_is p.x)

pub from_1 : (p : Point) → in_frame 2 p ≡ up (in_frame 1 p)
from_1 p = at_odd p p.z (neg_ℤ p.x) p.y (neg_ℤ p.y) (pos 0 -ℤ p.y) (minus_is p.y)

pub from_2 : (p : Point) → in_frame 3 p ≡ right (in_frame 2 p)
from_2 p = at_even p (neg_ℤ p.x) p.z (neg_ℤ p.y) (neg_ℤ p.z) (pos 0 -ℤ p.z) (minus_is p.z)

pub from_3 : (p : Point) → in_frame 4 p ≡ up (in_frame 3 p)
from_3 p = at_odd p (neg_ℤ p.y) (neg_ℤ p.z) p.x p.x (pos 0 -ℤ neg_ℤ p.x) (minus_twice p.x)

pub from_4 : (p : Point) → in_frame 5 p ≡ right (in_frame 4 p)
from_4 p = at_even p (neg_ℤ p.z) p.y p.x p.y (pos 0 -ℤ neg_ℤ p.y) (minus_twice p.y)

pub from_5 : (p : Point) → in_frame 0 p ≡ up (in_frame 5 p)
from_5 p = at_odd p p.x p.y p.x p.z (pos 0 -ℤ neg_ℤ p.z) (minus_twice p.z)

module _ (k : ℕ) (t aw au av bw bu bv : ℤ) where
  abbrev kk : Expr
  kk = at (pos k)

  abbrev nw : Expr
  nw = at au ⊗ at bv ⊖ at av ⊗ at bu

  abbrev nu : Expr
  nu = at av ⊗ at bw ⊖ at aw ⊗ at bv

  abbrev nv : Expr
  nv = at aw ⊗ at bu ⊖ at au ⊗ at bw

  -- at the last place of a row, and of a column
  abbrev last_of_row : Expr
  last_of_row = kk ⊗ nw ⊕ kk ⊗ nu ⊕ at t ⊗ nv

  abbrev last_of_column : Expr
  last_of_column = kk ⊗ nw ⊕ at t ⊗ nu ⊕ kk ⊗ nv

  -- the change along the row or the column of the next face
  abbrev next : Expr
  next = at av ⊗ at bu ⊖ at au ⊗ at bv

  plus_none : (x y : ℤ) → y ≡ pos 0 → x +ℤ y ≡ x
  plus_none x y e = omega (arith, ints)

  minus_none : (x y : ℤ) → y ≡ pos 0 → x -ℤ y ≡ x
  minus_none x y e = omega (arith, ints)

  scaled_none : (w y : ℤ) → y ≡ pos 0 → w *ℤ y ≡ pos 0
  scaled_none w y e = ap (λ (z : ℤ). w *ℤ z) e ∙ equal (at w ⊗ at (pos 0)) (at (pos 0)) (omega arith)

  row_start : value last_of_row ≡ pos 0
      → value (nu ⊗ (kk ⊗ at av ⊖ at t ⊗ at au)) ≡ value (next ⊗ (kk ⊗ at av ⊖ at t ⊗ at aw))
  row_start e =
      equal (nu ⊗ (kk ⊗ at av ⊖ at t ⊗ at au)) (next ⊗ (kk ⊗ at av ⊖ at t ⊗ at aw) ⊕ at av ⊗ last_of_row) (omega arith)
      ∙ plus_none (value (next ⊗ (kk ⊗ at av ⊖ at t ⊗ at aw))) (value (at av ⊗ last_of_row))
      (scaled_none av (value last_of_row) e)

  row_end : value last_of_row ≡ pos 0
      → value (nu ⊗ (kk ⊗ at bv ⊖ at t ⊗ at bu)) ≡ value (next ⊗ (kk ⊗ at bv ⊖ at t ⊗ at bw))
  row_end e =
      equal (nu ⊗ (kk ⊗ at bv ⊖ at t ⊗ at bu)) (next ⊗ (kk ⊗ at bv ⊖ at t ⊗ at bw) ⊕ at bv ⊗ last_of_row) (omega arith)
      ∙ plus_none (value (next ⊗ (kk ⊗ at bv ⊖ at t ⊗ at bw))) (value (at bv ⊗ last_of_row))
      (scaled_none bv (value last_of_row) e)

  column_start : value last_of_column ≡ pos 0
      → value (nv ⊗ (at t ⊗ at av ⊖ kk ⊗ at au)) ≡ value (next ⊗ (at t ⊗ at aw ⊖ kk ⊗ at au))
  column_start e =
      equal (nv ⊗ (at t ⊗ at av ⊖ kk ⊗ at au)) (next ⊗ (at t ⊗ at aw ⊖ kk ⊗ at au) ⊖ at au ⊗ last_of_column)
      (omega arith)
      ∙ minus_none (value (next ⊗ (at t ⊗ at aw ⊖ kk ⊗ at au))) (value (at au ⊗ last_of_column))
      (scaled_none au (value last_of_column) e)

  column_end : value last_of_column ≡ pos 0
      → value (nv ⊗ (at t ⊗ at bv ⊖ kk ⊗ at bu)) ≡ value (next ⊗ (at t ⊗ at bw ⊖ kk ⊗ at bu))
  column_end e =
      equal (nv ⊗ (at t ⊗ at bv ⊖ kk ⊗ at bu)) (next ⊗ (at t ⊗ at bw ⊖ kk ⊗ at bu) ⊖ at bu ⊗ last_of_column)
      (omega arith)
      ∙ minus_none (value (next ⊗ (at t ⊗ at bw ⊖ kk ⊗ at bu))) (value (at bu ⊗ last_of_column))
      (scaled_none bu (value last_of_column) e)

  -- the side of the edge at the first place of the row or column of the next face
  row_side : value (kk ⊗ ((at (pos 0) ⊖ at aw) ⊗ at bv ⊖ at av ⊗ (at (pos 0) ⊖ at bw)) ⊕ (at (pos 0) ⊖ kk) ⊗ next ⊕
      at t ⊗ (at au ⊗ (at (pos 0) ⊖ at bw) ⊖ (at (pos 0) ⊖ at aw) ⊗ at bu)) ≡ value last_of_row
  row_side = equal (kk ⊗ ((at (pos 0) ⊖ at aw) ⊗ at bv ⊖ at av ⊗ (at (pos 0) ⊖ at bw)) ⊕ (at (pos 0) ⊖ kk) ⊗ next ⊕
      at t ⊗ (at au ⊗ (at (pos 0) ⊖ at bw) ⊖ (at (pos 0) ⊖ at aw) ⊗ at bu)) last_of_row (omega arith)

  column_side : value (kk ⊗ (at au ⊗ (at (pos 0) ⊖ at bw) ⊖ (at (pos 0) ⊖ at aw) ⊗ at bu) ⊕ at t ⊗
      ((at (pos 0) ⊖ at aw) ⊗ at bv ⊖ at av ⊗ (at (pos 0) ⊖ at bw)) ⊕ (at (pos 0) ⊖ kk) ⊗ next) ≡ value last_of_column
  column_side = equal (kk ⊗ (at au ⊗ (at (pos 0) ⊖ at bw) ⊖ (at (pos 0) ⊖ at aw) ⊗ at bu) ⊕ at t ⊗
      ((at (pos 0) ⊖ at aw) ⊗ at bv ⊖ at av ⊗ (at (pos 0) ⊖ at bw)) ⊕ (at (pos 0) ⊖ kk) ⊗ next) last_of_column
      (omega arith)

row_lines : (n : ℕ) (a b : Framed) → IsProper a → IsProper b
    → AreTwoLines (above (along (2 * n + 1)) a) (above (along (2 * n + 1)) b) (normal_u_of a b)
    (above (along (2 * n + 1)) (right a)) (above (along (2 * n + 1)) (right b)) (normal_u_of (right a) (right b))
    (side (pos (3 * 2 ^ 60)) (along (2 * n + 1)) a b)
row_lines n a b ha hb = record {
  start = row_start (3 * 2 ^ 60) (along (2 * n + 1)) a.w a.u a.v b.w b.u b.v;
  end = row_end (3 * 2 ^ 60) (along (2 * n + 1)) a.w a.u a.v b.w b.u b.v;
  one = λ e f. none_at_starts a.v b.v b.u a.u (beyond_middle n a.v a.w ha.w e).across
      (beyond_middle n b.v b.w hb.w f).across;
  other = λ e f. none_at_starts a.v b.v b.w a.w (beyond_middle n a.v a.u ha.u e).across
      (beyond_middle n b.v b.u hb.u f).across;
  first = λ e f. ha.some (beyond_middle n a.v a.w ha.w e).before (beyond_middle n a.v a.u ha.u f).before
      (beyond_middle n a.v a.w ha.w e).across;
  last = λ e f. hb.some (beyond_middle n b.v b.w hb.w e).before (beyond_middle n b.v b.u hb.u f).before
      (beyond_middle n b.v b.w hb.w e).across;
}

column_lines : (m : ℕ) (a b : Framed) → IsProper a → IsProper b
    → AreTwoLines (left_of (along (2 * m + 1)) a) (left_of (along (2 * m + 1)) b) (normal_v_of a b)
    (left_of (along (2 * m + 1)) (up a)) (left_of (along (2 * m + 1)) (up b)) (normal_v_of (up a) (up b))
    (side (along (2 * m + 1)) (pos (3 * 2 ^ 60)) a b)
column_lines m a b ha hb = record {
  start = column_start (3 * 2 ^ 60) (along (2 * m + 1)) a.w a.u a.v b.w b.u b.v;
  end = column_end (3 * 2 ^ 60) (along (2 * m + 1)) a.w a.u a.v b.w b.u b.v;
  one = λ e f. none_at_ends b.u a.u a.v b.v (short_of_middle m b.u b.w hb.w f).across
      (short_of_middle m a.u a.w ha.w e).across;
  other = λ e f. none_at_ends b.u a.u a.w b.w (short_of_middle m b.u b.v hb.v f).across
      (short_of_middle m a.u a.v ha.v e).across;
  first = λ e f. ha.some (short_of_middle m a.u a.w ha.w e).before (short_of_middle m a.u a.w ha.w e).across
      (short_of_middle m a.u a.v ha.v f).before;
  last = λ e f. hb.some (short_of_middle m b.u b.w hb.w e).before (short_of_middle m b.u b.w hb.w e).across
      (short_of_middle m b.u b.v hb.v f).before;
}

-- the middle of a face lies on the middle of its row and of its column
abbrev center : ℕ
center = middle_of 30 0

over_row : (a b : Framed) → IsProper a → IsProper b
    → turns_row (2 ^ 31) center a b ≡ turns_row 0 center (right a) (right b)
over_row a b ha hb =
    changes_alike (above (along center) a) (above (along center) b) (normal_u_of a b)
    (above (along center) (right a)) (above (along center) (right b)) (normal_u_of (right a) (right b))
    (side (pos (3 * 2 ^ 60)) (along center) a b) (row_lines (2 ^ 29) a b ha hb)
    ∙ ap (changes (above (along center) (right a)) (above (along center) (right b)) (normal_u_of (right a) (right b)))
    (sym (row_side (3 * 2 ^ 60) (along center) a.w a.u a.v b.w b.u b.v))

over_column : (a b : Framed) → IsProper a → IsProper b
    → turns_column center (2 ^ 31) a b ≡ turns_column center 0 (up a) (up b)
over_column a b ha hb =
    changes_alike (left_of (along center) a) (left_of (along center) b) (normal_v_of a b)
    (left_of (along center) (up a)) (left_of (along center) (up b)) (normal_v_of (up a) (up b))
    (side (along center) (pos (3 * 2 ^ 60)) a b) (column_lines (2 ^ 29) a b ha hb)
    ∙ ap (changes (left_of (along center) (up a)) (left_of (along center) (up b)) (normal_v_of (up a) (up b)))
    (sym (column_side (3 * 2 ^ 60) (along center) a.w a.u a.v b.w b.u b.v))

-- just one of the edge and the same edge, turned round, comes over the row beyond the place (s, t) of face `f`
abbrev turns_at : ℕ → ℕ → ℕ → Edge → Bool
turns_at f s t e = turns_row s t (in_frame f e.a) (in_frame f e.b)

at_center : (f : ℕ) (e : Edge) → HasDirections e → turns_at f center center e
    ≡ turns_column center center (in_frame f e.a) (in_frame f e.b)
at_center f e h = at_middle (2 ^ 29) (2 ^ 29) (in_frame f e.a) (in_frame f e.b) (proper f e.a h.a) (proper f e.b h.b)

pub drop : (a c d : Bool) → xor (xor a c) (xor c d) ≡ xor a d
unfolding xor
drop true true true = refl
drop true true false = refl
drop true false true = refl
drop true false false = refl
drop false true true = refl
drop false true false = refl
drop false false true = refl
drop false false false = refl

pub join : (a b c d : Bool) → b ≡ c → xor (xor a b) (xor c d) ≡ xor a d
join a b c d e = rw e (drop a c d)

-- a row over the border, and a column
module _ (f : ℕ) (e : Edge) (h : HasDirections e) where
  over_border_row : turns_row (2 ^ 31) center (in_frame f e.a) (in_frame f e.b)
      ≡ turns_row 0 center (in_frame (suc f) e.a) (in_frame (suc f) e.b)
      → xor (xor (crosses (row center center (2 ^ 31)) (framed f e)) (crosses (row center 0 center) (framed (suc f) e)))
      (xor (crosses (row center center (2 ^ 31)) (framed f (turned e)))
      (crosses (row center 0 center) (framed (suc f) (turned e))))
      ≡ xor (turns_at f center center e) (turns_at (suc f) center center e)
  over_border_row over =
      xor_pairs (crosses (row center center (2 ^ 31)) (framed f e)) (crosses (row center 0 center) (framed (suc f) e))
      (crosses (row center center (2 ^ 31)) (framed f (turned e)))
      (crosses (row center 0 center) (framed (suc f) (turned e)))
      ∙ ap₂ xor (row_turned (framed f e) (framed f (turned e)) refl refl center center (2 ^ 31))
      (row_turned (framed (suc f) e) (framed (suc f) (turned e)) refl refl center 0 center)
      ∙ join (turns_at f center center e) (turns_at f (2 ^ 31) center e) (turns_at (suc f) 0 center e)
      (turns_at (suc f) center center e) over

  over_border_column : turns_column center (2 ^ 31) (in_frame f e.a) (in_frame f e.b)
      ≡ turns_column center 0 (in_frame (suc f) e.a) (in_frame (suc f) e.b)
      → xor (xor (crosses (column center center (2 ^ 31)) (framed f e))
      (crosses (column center 0 center) (framed (suc f) e)))
      (xor (crosses (column center center (2 ^ 31)) (framed f (turned e)))
      (crosses (column center 0 center) (framed (suc f) (turned e))))
      ≡ xor (turns_at f center center e) (turns_at (suc f) center center e)
  over_border_column over =
      xor_pairs (crosses (column center center (2 ^ 31)) (framed f e))
      (crosses (column center 0 center) (framed (suc f) e))
      (crosses (column center center (2 ^ 31)) (framed f (turned e)))
      (crosses (column center 0 center) (framed (suc f) (turned e)))
      ∙ ap₂ xor (column_turned (framed f e) (framed f (turned e)) refl refl center center (2 ^ 31))
      (column_turned (framed (suc f) e) (framed (suc f) (turned e)) refl refl center 0 center)
      ∙ join (turns_column center center (in_frame f e.a) (in_frame f e.b))
      (turns_column center (2 ^ 31) (in_frame f e.a) (in_frame f e.b))
      (turns_column center 0 (in_frame (suc f) e.a) (in_frame (suc f) e.b))
      (turns_column center center (in_frame (suc f) e.a) (in_frame (suc f) e.b)) over
      ∙ sym (ap₂ xor (at_center f e h) (at_center (suc f) e h))

  row_to : ((p : Point) → in_frame (suc f) p ≡ right (in_frame f p))
      → turns_row (2 ^ 31) center (in_frame f e.a) (in_frame f e.b)
      ≡ turns_row 0 center (in_frame (suc f) e.a) (in_frame (suc f) e.b)
  row_to next =
      over_row (in_frame f e.a) (in_frame f e.b) (proper f e.a h.a) (proper f e.b h.b)
      ∙ sym (ap₂ (turns_row 0 center) (next e.a) (next e.b))

  column_to : ((p : Point) → in_frame (suc f) p ≡ up (in_frame f p))
      → turns_column center (2 ^ 31) (in_frame f e.a) (in_frame f e.b)
      ≡ turns_column center 0 (in_frame (suc f) e.a) (in_frame (suc f) e.b)
  column_to next =
      over_column (in_frame f e.a) (in_frame f e.b) (proper f e.a h.a) (proper f e.b h.b)
      ∙ sym (ap₂ (turns_column center 0) (next e.a) (next e.b))

border_turned : (f : ℕ) (e : Edge) → f < 5 → HasDirections e → xor (crosses_border f e) (crosses_border f (turned e))
    ≡ xor (turns_at f center center e) (turns_at (suc f) center center e)
border_turned zero e l h = over_border_row 0 e h (row_to 0 e h from_0)
border_turned (suc zero) e l h = over_border_column 1 e h (column_to 1 e h from_1)
border_turned (suc (suc zero)) e l h = over_border_row 2 e h (row_to 2 e h from_2)
border_turned (suc (suc (suc zero))) e l h = over_border_column 3 e h (column_to 3 e h from_3)
border_turned (suc (suc (suc (suc zero)))) e l h = over_border_row 4 e h (row_to 4 e h from_4)
border_turned (suc (suc (suc (suc (suc f))))) e l h = absurd (omega (arith, l))

-- ---- lists
pub odd_mapped : (f : ℕ) (p : Piece) (es : List Edge) → is_odd_over p (edges_on f es)
    ≡ is_odd_by (λ e. crosses p (framed f e)) es
odd_mapped f p [] = refl
odd_mapped f p (e ∷ es) = ap (xor (crosses p (framed f e))) (odd_mapped f p es)

-- where a test's answers for an edge and for the same edge, turned round, differ by two others
odd_turned : (test p q : Edge → Bool) → ((e : Edge) → HasDirections e → xor (test e) (test (turned e))
    ≡ xor (p e) (q e))
    → (es : List Edge) → All HasDirections es
    → xor (is_odd_by test es) (is_odd_by test (turned_round es)) ≡ xor (is_odd_by p es) (is_odd_by q es)
odd_turned test p q h [] a = refl
odd_turned test p q h (e ∷ es) a =
    xor_pairs (test e) (is_odd_by test es) (test (turned e)) (is_odd_by test (turned_round es))
    ∙ ap₂ xor (h e (All-head HasDirections e es a)) (odd_turned test p q h es (All-tail HasDirections e es a))
    ∙ xor_pairs (p e) (q e) (is_odd_by p es) (is_odd_by q es)

alone : (a b : Bool) → xor (xor a a) b ≡ b
alone a b = ap (λ (t : Bool). xor t b) (xor_self a) ∙ xor_false b

pub both_ends : (a b c d : Bool) → xor (xor a (xor b false)) (xor c (xor d false)) ≡ xor (xor a c) (xor b d)
both_ends a b c d = ap₂ (λ (s t : Bool). xor (xor a s) (xor c t)) (xor_none b) (xor_none d) ∙ xor_pairs a b c d

pub further : (s c m n : Bool) → xor (xor s (xor c m)) (xor m n) ≡ xor s (xor c n)
further s c m n = sym (xor_moves s (xor c m) (xor m n)) ∙ ap (xor s) (drop c m n)

-- the coordinates of a leaf are less than 2 ^ 30
pub below_side : (x : ℕ) → (i_of x < 2 ^ 30) × (j_of x < 2 ^ 30)
unfolding At
below_side x = let a = (place_is x).at in (a.1, a.2)

module _ (others ring : List Edge) (h : All HasDirections ring) where
  abbrev as_given : List Edge
  as_given = others ++ ring

  abbrev other_way : List Edge
  other_way = others ++ turned_round ring

  abbrev moved : ℕ → ℕ → ℕ → Bool
  moved f s t = is_odd_by (turns_at f s t) ring

  both_by : (test p q : Edge → Bool) → ((e : Edge) → HasDirections e → xor (test e) (test (turned e)) ≡ xor (p e) (q e))
      → xor (is_odd_by test as_given) (is_odd_by test other_way) ≡ xor (is_odd_by p ring) (is_odd_by q ring)
  both_by test p q each =
      ap₂ xor (odd_both test others ring) (odd_both test others (turned_round ring))
      ∙ xor_pairs (is_odd_by test others) (is_odd_by test ring) (is_odd_by test others)
      (is_odd_by test (turned_round ring))
      ∙ alone (is_odd_by test others) (xor (is_odd_by test ring) (is_odd_by test (turned_round ring)))
      ∙ odd_turned test p q each ring h

  row_moved : (f t s u : ℕ) → xor (is_odd_over (row t s u) (edges_on f as_given))
      (is_odd_over (row t s u) (edges_on f other_way))
      ≡ xor (moved f s t) (moved f u t)
  row_moved f t s u =
      ap₂ xor (odd_mapped f (row t s u) as_given) (odd_mapped f (row t s u) other_way)
      ∙ both_by (λ e. crosses (row t s u) (framed f e)) (turns_at f s t) (turns_at f u t)
      (λ e d. row_turned (framed f e) (framed f (turned e)) refl refl t s u)

  column_moved : (f a b c : ℕ) → xor (is_odd_over (column (2 * a + 1) (2 * b + 1) (2 * c + 1)) (edges_on f as_given))
      (is_odd_over (column (2 * a + 1) (2 * b + 1) (2 * c + 1)) (edges_on f other_way))
      ≡ xor (moved f (2 * a + 1) (2 * b + 1)) (moved f (2 * a + 1) (2 * c + 1))
  column_moved f a b c =
      let p = column (2 * a + 1) (2 * b + 1) (2 * c + 1) in
      ap₂ xor (odd_mapped f p as_given) (odd_mapped f p other_way)
      ∙ both_by (λ e. crosses p (framed f e)) (turns_at f (2 * a + 1) (2 * b + 1)) (turns_at f (2 * a + 1) (2 * c + 1))
      (λ e d. column_turned (framed f e) (framed f (turned e)) refl refl (2 * a + 1) (2 * b + 1) (2 * c + 1)
      ∙ sym (ap₂ xor (at_middle a b (in_frame f e.a) (in_frame f e.b) (proper f e.a d.a) (proper f e.b d.b))
      (at_middle a c (in_frame f e.a) (in_frame f e.b) (proper f e.a d.a) (proper f e.b d.b))))

  step_moved : (f k i j : ℕ) → xor (is_odd_along (step_to k i j) (edges_on f as_given))
      (is_odd_along (step_to k i j) (edges_on f other_way))
      ≡ xor (moved f (middle_of (suc k) (i / 2)) (middle_of (suc k) (j / 2))) (moved f (middle_of k i) (middle_of k j))
  step_moved f k i j =
      let p = row (middle_of (suc k) (j / 2)) (middle_of (suc k) (i / 2)) (middle_of k i) in
      let q = column (middle_of k i) (middle_of (suc k) (j / 2)) (middle_of k j) in
      both_ends (is_odd_over p (edges_on f as_given)) (is_odd_over q (edges_on f as_given))
      (is_odd_over p (edges_on f other_way)) (is_odd_over q (edges_on f other_way))
      ∙ ap₂ xor (row_moved f (middle_of (suc k) (j / 2)) (middle_of (suc k) (i / 2)) (middle_of k i))
      (column_moved f (i * 2 ^ k + 2 ^ k / 2) (j / 2 * 2 ^ suc k + 2 ^ suc k / 2) (j * 2 ^ k + 2 ^ k / 2))
      ∙ drop (moved f (middle_of (suc k) (i / 2)) (middle_of (suc k) (j / 2)))
      (moved f (middle_of k i) (middle_of (suc k) (j / 2))) (moved f (middle_of k i) (middle_of k j))

  below_moved : (f : ℕ) (s t : Bool) (n k i j : ℕ) → n + k ≡ 30 → i < 2 ^ n → j < 2 ^ n
      → xor (odd_of s (edges_on f as_given) n k i j) (odd_of t (edges_on f other_way) n k i j)
      ≡ xor (xor s t) (xor (moved f center center) (moved f (middle_of k i) (middle_of k j)))
  below_moved f s t zero k i j e hi hj =
      let p : k ≡ 30 = omega arith in
      let q : i ≡ 0 = omega arith in
      let r : j ≡ 0 = omega arith in
      rw (p, q, r) (sym (ap (xor (xor s t)) (xor_self (moved f center center)) ∙ xor_none (xor s t)))
  below_moved f s t (suc n) k i j e hi hj =
      let two = pow-suc 2 n in
      xor_pairs (odd_of s (edges_on f as_given) n (suc k) (i / 2) (j / 2))
      (is_odd_along (step_to k i j) (edges_on f as_given))
      (odd_of t (edges_on f other_way) n (suc k) (i / 2) (j / 2)) (is_odd_along (step_to k i j) (edges_on f other_way))
      ∙ ap₂ xor (below_moved f s t n (suc k) (i / 2) (j / 2) (omega arith) (omega (arith, two)) (omega (arith, two)))
      (step_moved f k i j)
      ∙ further (xor s t) (moved f center center) (moved f (middle_of (suc k) (i / 2)) (middle_of (suc k) (j / 2)))
      (moved f (middle_of k i) (middle_of k j))

  top_moved : (f : ℕ) → f < 6 → xor (top_of as_given f) (top_of other_way f)
      ≡ xor (moved 0 center center) (moved f center center)
  unfolding top_of xor
  top_moved zero l = sym (xor_self (moved 0 center center))
  top_moved (suc f) l =
      xor_pairs (top_of as_given f) (is_odd_by (crosses_border f) as_given) (top_of other_way f)
      (is_odd_by (crosses_border f) other_way)
      ∙ ap₂ xor (top_moved f (omega arith)) (both_by (crosses_border f) (turns_at f center center)
      (turns_at (suc f) center center) (λ e d. border_turned f e (omega (arith, l)) d))
      ∙ drop (moved 0 center center) (moved f center center) (moved (suc f) center center)

  leaf_moved : (x : ℕ) → x / 4 ^ 30 < 6 → xor (odd_at as_given x) (odd_at other_way x)
      ≡ xor (moved 0 center center) (moved (x / 4 ^ 30) (middle_of 0 (i_of x)) (middle_of 0 (j_of x)))
  unfolding odd_at
  leaf_moved x l =
      let f = x / 4 ^ 30 in
      let place = below_side x in
      below_moved f (top_of as_given f) (top_of other_way f) 30 0 (i_of x) (j_of x) refl place.0 place.1
      ∙ ap (λ (t : Bool). xor t (xor (moved f center center) (moved f (middle_of 0 (i_of x)) (middle_of 0 (j_of x)))))
      (top_moved f l)
      ∙ drop (moved 0 center center) (moved f center center) (moved f (middle_of 0 (i_of x)) (middle_of 0 (j_of x)))

-- ---- where no edge touches the leaf
-- an edge between the same ends meets the same squares
sum_back : (x y p q : ℤ) → y *ℤ p +ℤ x *ℤ q ≡ x *ℤ q +ℤ y *ℤ p
sum_back x y p q = equal (at y ⊗ at p ⊕ at x ⊗ at q) (at x ⊗ at q ⊕ at y ⊗ at p) (omega arith)

sum_other : (x y : ℤ) → x +ℤ y ≡ y +ℤ x
sum_other x y = equal (at x ⊕ at y) (at y ⊕ at x) (omega arith)

mix_back : (x y : ℤ) (a b : Framed) → mix y x a b ≡ mix x y b a
mix_back x y a b = rw (sum_back x y a.w b.w, sum_back x y a.u b.u, sum_back x y a.v b.v) refl

meets_back : (a b : Framed) (q : Square) → MeetsSquare b a q → MeetsSquare a b q
meets_back a b q m = record {
  x = m.y;
  y = m.x;
  x_at_least = m.y_at_least;
  y_at_least = m.x_at_least;
  not_both = rw (sum_other m.y m.x) m.not_both;
  inside = rw (mix_back m.x m.y a b) m.inside;
}

-- a place from which the edge is crossed in one of its directions lies on the edge, and only one place of a row does
one_place : (n p q : ℤ) → Follows n p q → (n <ℤ pos 0) ⊎ (pos 0 <ℤ n) → p ≡ pos 0 → q ≡ pos 0 → ⊥
one_place n p q h (inl l) e f = let k = h.falls l in omega (arith, ints)
one_place n p q h (inr l) e f = let k = h.rises l in omega (arith, ints)

has_turn : (a b n p : ℤ) → IsOn a b n p → (n <ℤ pos 0) ⊎ (pos 0 <ℤ n)
has_turn a b n p h = by h.ends
  where
    by : ((a <ℤ pos 0) × (pos 0 ≤ℤ b) × (n <ℤ pos 0)) ⊎ ((pos 0 ≤ℤ a) × (b <ℤ pos 0) × (pos 0 <ℤ n))
        → (n <ℤ pos 0) ⊎ (pos 0 <ℤ n)
    by (inl c) = inl c.2
    by (inr c) = inr c.2

pub same_of : (a b : Bool) → xor a b ≡ false → a ≡ b
unfolding xor
same_of true true e = refl
same_of true false e = absurd (true≢false e)
same_of false true e = absurd (true≢false e)
same_of false false e = refl

missed_stays : (i j : ℕ) (e : FramedEdge) → Misses e (square_of 0 i j)
    → turns_row (middle_of 0 i) (middle_of 0 j) e.a e.b ≡ false
missed_stays i j e m = by (turns_row s t e.a e.b) refl
  where
    s : ℕ
    s = middle_of 0 i

    t : ℕ
    t = middle_of 0 j

    u : ℕ
    u = 2 * (i * 2 ^ 0 + 2 ^ 0)

    held : HoldsPiece (square_of 0 i j) (row t s u)
    held = row_held (i * 2 ^ 0) (j * 2 ^ 0) (2 ^ 0) t s u
        (record { from = omega arith; to = omega arith }) (record { from = omega arith; to = omega arith })
        (record { from = omega arith; to = omega arith })

    back : FramedEdge
    back = record { a = e.b; b = e.a; n = normal_of e.b e.a }

    alike : turns_row s t e.a e.b ≡ turns_row u t e.a e.b
    alike = same_of (turns_row s t e.a e.b) (turns_row u t e.a e.b)
        (sym (row_turned e back refl refl t s u)
        ∙ ap₂ xor (not_crossed (row t s u) (square_of 0 i j) e held m)
        (not_crossed (row t s u) (square_of 0 i j) back held (λ k. m (meets_back e.a e.b (square_of 0 i j) k)))
        ∙ xor_self false)

    by : (c : Bool) → turns_row s t e.a e.b ≡ c → turns_row s t e.a e.b ≡ false
    by false p = p
    by true p =
        let one = (changes_decides (above (along t) e.a) (above (along t) e.b) (normal_u_of e.a e.b)
        (side (along s) (along t) e.a e.b)).0 p in
        let two = (changes_decides (above (along t) e.a) (above (along t) e.b) (normal_u_of e.a e.b)
        (side (along u) (along t) e.a e.b)).0 (sym alike ∙ p) in
        absurd (one_place (normal_u_of e.a e.b) (side (along s) (along t) e.a e.b) (side (along u) (along t) e.a e.b)
        (row_follows (3 * 2 ^ 60) (along s) (along u) (along t) (along t) (normal_w_of e.a e.b) (normal_u_of e.a e.b)
        (normal_v_of e.a e.b) (along_rises s u (omega arith)))
        (has_turn (above (along t) e.a) (above (along t) e.b) (normal_u_of e.a e.b) (side (along s) (along t) e.a e.b)
        one)
        one.none two.none)

pub or_false : (a b : Bool) → a || b ≡ false → (a ≡ false) × (b ≡ false)
or_false true b e = absurd (true≢false e)
or_false false b e = (refl, e)

any_after : (test : FramedEdge → Bool) (f : ℕ) (others es fs : List Edge)
    → list_any test (edges_on f es) ≡ list_any test (edges_on f fs)
    → list_any test (edges_on f (others ++ es)) ≡ list_any test (edges_on f (others ++ fs))
any_after test f [] es fs e = e
any_after test f (o ∷ others) es fs e = ap (λ (t : Bool). test (framed f o) || t) (any_after test f others es fs e)

none_after : (test : FramedEdge → Bool) (f : ℕ) (others es : List Edge)
    → list_any test (edges_on f (others ++ es)) ≡ false → list_any test (edges_on f es) ≡ false
none_after test f [] es e = e
none_after test f (o ∷ others) es e =
    none_after test f others es (or_false (test (framed f o)) (list_any test (edges_on f (others ++ es))) e).1

module _ (margin f i j : ℕ) where
  abbrev near : FramedEdge → Bool
  near = meets_square (widened margin (square_of 0 i j))

  near_back : (e : Edge) → near (framed f (turned e)) ≡ near (framed f e)
  near_back e =
      let q = widened margin (square_of 0 i j) in
      same_from_decides (near (framed f (turned e))) (near (framed f e))
      (near_decides margin 0 i j (framed f (turned e)))
      (Decides-like (near (framed f e)) (meets_back (in_frame f e.b) (in_frame f e.a) q)
      (meets_back (in_frame f e.a) (in_frame f e.b) q) (near_decides margin 0 i j (framed f e)))

  any_back : (es : List Edge) → list_any near (edges_on f (turned_round es)) ≡ list_any near (edges_on f es)
  any_back [] = refl
  any_back (e ∷ es) = ap₂ (λ (s t : Bool). s || t) (near_back e) (any_back es)

  none_moved : (es : List Edge) → list_any near (edges_on f es) ≡ false
      → is_odd_by (turns_at f (middle_of 0 i) (middle_of 0 j)) es ≡ false
  none_moved [] e = refl
  none_moved (e ∷ es) away =
      let parts = or_false (near (framed f e)) (list_any near (edges_on f es)) away in
      ap₂ xor (missed_stays i j (framed f e) (leaves_out_near margin 0 i j (framed f e) parts.0))
      (none_moved es parts.1)
      ∙ xor_self false

-- ---- what the direction changes
abbrev with : Region → List Edge → Region
with r es = record r { edges = r.edges ++ es }

pub touched_turned : (r : Region) (ring : List Edge) (x : ℕ)
    → is_touched (with r (turned_round ring)) x ≡ is_touched (with r ring) x
unfolding is_touched
touched_turned r ring x =
    any_after (meets_square (widened r.margin (square_of 0 (i_of x) (j_of x)))) (x / 4 ^ 30) r.edges
    (turned_round ring) ring
    (any_back r.margin (x / 4 ^ 30) (i_of x) (j_of x) ring)

module _ (r : Region) (ring : List Edge) (h : All HasDirections ring) where
  leaf_stays : (x : ℕ) → x < LEAVES → is_touched (with r ring) x ≡ false
      → xor (odd_at (r.edges ++ ring) x) (odd_at (r.edges ++ turned_round ring) x)
      ≡ is_odd_by (turns_at 0 center center) ring
  unfolding is_touched
  leaf_stays x l away =
      let f = x / 4 ^ 30 in
      leaf_moved r.edges ring h x (omega (arith, l))
      ∙ ap (xor (is_odd_by (turns_at 0 center center) ring)) (none_moved r.margin f (i_of x) (j_of x) ring
      (none_after (meets_square (widened r.margin (square_of 0 (i_of x) (j_of x)))) f r.edges ring away))
      ∙ xor_none (is_odd_by (turns_at 0 center center) ring)

  inside_turned : (x : ℕ) → x < LEAVES → r.outside < LEAVES → is_touched (with r ring) r.outside ≡ false
      → is_touched (with r ring) x ≡ false → inside (with r (turned_round ring)) x ≡ inside (with r ring) x
  inside_turned x l o away apart =
      same_of (inside (with r (turned_round ring)) x) (inside (with r ring) x)
      (xor_same (inside (with r (turned_round ring)) x) (inside (with r ring) x)
      ∙ xor_pairs (odd_at (r.edges ++ ring) x) (odd_at (r.edges ++ ring) r.outside)
      (odd_at (r.edges ++ turned_round ring) x) (odd_at (r.edges ++ turned_round ring) r.outside)
      ∙ ap₂ xor (leaf_stays x l apart) (leaf_stays r.outside o away)
      ∙ xor_self (is_odd_by (turns_at 0 center center) ring))

  pub outer_turned : (x : ℕ) → x < LEAVES → r.outside < LEAVES → is_touched (with r ring) r.outside ≡ false
      → outer_leaf (with r (turned_round ring)) x ≡ outer_leaf (with r ring) x
  outer_turned x l o away = by (is_touched (with r ring) x) refl
    where
      by : (t : Bool) → is_touched (with r ring) x ≡ t → outer_leaf (with r (turned_round ring)) x
          ≡ outer_leaf (with r ring) x
      by true e = rw (touched_turned r ring x, e) refl
      by false e = rw (touched_turned r ring x, e) (inside_turned x l o away e)

  pub inner_turned : (x : ℕ) → x < LEAVES → r.outside < LEAVES → is_touched (with r ring) r.outside ≡ false
      → inner_leaf (with r (turned_round ring)) x ≡ inner_leaf (with r ring) x
  inner_turned x l o away = by (is_touched (with r ring) x) refl
    where
      none : (a : Bool) → a && false ≡ false
      none true = refl
      none false = refl

      by : (t : Bool) → is_touched (with r ring) x ≡ t → inner_leaf (with r (turned_round ring)) x
          ≡ inner_leaf (with r ring) x
      by true e = rw (touched_turned r ring x, e) (none (inside (with r (turned_round ring)) x)
          ∙ sym (none (inside (with r ring) x)))
      by false e = rw (touched_turned r ring x, e) (ap (λ (a : Bool). a && true) (inside_turned x l o away e))
