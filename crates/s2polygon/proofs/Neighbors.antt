-- Two leaves that share a side, neither touched, lie on one side of closed rings.
use Rattle.std.proofs.Common.{◌≡◌, sym, ap, ◌∙◌, ℕ, ◌+◌, ◌*◌, ◌/◌, ◌^◌, ◌<◌, arith}
use Rattle.std.proofs.Common.{inl, inr, pos, ◌≤◌, Bool, false, List, All, length, subst}
use Rattle.std.proofs.Math.Bool.{xor}
use Rattle.s2cell.specs.Curve.{i_of, j_of}
use Rattle.s2cell.specs.declared.TheConstants.{LEAVES}
use Rattle.s2polygon.proofs.Along.{In}
use Rattle.s2polygon.proofs.Arcs.{IsSteady, all_steady, arcs, arcs_alike, column_over, leaf_over, row_over}
use Rattle.s2polygon.proofs.Beside.{IsClosed, all_missed}
use Rattle.s2polygon.proofs.Cells.{column_held, even_over, row_held}
use Rattle.s2polygon.proofs.Closed.{are_long, closed}
use Rattle.s2polygon.proofs.Faraway.{IsFar, at_frame, beside, far_enough, far_from}
use Rattle.s2polygon.proofs.Turned.{below_side, same_of}
use Rattle.s2polygon.specs.Cells.{square_of}
use Rattle.s2polygon.specs.Directions.{IsDirection, Point}
use Rattle.s2polygon.specs.Faces.{edges_on}
use Rattle.s2polygon.specs.Frames.{in_frame}
use Rattle.s2polygon.specs.Leaves.{Region, inside, is_touched, odd_at}
use Rattle.s2polygon.specs.Neighbors.{IsMiddleOfSide, ShareASide, place}
use Rattle.s2polygon.specs.Rings.{AreRings, rings_edges}
use Rattle.s2polygon.specs.Ways.{row, column, middle_of}
use Rattle.s2polygon.specs.Working.Holding.{Misses}
use Rattle.s2polygon.specs.declared.directions.Edge.{Edge}
use Rattle.s2polygon.specs.declared.frames.Framed.{Framed}

module _ (most : ℕ) (large : 2 ^ 62 ≤ most) (z : Point) (far : (f : ℕ) → IsFar (far_enough most) (in_frame f z))
    (es : List Edge) (sound : All (IsSteady most) es) (closed : IsClosed es) where
  -- from the middle of a leaf that no edge touches to the middle of a side
  module _ (f i j : ℕ) (hi : i < 2 ^ 30) (hj : j < 2 ^ 30)
      (missed : All (λ e. Misses e (square_of 0 i j)) (edges_on f es)) where
    abbrev middle_arcs : Bool
    middle_arcs = arcs most large z far es sound closed f (place (middle_of 0 i) (middle_of 0 j))

    row_stays : (u : ℕ) → In (i * 2 ^ 0) (2 ^ 0) u
        → middle_arcs ≡ arcs most large z far es sound closed f (place u (middle_of 0 j))
    row_stays u h =
        same_of middle_arcs (arcs most large z far es sound closed f (place u (middle_of 0 j)))
        (sym (row_over most large z far es sound closed f (j * 2 ^ 0 + 2 ^ 0 / 2) (middle_of 0 i) u (omega arith)
        (omega arith)
        (omega (arith, h.to)))
        ∙ even_over (square_of 0 i j) (row (middle_of 0 j) (middle_of 0 i) u) (edges_on f es)
        (row_held (i * 2 ^ 0) (j * 2 ^ 0) (2 ^ 0) (middle_of 0 j) (middle_of 0 i) u
        (record { from = omega arith; to = omega arith }) (record { from = omega arith; to = omega arith }) h) missed)

    column_stays : (u : ℕ) → In (j * 2 ^ 0) (2 ^ 0) u
        → middle_arcs ≡ arcs most large z far es sound closed f (place (middle_of 0 i) u)
    column_stays u h =
        same_of middle_arcs (arcs most large z far es sound closed f (place (middle_of 0 i) u))
        (sym (column_over most large z far es sound closed f (i * 2 ^ 0 + 2 ^ 0 / 2) (middle_of 0 j) u (omega arith)
        (omega arith)
        (omega (arith, h.to)))
        ∙ even_over (square_of 0 i j) (column (middle_of 0 i) (middle_of 0 j) u) (edges_on f es)
        (column_held (i * 2 ^ 0) (j * 2 ^ 0) (2 ^ 0) (middle_of 0 i) (middle_of 0 j) u
        (record { from = omega arith; to = omega arith }) (record { from = omega arith; to = omega arith }) h) missed)

    on_row : (u : ℕ) (c : Framed) → In (i * 2 ^ 0) (2 ^ 0) u → c ≡ place u (2 * j + 1)
        → middle_arcs ≡ arcs most large z far es sound closed f c
    on_row u c h e =
        let own : middle_of 0 j ≡ 2 * j + 1 = omega arith in
        row_stays u h ∙ ap (λ (t : ℕ). arcs most large z far es sound closed f (place u t)) own
        ∙ ap (arcs most large z far es sound closed f) (sym e)

    on_column : (u : ℕ) (c : Framed) → In (j * 2 ^ 0) (2 ^ 0) u → c ≡ place (2 * i + 1) u
        → middle_arcs ≡ arcs most large z far es sound closed f c
    on_column u c h e =
        let own : middle_of 0 i ≡ 2 * i + 1 = omega arith in
        column_stays u h ∙ ap (λ (s : ℕ). arcs most large z far es sound closed f (place s u)) own
        ∙ ap (arcs most large z far es sound closed f) (sym e)

  to_side : (x : ℕ) (p : Point) → All (λ e. Misses e (square_of 0 (i_of x) (j_of x))) (edges_on (x / 4 ^ 30) es)
      → IsMiddleOfSide x p
      → arcs most large z far es sound closed (x / 4 ^ 30) (place (middle_of 0 (i_of x)) (middle_of 0 (j_of x)))
      ≡ arcs most large z far es sound closed 0 (in_frame 0 p)
  to_side x p missed h = by h ∙ arcs_alike most large z far es sound closed (x / 4 ^ 30) p
    where
      by : IsMiddleOfSide x p → arcs most large z far es sound closed (x / 4 ^ 30)
          (place (middle_of 0 (i_of x)) (middle_of 0 (j_of x)))
          ≡ arcs most large z far es sound closed (x / 4 ^ 30) (in_frame (x / 4 ^ 30) p)
      by (inl e) = on_row (x / 4 ^ 30) (i_of x) (j_of x) (below_side x).0 (below_side x).1 missed (2 * i_of x)
          (in_frame (x / 4 ^ 30) p) (record { from = omega arith; to = omega arith }) e
      by (inr (inl e)) = on_row (x / 4 ^ 30) (i_of x) (j_of x) (below_side x).0 (below_side x).1 missed
          (2 * (i_of x + 1)) (in_frame (x / 4 ^ 30) p) (record { from = omega arith; to = omega arith }) e
      by (inr (inr (inl e))) = on_column (x / 4 ^ 30) (i_of x) (j_of x) (below_side x).0 (below_side x).1 missed
          (2 * j_of x) (in_frame (x / 4 ^ 30) p) (record { from = omega arith; to = omega arith }) e
      by (inr (inr (inr e))) = on_column (x / 4 ^ 30) (i_of x) (j_of x) (below_side x).0 (below_side x).1 missed
          (2 * (j_of x + 1)) (in_frame (x / 4 ^ 30) p) (record { from = omega arith; to = omega arith }) e

  leaves_alike : (x y : ℕ) → x < LEAVES → y < LEAVES → ShareASide x y
      → All (λ e. Misses e (square_of 0 (i_of x) (j_of x))) (edges_on (x / 4 ^ 30) es)
      → All (λ e. Misses e (square_of 0 (i_of y) (j_of y))) (edges_on (y / 4 ^ 30) es) → odd_at es x ≡ odd_at es y
  leaves_alike x y l m side h k =
      leaf_over most large z far es sound closed x (omega (arith, l))
      ∙ ap (xor (arcs most large z far es sound closed 0 (place (middle_of 30 0) (middle_of 30 0))))
      (to_side x side.point h side.first ∙ sym (to_side y side.point k side.second))
      ∙ sym (leaf_over most large z far es sound closed y (omega (arith, m)))

pub neighbors_alike : (r : Region) (corners : List Point) (ends : List ℕ) (x y : ℕ)
    → r.edges ≡ rings_edges corners ends (length ends) → AreRings corners ends → All IsDirection corners
    → x < LEAVES → y < LEAVES → ShareASide x y → is_touched r x ≡ false → is_touched r y ≡ false
    → inside r x ≡ inside r y
unfolding is_touched
neighbors_alike r corners ends x y e rings directions l m side h k =
    ap (λ (t : Bool). xor t (odd_at r.edges r.outside))
    (leaves_alike (2 ^ 62) (omega arith) (at_frame 0 (beside (far_enough (2 ^ 62)) (pos 0) (pos 0)))
    (far_from (far_enough (2 ^ 62)) 0 (pos 0) (pos 0)) r.edges
    (subst (All (IsSteady (2 ^ 62))) (sym e) (all_steady corners ends rings directions))
    (subst IsClosed (sym e) (closed corners ends (are_long corners ends rings))) x y l m side
    (all_missed r.margin (i_of x) (j_of x) (edges_on (x / 4 ^ 30) r.edges) h)
    (all_missed r.margin (i_of y) (j_of y) (edges_on (y / 4 ^ 30) r.edges) k))
