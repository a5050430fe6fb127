-- The ways between the middles of faces, by the lists of the edges that meet each face.
use Rattle.std.proofs.Common.{◌≡◌, refl, sym, ap, ap₂, ◌∙◌, ℕ, suc, ◌+◌, ◌%◌, ◌^◌, ◌≤◌, ◌≢◌, arith, Bool, not}
use Rattle.std.proofs.Common.{cond, List, [], ◌∷◌}
use Rattle.std.proofs.Math.Bool.{beq, xor}
use Rattle.s2polygon.proofs.Borders.{is_not_zero, is_zero}
use Rattle.s2polygon.proofs.Cells.{column_held, row_held}
use Rattle.s2polygon.proofs.Parity.{same_over}
use Rattle.s2polygon.proofs.Steps.{column_piece, either_answer, odd_of_both, row_piece}
use Rattle.s2polygon.proofs.Tests.{leaves_out_near}
use Rattle.s2polygon.proofs.Turned.{odd_mapped}
use Rattle.s2polygon.specs.Cells.{square_of, widened}
use Rattle.s2polygon.specs.Crosses.{crosses_column_at, crosses_row_at}
use Rattle.s2polygon.specs.Faces.{crosses_border, edges_on, way_in, way_out}
use Rattle.s2polygon.specs.Frames.{framed}
use Rattle.s2polygon.specs.Parity.{is_odd_by}
use Rattle.s2polygon.specs.Tests.{meets_square}
use Rattle.s2polygon.specs.Ways.{Piece, column, crosses, middle_of, row}
use Rattle.s2polygon.specs.Descents.{near_face}
use Rattle.s2polygon.specs.Working.Descent.{line_of}
use Rattle.s2polygon.specs.Working.Holding.{HoldsPiece}
use Rattle.s2polygon.specs.declared.directions.Edge.{Edge}
use Rattle.s2polygon.specs.declared.frames.FramedEdge.{FramedEdge}
use Rattle.s2polygon.specs.declared.places.Line.{Line}

odd_alike : {A : Type 0} (p q : A → Bool) → ((e : A) → p e ≡ q e) → (es : List A) → is_odd_by p es ≡ is_odd_by q es
odd_alike p q h [] = refl
odd_alike p q h (e ∷ es) = ap₂ xor (h e) (odd_alike p q h es)

-- the edges that meet a face cross a piece on it as often as all edges
listed_over : (f m : ℕ) (es : List Edge) (p : Piece) (test : FramedEdge → Bool) (l : List FramedEdge) (r : Bool)
    → HoldsPiece (square_of 30 0 0) p → ((e : FramedEdge) → test e ≡ crosses p e) → l ≡ near_face m (edges_on f es)
    → r ≡ is_odd_by test l → r ≡ is_odd_by (λ e. crosses p (framed f e)) es
listed_over f m es p test l r held same is odd =
    odd ∙ ap (is_odd_by test) is ∙ odd_alike test (crosses p) same (near_face m (edges_on f es))
    ∙ same_over (square_of 30 0 0) (meets_square (widened m (square_of 30 0 0))) (leaves_out_near m 30 0 0) p
    (edges_on f es) held
    ∙ odd_mapped f p es

row_on : (u w : ℕ) → u ≤ 2 ^ 31 → w ≤ 2 ^ 31 → HoldsPiece (square_of 30 0 0) (row (middle_of 30 0) u w)
row_on u w h k = row_held 0 0 (2 ^ 30) (middle_of 30 0) u w (record { from = omega arith; to = omega arith })
    (record { from = omega arith; to = omega arith }) (record { from = omega arith; to = omega arith })

column_on : (v w : ℕ) → v ≤ 2 ^ 31 → w ≤ 2 ^ 31 → HoldsPiece (square_of 30 0 0) (column (middle_of 30 0) v w)
column_on v w h k = column_held 0 0 (2 ^ 30) (middle_of 30 0) v w (record { from = omega arith; to = omega arith })
    (record { from = omega arith; to = omega arith }) (record { from = omega arith; to = omega arith })

module _ (f m : ℕ) (es : List Edge) (here there : List FramedEdge) (out back : Line) (r s : Bool)
    (p : here ≡ near_face m (edges_on f es)) (q : there ≡ near_face m (edges_on (f + 1) es))
    (o : out ≡ line_of (middle_of 30 0) (middle_of 30 0) (2 ^ 31))
    (b : back ≡ line_of (middle_of 30 0) 0 (middle_of 30 0)) where
  next : there ≡ near_face m (edges_on (suc f) es)
  next = let one : f + 1 ≡ suc f = omega arith in q ∙ ap (λ (n : ℕ). near_face m (edges_on n es)) one

  both : (x y : Piece) → x ≡ way_out f → y ≡ way_in f → r ≡ is_odd_by (λ e. crosses x (framed f e)) es
      → s ≡ is_odd_by (λ e. crosses y (framed (suc f) e)) es → not (beq r s) ≡ is_odd_by (crosses_border f) es
  both x y e g h k =
      either_answer r s (is_odd_by (λ e. crosses x (framed f e)) es) (is_odd_by (λ e. crosses y (framed (suc f) e)) es)
      h k
      ∙ sym (odd_of_both (λ e. crosses x (framed f e)) (λ e. crosses y (framed (suc f) e)) (crosses_border f)
      (λ d. sym (ap₂ (λ (v w : Piece). xor (crosses v (framed f d)) (crosses w (framed (suc f) d))) e g)) es)

  pub border_rows : f % 2 ≡ 0 → r ≡ is_odd_by (crosses_row_at out.at out.low out.high) here
      → s ≡ is_odd_by (crosses_row_at back.at back.low back.high) there
      → not (beq r s) ≡ is_odd_by (crosses_border f) es
  border_rows even g h =
      let w = sym (is_zero (f % 2) even) in
      let first = rw o at g in
      let last = rw b at h in
      both (row (middle_of 30 0) (middle_of 30 0) (2 ^ 31)) (row (middle_of 30 0) 0 (middle_of 30 0))
      (ap (λ (t : Bool). cond t (row (middle_of 30 0) (middle_of 30 0) (2 ^ 31))
      (column (middle_of 30 0) (middle_of 30 0) (2 ^ 31))) w)
      (ap (λ (t : Bool). cond t (row (middle_of 30 0) 0 (middle_of 30 0)) (column (middle_of 30 0) 0 (middle_of 30 0)))
      w)
      (listed_over f m es (row (middle_of 30 0) (middle_of 30 0) (2 ^ 31)) _ here r
      (row_on (middle_of 30 0) (2 ^ 31) (omega arith) (omega arith))
      (row_piece (middle_of 30 0) (middle_of 30 0) (2 ^ 31)) p first)
      (listed_over (suc f) m es (row (middle_of 30 0) 0 (middle_of 30 0)) _ there s
      (row_on 0 (middle_of 30 0) (omega arith) (omega arith)) (row_piece (middle_of 30 0) 0 (middle_of 30 0)) next last)

  pub border_columns : f % 2 ≢ 0 → r ≡ is_odd_by (crosses_column_at out.at out.low out.high) here
      → s ≡ is_odd_by (crosses_column_at back.at back.low back.high) there
      → not (beq r s) ≡ is_odd_by (crosses_border f) es
  border_columns odd g h =
      let w = sym (is_not_zero (f % 2) odd) in
      let first = rw o at g in
      let last = rw b at h in
      both (column (middle_of 30 0) (middle_of 30 0) (2 ^ 31)) (column (middle_of 30 0) 0 (middle_of 30 0))
      (ap (λ (t : Bool). cond t (row (middle_of 30 0) (middle_of 30 0) (2 ^ 31))
      (column (middle_of 30 0) (middle_of 30 0) (2 ^ 31))) w)
      (ap (λ (t : Bool). cond t (row (middle_of 30 0) 0 (middle_of 30 0)) (column (middle_of 30 0) 0 (middle_of 30 0)))
      w)
      (listed_over f m es (column (middle_of 30 0) (middle_of 30 0) (2 ^ 31)) _ here r
      (column_on (middle_of 30 0) (2 ^ 31) (omega arith) (omega arith))
      (column_piece (middle_of 30 0) (middle_of 30 0) (2 ^ 31)) p first)
      (listed_over (suc f) m es (column (middle_of 30 0) 0 (middle_of 30 0)) _ there s
      (column_on 0 (middle_of 30 0) (omega arith) (omega arith)) (column_piece (middle_of 30 0) 0 (middle_of 30 0)) next
      last)
