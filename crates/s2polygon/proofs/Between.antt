-- What the columns and rows that both ends of an edge lie between tell of the edge.
use Rattle.std.proofs.Common.{◌≡◌, ℕ, ◌+◌, ◌*◌, ◌/◌, ◌^◌, ◌≤◌, ◌<◌, arith, ℤ, pos, ◌+ℤ◌, ◌*ℤ◌, ◌-ℤ◌, ◌≤ℤ◌, ◌<ℤ◌}
use Rattle.std.proofs.Common.{inl, inr, refl, rules, true, false, w64, to_z, of_z, unsigned_abs, negsuc, Fits, IsFalse}
use Rattle.std.proofs.Common.{sym, Bool, not, IsTrue, true≢false}
use lib.Dec.{T}
use lib.Signed.{non_neg}
use Rattle.std.proofs.lemmas.Bool.Decides.{same_from_decides}
use Rattle.std.proofs.lemmas.Int.{ints}
use Rattle.std.proofs.lemmas.Nat.{div-add-mod'}
use Rattle.std.proofs.Math.Nat.{div-le_of_le-mul, div-mul-le_self, mod-lt}
use Rattle.s2polygon.proofs.Crossings.{column_itself, row_itself}
use Rattle.s2polygon.proofs.Integers.{at, ◌⊕◌, ◌⊖◌, ◌⊗◌, at_most, below_parts, less}
use Rattle.s2polygon.proofs.Meetings.{met, missed, yes}
use Rattle.s2polygon.proofs.Parity.{are_of_crossing_decides}
use Rattle.s2polygon.proofs.Rejects.{rights_behind, lefts_behind, aboves_behind, belows_behind, product_above}
use Rattle.s2polygon.proofs.Sizes.{read}
use Rattle.s2polygon.proofs.Tests.{meets_decides}
use Rattle.s2polygon.specs.Crosses.{side, crosses_row_at, crosses_column_at}
use Rattle.s2polygon.specs.Meets.{MeetsSquare, above, left_of}
use Rattle.s2polygon.specs.Places.{whole}
use Rattle.s2polygon.specs.Tests.{meets_square}
use Rattle.s2polygon.specs.Working.Boxes.{IsAround, IsBetween, IsBoxed, IsNear, IsOff, IsOffPiece}
use Rattle.s2polygon.specs.Working.Boxes.{place_of_quotient}
use Rattle.s2polygon.specs.Working.Sizes.{HasPlacesOfLine, IsOfPlaces, IsPlace}
use Rattle.s2polygon.specs.declared.boxes.Span.{Span}
use Rattle.s2polygon.specs.declared.frames.Framed.{Framed}
use Rattle.s2polygon.specs.declared.frames.FramedEdge.{FramedEdge}
use Rattle.s2polygon.specs.declared.places.Line.{Line}
use Rattle.s2polygon.specs.declared.places.Square.{Square}

short_of : (p w x : ℤ) → pos 0 <ℤ (p *ℤ w -ℤ x) → (x -ℤ p *ℤ w) <ℤ pos 0
short_of p w x h = turned (p *ℤ w) x h
  where
    turned : (y z : ℤ) → pos 0 <ℤ (y -ℤ z) → (z -ℤ y) <ℤ pos 0
    turned y z h = omega (arith, ints)

beyond : (p w x : ℤ) → pos 0 <ℤ (x -ℤ p *ℤ w) → (p *ℤ w -ℤ x) <ℤ pos 0
beyond p w x h = turned (p *ℤ w) x h
  where
    turned : (y z : ℤ) → pos 0 <ℤ (z -ℤ y) → (y -ℤ z) <ℤ pos 0
    turned y z h = omega (arith, ints)

-- ---- an edge beside a square misses it
off_misses : (e : FramedEdge) (q : Square) (columns rows : Span) → IsPlace q.u0 → IsPlace q.u1 → IsPlace q.v0
    → IsPlace q.v1 → IsBoxed e columns rows → IsOff q columns rows → ¬ (MeetsSquare e.a e.b q)
off_misses e q columns rows f g h j b (inl l) =
    rights_behind e.a e.b q (
      short_of q.u0 e.a.w (whole *ℤ e.a.u) (b.a_columns.before q.u0 f l),
      short_of q.u0 e.b.w (whole *ℤ e.b.u) (b.b_columns.before q.u0 f l),
    )
off_misses e q columns rows f g h j b (inr (inl l)) =
    lefts_behind e.a e.b q (
      beyond q.u1 e.a.w (whole *ℤ e.a.u) (b.a_columns.after q.u1 g l),
      beyond q.u1 e.b.w (whole *ℤ e.b.u) (b.b_columns.after q.u1 g l),
    )
off_misses e q columns rows f g h j b (inr (inr (inl l))) =
    aboves_behind e.a e.b q (
      short_of q.v0 e.a.w (whole *ℤ e.a.v) (b.a_rows.before q.v0 h l),
      short_of q.v0 e.b.w (whole *ℤ e.b.v) (b.b_rows.before q.v0 h l),
    )
off_misses e q columns rows f g h j b (inr (inr (inr l))) =
    belows_behind e.a e.b q (
      beyond q.v1 e.a.w (whole *ℤ e.a.v) (b.a_rows.after q.v1 j l),
      beyond q.v1 e.b.w (whole *ℤ e.b.v) (b.b_rows.after q.v1 j l),
    )

pub off_answer : (e : FramedEdge) (q : Square) (columns rows : Span) → IsOfPlaces q → IsBoxed e columns rows
    → IsOff q columns rows → false ≡ meets_square q e
off_answer e q columns rows p b o =
    same_from_decides false (meets_square q e)
    (missed (MeetsSquare e.a e.b q) (off_misses e q columns rows p.u0 p.u1 p.v0 p.v1 b o))
    (meets_decides q e p.wide p.high)

-- an edge whose ends lie beyond one side of a square
pub beyond_answer : (e : FramedEdge) (q : Square) (a b : Framed) (beyond : Bool) → IsOfPlaces q → a ≡ e.a → b ≡ e.b
    → (IsTrue beyond → MeetsSquare a b q → ⊥) → not beyond ≡ false → meets_square q e ≡ false
beyond_answer e q a b true p f g h n =
    sym (same_from_decides false (meets_square q e) (missed (MeetsSquare e.a e.b q) (rw (f, g) at (h yes)))
    (meets_decides q e p.wide p.high))
beyond_answer e q a b false p f g h n = absurd (true≢false n)

-- ---- an edge that begins in a square meets it
first_beyond : (k : ℕ) (s xa wa xb wb : ℤ) → pos 0 <ℤ (pos k *ℤ xa -ℤ s *ℤ wa)
    → pos 0 ≤ℤ (pos k *ℤ (pos 1 *ℤ xa +ℤ pos 0 *ℤ xb) -ℤ s *ℤ (pos 1 *ℤ wa +ℤ pos 0 *ℤ wb))
first_beyond k s xa wa xb wb h =
    let f = below_parts (at (pos 0)) (at (pos k) ⊗ at xa ⊖ at s ⊗ at wa) h in
    at_most (at (pos 0)) (at (pos k) ⊗ (at (pos 1) ⊗ at xa ⊕ at (pos 0) ⊗ at xb) ⊖ at s ⊗
    (at (pos 1) ⊗ at wa ⊕ at (pos 0) ⊗ at wb)) (omega arith)

first_short : (k : ℕ) (s xa wa xb wb : ℤ) → pos 0 <ℤ (s *ℤ wa -ℤ pos k *ℤ xa)
    → pos 0 ≤ℤ (s *ℤ (pos 1 *ℤ wa +ℤ pos 0 *ℤ wb) -ℤ pos k *ℤ (pos 1 *ℤ xa +ℤ pos 0 *ℤ xb))
first_short k s xa wa xb wb h =
    let f = below_parts (at (pos 0)) (at s ⊗ at wa ⊖ at (pos k) ⊗ at xa) h in
    at_most (at (pos 0)) (at s ⊗ (at (pos 1) ⊗ at wa ⊕ at (pos 0) ⊗ at wb) ⊖ at (pos k) ⊗
    (at (pos 1) ⊗ at xa ⊕ at (pos 0) ⊗ at xb)) (omega arith)

around_meets : (e : FramedEdge) (q : Square) (columns rows : Span) → IsOfPlaces q → IsBoxed e columns rows
    → IsAround q columns rows → MeetsSquare e.a e.b q
around_meets e q columns rows p b r =
    let k = 3 * 2 ^ 60 in
    record {
      x = pos 1;
      y = pos 0;
      x_at_least = omega (arith, ints);
      y_at_least = omega (arith, ints);
      not_both = omega (arith, ints);
      inside = record {
        first_column = first_beyond k q.u0 e.a.u e.a.w e.b.u e.b.w (b.a_columns.after q.u0 p.u0 r.first_column);
        last_column = first_short k q.u1 e.a.u e.a.w e.b.u e.b.w (b.a_columns.before q.u1 p.u1 r.last_column);
        first_row = first_beyond k q.v0 e.a.v e.a.w e.b.v e.b.w (b.a_rows.after q.v0 p.v0 r.first_row);
        last_row = first_short k q.v1 e.a.v e.a.w e.b.v e.b.w (b.a_rows.before q.v1 p.v1 r.last_row);
      };
    }

pub around_answer : (e : FramedEdge) (q : Square) (columns rows : Span) → IsOfPlaces q → IsBoxed e columns rows
    → IsAround q columns rows → true ≡ meets_square q e
around_answer e q columns rows p b r =
    same_from_decides true (meets_square q e)
    (met (MeetsSquare e.a e.b q) (around_meets e q columns rows p b r)) (meets_decides q e p.wide p.high)

-- ---- an edge beside a piece of a way doesn't cross it
pub row_answer : (e : FramedEdge) (l : Line) (columns rows : Span) → HasPlacesOfLine l → IsBoxed e columns rows
    → IsOffPiece l rows columns → false ≡ crosses_row_at l.at l.low l.high e
row_answer e l columns rows p b o =
    same_from_decides false (crosses_row_at l.at l.low l.high e)
    (missed _ (λ c. off_misses e (record { u0 = l.low; u1 = l.high; v0 = l.at; v1 = l.at }) columns rows
    p.low p.high p.at p.at b (off o) (row_itself l.at l.low l.high e.a e.b c)))
    (are_of_crossing_decides (above l.at e.a) (above l.at e.b) (side l.low l.at e.a e.b) (side l.high l.at e.a e.b))
  where
    off : IsOffPiece l rows columns → IsOff (record { u0 = l.low; u1 = l.high; v0 = l.at; v1 = l.at }) columns rows
    off (inl x) = inr (inr (inl x))
    off (inr (inl x)) = inr (inr (inr x))
    off (inr (inr (inl x))) = inl x
    off (inr (inr (inr x))) = inr (inl x)

pub column_answer : (e : FramedEdge) (l : Line) (columns rows : Span) → HasPlacesOfLine l → IsBoxed e columns rows
    → IsOffPiece l columns rows → false ≡ crosses_column_at l.at l.low l.high e
column_answer e l columns rows p b o =
    same_from_decides false (crosses_column_at l.at l.low l.high e)
    (missed _ (λ c. off_misses e (record { u0 = l.at; u1 = l.at; v0 = l.low; v1 = l.high }) columns rows
    p.at p.at p.low p.high b o (column_itself l.at l.low l.high e.a e.b c)))
    (are_of_crossing_decides (left_of l.at e.a) (left_of l.at e.b) (side l.at l.low e.a e.b) (side l.at l.high e.a e.b))

-- ---- a span that has another
between_wider : (s r : Span) (w x : ℤ) → s.low ≤ℤ r.low → r.high ≤ℤ s.high → IsBetween r w x → IsBetween s w x
between_wider s r w x h k b = record {
  after = λ p is l. b.after p is (omega (arith, ints));
  before = λ p is l. b.before p is (omega (arith, ints));
}

-- ---- spans
pub between_farthest : (low high w x : ℤ) → low ≤ℤ (pos 0 -ℤ pos (2 ^ 62)) → pos (2 ^ 62) ≤ℤ high
    → IsBetween (record { low = low; high = high }) w x
between_farthest low high w x h k = record {
  after = λ p is l. absurd (omega (arith, ints));
  before = λ p is l. absurd (omega (arith, ints));
}

pub quotient_most : (s d : ℕ) → s ≤ 4 * d → s * (3 * 2 ^ 29) / d ≤ 3 * 2 ^ 31
quotient_most s d h = div-le_of_le-mul d (omega arith)

-- a quotient of places in units of a leaf's width: `s` is the coordinate beside the axis and twice `d`, that along it
module _ (s d n : ℕ) (some : 0 < d) (is : n ≡ s * (3 * 2 ^ 29) / d) where
  at_least : n * d ≤ s * (3 * 2 ^ 29)
  at_least = let f = div-mul-le_self (s * (3 * 2 ^ 29)) d in rw is f

  below : s * (3 * 2 ^ 29) < n * d + d
  below =
      let f = div-add-mod' (s * (3 * 2 ^ 29)) d in
      let g = mod-lt (s * (3 * 2 ^ 29)) some in
      rw is (omega arith)

  span_after : (p : ℤ) → p <ℤ place_of_quotient n → pos 0 <ℤ (pos (3 * 2 ^ 60) *ℤ (pos s -ℤ pos (2 * d)) -ℤ p *ℤ pos d)
  span_after p l =
      let a = product_above (place_of_quotient n -ℤ p) (pos d) (omega (arith, ints)) (omega (arith, ints)) in
      let f = below_parts (at (pos 0)) (((at (pos n) ⊖ at (pos (3 * 2 ^ 30))) ⊗ at (pos (2 ^ 31)) ⊖ at p) ⊗ at (pos d))
      a in
      less (at (pos 0)) (at (pos (3 * 2 ^ 60)) ⊗ (at (pos s) ⊖ at (pos (2 * d))) ⊖ at p ⊗ at (pos d))
      (omega (arith, at_least))

  span_before : (p : ℤ) → (place_of_quotient n +ℤ pos (2 ^ 31)) <ℤ p
      → pos 0 <ℤ (p *ℤ pos d -ℤ pos (3 * 2 ^ 60) *ℤ (pos s -ℤ pos (2 * d)))
  span_before p l =
      let a = product_above (p -ℤ (place_of_quotient n +ℤ pos (2 ^ 31))) (pos d) (omega (arith, ints))
      (omega (arith, ints)) in
      let f = below_parts (at (pos 0)) ((at p ⊖ ((at (pos n) ⊖ at (pos (3 * 2 ^ 30))) ⊗ at (pos (2 ^ 31)) ⊕
      at (pos (2 ^ 31)))) ⊗ at (pos d)) a in
      less (at (pos 0)) (at p ⊗ at (pos d) ⊖ at (pos (3 * 2 ^ 60)) ⊗ (at (pos s) ⊖ at (pos (2 * d))))
      (omega (arith, below))

pub between_units : (w x first last : ℤ) (s d : ℕ) → IsNear w x → w ≡ pos d → x +ℤ pos 2 *ℤ w ≡ pos s
    → first ≡ place_of_quotient (s * (3 * 2 ^ 29) / d) → last ≡ first +ℤ pos (2 ^ 31)
    → IsBetween (record { low = first; high = last }) w x
between_units w x first last s d near e f g h =
    let front = near.front in
    let some : 0 < d = omega (arith, ints) in
    let own : x ≡ pos s -ℤ pos (2 * d) = omega (arith, ints) in
    rw (h, g, own, e) (record {
      after = λ p is l. span_after s d (s * (3 * 2 ^ 29) / d) some refl p l;
      before = λ p is l. span_before s d (s * (3 * 2 ^ 29) / d) some refl p l;
    })

-- the span of an end, whose coordinates went to bits
pub end_between : (s a : Span) (w x : ℤ) → unsigned_abs w < 2 ^ 31 → unsigned_abs x < 2 ^ 31 → s.low ≤ℤ a.low
    → a.high ≤ℤ s.high → IsBetween a (to_z w64 (of_z w64 w)) (to_z w64 (of_z w64 x)) → IsBetween s w x
end_between s a w x f g h k b = between_wider s a w x h k (rw (read w f, read x g) at b)

pub passed_short : (x : ℤ) → unsigned_abs x < 2 ^ 31 → unsigned_abs (to_z w64 (of_z w64 x)) < 2 ^ 31
passed_short x h = rw (read x h) h

non_negative : (z : ℤ) → pos 0 ≤ℤ z → T (non_neg z)
non_negative (pos n) h = search rules
non_negative (negsuc n) h = absurd (omega (arith, ints))

pub cast_fits : (z : ℤ) → pos 0 ≤ℤ z → unsigned_abs z < 2 ^ 63 → T (non_neg z) × Fits w64 (unsigned_abs z)
cast_fits z h k = (non_negative z h, omega (arith, ints))

no_is : IsFalse false
no_is = search rules

pub near_passed : (w x : ℤ) → unsigned_abs w < 2 ^ 31 → unsigned_abs x < 2 ^ 31
    → (IsFalse false → IsNear (to_z w64 (of_z w64 w)) (to_z w64 (of_z w64 x))) → IsNear w x
near_passed w x f g h = rw (read w f, read x g) at (h no_is)
