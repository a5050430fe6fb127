-- Columns and rows that both ends of an edge lie between.
use Rattle.std.specs.Prelude.{ℕ, ℤ, pos, ◌*◌, ◌^◌, ◌*ℤ◌, ◌-ℤ◌, ◌≤ℤ◌, ◌<ℤ◌, ◌⊎◌}
use Rattle.s2polygon.specs.Places.{whole}
use Rattle.s2polygon.specs.Working.Sizes.{IsPlace}
use Rattle.s2polygon.specs.declared.boxes.Span.{Span}
use Rattle.s2polygon.specs.declared.frames.FramedEdge.{FramedEdge}
use Rattle.s2polygon.specs.declared.places.Line.{Line}
use Rattle.s2polygon.specs.declared.places.Square.{Square}

-- a direction lies after each place before the span, and before each place after it: `w` is its coordinate along the
-- axis of the face, and `x` that along its rows or its columns
pub record IsBetween (s : Span) (w x : ℤ) : Type 0 where
  pub after : (p : ℤ) → IsPlace p → p <ℤ s.low → pos 0 <ℤ (whole *ℤ x -ℤ p *ℤ w)
  pub before : (p : ℤ) → IsPlace p → s.high <ℤ p → pos 0 <ℤ (p *ℤ w -ℤ whole *ℤ x)

-- it lies in front of the face, and not far beside it
pub record IsNear (w x : ℤ) : Type 0 where
  pub front : pos 0 <ℤ w
  pub after : (pos 0 -ℤ pos 2 *ℤ w) <ℤ x
  pub before : x <ℤ (pos 2 *ℤ w)

-- the place that is this number of units of 2 ^ 31 after the one that lies two of a face's halves before its middle
abbrev pub place_of_quotient : ℕ → ℤ
place_of_quotient n = (pos n -ℤ pos (3 * 2 ^ 30)) *ℤ pos (2 ^ 31)

-- both ends of the edge lie between the columns, and between the rows
pub record IsBoxed (e : FramedEdge) (columns rows : Span) : Type 0 where
  pub a_columns : IsBetween columns e.a.w e.a.u
  pub b_columns : IsBetween columns e.b.w e.b.u
  pub a_rows : IsBetween rows e.a.w e.a.v
  pub b_rows : IsBetween rows e.b.w e.b.v

-- the span has two others
pub record HasBoth (s a b : Span) : Type 0 where
  pub low_a : s.low ≤ℤ a.low
  pub low_b : s.low ≤ℤ b.low
  pub high_a : a.high ≤ℤ s.high
  pub high_b : b.high ≤ℤ s.high

-- the square lies beside the columns, or beside the rows
abbrev pub IsOff : Square → Span → Span → Type 0
IsOff q columns rows =
    (columns.high <ℤ q.u0) ⊎ (q.u1 <ℤ columns.low) ⊎ (rows.high <ℤ q.v0) ⊎ (q.v1 <ℤ rows.low)

-- the square has all of the columns and rows, and more on each side
pub record IsAround (q : Square) (columns rows : Span) : Type 0 where
  pub first_column : q.u0 <ℤ columns.low
  pub last_column : columns.high <ℤ q.u1
  pub first_row : q.v0 <ℤ rows.low
  pub last_row : rows.high <ℤ q.v1

-- the piece lies beside a span of lines like its own, or beside a span of those that it crosses
abbrev pub IsOffPiece : Line → Span → Span → Type 0
IsOffPiece l like across =
    (like.high <ℤ l.at) ⊎ (l.at <ℤ like.low) ⊎ (across.high <ℤ l.low) ⊎ (l.high <ℤ across.low)
