-- What is known of a cell on the way down.
use Rattle.std.specs.Bool.{xor}
use Rattle.std.specs.Prelude.{ℕ, suc, ◌/◌, min, max, Bool}
use Rattle.s2polygon.specs.Crosses.{crosses_row_at, crosses_column_at}
use Rattle.s2polygon.specs.Places.{along}
use Rattle.s2polygon.specs.Ways.{middle_of}
use Rattle.s2polygon.specs.declared.frames.FramedEdge.{FramedEdge}
use Rattle.s2polygon.specs.declared.places.Line.{Line}
use Rattle.s2polygon.specs.declared.places.Step.{Step}

-- the edge crosses just one of the two pieces of the step
abbrev pub crosses_step_at : Step → FramedEdge → Bool
crosses_step_at s e =
    xor (crosses_row_at s.row.at s.row.low s.row.high e) (crosses_column_at s.column.at s.column.low s.column.high e)

-- the places of a piece at a number, from one number to another
abbrev pub line_of : ℕ → ℕ → ℕ → Line
line_of t from to = record { at = along t; low = along (min from to); high = along (max from to) }

-- the places of the step to a cell, whose pieces are those of `step_to`
abbrev pub places_of : ℕ → ℕ → ℕ → Step
places_of k i j = record {
  row = line_of (middle_of (suc k) (j / 2)) (middle_of (suc k) (i / 2)) (middle_of k i);
  column = line_of (middle_of k i) (middle_of (suc k) (j / 2)) (middle_of k j);
}
