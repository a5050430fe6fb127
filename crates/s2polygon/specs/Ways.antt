-- The pieces of ways, and the middles of cells.
use Rattle.std.specs.Prelude.{ℕ, ◌+◌, ◌*◌, ◌/◌, ◌^◌, min, max, Bool, not, ◌&&◌, ◌==◌}
use Rattle.s2polygon.specs.Places.{along}
use Rattle.s2polygon.specs.Crosses.{crosses_row_at, crosses_column_at}
use Rattle.s2polygon.specs.declared.frames.FramedEdge.{FramedEdge}

-- a straight piece of a way, in the numbers of borders and middles: along the row `v` from `u` to `w`, and along the
-- column `u` from `v` to `w`
pub data Piece : Type 0 where
  row : ℕ → ℕ → ℕ → Piece
  column : ℕ → ℕ → ℕ → Piece

-- the edge crosses the piece of a way
abbrev pub crosses : Piece → FramedEdge → Bool
crosses (row v u w) e = not (u == w) && crosses_row_at (along v) (along (min u w)) (along (max u w)) e
crosses (column u v w) e = not (v == w) && crosses_column_at (along u) (along (min v w)) (along (max v w)) e

-- the middle of a cell of `size` leaves a side, the first of which is leaf `i`: that of the leaf at the upper right of
-- its center
abbrev pub middle : ℕ → ℕ → ℕ
middle i size = 2 * (i + size / 2) + 1

-- the middle of cell number `i`, along one side of a face, of those of 2 ^ k leaves a side
abbrev pub middle_of : ℕ → ℕ → ℕ
middle_of k i = middle (i * 2 ^ k) (2 ^ k)
