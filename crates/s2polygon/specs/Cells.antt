-- The squares of cells, and their parities.
use Rattle.std.specs.Prelude.{ℕ, zero, suc, ◌+◌, ◌*◌, ◌/◌, ◌^◌, pos, ◌+ℤ◌, ◌-ℤ◌, Bool, List, [], ◌∷◌}
use Rattle.std.specs.Bool.{xor}
use Rattle.s2polygon.specs.Places.{along}
use Rattle.s2polygon.specs.Ways.{Piece, row, column, middle_of}
use Rattle.s2polygon.specs.Parity.{is_odd_along}
use Rattle.s2polygon.specs.declared.frames.FramedEdge.{FramedEdge}
use Rattle.s2polygon.specs.declared.places.Square.{Square}

-- the square of `size` leaves a side from leaf (i, j) on
abbrev pub square : ℕ → ℕ → ℕ → Square
square i j size = record {
  u0 = along (2 * i);
  u1 = along (2 * (i + size));
  v0 = along (2 * j);
  v1 = along (2 * (j + size));
}

-- the square of the cell of 2 ^ k leaves a side that is number `i` along the rows and number `j` along the columns
abbrev pub square_of : ℕ → ℕ → ℕ → Square
square_of k i j = square (i * 2 ^ k) (j * 2 ^ k) (2 ^ k)

-- the square, larger by a margin on each side
abbrev pub widened : ℕ → Square → Square
widened d q = record { u0 = q.u0 -ℤ pos d; u1 = q.u1 +ℤ pos d; v0 = q.v0 -ℤ pos d; v1 = q.v1 +ℤ pos d }

-- the step to that cell's middle from its parent's: along the row, then along the column
abbrev pub step_to : ℕ → ℕ → ℕ → List Piece
step_to k i j =
    row (middle_of (suc k) (j / 2)) (middle_of (suc k) (i / 2)) (middle_of k i)
    ∷ (column (middle_of k i) (middle_of (suc k) (j / 2)) (middle_of k j)
    ∷ [])

-- the parity of that cell, which is `n` levels below its face: that of its parent and of the step from there.
-- The parity of the face's middle is `top`
abbrev pub odd_of : Bool → List FramedEdge → ℕ → ℕ → ℕ → ℕ → Bool
odd_of top edges zero k i j = top
odd_of top edges (suc n) k i j = xor (odd_of top edges n (suc k) (i / 2) (j / 2)) (is_odd_along (step_to k i j) edges)
