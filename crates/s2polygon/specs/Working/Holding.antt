-- Squares that hold others, and pieces of ways.
use Rattle.std.specs.Prelude.{ℤ, ◌≤ℤ◌, ◌<ℤ◌, ◌⊎◌, min, max, Bool, IsFalse}
use Rattle.s2polygon.specs.Meets.{MeetsSquare}
use Rattle.s2polygon.specs.Places.{along}
use Rattle.s2polygon.specs.Ways.{Piece, row, column}
use Rattle.s2polygon.specs.declared.frames.FramedEdge.{FramedEdge}
use Rattle.s2polygon.specs.declared.places.Square.{Square}

-- a square that is not a point
abbrev pub IsWide : Square → Type 0
IsWide q = (q.u0 <ℤ q.u1) ⊎ (q.v0 <ℤ q.v1)

-- the first square holds the second
pub record Holds (larger q : Square) : Type 0 where
  pub first_column : larger.u0 ≤ℤ q.u0
  pub last_column : q.u1 ≤ℤ larger.u1
  pub first_row : larger.v0 ≤ℤ q.v0
  pub last_row : q.v1 ≤ℤ larger.v1

-- the square holds the piece of the row `v` from `u0` to `u1`
abbrev pub HoldsRow : Square → ℤ → ℤ → ℤ → Type 0
HoldsRow q v u0 u1 = Holds q (record { u0 = u0; u1 = u1; v0 = v; v1 = v })

-- the square holds the piece of the column `u` from `v0` to `v1`
abbrev pub HoldsColumn : Square → ℤ → ℤ → ℤ → Type 0
HoldsColumn q u v0 v1 = Holds q (record { u0 = u; u1 = u; v0 = v0; v1 = v1 })

-- the square holds the piece
abbrev pub HoldsPiece : Square → Piece → Type 0
HoldsPiece q (row v u w) = HoldsRow q (along v) (along (min u w)) (along (max u w))
HoldsPiece q (column u v w) = HoldsColumn q (along u) (along (min v w)) (along (max v w))

-- no direction of the edge lies in the square
abbrev pub Misses : FramedEdge → Square → Type 0
Misses e q = ¬ (MeetsSquare e.a e.b q)

-- each edge that the test leaves out misses the square
abbrev pub LeavesOutWhatMisses : (FramedEdge → Bool) → Square → Type 0
LeavesOutWhatMisses keeps q = (e : FramedEdge) → IsFalse (keeps e) → Misses e q
