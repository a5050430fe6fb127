-- When an edge crosses a piece of a way.
use Rattle.std.specs.Prelude.{ℤ, pos, ◌≤ℤ◌, ◌<ℤ◌, ◌⊎◌, ◌≢◌, min, max}
use Rattle.s2polygon.specs.Crosses.{side}
use Rattle.s2polygon.specs.Meets.{above, left_of}
use Rattle.s2polygon.specs.Places.{along}
use Rattle.s2polygon.specs.Ways.{Piece, row, column}
use Rattle.s2polygon.specs.declared.frames.Framed.{Framed}

-- of four numbers, those of `a` and `b` and those of the piece's two ends, the signs are those of a crossing
abbrev pub AreCrossed : ℤ → ℤ → ℤ → ℤ → Type 0
AreCrossed a b p q =
    ((pos 0 ≤ℤ a) × (b <ℤ pos 0) × (p <ℤ pos 0) × (pos 0 ≤ℤ q))
    ⊎ ((a <ℤ pos 0) × (pos 0 ≤ℤ b) × (pos 0 ≤ℤ p) × (q <ℤ pos 0))

-- two numbers are both at least 0, or both below it
abbrev pub AreBeside : ℤ → ℤ → Type 0
AreBeside a b = ((pos 0 ≤ℤ a) × (pos 0 ≤ℤ b)) ⊎ ((a <ℤ pos 0) × (b <ℤ pos 0))

-- the edge from `a` to `b` crosses the row `v` between `u0` and `u1`
abbrev pub CrossesRow : ℤ → ℤ → ℤ → Framed → Framed → Type 0
CrossesRow v u0 u1 a b = AreCrossed (above v a) (above v b) (side u0 v a b) (side u1 v a b)

-- the edge from `a` to `b` crosses the column `u` between `v0` and `v1`
abbrev pub CrossesColumn : ℤ → ℤ → ℤ → Framed → Framed → Type 0
CrossesColumn u v0 v1 a b = AreCrossed (left_of u a) (left_of u b) (side u v0 a b) (side u v1 a b)

-- the edge crosses the piece
abbrev pub CrossesPiece : Piece → Framed → Framed → Type 0
CrossesPiece (row v u w) a b = (u ≢ w) × CrossesRow (along v) (along (min u w)) (along (max u w)) a b
CrossesPiece (column u v w) a b = (v ≢ w) × CrossesColumn (along u) (along (min v w)) (along (max v w)) a b
