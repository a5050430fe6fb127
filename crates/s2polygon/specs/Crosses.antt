-- On which side of an edge a place lies, and which signs are those of a crossing.
use Rattle.std.specs.Prelude.{ℤ, pos, ◌+ℤ◌, ◌*ℤ◌, Bool, ◌&&◌, int_le}
use Rattle.std.specs.Bool.{xor, beq}
use Rattle.s2polygon.specs.Places.{whole}
use Rattle.s2polygon.specs.Frames.{normal_of}
use Rattle.s2polygon.specs.Meets.{above, left_of}
use Rattle.s2polygon.specs.declared.frames.Framed.{Framed}
use Rattle.s2polygon.specs.declared.frames.FramedEdge.{FramedEdge}

-- on which side of the edge with the normal `n` the place (u, v) lies: the product of `n` and (whole, u, v)
abbrev pub side_by : ℤ → ℤ → Framed → ℤ
side_by u v n = whole *ℤ n.w +ℤ u *ℤ n.u +ℤ v *ℤ n.v

-- on which side of the edge from `a` to `b` it lies
abbrev pub side : ℤ → ℤ → Framed → Framed → ℤ
side u v a b = side_by u v (normal_of a b)

-- the number is at least 0
abbrev pub is_at_least_0 : ℤ → Bool
is_at_least_0 z = int_le (pos 0) z

-- of four numbers, those of an edge's ends and those of a piece's, the signs are those of a crossing:
-- one of the first two is at least 0, one of the last two is, and the third is if the second is
abbrev pub are_of_crossing : ℤ → ℤ → ℤ → ℤ → Bool
are_of_crossing a b p q =
    xor (is_at_least_0 a) (is_at_least_0 b) && xor (is_at_least_0 p) (is_at_least_0 q)
    && beq (is_at_least_0 p) (is_at_least_0 b)

-- the edge crosses the row `v` between `u0` and `u1`
abbrev pub crosses_row_at : ℤ → ℤ → ℤ → FramedEdge → Bool
crosses_row_at v u0 u1 e = are_of_crossing (above v e.a) (above v e.b) (side u0 v e.a e.b) (side u1 v e.a e.b)

-- the edge crosses the column `u` between `v0` and `v1`
abbrev pub crosses_column_at : ℤ → ℤ → ℤ → FramedEdge → Bool
crosses_column_at u v0 v1 e = are_of_crossing (left_of u e.a) (left_of u e.b) (side u v0 e.a e.b) (side u v1 e.a e.b)
