-- Whether an edge meets a square, by ten tests of signs.
use Rattle.std.specs.Prelude.{ℤ, pos, Bool, not, ◌&&◌, ◌||◌, int_lt}
use Rattle.s2polygon.specs.Crosses.{side}
use Rattle.s2polygon.specs.Frames.{normal_u_of, normal_v_of}
use Rattle.s2polygon.specs.Meets.{right_of, left_of, above, below}
use Rattle.s2polygon.specs.declared.frames.Framed.{Framed}
use Rattle.s2polygon.specs.declared.frames.FramedEdge.{FramedEdge}
use Rattle.s2polygon.specs.declared.meeting.Pair.{Pair}
use Rattle.s2polygon.specs.declared.places.Square.{Square}

-- the distances of an edge's two ends from the first column of a square
abbrev pub rights : Square → Framed → Framed → Pair
rights q a b = record { at_a = right_of q.u0 a; at_b = right_of q.u0 b }

-- from its last column
abbrev pub lefts : Square → Framed → Framed → Pair
lefts q a b = record { at_a = left_of q.u1 a; at_b = left_of q.u1 b }

-- from its first row
abbrev pub aboves : Square → Framed → Framed → Pair
aboves q a b = record { at_a = above q.v0 a; at_b = above q.v0 b }

-- from its last row
abbrev pub belows : Square → Framed → Framed → Pair
belows q a b = record { at_a = below q.v1 a; at_b = below q.v1 b }

-- both ends are on the wrong side of a line
abbrev pub is_behind : Pair → Bool
is_behind p = int_lt p.at_a (pos 0) && int_lt p.at_b (pos 0)

-- one end is on the wrong side of each line, and the edge turns past the corner between them
abbrev pub is_apart : Pair → Pair → ℤ → Bool
is_apart p q turn =
    (int_lt p.at_a (pos 0) && (int_lt q.at_b (pos 0) && int_lt (pos 0) turn))
    || (int_lt q.at_a (pos 0) && (int_lt p.at_b (pos 0) && int_lt turn (pos 0)))

-- no test rejects the edge at the square: the edge meets it
abbrev pub meets_square : Square → FramedEdge → Bool
meets_square q e =
    not (is_behind (rights q e.a e.b)) && (not (is_behind (lefts q e.a e.b))
    && (not (is_behind (aboves q e.a e.b)) && (not (is_behind (belows q e.a e.b))
    && (not (is_apart (rights q e.a e.b) (aboves q e.a e.b) (side q.u0 q.v0 e.a e.b))
    && (not (is_apart (belows q e.a e.b) (rights q e.a e.b) (side q.u0 q.v1 e.a e.b))
    && (not (is_apart (aboves q e.a e.b) (lefts q e.a e.b) (side q.u1 q.v0 e.a e.b))
    && (not (is_apart (lefts q e.a e.b) (belows q e.a e.b) (side q.u1 q.v1 e.a e.b))
    && (not (is_apart (lefts q e.a e.b) (rights q e.a e.b) (normal_v_of e.a e.b))
    && not (is_apart (aboves q e.a e.b) (belows q e.a e.b) (normal_u_of e.a e.b))))))))))
