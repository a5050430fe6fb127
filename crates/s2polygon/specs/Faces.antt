-- The ways between the middles of the faces.
use Rattle.std.specs.Prelude.{ℕ, zero, suc, ◌%◌, ◌^◌, ◌==◌, Bool, false, cond, List, map}
use Rattle.std.specs.Bool.{xor}
use Rattle.s2polygon.specs.Ways.{Piece, row, column, crosses, middle_of}
use Rattle.s2polygon.specs.Parity.{is_odd_by}
use Rattle.s2polygon.specs.Frames.{framed}
use Rattle.s2polygon.specs.declared.directions.Edge.{Edge}
use Rattle.s2polygon.specs.declared.frames.FramedEdge.{FramedEdge}

-- the edges, in the frame of a face
abbrev pub edges_on : ℕ → List Edge → List FramedEdge
edges_on f es = map (framed f) es

-- the way from the middle of face `f` to that of the next goes over the side that they share: from an even face along
-- its middle row, from an odd one along its middle column. This is its piece on face `f`
abbrev pub way_out : ℕ → Piece
way_out f = cond (f % 2 == 0)
    (row (middle_of 30 0) (middle_of 30 0) (2 ^ 31))
    (column (middle_of 30 0) (middle_of 30 0) (2 ^ 31))

-- its piece on the next face
abbrev pub way_in : ℕ → Piece
way_in f = cond (f % 2 == 0)
    (row (middle_of 30 0) 0 (middle_of 30 0))
    (column (middle_of 30 0) 0 (middle_of 30 0))

-- the edge crosses just one of the two pieces
abbrev pub crosses_border : ℕ → Edge → Bool
crosses_border f e = xor (crosses (way_out f) (framed f e)) (crosses (way_in f) (framed (suc f) e))

-- the parity of the middle of face `f`: how often the edges cross the ways to it from the middle of face 0
unfoldable pub top_of : List Edge → ℕ → Bool
top_of es zero = false
top_of es (suc f) = xor (top_of es f) (is_odd_by (crosses_border f) es)
