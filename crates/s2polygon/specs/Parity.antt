-- Whether the edges of a list cross a way an odd number of times.
use Rattle.std.specs.Prelude.{Bool, false, List, [], ◌∷◌}
use Rattle.std.specs.Bool.{xor}
use Rattle.s2polygon.specs.Ways.{Piece, crosses}
use Rattle.s2polygon.specs.declared.frames.FramedEdge.{FramedEdge}

-- an odd number of the edges pass the test
abbrev pub is_odd_by : {A : Type 0} → (A → Bool) → List A → Bool
is_odd_by test [] = false
is_odd_by test (e ∷ es) = xor (test e) (is_odd_by test es)

-- an odd number of the edges cross the piece
abbrev pub is_odd_over : Piece → List FramedEdge → Bool
is_odd_over p es = is_odd_by (crosses p) es

-- the edges cross the pieces an odd number of times
abbrev pub is_odd_along : List Piece → List FramedEdge → Bool
is_odd_along [] es = false
is_odd_along (p ∷ ps) es = xor (is_odd_over p es) (is_odd_along ps es)
