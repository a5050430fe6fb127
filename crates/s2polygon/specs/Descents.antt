-- What is known of a cell of a polygon that is walked down from the faces.
use Rattle.std.specs.Bool.{xor}
use Rattle.std.specs.Prelude.{◌≡◌, ℕ, ◌/◌, pos, Bool, List, filter, get_or, map, ◌-◌, ◌<◌, All, length}
use Rattle.s2cell.specs.Cell.{IsCell, level_of}
use Rattle.s2cell.specs.Square.{IsSquareOf}
use Rattle.s2polygon.specs.Cells.{odd_of, square_of, widened}
use Rattle.s2polygon.specs.Faces.{edges_on, top_of}
use Rattle.s2polygon.specs.Leaves.{Region, odd_at}
use Rattle.s2polygon.specs.Tests.{meets_square}
use Rattle.s2polygon.specs.declared.descent.Known.{Known}
use Rattle.s2polygon.specs.declared.frames.Framed.{Framed}
use Rattle.s2polygon.specs.declared.frames.FramedEdge.{FramedEdge}

-- what stands at a number beyond a list
abbrev pub no_edge : FramedEdge
no_edge =
    let none : Framed = record { w = pos 0; u = pos 0; v = pos 0 } in record { a = none; b = none; n = none }

-- the edges that have these numbers in a list
abbrev pub picked : List FramedEdge → List ℕ → List FramedEdge
picked all numbers = map (λ n. get_or all n no_edge) numbers

-- those of the edges that meet the whole face, with a margin
abbrev pub near_face : ℕ → List FramedEdge → List FramedEdge
near_face margin edges = filter (meets_square (widened margin (square_of 30 0 0))) edges

-- a parity, and edges
pub record Near : Type 0 where
  pub odd : Bool
  pub edges : List FramedEdge

-- what is known of a cell, by the list of its face
abbrev pub near_of : List FramedEdge → Known → Near
near_of all known = record { odd = known.odd; edges = picked all known.edges.items }

-- it is right of the cell of 2 ^ k leaves a side, number `i` along the rows and number `j` along the columns, `n`
-- levels below its face: its parity among all edges, and those of them that meet it, with a margin
pub record IsRight (margin : ℕ) (top : Bool) (edges : List FramedEdge) (n k i j : ℕ) (near : Near) : Type 0 where
  pub odd : near.odd ≡ odd_of top edges n k i j
  pub met : near.edges ≡ filter (meets_square (widened margin (square_of k i j))) edges

-- whether the middle of a face lies inside
abbrev pub top_in : Region → ℕ → Bool
top_in r f = xor (top_of r.edges f) (odd_at r.edges r.outside)

-- the list of face `f` of a polygon
abbrev pub face_list : Region → ℕ → List FramedEdge
face_list r f = near_face r.margin (edges_on f r.edges)

-- of the cell `c` with this square it is known whether its middle lies inside, and which edges meet it
pub record IsKnown (r : Region) (c face i j size : ℕ) (known : Known) : Type 0 where
  pub cell : IsCell c
  pub square : IsSquareOf c face i j size
  pub right : IsRight r.margin (top_in r face) (edges_on face r.edges) (level_of c) (30 - level_of c) (i / size)
      (j / size) (near_of (face_list r face) known)
  pub within : All (λ n. n < length (face_list r face)) known.edges.items
