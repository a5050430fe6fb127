-- Which leaves a polygon touches, and which lie inside it.
use Rattle.std.specs.Prelude.{ℕ, ◌/◌, ◌^◌, Bool, not, ◌&&◌, ◌||◌, List}
use Rattle.std.specs.Bool.{xor}
use Rattle.std.specs.List.{list_any}
use Rattle.s2cell.specs.Curve.{i_of, j_of}
use Rattle.s2polygon.specs.Cells.{odd_of, square_of, widened}
use Rattle.s2polygon.specs.Faces.{edges_on, top_of}
use Rattle.s2polygon.specs.Tests.{meets_square}
use Rattle.s2polygon.specs.declared.directions.Edge.{Edge}

-- a polygon: its edges, the number of a leaf that lies outside, and a margin on each side of squares
pub record Region : Type 0 where
  pub edges : List Edge
  pub outside : ℕ
  pub margin : ℕ

-- the parity of the leaf `x`: how often the edges cross the way to it from the middle of face 0
unfoldable pub odd_at : List Edge → ℕ → Bool
odd_at es x = odd_of (top_of es (x / 4 ^ 30)) (edges_on (x / 4 ^ 30) es) 30 0 (i_of x) (j_of x)

-- the leaf `x` lies inside: its parity is not that of the leaf that lies outside
abbrev pub inside : Region → ℕ → Bool
inside r x = xor (odd_at r.edges x) (odd_at r.edges r.outside)

-- an edge meets the square of the leaf `x`, widened by the margin
unfoldable pub is_touched : Region → ℕ → Bool
is_touched r x =
    list_any (meets_square (widened r.margin (square_of 0 (i_of x) (j_of x)))) (edges_on (x / 4 ^ 30) r.edges)

-- the leaves that an outer covering has: those that are touched, and those inside
abbrev pub outer_leaf : Region → ℕ → Bool
outer_leaf r x = is_touched r x || inside r x

-- the leaves that an inner covering may have: those inside that are not touched
abbrev pub inner_leaf : Region → ℕ → Bool
inner_leaf r x = inside r x && not (is_touched r x)
