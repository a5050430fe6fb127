-- Polygons whose corners were rounded: their edges, and why there is none.
use Rattle.std.specs.Prelude.{◌≡◌, ℕ, ◌<◌, ◌≤◌, Bool, All, List, get_or, length}
use Rattle.s2cell.specs.Cell.{level_of}
use Rattle.s2cell.specs.declared.TheConstants.{LEAVES}
use Rattle.s2geodesic.specs.Halves.{AreSpread, LiesOpposite}
use Rattle.s2geodesic.specs.declared.edges.TheConstants.{HEIGHT}
use Rattle.s2geodesic.specs.declared.fault.GeodesicFault.{GeodesicFault}
use Rattle.s2geodesic.specs.declared.fault.GeodesicFault.TheVariants.{LongEdge, Rings, Spread}
use Rattle.s2geodesic.specs.declared.polygon.TheConstants.{MARGIN}
use Rattle.s2polygon.specs.Directions.{Point}
use Rattle.s2polygon.specs.Leaves.{Region, is_touched}
use Rattle.s2polygon.specs.Moves.{AreMoved, IsOffMiddles, StaysClear}
use Rattle.s2polygon.specs.Rings.{AreRings, HasDirections, edge_from, rings_edges, start_of}
use Rattle.s2polygon.specs.Rings as rings
use Rattle.s2polygon.specs.declared.directions.Edge.{Edge}

-- an edge is short: its ends are directions, and the straight line between them stays clear of the cube around the
-- center whose sides are `HEIGHT` away
abbrev pub IsShort : Edge → Type 0
IsShort e = HasDirections e × StaysClear HEIGHT e

-- a polygon of these rings, with a leaf opposite all corners for the leaf outside, short edges, and the margin that
-- pays for corners that were rounded
pub record IsPolygonOf (corners : List Point) (ends : List ℕ) (r : Region) : Type 0 where
  pub leaf : r.outside < LEAVES
  pub rings : AreRings corners ends
  pub edges : r.edges ≡ rings_edges corners ends (length ends)
  pub short : All IsShort r.edges
  pub outside : LiesOpposite corners r.outside
  pub margin : r.margin ≡ MARGIN

-- an edge of the rings of these corners touches the leaf `x`, with no margin
abbrev pub touch : List Point → List ℕ → ℕ → Bool
touch corners ends x =
    is_touched (record { edges = rings_edges corners ends (length ends); outside = 0; margin = 0 }) x

-- the polygon of the true corners: of the same rings and with the same leaf outside as the polygon `r` of rounded ones,
-- without a margin
abbrev pub true_polygon : Region → List Point → List ℕ → Region
true_polygon r moved ends =
    record { edges = rings_edges moved ends (length ends); outside = r.outside; margin = 0 }

-- true corners: each is at most 0.502 away from the same one of `corners`, in each coordinate, and lies on no line
-- through the middles of leaves
pub record AreTrue (corners moved : List Point) : Type 0 where
  pub near : AreMoved 502 1000 corners moved
  pub off : All IsOffMiddles moved

-- corner `i` is one of ring `r`, and the edge from it is not short
pub record IsLong (corners : List Point) (ends : List ℕ) (r i : ℕ) : Type 0 where
  pub ring : r < length ends
  pub first : start_of ends r ≤ i
  pub last : i < get_or ends r 0
  pub long : ¬ (IsShort (edge_from corners (start_of ends r) (get_or ends r 0) i))

-- corner `i` is one of a ring, and the edge from it is not short
abbrev pub IsLongEdge : List Point → List ℕ → ℕ → Type 0
IsLongEdge corners ends i = (r : ℕ) × IsLong corners ends r i

-- what the fault says is so
abbrev pub FaultMeans : List Point → List ℕ → GeodesicFault → Type 0
FaultMeans corners ends (Rings fault) =
    (outside : ℕ) → level_of outside ≡ 30 → rings.FaultMeans corners ends outside MARGIN fault
FaultMeans corners ends (LongEdge i) = IsLongEdge corners ends i
FaultMeans corners ends Spread = AreSpread corners
