-- Which covering of a polygon is made, and what a fault of corners and rings says.
use Rattle.std.specs.Prelude.{ℕ, Bool, List}
use Rattle.s2cover.specs.Coverings.{inner_set, outer_set}
use Rattle.s2polygon.specs.Counts.{IsTooFine}
use Rattle.s2polygon.specs.Leaves.{Region, inner_leaf, outer_leaf}
use Rattle.s2union_c.specs.Polygons.{IsInnerUpTo, IsOuterUpTo, IsTooFineOuter, IsWrongCorner, IsWrongRing}
use Rattle.s2union_c.specs.declared.coverings.Side.{Side}
use Rattle.s2union_c.specs.declared.coverings.Side.TheVariants.{Outer, Inner}
use Rattle.s2union_c.specs.declared.polygons.Direction.{Direction}
use Rattle.s2union_c.specs.declared.polygons.Fault.{Fault}
use Rattle.s2union_c.specs.declared.polygons.Fault.TheVariants.{Corner, Ring, Memory}

-- the leaves of the covering of a polygon at level `k`
abbrev pub polygon_covering_of : Side → ℕ → Region → ℕ → Bool
polygon_covering_of Outer k r = outer_set (outer_leaf r) k
polygon_covering_of Inner k r = inner_set (inner_leaf r) k

-- the edges touch too many cells of level `k` for this covering
abbrev pub IsTooFineFor : Side → Region → ℕ → Type 0
IsTooFineFor Outer r k = IsTooFineOuter r k
IsTooFineFor Inner r k = IsTooFine r k

-- the cells `u` are the covering of a polygon by few cells
abbrev pub IsUpTo : Side → Region → ℕ → ℕ → List ℕ → Type 0
IsUpTo Outer r deepest most u = IsOuterUpTo r deepest most u
IsUpTo Inner r deepest most u = IsInnerUpTo r deepest most u

-- what the fault says is so
abbrev pub FaultIs : List Direction → List ℕ → Fault → Type 0
FaultIs corners ends (Corner k) = IsWrongCorner corners ends k
FaultIs corners ends (Ring r) = IsWrongRing corners ends r
FaultIs corners ends Memory = Unit {0}
