-- Rounded corners of positions, and errors of a part.
use Rattle.std.specs.Prelude.{◌≡◌, ℕ, List}
use Rattle.s2geodesic.specs.Halves.{AreSpread}
use Rattle.s2map.specs.declared.place.Place.{Place}
use Rattle.s2polygon.specs.Directions.{Point}
use Rattle.s2shape.specs.declared.shape.Position.{Position}
use Rattle.s2written.specs.Geodesics.{AreCornersOf, AreNone, HasLongEdge}
use Rattle.s2written.specs.declared.fault.GeodesicError.{GeodesicError}
use Rattle.s2written.specs.declared.fault.GeodesicError.TheVariants as errors

-- the corners are the rounded directions of the positions
abbrev pub HasCorners : List Position → List Point → Type 0
HasCorners positions corners = (places : List Place) × AreCornersOf positions places corners

-- what an error of a part with these corners and ends says is so
abbrev pub PartErrorIs : List Point → List ℕ → ℕ → GeodesicError → Type 0
PartErrorIs corners ends part errors.Memory = Unit {0}
PartErrorIs corners ends part (errors.Fault f) = ⊥
PartErrorIs corners ends part (errors.NoInside k) = ⊥
PartErrorIs corners ends part errors.NoMap = AreNone corners ends
PartErrorIs corners ends part (errors.LongEdge k) = (k ≡ part) × HasLongEdge corners ends
PartErrorIs corners ends part (errors.Spread k) = (k ≡ part) × AreSpread corners
PartErrorIs corners ends part errors.TooManyCells = ⊥
