-- Coverings of a shape that was written, whose edges are geodesics: the short ways on the sphere.
use Rattle.std.specs.Prelude.{◌≡◌, ◌⊎◌, ℕ, zero, suc, ◌*◌, ◌<◌, ◌≤◌, ◌==◌, ℤ, pos, ◌-ℤ◌, ◌*ℤ◌, unsigned_abs, cond}
use Rattle.std.specs.Prelude.{List, [], ◌∷◌, ◌++◌, All, Bool, Contains, length, Ok, Err, true}
use Rattle.std.specs.List.{AllZip, list_any, sum_by}
use Rattle.s2cell.specs.declared.TheConstants.{LEAVES}
use Rattle.s2cover.specs.Coverings.{inner_set, outer_set}
use Rattle.s2degrees.specs.Degrees.{IsCosine, IsSine}
use Rattle.s2degrees.specs.Directions.{IsDirectionOf}
use Rattle.s2geodesic.specs.Halves.{AreSpread}
use Rattle.s2geodesic.specs.Rounded.{FaultMeans, IsLongEdge, IsPolygonOf, true_polygon}
use Rattle.s2geodesic.specs.declared.fault.GeodesicFault.TheVariants.{Rings as OfRings}
use Rattle.s2list.specs.Union.{IsLocal, IsNormalForm, has_leaf}
use Rattle.s2map.specs.declared.place.Place.{Place}
use Rattle.s2polygon.specs.Counts.{IsTooFine}
use Rattle.s2polygon.specs.Directions.{Point}
use Rattle.s2polygon.specs.Leaves.{Region, inner_leaf, outer_leaf}
use Rattle.s2polygon.specs.Moves.{IsOffMiddles}
use Rattle.s2polygon.specs.declared.fault.PolygonFault.{PolygonFault}
use Rattle.s2shape.specs.GeoJson.{HasGeoJsonFault, IsGeoJson}
use Rattle.s2shape.specs.Reading.{Shape}
use Rattle.s2shape.specs.Wkb.{wkb}
use Rattle.s2shape.specs.declared.fault.Fault.{Fault}
use Rattle.s2shape.specs.declared.shape.Part.{Part}
use Rattle.s2shape.specs.declared.shape.Position.{Position}
use Rattle.s2written.specs.Faults.{HasNoPlace, IsFirstOther}
use Rattle.s2written.specs.Maps.{ArePlacesOf, IsPolygon, corners_of, ends_of, first_ring}
use Rattle.s2written.specs.declared.fault.GeodesicError.{GeodesicError}
use Rattle.s2written.specs.declared.fault.GeodesicError.TheVariants as errors

-- ---- true corners
-- a sum of a sine or a cosine: over / under
pub record SumOf (Is : ℤ → ℕ → Type 0) : Type 0 where
  pub over : ℤ
  pub under : ℕ
  pub some : 0 < under
  pub is : Is over under

-- y / scale is at most a thousandth away from (2^31 - 1) * a / b
abbrev pub IsBeside : ℕ → ℤ → ℤ → ℕ → Type 0
IsBeside scale y a b =
    1000 * unsigned_abs (y *ℤ pos b -ℤ pos scale *ℤ (pos 2147483647 *ℤ a)) ≤ scale * b

-- `q / scale` is the point of the place on the sphere of radius 2^31 - 1, by sums of sines and cosines: each coordinate
-- is at most a thousandth away, which is 3 micrometers on the earth
pub record IsTrueCorner (p : Place) (q : Point) : Type 0 where
  pub scale : ℕ
  pub some : 0 < scale
  pub longitude_cosine : SumOf (IsCosine p.longitude)
  pub longitude_sine : SumOf (IsSine p.longitude)
  pub latitude_cosine : SumOf (IsCosine p.latitude)
  pub latitude_sine : SumOf (IsSine p.latitude)
  pub x : IsBeside scale q.x (longitude_cosine.over *ℤ latitude_cosine.over)
      (longitude_cosine.under * latitude_cosine.under)
  pub y : IsBeside scale q.y (longitude_sine.over *ℤ latitude_cosine.over)
      (longitude_sine.under * latitude_cosine.under)
  pub z : IsBeside scale q.z latitude_sine.over latitude_sine.under

-- true corners of the places, one by one, none of them on a line through the middles of leaves
pub record AreTrueCorners (places : List Place) (moved : List Point) : Type 0 where
  pub near : AllZip IsTrueCorner places moved
  pub off : All IsOffMiddles moved

-- ---- polygons
-- the rings of a part: from number `first` up to number `end`
pub record Span : Type 0 where
  pub first : ℕ
  pub end : ℕ

-- those of the first `n` parts, part by part; one without a ring is left out, since it has no inside
abbrev pub spans : List Part → ℕ → List Span
spans parts zero = []
spans parts (suc n) =
    spans parts n ++ cond (first_ring parts (suc n) == first_ring parts n) []
    (record { first = first_ring parts n; end = first_ring parts (suc n) } ∷ [])

-- the direction of a place, rounded
abbrev pub IsRoundedCorner : Place → Point → Type 0
IsRoundedCorner p d = IsDirectionOf p.longitude p.latitude d

-- the corners are the rounded directions of the positions, whose places these are
pub record AreCornersOf (positions : List Position) (places : List Place) (corners : List Point) : Type 0 where
  pub are_places : ArePlacesOf positions places
  pub rounded : AllZip IsRoundedCorner places corners

-- the polygon of these rings, between rounded corners
abbrev pub IsPolygonOfSpan : List Point → List ℕ → Span → Region → Type 0
IsPolygonOfSpan corners rings span r =
    IsPolygonOf (corners_of corners rings span.first span.end) (ends_of rings span.first span.end) r

-- those of the first `n` parts of the shape
abbrev pub ArePolygonsOf : List Point → Shape → ℕ → List Region → Type 0
ArePolygonsOf corners s n polygons = AllZip (IsPolygonOfSpan corners s.rings) (spans s.parts n) polygons

-- the same polygons between true corners, without a margin
abbrev pub true_polygons : List Point → List ℕ → List Span → List Region → List Region
true_polygons moved rings [] rs = []
true_polygons moved rings (span ∷ ss) [] = []
true_polygons moved rings (span ∷ ss) (r ∷ rs) =
    true_polygon r (corners_of moved rings span.first span.end) (ends_of rings span.first span.end)
    ∷ true_polygons moved rings ss rs

-- ---- coverings
-- the leaf `x` is an outer leaf of one of the polygons
abbrev pub any_outer : List Region → ℕ → Bool
any_outer polygons x = list_any (λ r. outer_leaf r x) polygons

-- the leaf `x` is an inner leaf of one of the polygons
abbrev pub any_inner : List Region → ℕ → Bool
any_inner polygons x = list_any (λ r. inner_leaf r x) polygons

-- the leaves of all cells of the level that have an outer leaf of one of the polygons
abbrev pub any_outer_set : List Region → ℕ → ℕ → Bool
any_outer_set polygons level x = list_any (λ r. outer_set (outer_leaf r) level x) polygons

-- the leaves of all cells of the level that have inner leaves of one of the polygons alone
abbrev pub any_inner_set : List Region → ℕ → ℕ → Bool
any_inner_set polygons level x = list_any (λ r. inner_set (inner_leaf r) level x) polygons

-- the normal forms of a set of each of the polygons have `n` cells together
pub record HaveTogether (set : Region → ℕ → Bool) (polygons : List Region) (n : ℕ) : Type 0 where
  pub form : Region → List ℕ
  pub are_forms : All (λ r. IsNormalForm (set r) (form r)) polygons
  pub count : n ≡ sum_by (λ r. length (form r)) polygons

-- they have at most `max`
abbrev pub HaveAtMost : (Region → ℕ → Bool) → ℕ → List Region → Type 0
HaveAtMost set max polygons = (n : ℕ) × HaveTogether set polygons n × (n ≤ max)

-- they have more than `max`
abbrev pub HaveMore : (Region → ℕ → Bool) → ℕ → List Region → Type 0
HaveMore set max polygons = (n : ℕ) × HaveTogether set polygons n × (max < n)

-- `outer` is an outer covering of a shape of polygons, and `inner` an inner one, both of the level and normalized. No
-- leaf that a true polygon touches or has inside is missing from the outer one, and each leaf of the inner one lies
-- inside a true polygon and isn't touched by it. The coverings of all polygons have together at most `max` cells each
pub record AreGeodesicCoverings (s : Shape) (level max : ℕ) (outer inner : List ℕ) : Type 0 where
  pub alone : All IsPolygon s.parts
  pub places : List Place
  pub corners : List Point
  pub are_corners : AreCornersOf s.positions places corners
  pub polygons : List Region
  pub are_polygons : ArePolygonsOf corners s (length s.parts) polygons
  pub outer_is : (x : ℕ) → has_leaf outer x ≡ any_outer_set polygons level x
  pub inner_is : (x : ℕ) → has_leaf inner x ≡ any_inner_set polygons level x
  pub outer_few : HaveAtMost (λ r. outer_set (outer_leaf r) level) max polygons
  pub inner_few : HaveAtMost (λ r. inner_set (inner_leaf r) level) max polygons
  pub misses_none : (moved : List Point) (x : ℕ) → AreTrueCorners places moved → x < LEAVES
      → any_outer (true_polygons moved s.rings (spans s.parts (length s.parts)) polygons) x ≡ true
      → has_leaf outer x ≡ true
  pub none_outside : (moved : List Point) (x : ℕ) → AreTrueCorners places moved → x < LEAVES
      → has_leaf inner x ≡ true
      → any_inner (true_polygons moved s.rings (spans s.parts (length s.parts)) polygons) x ≡ true
  pub outer_local : IsLocal outer
  pub inner_local : IsLocal inner

-- ---- errors
-- so it is of the rounded corners and the ends of part number `k`
pub record HasPart (s : Shape) (k : ℕ) (P : List Point → List ℕ → Type 0) : Type 0 where
  pub within : k < length s.parts
  pub places : List Place
  pub corners : List Point
  pub are_corners : AreCornersOf s.positions places corners
  pub is : P (corners_of corners s.rings (first_ring s.parts k) (first_ring s.parts (suc k)))
      (ends_of s.rings (first_ring s.parts k) (first_ring s.parts (suc k)))

-- the rings are none
abbrev pub AreNone : List Point → List ℕ → Type 0
AreNone corners ends = (fault : PolygonFault) × FaultMeans corners ends (OfRings fault)

-- an edge of the rings is too long
abbrev pub HasLongEdge : List Point → List ℕ → Type 0
HasLongEdge corners ends = (i : ℕ) × IsLongEdge corners ends i

-- the edges of one of the polygons touch too many cells of the level
pub record IsOneTooFine (level : ℕ) (polygons : List Region) : Type 0 where
  pub polygon : Region
  pub one : Contains polygons polygon
  pub fine : IsTooFine polygon level

-- the outer coverings of the polygons have together more than `max` cells, or the inner ones have, or the edges of one
-- touch too many of the level
abbrev pub HaveTooMany : ℕ → ℕ → List Region → Type 0
HaveTooMany level max polygons =
    HaveMore (λ r. outer_set (outer_leaf r) level) max polygons
    ⊎ HaveMore (λ r. inner_set (inner_leaf r) level) max polygons ⊎ IsOneTooFine level polygons

-- so it is of the polygons of the shape
pub record HasTooMany (level max : ℕ) (s : Shape) : Type 0 where
  pub places : List Place
  pub corners : List Point
  pub are_corners : AreCornersOf s.positions places corners
  pub polygons : List Region
  pub are_polygons : ArePolygonsOf corners s (length s.parts) polygons
  pub too_many : HaveTooMany level max polygons

-- what an error of a shape says is so, if `TakesMore` says which shapes take more cells than are allowed
abbrev pub GeodesicErrorIs : (Shape → Type 0) → Shape → GeodesicError → Type 0
GeodesicErrorIs TakesMore s errors.Memory = Unit {0}
GeodesicErrorIs TakesMore s (errors.Fault f) = ⊥
GeodesicErrorIs TakesMore s (errors.NoInside k) = IsFirstOther s.parts k
GeodesicErrorIs TakesMore s errors.NoMap = HasNoPlace s ⊎ ((k : ℕ) × HasPart s k AreNone)
GeodesicErrorIs TakesMore s (errors.LongEdge k) = HasPart s k HasLongEdge
GeodesicErrorIs TakesMore s (errors.Spread k) = HasPart s k (λ corners ends. AreSpread corners)
GeodesicErrorIs TakesMore s errors.TooManyCells = TakesMore s

-- what an error of bytes says is so, if `Is` says which shapes they stand for, and `HasFault` their first fault
abbrev pub GeodesicErrorOf : (Shape → Type 0) → (Fault → Type 0) → (Shape → Type 0) → GeodesicError → Type 0
GeodesicErrorOf Is HasFault TakesMore errors.Memory = Unit {0}
GeodesicErrorOf Is HasFault TakesMore (errors.Fault f) = HasFault f
GeodesicErrorOf Is HasFault TakesMore e = (s : Shape) × Is s × GeodesicErrorIs TakesMore s e

-- the cells are those of coverings of the shape that the bytes of WKB stand for
abbrev pub CoversGeodesicWkb : List ℕ → ℕ → ℕ → List ℕ → List ℕ → Type 0
CoversGeodesicWkb bytes level max outer inner =
    (s : Shape) × (wkb bytes ≡ Ok s) × AreGeodesicCoverings s level max outer inner

-- the same of a text of GeoJSON
abbrev pub CoversGeodesicGeoJson : List ℕ → ℕ → ℕ → List ℕ → List ℕ → Type 0
CoversGeodesicGeoJson bytes level max outer inner =
    (s : Shape) × IsGeoJson bytes (Ok s) × AreGeodesicCoverings s level max outer inner

-- what an error of bytes of WKB says is so
abbrev pub GeodesicWkbErrorIs : List ℕ → ℕ → ℕ → GeodesicError → Type 0
GeodesicWkbErrorIs bytes level max e =
    GeodesicErrorOf (λ s. wkb bytes ≡ Ok s) (λ f. wkb bytes ≡ Err f) (HasTooMany level max) e

-- the same of a text of GeoJSON
abbrev pub GeodesicGeoJsonErrorIs : List ℕ → ℕ → ℕ → GeodesicError → Type 0
GeodesicGeoJsonErrorIs bytes level max e =
    GeodesicErrorOf (λ s. IsGeoJson bytes (Ok s)) (HasGeoJsonFault bytes) (HasTooMany level max) e
