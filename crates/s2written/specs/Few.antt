-- Coverings by few cells of a shape that was written, whose edges are geodesics.
use Rattle.std.specs.Prelude.{◌≡◌, ℕ, ◌<◌, ◌≤◌, All, Err, List, Ok, false, length, max, true}
use Rattle.s2cell.specs.declared.TheConstants.{LEAVES}
use Rattle.s2cover.specs.Coverings.{NoneDeeper}
use Rattle.s2cover.specs.Rough.{ComesNearInner, ComesNearOuter}
use Rattle.s2list.specs.Union.{IsLocal, has_leaf}
use Rattle.s2map.specs.declared.place.Place.{Place}
use Rattle.s2polygon.specs.Counts.{edges_met}
use Rattle.s2polygon.specs.Directions.{Point}
use Rattle.s2polygon.specs.Leaves.{Region, inner_leaf, outer_leaf}
use Rattle.s2shape.specs.GeoJson.{HasGeoJsonFault, IsGeoJson}
use Rattle.s2shape.specs.Reading.{Shape}
use Rattle.s2shape.specs.Wkb.{wkb}
use Rattle.s2written.specs.Faults.{Never}
use Rattle.s2written.specs.Geodesics.{AreCornersOf, ArePolygonsOf, AreTrueCorners, GeodesicErrorOf, any_inner}
use Rattle.s2written.specs.Geodesics.{any_outer, spans, true_polygons}
use Rattle.s2written.specs.Maps.{IsPolygon}
use Rattle.s2written.specs.Several.{CrossesOne, size_of_all}
use Rattle.s2written.specs.declared.fault.GeodesicError.{GeodesicError}

-- how many edges the polygons have, of which 2^64 - 1 are the most that count
abbrev pub edges_of_all : List Region → ℕ
edges_of_all polygons = size_of_all (λ r. length r.edges) polygons

-- `outer` is an outer covering of a shape of polygons by at most `most` cells, or 6 if that is more, and `inner` an
-- inner one by at most `most`, none deeper than `deepest`. No leaf that a true polygon touches or has inside is missing
-- from the outer one, and each leaf of the inner one lies inside a true polygon and isn't touched by it. Both come near
pub record AreFewGeodesicCoverings (s : Shape) (deepest most : ℕ) (outer inner : List ℕ) : Type 0 where
  pub alone : All IsPolygon s.parts
  pub places : List Place
  pub corners : List Point
  pub are_corners : AreCornersOf s.positions places corners
  pub polygons : List Region
  pub are_polygons : ArePolygonsOf corners s (length s.parts) polygons
  pub misses_none : (moved : List Point) (x : ℕ) → AreTrueCorners places moved → x < LEAVES
      → any_outer (true_polygons moved s.rings (spans s.parts (length s.parts)) polygons) x ≡ true
      → has_leaf outer x ≡ true
  pub none_outside : (moved : List Point) (x : ℕ) → AreTrueCorners places moved → x < LEAVES
      → has_leaf inner x ≡ true
      → any_inner (true_polygons moved s.rings (spans s.parts (length s.parts)) polygons) x ≡ true
  pub near_outer : ComesNearOuter (λ x. any_outer polygons x ≡ false) (λ x. any_inner polygons x ≡ true)
      (CrossesOne outer_leaf inner_leaf edges_met polygons) (edges_of_all polygons) deepest most outer
  pub near_inner : ComesNearInner (λ x. any_outer polygons x ≡ false)
      (CrossesOne outer_leaf inner_leaf edges_met polygons) (edges_of_all polygons) deepest most inner
  pub few_outer : length outer ≤ max most 6
  pub few_inner : length inner ≤ most
  pub level_outer : NoneDeeper deepest outer
  pub level_inner : NoneDeeper deepest inner
  pub outer_local : IsLocal outer
  pub inner_local : IsLocal inner

-- the cells are those of such coverings of the shape that the bytes of WKB stand for
abbrev pub CoversGeodesicWkbUpTo : List ℕ → ℕ → ℕ → List ℕ → List ℕ → Type 0
CoversGeodesicWkbUpTo bytes deepest most outer inner =
    (s : Shape) × (wkb bytes ≡ Ok s) × AreFewGeodesicCoverings s deepest most outer inner

-- the same of a text of GeoJSON
abbrev pub CoversGeodesicGeoJsonUpTo : List ℕ → ℕ → ℕ → List ℕ → List ℕ → Type 0
CoversGeodesicGeoJsonUpTo bytes deepest most outer inner =
    (s : Shape) × IsGeoJson bytes (Ok s) × AreFewGeodesicCoverings s deepest most outer inner

-- what an error of bytes of WKB says is so
abbrev pub GeodesicWkbUpToErrorIs : List ℕ → GeodesicError → Type 0
GeodesicWkbUpToErrorIs bytes e = GeodesicErrorOf (λ s. wkb bytes ≡ Ok s) (λ f. wkb bytes ≡ Err f) Never e

-- the same of a text of GeoJSON
abbrev pub GeodesicGeoJsonUpToErrorIs : List ℕ → GeodesicError → Type 0
GeodesicGeoJsonUpToErrorIs bytes e =
    GeodesicErrorOf (λ s. IsGeoJson bytes (Ok s)) (HasGeoJsonFault bytes) Never e
