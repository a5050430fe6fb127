-- Why a shape that was written has no covering.
use Rattle.std.specs.Prelude.{◌≡◌, ◌⊎◌, ℕ, suc, ◌<◌, List, All, length, take, Ok, Err, get_or}
use Rattle.s2map.specs.Rings.{AreRings}
use Rattle.s2map.specs.declared.place.Place.{Place}
use Rattle.s2shape.specs.GeoJson.{HasGeoJsonFault, IsGeoJson}
use Rattle.s2shape.specs.Reading.{Shape}
use Rattle.s2shape.specs.Wkb.{wkb}
use Rattle.s2shape.specs.declared.fault.Fault.{Fault}
use Rattle.s2shape.specs.declared.shape.Kind.TheVariants.{Point}
use Rattle.s2shape.specs.declared.shape.Part.{Part}
use Rattle.s2shape.specs.declared.shape.Position.{Position}
use Rattle.s2written.specs.Coverings.{AreCoverings, AreFewCoverings}
use Rattle.s2written.specs.Maps.{ArePlacesOf, IsPlaceOf, IsPolygon, corners_of, ends_of, first_ring}
use Rattle.s2written.specs.Walks.{IsTooMuch}
use Rattle.s2written.specs.declared.fault.CoverError.{CoverError}
use Rattle.s2written.specs.declared.fault.CoverError.TheVariants as errors

-- part number `k`
abbrev pub part_number : List Part → ℕ → Part
part_number parts k = get_or parts k record { kind = Point; end = 0 }

-- part number `k` is the first that is a point or a line
pub record IsFirstOther (parts : List Part) (k : ℕ) : Type 0 where
  pub within : k < length parts
  pub other : IsPolygon (part_number parts k) → ⊥
  pub before : All IsPolygon (take k parts)

-- position number `i`
abbrev pub position_number : List Position → ℕ → Position
position_number positions i = get_or positions i record { longitude = 0; latitude = 0 }

-- a position of the shape has no place
pub record HasNoPlace (s : Shape) : Type 0 where
  pub i : ℕ
  pub within : i < length s.positions
  pub none : (p : Place) → IsPlaceOf (position_number s.positions i) p → ⊥

-- a part of the shape has rings that are none
pub record HasNoRings (s : Shape) : Type 0 where
  pub corners : List Place
  pub places : ArePlacesOf s.positions corners
  pub k : ℕ
  pub within : k < length s.parts
  pub none : AreRings (corners_of corners s.rings (first_ring s.parts k) (first_ring s.parts (suc k)))
      (ends_of s.rings (first_ring s.parts k) (first_ring s.parts (suc k))) → ⊥

-- what an error of a shape says is so, if `TakesMore` says which shapes take more work than is allowed
abbrev pub ErrorIs : (Shape → Type 0) → Shape → CoverError → Type 0
ErrorIs TakesMore s errors.Memory = Unit {0}
ErrorIs TakesMore s (errors.Fault f) = ⊥
ErrorIs TakesMore s (errors.NoInside k) = IsFirstOther s.parts k
ErrorIs TakesMore s errors.NoMap = HasNoPlace s ⊎ HasNoRings s
ErrorIs TakesMore s errors.TooManyCells = TakesMore s

-- no shape takes more: coverings of few cells end by themselves
abbrev pub Never : Shape → Type 0
Never s = ⊥

-- what an error of bytes says is so, if `Is` says which shapes they stand for, and `HasFault` their first fault
abbrev pub ErrorOf : (Shape → Type 0) → (Fault → Type 0) → (Shape → Type 0) → CoverError → Type 0
ErrorOf Is HasFault TakesMore errors.Memory = Unit {0}
ErrorOf Is HasFault TakesMore (errors.Fault f) = HasFault f
ErrorOf Is HasFault TakesMore e = (s : Shape) × Is s × ErrorIs TakesMore s e

-- the cells are those of coverings of the shape that the bytes of WKB stand for
abbrev pub CoversWkb : List ℕ → ℕ → List ℕ → List ℕ → Type 0
CoversWkb bytes level outer inner = (s : Shape) × (wkb bytes ≡ Ok s) × AreCoverings s level outer inner

-- the cells are those of coverings by few cells of that shape
abbrev pub CoversWkbUpTo : List ℕ → ℕ → ℕ → List ℕ → List ℕ → Type 0
CoversWkbUpTo bytes deepest most outer inner =
    (s : Shape) × (wkb bytes ≡ Ok s) × AreFewCoverings s deepest most outer inner

-- the same of a text of GeoJSON
abbrev pub CoversGeoJson : List ℕ → ℕ → List ℕ → List ℕ → Type 0
CoversGeoJson bytes level outer inner = (s : Shape) × IsGeoJson bytes (Ok s) × AreCoverings s level outer inner

-- the same by few cells
abbrev pub CoversGeoJsonUpTo : List ℕ → ℕ → ℕ → List ℕ → List ℕ → Type 0
CoversGeoJsonUpTo bytes deepest most outer inner =
    (s : Shape) × IsGeoJson bytes (Ok s) × AreFewCoverings s deepest most outer inner

-- what an error of bytes of WKB says is so
abbrev pub WkbErrorIs : List ℕ → ℕ → ℕ → CoverError → Type 0
WkbErrorIs bytes level work e =
    ErrorOf (λ s. wkb bytes ≡ Ok s) (λ f. wkb bytes ≡ Err f) (IsTooMuch level work) e

-- the same for coverings by few cells
abbrev pub WkbUpToErrorIs : List ℕ → CoverError → Type 0
WkbUpToErrorIs bytes e = ErrorOf (λ s. wkb bytes ≡ Ok s) (λ f. wkb bytes ≡ Err f) Never e

-- the same of a text of GeoJSON
abbrev pub GeoJsonErrorIs : List ℕ → ℕ → ℕ → CoverError → Type 0
GeoJsonErrorIs bytes level work e =
    ErrorOf (λ s. IsGeoJson bytes (Ok s)) (HasGeoJsonFault bytes) (IsTooMuch level work) e

-- and by few cells
abbrev pub GeoJsonUpToErrorIs : List ℕ → CoverError → Type 0
GeoJsonUpToErrorIs bytes e = ErrorOf (λ s. IsGeoJson bytes (Ok s)) (HasGeoJsonFault bytes) Never e
