-- What the calls that read a shape write: its positions as doubles, and where each of its rings and lines ends.
use Rattle.std.specs.Prelude.{◌≡◌, ◌<◌, ◌⊎◌, ◌-◌, ◌^◌, ℕ, suc, ℤ, List, [], ◌∷◌, map, length, nat_lt, if◌then◌else◌}
use Rattle.std.specs.Prelude.{Ok, from_bits}
use Rattle.std.specs.Float.{binary64}
use Rattle.s2shape.specs.GeoJson.{FailsAsGeoJson, IsGeoJson}
use Rattle.s2shape.specs.Reading.{Fails, Shape}
use Rattle.s2shape.specs.Wkb.{wkb}
use Rattle.s2shape.specs.declared.fault.ShapeError.{ShapeError}
use Rattle.s2shape.specs.declared.fault.ShapeError.TheVariants as errors
use Rattle.s2shape.specs.declared.shape.Kind.{Kind}
use Rattle.s2shape.specs.declared.shape.Kind.TheVariants as kinds
use Rattle.s2shape.specs.declared.shape.Part.{Part}
use Rattle.s2shape.specs.declared.shape.Position.{Position}
use Rattle.s2union_c.specs.Results.{IsWritten}
use Rattle.s2union_c.specs.Shapes.{told}
use Rattle.s2union_c.specs.Status.{bad_shape, made, no_memory, no_room}
use Rattle.s2union_c.specs.declared.reading.Place.{Place}
use Rattle.s2union_c.specs.declared.reading.Ring.{Ring}
use Rattle.s2union_c.specs.declared.shapes.ShapeFault.{ShapeFault}

-- the doubles of a position
abbrev pub place_of : Position → Place
place_of p = record { longitude = from_bits binary64 p.longitude; latitude = from_bits binary64 p.latitude }

-- in the place of a polygon's number: a line or a point
abbrev pub no_polygon : ℕ
no_polygon = 2 ^ 64 - 1

-- the polygon's number, if the part with this number is one
abbrev pub polygon_number : Kind → ℕ → ℕ
polygon_number kinds.Polygon part = part
polygon_number kinds.Line part = no_polygon
polygon_number kinds.Point part = no_polygon

-- the polygon of the ring with this number, which lies in the first of these parts that ends beyond it; `before` parts
-- come before these
unfoldable pub polygon_of_ring : ℕ → ℕ → List Part → ℕ
polygon_of_ring ring before [] = no_polygon
polygon_of_ring ring before (part ∷ parts) =
    if nat_lt ring part.end then polygon_number part.kind before else polygon_of_ring ring (suc before) parts

-- of each ring or line, from the one with this number on: how many positions there are up to its end, and its polygon
unfoldable pub rings_from : ℕ → List ℕ → List Part → List Ring
rings_from first [] parts = []
rings_from first (end ∷ ends) parts =
    record { end = end; polygon = polygon_of_ring first 0 parts } ∷ rings_from (suc first) ends parts

-- the positions and the rings of a shape
abbrev pub places_of : Shape → List Place
places_of s = map place_of s.positions

-- the rings and lines of a shape, with their ends and polygons
abbrev pub rings_of : Shape → List Ring
rings_of s = rings_from 0 s.rings s.parts

-- two lists that calls write to: what each had, what each has now, and the length that is told
pub record Lists : Type 0 where
  pub places_old : List Place
  pub places_new : List Place
  pub places_len : ℕ
  pub rings_old : List Ring
  pub rings_new : List Ring
  pub rings_len : ℕ

-- both lists are as they were
pub record AreSame (l : Lists) : Type 0 where
  pub places : l.places_new ≡ l.places_old
  pub rings : l.rings_new ≡ l.rings_old

-- the positions and the rings are in their lists
pub record WritesShape (s : Shape) (status : ℤ) (l : Lists) : Type 0 where
  pub status_is : status ≡ made
  pub places : IsWritten (places_of s) l.places_old l.places_new l.places_len
  pub rings : IsWritten (rings_of s) l.rings_old l.rings_new l.rings_len

-- one of the two is longer than its list: both lengths are told, and nothing is written
pub record HasNoRoomForShape (s : Shape) (status : ℤ) (l : Lists) : Type 0 where
  pub status_is : status ≡ no_room
  pub places_len_is : l.places_len ≡ length (places_of s)
  pub rings_len_is : l.rings_len ≡ length (rings_of s)
  pub short : (length l.places_old < length (places_of s)) ⊎ (length l.rings_old < length (rings_of s))
  pub same : AreSame l

-- the shape was written, or is longer than its lists
abbrev pub MadeShape : Shape → ℤ → Lists → Type 0
MadeShape s status l = WritesShape s status l ⊎ HasNoRoomForShape s status l

-- the status and the fault tell why there is no shape
abbrev pub TellsError : ShapeError → ℤ → ShapeFault → ShapeFault → Type 0
TellsError errors.Memory status old new = (status ≡ no_memory) × (new ≡ old)
TellsError (errors.Fault f) status old new = (status ≡ bad_shape) × (new ≡ told f)

-- an error is told, both lengths are 0, and nothing is written
pub record RefusesShape (e : ShapeError) (status : ℤ) (l : Lists) (old_fault new_fault : ShapeFault) : Type 0 where
  pub tells : TellsError e status old_fault new_fault
  pub places_len_is : l.places_len ≡ 0
  pub rings_len_is : l.rings_len ≡ 0
  pub same : AreSame l

-- a shape with the first property was written, or is longer than its lists, and the fault is as it was; or an error
-- with the second property is told
abbrev pub ReadsShape : (Shape → Type 0) → (ShapeError → Type 0) → ℤ → Lists → ShapeFault → ShapeFault → Type 0
ReadsShape P Q status l old_fault new_fault = ((s : Shape) × P s × MadeShape s status l × (new_fault ≡ old_fault))
    ⊎ ((e : ShapeError) × Q e × RefusesShape e status l old_fault new_fault)

-- the shape that bytes of WKB stand for is written, or why they stand for none is told
abbrev pub ReadsWkb : List ℕ → ℤ → Lists → ShapeFault → ShapeFault → Type 0
ReadsWkb bytes = ReadsShape (λ s. wkb bytes ≡ Ok s) (λ e. Fails e (wkb bytes))

-- the same of a text of GeoJSON
abbrev pub ReadsGeoJson : List ℕ → ℤ → Lists → ShapeFault → ShapeFault → Type 0
ReadsGeoJson text = ReadsShape (λ s. IsGeoJson text (Ok s)) (FailsAsGeoJson text)
