-- The map of a shape that was written: its positions are places, and the rings of its polygons are edges between them.
use Rattle.std.specs.Prelude.{◌≡◌, ℕ, zero, suc, ◌-◌, ◌==◌, cond, List, [], ◌∷◌, ◌++◌, All, length, take, drop}
use Rattle.std.specs.Prelude.{from_bits, get_or, map}
use Rattle.std.specs.Float.{binary64}
use Rattle.std.specs.List.{AllZip}
use Rattle.s2degrees.specs.Femtodegrees.{IsFemtodegreesOf}
use Rattle.s2map.specs.Map.{IsMapPlace}
use Rattle.s2map.specs.Rings.{rings_edges}
use Rattle.s2map.specs.declared.place.MapEdge.{MapEdge}
use Rattle.s2map.specs.declared.place.Place.{Place}
use Rattle.s2polygon.specs.Rings.{start_of}
use Rattle.s2shape.specs.Reading.{Shape}
use Rattle.s2shape.specs.declared.shape.Kind.TheVariants.{Point, Polygon}
use Rattle.s2shape.specs.declared.shape.Part.{Part}
use Rattle.s2shape.specs.declared.shape.Position.{Position}

-- the place of a position: its doubles are degrees, each to the nearest femtodegree
pub record IsPlaceOf (q : Position) (p : Place) : Type 0 where
  pub longitude : IsFemtodegreesOf (from_bits binary64 q.longitude) p.longitude
  pub latitude : IsFemtodegreesOf (from_bits binary64 q.latitude) p.latitude
  pub on_map : IsMapPlace p

-- the corners are the places of the positions, one by one
abbrev pub ArePlacesOf : List Position → List Place → Type 0
ArePlacesOf positions corners = AllZip IsPlaceOf positions corners

-- the items from number `first` up to number `end`
abbrev pub between : {A : Type 0} → ℕ → ℕ → List A → List A
between first end xs = take (end - first) (drop first xs)

-- the corners of the rings from number `first` up to number `end`
abbrev pub corners_of : {A : Type 0} → List A → List ℕ → ℕ → ℕ → List A
corners_of corners rings first end = between (start_of rings first) (start_of rings end) corners

-- where these rings end, counted from the first of their corners
abbrev pub ends_of : List ℕ → ℕ → ℕ → List ℕ
ends_of rings first end = map (λ e. e - start_of rings first) (between first end rings)

-- the edges of these rings, from each corner to the next, and from the last of a ring to its first
abbrev pub edges_of : List Place → List ℕ → ℕ → ℕ → List MapEdge
edges_of corners rings first end =
    rings_edges (corners_of corners rings first end) (ends_of rings first end) (length (ends_of rings first end))

-- how many rings there are before part number `k`
abbrev pub first_ring : List Part → ℕ → ℕ
first_ring parts zero = 0
first_ring parts (suc k) = (get_or parts k record { kind = Point; end = 0 }).end

-- the edges of the first `n` parts, part by part; one without a ring is left out, since it has no inside
abbrev pub parts_edges : List Place → List ℕ → List Part → ℕ → List (List MapEdge)
parts_edges corners rings parts zero = []
parts_edges corners rings parts (suc n) =
    parts_edges corners rings parts n ++ cond (first_ring parts (suc n) == first_ring parts n) []
    (edges_of corners rings (first_ring parts n) (first_ring parts (suc n)) ∷ [])

-- the part is a polygon
abbrev pub IsPolygon : Part → Type 0
IsPolygon part = part.kind ≡ Polygon

-- the shape has polygons alone, and these are their edges between the places of its positions
pub record IsMapOf (s : Shape) (edges : List (List MapEdge)) : Type 0 where
  pub corners : List Place
  pub places : ArePlacesOf s.positions corners
  pub polygons : All IsPolygon s.parts
  pub edges_are : edges ≡ parts_edges corners s.rings s.parts (length s.parts)
