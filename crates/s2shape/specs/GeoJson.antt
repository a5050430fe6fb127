-- GeoJSON: which shape the value of a JSON text stands for, or its first fault. A position is what its first two
-- numbers say, whatever follows them in its list. Members of an object that are not named here are passed over.
use Rattle.std.specs.Prelude.{◌≡◌, ◌⊎◌, ℕ, zero, suc, List, [], Bool, true, false, not, codes, is_nan, to_bits}
use Rattle.std.specs.Prelude.{if◌then◌else◌, Option, Some, None, option_and_then, Result, Ok, Err}
use Rattle.std.specs.Float.{Float, binary64}
use Rattle.std.specs.Float.Parse.{parse_float}
use Rattle.std.specs.Str.{IsUtf8, bytes_eq}
use Rattle.json.specs.Find.{as_array, as_number, as_str, at, get, is_null}
use Rattle.json.specs.Json.{Json, Items, no_items, item, document}
use Rattle.json.specs.Strict.{HasUniqueKeys}
use Rattle.s2shape.specs.Reading.{Read, Shape, begin, closed_ring, fault_at, ranged, shape_of, with_part, with_ring}
use Rattle.s2shape.specs.Reading.{◌>>=◌}
use Rattle.s2shape.specs.declared.fault.Fault.{Fault}
use Rattle.s2shape.specs.declared.fault.FaultName.{FaultName}
use Rattle.s2shape.specs.declared.fault.FaultName.TheVariants as names
use Rattle.s2shape.specs.declared.fault.ShapeError.{ShapeError}
use Rattle.s2shape.specs.declared.fault.ShapeError.TheVariants as errors
use Rattle.s2shape.specs.declared.geojson.Named.{Named}
use Rattle.s2shape.specs.declared.geojson.Named.TheVariants.{One, Many, Geometries, Features, Feature}
use Rattle.s2shape.specs.declared.shape.Kind.{Kind}
use Rattle.s2shape.specs.declared.shape.Kind.TheVariants as kinds
use Rattle.s2shape.specs.declared.shape.Position.{Position}

-- reads a value of JSON
abbrev pub Step : Type 0
Step = Json → Read → Result Read Fault

-- a fault after what was read. A value of JSON has no bytes
abbrev pub fault_after : FaultName → Read → Fault
fault_after name r = fault_at name (r, [])

-- the bits of a double that is a number
abbrev pub bits_of : Float → Option ℕ
bits_of x = if is_nan x then None else Some (to_bits binary64 x)

-- the bits of the double that is nearest to a text
abbrev pub degrees : List ℕ → Option ℕ
degrees text = option_and_then bits_of (parse_float binary64 text)

-- the number with this index in a list
abbrev pub number_at : ℕ → Json → Option ℕ
number_at k j = option_and_then degrees (option_and_then as_number (at k j))

-- two numbers as a position, if both are there
abbrev pub both : Option ℕ → Option ℕ → Option Position
both None y = None
both (Some x) None = None
both (Some x) (Some y) = Some record { longitude = x; latitude = y }

-- one more position, if it is there, and is a place of the map
abbrev pub placed : Option Position → Read → Result Read Fault
placed None r = Err (fault_after names.Position r)
placed (Some p) r = ranged p (r, [])

-- a position: a list that begins with two numbers, a longitude and a latitude
unfoldable pub position : Step
position j r = placed (both (number_at 0 j) (number_at 1 j)) r

-- a step for each item
unfoldable pub each : Step → Items → Read → Result Read Fault
each step no_items r = Ok r
each step (item j js) r = step j r >>= each step js

-- a step for the items of a list, which has to be there
abbrev pub listed : (Items → Read → Result Read Fault) → Option Items → Read → Result Read Fault
listed step None r = Err (fault_after names.Missing r)
listed step (Some js) r = step js r

-- a step for each item of a list
abbrev pub each_in : Step → Step
each_in step j r = listed (each step) (as_array j) r

-- a position as a line of its own
unfoldable pub single : Step
single j r = position j r >>= λ s. Ok (with_ring s)

-- a step for a value, unless it is a list without items
abbrev pub unless_empty : Step → Json → Items → Read → Result Read Fault
unless_empty step j no_items r = Ok r
unless_empty step j (item x xs) r = step j r

-- a point, which has no position if its list is empty
unfoldable pub point : Step
point j r = listed (unless_empty single j) (as_array j) r

-- a list of positions
unfoldable pub line : Step
line j r = each_in position j r >>= λ s. Ok (with_ring s)

-- the same, of a ring
unfoldable pub ring : Step
ring j r = each_in position j r >>= λ s. closed_ring (s, [])

-- a list of rings
unfoldable pub polygon : Step
polygon j r = each_in ring j r

-- the coordinates of a point, a line or a polygon
abbrev pub inside : Kind → Step
inside kinds.Point j r = point j r
inside kinds.Line j r = line j r
inside kinds.Polygon j r = polygon j r

-- the same, and the part ends
unfoldable pub one : Kind → Step
one kind j r = inside kind j r >>= λ s. Ok (with_part kind s)

-- what a type is called
unfoldable pub named : List ℕ → Option Named
named name =
    if bytes_eq name (codes "Point") then Some (One kinds.Point)
    else if bytes_eq name (codes "LineString") then Some (One kinds.Line)
    else if bytes_eq name (codes "Polygon") then Some (One kinds.Polygon)
    else if bytes_eq name (codes "MultiPoint") then Some (Many kinds.Point)
    else if bytes_eq name (codes "MultiLineString") then Some (Many kinds.Line)
    else if bytes_eq name (codes "MultiPolygon") then Some (Many kinds.Polygon)
    else if bytes_eq name (codes "GeometryCollection") then Some Geometries
    else if bytes_eq name (codes "FeatureCollection") then Some Features
    else if bytes_eq name (codes "Feature") then Some Feature else None

-- the items of a member that is a list
abbrev pub items_in : List ℕ → Json → Option Items
items_in name j = option_and_then as_array (get name j)

-- a member that has to be there
abbrev pub given : Step → Option Json → Read → Result Read Fault
given step None r = Err (fault_after names.Missing r)
given step (Some j) r = step j r

-- a member that may be missing or null
abbrev pub unless_null : Step → Option Json → Read → Result Read Fault
unless_null step None r = Ok r
unless_null step (Some j) r = if is_null j then Ok r else step j r

-- what an object of this type has, in which `member` reads other objects
abbrev pub content : Step → Named → Step
content member (One kind) j r = given (one kind) (get (codes "coordinates") j) r
content member (Many kind) j r = listed (each (one kind)) (items_in (codes "coordinates") j) r
content member Geometries j r = listed (each member) (items_in (codes "geometries") j) r
content member Features j r = listed (each member) (items_in (codes "features") j) r
content member Feature j r = unless_null member (get (codes "geometry") j) r

-- an object of a type that has a covering, if it is not in too many others
abbrev pub covered : Step → Bool → Option Named → Step
covered member is_deep None j r = Err (fault_after names.Uncovered r)
covered member is_deep (Some name) j r =
    if is_deep then Err (fault_after names.Deep r) else content member name j r

-- the same of a type that has to be there
abbrev pub typed : Step → Bool → Option (List ℕ) → Step
typed member is_deep None j r = Err (fault_after names.NoType r)
typed member is_deep (Some name) j r = covered member is_deep (named name) j r

-- an object by its type, a text
abbrev pub by_type : Step → Bool → Step
by_type member is_deep j r = typed member is_deep (option_and_then as_str (get (codes "type") j)) j r

-- a geometry, a feature, or a collection of them, which may have this many less one such in each other
unfoldable pub object : ℕ → Step
object zero j r = by_type (λ _ s. Ok s) true j r
object (suc depth) j r = by_type (object depth) false j r

-- the shape that a value stands for, or its first fault
unfoldable pub shape_in : Json → Result Shape Fault
shape_in j = object 33 j (begin []) >>= λ r. Ok (shape_of r)

-- the bytes are a text of JSON, no object of which has a name twice, and stand for this shape or have this fault
pub record IsGeoJson (bytes : List ℕ) (read : Result Shape Fault) : Type 0 where
  pub text : IsUtf8 bytes
  pub value : Json
  pub is : document bytes ≡ Some value
  pub unique : HasUniqueKeys value
  pub reads : shape_in value ≡ read

-- a fault of a text as a whole
abbrev pub whole_fault : FaultName → Fault
whole_fault name = fault_after name (begin [])

-- the bytes are no text
pub record IsNoText (bytes : List ℕ) : Type 0 where
  pub is : IsUtf8 bytes → ⊥

-- the text is no JSON
pub record IsNoJson (bytes : List ℕ) : Type 0 where
  pub text : IsUtf8 bytes
  pub is : document bytes ≡ None

-- an object of the text has a name twice
pub record HasTwice (bytes : List ℕ) : Type 0 where
  pub text : IsUtf8 bytes
  pub value : Json
  pub is : document bytes ≡ Some value
  pub twice : HasUniqueKeys value → ⊥

-- the first fault of bytes that are no GeoJSON
abbrev pub HasGeoJsonFault : List ℕ → Fault → Type 0
HasGeoJsonFault bytes fault = (IsNoText bytes × (fault ≡ whole_fault names.Utf8))
    ⊎ ((IsNoJson bytes × (fault ≡ whole_fault names.Json))
    ⊎ ((HasTwice bytes × (fault ≡ whole_fault names.Twice)) ⊎ IsGeoJson bytes (Err fault)))

-- an error that reading these bytes may give
abbrev pub FailsAsGeoJson : List ℕ → ShapeError → Type 0
FailsAsGeoJson bytes errors.Memory = Unit {0}
FailsAsGeoJson bytes (errors.Fault fault) = HasGeoJsonFault bytes fault
