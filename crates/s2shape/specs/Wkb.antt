-- WKB and EWKB: which shape bytes stand for, or their first fault.
use Rattle.std.specs.Prelude.{ℕ, zero, suc, ◌*◌, List, length, drop, slice_index, Bool, true, false, not, ◌==◌, ◌&&◌}
use Rattle.std.specs.Prelude.{◌||◌}
use Rattle.std.specs.Prelude.{nat_lt, if◌then◌else◌, Option, Some, None, Result, Ok, Err}
use Rattle.s2shape.specs.Head.{layout_of}
use Rattle.s2shape.specs.Numbers.{number, is_nan}
use Rattle.s2shape.specs.Reading.{Left, Shape, begin, checked, closed_ring, fault_at, shape_of, times}
use Rattle.s2shape.specs.Reading.{with_part, with_ring, ◌>>=◌}
use Rattle.s2shape.specs.declared.fault.Fault.{Fault}
use Rattle.s2shape.specs.declared.fault.FaultName.{FaultName}
use Rattle.s2shape.specs.declared.fault.FaultName.TheVariants as names
use Rattle.s2shape.specs.declared.head.Form.{Form}
use Rattle.s2shape.specs.declared.head.Form.TheVariants.{One, Many}
use Rattle.s2shape.specs.declared.head.Head.{Head}
use Rattle.s2shape.specs.declared.head.Layout.{Layout}
use Rattle.s2shape.specs.declared.head.Endian.{Endian}
use Rattle.s2shape.specs.declared.head.Endian.TheVariants.{Big, Little}
use Rattle.s2shape.specs.declared.shape.Kind.{Kind}
use Rattle.s2shape.specs.declared.shape.Kind.TheVariants as kinds
use Rattle.s2shape.specs.declared.shape.Position.{Position}

-- the order of bytes that a geometry begins with: 1 is the lowest byte first
abbrev pub order_of : List ℕ → Endian
order_of bytes = if slice_index bytes 0 == 0 then Big else Little

-- a name, with its place
abbrev pub placed : {A : Type 0} → Left → Result A FaultName → Result A Fault
placed x (Ok a) = Ok a
placed x (Err name) = Err (fault_at name x)

-- the head of a geometry, of numbers in this order
abbrev pub with_layout : Endian → Layout → Head
with_layout endian l = record { endian = endian; form = l.form; stride = l.stride }

-- an SRID of degrees, after the type
unfoldable pub after_type : Endian → Left → Layout → Result (Head × List ℕ) Fault
after_type endian x l =
    if not l.has_srid then Ok (with_layout endian l, drop 5 x.1)
    else if nat_lt (length x.1) 9 then Err (fault_at names.Truncated x)
    else if (number endian 4 (drop 5 x.1) == 0) || (number endian 4 (drop 5 x.1) == 4326)
    then Ok (with_layout endian l, drop 9 x.1)
    else Err (fault_at names.Srid x)

-- the head of a geometry, and the bytes after it
unfoldable pub head_at : Left → Result (Head × List ℕ) Fault
head_at x =
    if length x.1 == 0 then Err (fault_at names.Truncated x)
    else if nat_lt 1 (slice_index x.1 0) then Err (fault_at names.Order x)
    else if nat_lt (length x.1) 5 then Err (fault_at names.Truncated x)
    else placed x (layout_of (number (order_of x.1) 4 (drop 1 x.1))) >>= after_type (order_of x.1) x

-- a count, in four bytes, of elements that have at least `least` bytes each, all of which follow
unfoldable pub count_at : Endian → ℕ → Left → Result (ℕ × List ℕ) Fault
count_at endian least x =
    if nat_lt (length x.1) 4 then Err (fault_at names.Truncated x)
    else if nat_lt (length (drop 4 x.1)) (number endian 4 x.1 * least) then Err (fault_at names.Count x)
    else Ok (number endian 4 x.1, drop 4 x.1)

-- a longitude and a latitude, of eight bytes each
abbrev pub position_in : Endian → List ℕ → Position
position_in endian bytes = record { longitude = number endian 8 bytes; latitude = number endian 8 (drop 8 bytes) }

-- a position, of which all after the first two numbers is passed over
unfoldable pub position_at : Endian → ℕ → Left → Result Left Fault
position_at endian stride x =
    if nat_lt (length x.1) stride then Err (fault_at names.Truncated x)
    else checked (position_in endian x.1) x >>= λ r. Ok (r, drop stride x.1)

-- a point, which has no position if both its coordinates are NaN
unfoldable pub point_at : Endian → ℕ → Left → Result Left Fault
point_at endian stride x =
    if nat_lt (length x.1) stride then Err (fault_at names.Truncated x)
    else if is_nan (position_in endian x.1).longitude && is_nan (position_in endian x.1).latitude
    then Ok (x.0, drop stride x.1)
    else checked (position_in endian x.1) x >>= λ r. Ok (with_ring r, drop stride x.1)

-- a count of positions, and these
unfoldable pub line_at : Endian → ℕ → Left → Result Left Fault
line_at endian stride x = do
  n ← count_at endian stride x
  y ← times n.0 (position_at endian stride) (x.0, n.1)
  Ok (with_ring y.0, y.1)

-- the same, of a ring
unfoldable pub ring_at : Endian → ℕ → Left → Result Left Fault
ring_at endian stride x = do
  n ← count_at endian stride x
  y ← times n.0 (position_at endian stride) (x.0, n.1)
  r ← closed_ring y
  Ok (r, y.1)

-- a count of rings, and these
unfoldable pub polygon_at : Endian → ℕ → Left → Result Left Fault
polygon_at endian stride x = do
  n ← count_at endian 4 x
  times n.0 (ring_at endian stride) (x.0, n.1)

-- a point, a line or a polygon, after its head
abbrev pub inside_at : Kind → Endian → ℕ → Left → Result Left Fault
inside_at kinds.Point endian stride x = point_at endian stride x
inside_at kinds.Line endian stride x = line_at endian stride x
inside_at kinds.Polygon endian stride x = polygon_at endian stride x

-- the same, and the part ends
unfoldable pub one_at : Kind → Endian → ℕ → Left → Result Left Fault
one_at kind endian stride x = inside_at kind endian stride x >>= λ y. Ok (with_part kind y.0, y.1)

-- a list of points has points alone, and so for lines and polygons
abbrev pub is_member : Option Kind → Form → Bool
is_member None form = true
is_member (Some kinds.Point) (One kinds.Point) = true
is_member (Some kinds.Line) (One kinds.Line) = true
is_member (Some kinds.Polygon) (One kinds.Polygon) = true
is_member (Some kind) form = false

-- what follows the head of a geometry: itself, or a count of members, and these
abbrev pub body_at : (Option Kind → Left → Result Left Fault) → Endian → ℕ → Form → Left → Result Left Fault
body_at member endian stride (One kind) x = one_at kind endian stride x
body_at member endian stride (Many list) x = count_at endian 9 x >>= λ n. times n.0 (member list) (x.0, n.1)

-- what follows a head that was read
abbrev pub member_at : (Option Kind → Left → Result Left Fault) → Left → Head × List ℕ → Result Left Fault
member_at member x h = body_at member h.0.endian h.0.stride h.0.form (x.0, h.1)

-- a geometry that is not in too many lists, if it may be in this one
abbrev pub any_at : (Option Kind → Left → Result Left Fault) → Bool → Option Kind → Left → Result Left Fault
any_at member is_deep list x =
    head_at x >>= λ h. if not (is_member list h.0.form) then Err (fault_at names.Member x) else if is_deep
    then Err (fault_at names.Deep x) else member_at member x h

-- a geometry in a list, which may have this many less one lists in each other
unfoldable pub geometry_at : ℕ → Option Kind → Left → Result Left Fault
geometry_at zero list x = any_at (λ _ y. Ok y) true list x
geometry_at (suc depth) list x = any_at (geometry_at depth) false list x

-- the shape that all of the bytes stand for, or their first fault
unfoldable pub wkb : List ℕ → Result Shape Fault
wkb bytes = geometry_at 33 None (begin bytes, bytes) >>= λ y.
    if length y.1 == 0 then Ok (shape_of y.0) else Err (fault_at names.Trailing y)
