-- Reading from the first byte on, up to the first fault.
use Rattle.std.specs.Prelude.{ℕ, zero, suc, ◌+◌, ◌-◌, List, [], ◌∷◌, ◌++◌, length, drop, slice_get, Bool, true, ◌==◌}
use Rattle.std.specs.Prelude.{◌&&◌}
use Rattle.std.specs.Prelude.{nat_lt, if◌then◌else◌, Option, Some, None, Result, Ok, Err, ◌≡◌}
use Rattle.s2shape.specs.Numbers.{is_finite, is_latitude, is_longitude, is_same}
use Rattle.s2shape.specs.declared.fault.Fault.{Fault}
use Rattle.s2shape.specs.declared.fault.FaultName.{FaultName}
use Rattle.s2shape.specs.declared.fault.FaultName.TheVariants as names
use Rattle.s2shape.specs.declared.fault.ShapeError.{ShapeError}
use Rattle.s2shape.specs.declared.fault.ShapeError.TheVariants as errors
use Rattle.s2shape.specs.declared.shape.Kind.{Kind}
use Rattle.s2shape.specs.declared.shape.Position.{Position}
use Rattle.s2shape.specs.declared.shape.Part.{Part}
use Rattle.s2shape.specs.declared.shape.Shape as declared

-- a shape: the positions of its rings, one ring after the other; of each ring or line, how many positions there are up
-- to its end; and of each point, line or polygon, how many rings there are up to its end
pub record Shape : Type 0 where
  pub positions : List Position
  pub rings : List ℕ
  pub parts : List Part

-- what a shape in memory is
abbrev pub shape_seen : declared.Shape → Shape
shape_seen s = record { positions = s.positions.items; rings = s.rings.items; parts = s.parts.items }

-- what has been read so far
pub record Read : Type 0 where
  -- how many bytes there are in all
  pub size : ℕ
  pub positions : List Position
  -- of each ring and line, how many positions there are up to its end
  pub rings : List ℕ
  pub parts : List Part
  -- how many positions the rings have
  pub begun : ℕ

-- nothing is read of some bytes
abbrev pub begin : List ℕ → Read
begin bytes = record { size = length bytes; positions = []; rings = []; parts = []; begun = 0 }

-- the shape that was read
abbrev pub shape_of : Read → Shape
shape_of r = record { positions = r.positions; rings = r.rings; parts = r.parts }

-- the positions of the ring that is being read
abbrev pub ring_of : Read → List Position
ring_of r = drop r.begun r.positions

-- what was read, and the bytes that are left
abbrev pub Left : Type 0
Left = Read × List ℕ

-- a fault before the bytes that are left
abbrev pub fault_at : FaultName → Left → Fault
fault_at name x = record {
  name = name;
  byte = x.0.size - length x.1;
  part = length x.0.parts;
  ring = length x.0.rings;
  position = length x.0.positions - x.0.begun;
}

infixl 10 ◌>>=◌
-- a second step after the first, if that has no fault
abbrev pub ◌>>=◌ : {A B E : Type 0} → Result A E → (A → Result B E) → Result B E
(Ok x) >>= f = f x
(Err e) >>= f = Err e

-- a step, this many times
unfoldable pub times : {A E : Type 0} → ℕ → (A → Result A E) → A → Result A E
times zero step x = Ok x
times (suc n) step x = step x >>= times n step

-- one more position of the ring that is being read
abbrev pub with_position : Position → Read → Read
with_position p r = record r { positions = r.positions ++ p ∷ [] }

-- the same, if it is a place of the map
abbrev pub ranged : Position → Left → Result Read Fault
ranged p x =
    if is_longitude p.longitude && is_latitude p.latitude then Ok (with_position p x.0)
    else Err (fault_at names.Range x)

-- the same, if both coordinates are finite too
abbrev pub checked : Position → Left → Result Read Fault
checked p x =
    if is_finite p.longitude && is_finite p.latitude then ranged p x else Err (fault_at names.NotFinite x)

-- a ring or a line ends after the positions that were read; one without positions is none
abbrev pub with_ring : Read → Read
with_ring r = if length r.positions == r.begun then r else record r {
  rings = r.rings ++ length r.positions ∷ [];
  begun = length r.positions;
}

-- a point, line or polygon ends after the rings that were read
abbrev pub with_part : Kind → Read → Read
with_part kind r = record r { parts = r.parts ++ record { kind = kind; end = length r.rings } ∷ [] }

-- two positions, if they are there, are the same
abbrev pub same_positions : Option Position → Option Position → Bool
same_positions None b = true
same_positions (Some a) None = true
same_positions (Some a) (Some b) = is_same a.longitude b.longitude && is_same a.latitude b.latitude

-- the last position is the first
abbrev pub is_closed : List Position → Bool
is_closed ring = same_positions (slice_get ring 0) (slice_get ring (length ring - 1))

-- a ring ends: it has no positions, or four or more of which the last is the first
abbrev pub closed_ring : Left → Result Read Fault
closed_ring x =
    if nat_lt 0 (length (ring_of x.0)) && nat_lt (length (ring_of x.0)) 4 then Err (fault_at names.Few x)
    else if is_closed (ring_of x.0) then Ok (with_ring x.0) else Err (fault_at names.Open x)

-- an error is what reading gives, or memory ran out
abbrev pub Fails : {Y : Type 0} → ShapeError → Result Y Fault → Type 0
Fails errors.Memory read = Unit {0}
Fails (errors.Fault f) read = read ≡ Err f

-- what a function returned, seen by `view`, is what reading gives
abbrev pub Gives : {X Y : Type 0} → (X → Y) → Result X ShapeError → Result Y Fault → Type 0
Gives view (Ok x) read = read ≡ Ok (view x)
Gives view (Err e) read = Fails e read
