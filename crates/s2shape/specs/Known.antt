-- Known shapes and faults, and bytes of collections in each other.
use Rattle.std.specs.Prelude.{ℕ, zero, suc, List, [], ◌∷◌, ◌++◌}
use Rattle.byteorder.specs.Endian.{little_bytes}
use Rattle.s2shape.specs.Reading.{Shape}
use Rattle.s2shape.specs.declared.fault.Fault.{Fault}
use Rattle.s2shape.specs.declared.fault.FaultName.{FaultName}
use Rattle.s2shape.specs.declared.shape.Kind.TheVariants.{Point, Polygon}

-- the point 1 2
abbrev pub point_1_2 : Shape
point_1_2 = record {
  positions = record { longitude = 0x3ff0000000000000; latitude = 0x4000000000000000 } ∷ [];
  rings = 1 ∷ [];
  parts = record { kind = Point; end = 1 } ∷ [];
}

-- a point without a position
abbrev pub empty_point : Shape
empty_point = record { positions = []; rings = []; parts = record { kind = Point; end = 0 } ∷ [] }

-- that point and one without a position
abbrev pub two_points : Shape
two_points = record {
  positions = record { longitude = 0x3ff0000000000000; latitude = 0x4000000000000000 } ∷ [];
  rings = 1 ∷ [];
  parts = record { kind = Point; end = 1 } ∷ record { kind = Point; end = 1 } ∷ [];
}

-- the triangle 0 0, 1 0, 0 1, which ends at 0 -0
abbrev pub triangle : Shape
triangle = record {
  positions = record { longitude = 0; latitude = 0 }
      ∷ record { longitude = 0x3ff0000000000000; latitude = 0 }
      ∷ record { longitude = 0; latitude = 0x3ff0000000000000 }
      ∷ record { longitude = 0; latitude = 0x8000000000000000 } ∷ [];
  rings = 4 ∷ [];
  parts = record { kind = Polygon; end = 1 } ∷ [];
}

-- this many heads of collections, of which each has one geometry
abbrev pub collections : ℕ → List ℕ
collections zero = []
collections (suc n) = (1 ∷ (little_bytes 4 7 ++ little_bytes 4 1)) ++ collections n

-- a fault after some positions of the first ring
abbrev pub at_position : FaultName → ℕ → ℕ → Fault
at_position name byte position = record { name = name; byte = byte; part = 0; ring = 0; position = position }

-- a fault before the first position
abbrev pub at_byte : FaultName → ℕ → Fault
at_byte name byte = at_position name byte 0
