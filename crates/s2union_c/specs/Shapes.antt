-- What the calls for the coverings of a text answer, and how they tell why there are none.
use Rattle.std.specs.Prelude.{◌≡◌, ℕ, ℤ, List, ◌++◌, length}
use Rattle.s2shape.specs.declared.fault.Fault.{Fault}
use Rattle.s2shape.specs.declared.fault.FaultName.{FaultName}
use Rattle.s2shape.specs.declared.fault.FaultName.TheVariants as names
use Rattle.s2union_c.specs.Results.{Made}
use Rattle.s2union_c.specs.Status.{bad_shape, no_memory, too_many}
use Rattle.s2union_c.specs.declared.shapes.ShapeFault.{ShapeFault}
use Rattle.s2written.specs.declared.fault.CoverError.{CoverError}
use Rattle.s2written.specs.declared.fault.CoverError.TheVariants as errors
use Rattle.s2written.specs.declared.fault.GeodesicError.{GeodesicError}
use Rattle.s2written.specs.declared.fault.GeodesicError.TheVariants as geodesic

-- two lists with the property were written, the second after the first, or are longer than the buffer together;
-- `first` is the length of the first
abbrev pub MadeBoth : ℤ → (List ℕ → List ℕ → Type 0) → List ℕ → List ℕ → ℕ → ℕ → Type 0
MadeBoth status P old new len first =
    (xs : List ℕ) × (ys : List ℕ) × P xs ys × (first ≡ length xs) × Made status (xs ++ ys) old new len

-- the number by which C knows the name of a fault
abbrev pub number_of_name : FaultName → ℕ
number_of_name names.Truncated = 1
number_of_name names.Trailing = 2
number_of_name names.Order = 3
number_of_name names.Type = 4
number_of_name names.Uncovered = 5
number_of_name names.Srid = 6
number_of_name names.Member = 7
number_of_name names.Deep = 8
number_of_name names.Count = 9
number_of_name names.Few = 10
number_of_name names.Open = 11
number_of_name names.NotFinite = 12
number_of_name names.Utf8 = 13
number_of_name names.Json = 14
number_of_name names.Twice = 15
number_of_name names.NoType = 16
number_of_name names.Missing = 17
number_of_name names.Position = 18
number_of_name names.Range = 19

-- a fault of bytes as C is told it
abbrev pub told : Fault → ShapeFault
told f = record {
  name = number_of_name f.name;
  byte = f.byte;
  part = f.part;
  ring = f.ring;
  position = f.position;
}

-- a fault with this number that is known by its part alone
abbrev pub told_of_part : ℕ → ℕ → ShapeFault
told_of_part name part = record { name = name; byte = 0; part = part; ring = 0; position = 0 }

-- the status and the fault tell the error; errors that aren't about the shape leave the fault as it was
abbrev pub Tells : CoverError → ℤ → ShapeFault → ShapeFault → Type 0
Tells errors.Memory status old new = (status ≡ no_memory) × (new ≡ old)
Tells errors.TooManyCells status old new = (status ≡ too_many) × (new ≡ old)
Tells (errors.Fault f) status old new = (status ≡ bad_shape) × (new ≡ told f)
Tells (errors.NoInside part) status old new = (status ≡ bad_shape) × (new ≡ told_of_part 20 part)
Tells errors.NoMap status old new = (status ≡ bad_shape) × (new ≡ told_of_part 21 0)

-- the same of an error of geodesic edges
abbrev pub TellsGeodesic : GeodesicError → ℤ → ShapeFault → ShapeFault → Type 0
TellsGeodesic geodesic.Memory status old new = Tells errors.Memory status old new
TellsGeodesic geodesic.TooManyCells status old new = Tells errors.TooManyCells status old new
TellsGeodesic (geodesic.Fault f) status old new = Tells (errors.Fault f) status old new
TellsGeodesic (geodesic.NoInside part) status old new = Tells (errors.NoInside part) status old new
TellsGeodesic geodesic.NoMap status old new = Tells errors.NoMap status old new
TellsGeodesic (geodesic.LongEdge part) status old new = (status ≡ bad_shape) × (new ≡ told_of_part 22 part)
TellsGeodesic (geodesic.Spread part) status old new = (status ≡ bad_shape) × (new ≡ told_of_part 23 part)

-- an error with the property is told, both lengths are 0, and nothing is written
abbrev pub TellsWhy : ℤ → (CoverError → Type 0) → List ℕ → List ℕ → ℕ → ℕ → ShapeFault → ShapeFault → Type 0
TellsWhy status P old new len first old_fault new_fault =
    (e : CoverError) × P e × Tells e status old_fault new_fault × (len ≡ 0) × (first ≡ 0) × (new ≡ old)

-- the same of an error of geodesic edges
abbrev pub TellsWhyGeodesic : ℤ → (GeodesicError → Type 0) → List ℕ → List ℕ → ℕ → ℕ → ShapeFault → ShapeFault
    → Type 0
TellsWhyGeodesic status P old new len first old_fault new_fault =
    (e : GeodesicError) × P e × TellsGeodesic e status old_fault new_fault × (len ≡ 0) × (first ≡ 0) × (new ≡ old)
