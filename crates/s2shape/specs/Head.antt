-- The head of a geometry: a byte for the order of bytes, four for its type, and in EWKB four for its SRID if a bit of
-- the type says so.
use Rattle.std.specs.Prelude.{ℕ, ◌+◌, ◌-◌, ◌/◌, ◌%◌, ◌^◌, Bool, ◌==◌, ◌||◌, nat_lt}
use Rattle.std.specs.Prelude.{nat_le, if◌then◌else◌, Some, None, Result, Ok, Err}
use Rattle.s2shape.specs.Numbers.{number}
use Rattle.s2shape.specs.Reading.{◌>>=◌}
use Rattle.s2shape.specs.declared.fault.FaultName.{FaultName}
use Rattle.s2shape.specs.declared.fault.FaultName.TheVariants as names
use Rattle.s2shape.specs.declared.head.Form.{Form}
use Rattle.s2shape.specs.declared.head.Form.TheVariants.{One, Many}
use Rattle.s2shape.specs.declared.head.Layout.{Layout}
use Rattle.s2shape.specs.declared.shape.Kind.{Kind}
use Rattle.s2shape.specs.declared.shape.Kind.TheVariants as kinds

-- a point, a line or a polygon, by the numbers 1, 2 and 3
abbrev pub kind_of : ℕ → Kind
kind_of n = if n == 1 then kinds.Point else if n == 2 then kinds.Line else kinds.Polygon

-- the geometry of a number: 1 to 3 are one, 4 to 6 a list of such, and 7 a list of any. The curves, surfaces and
-- triangles of 8 to 17 have no covering
abbrev pub form_of : ℕ → Result Form FaultName
form_of n =
    if n == 0 then Err names.Type else if nat_le n 3 then Ok (One (kind_of n)) else if nat_le n 6
    then Ok (Many (Some (kind_of (n - 3)))) else if n == 7 then Ok (Many None) else if nat_le n 17
    then Err names.Uncovered else Err names.Type

-- a bit of the type, from the bit 28 on
abbrev pub has_flag : ℕ → ℕ → Bool
has_flag flag type = type / 2 ^ 28 / flag % 2 == 1

-- the thousands of the type, below its flags: ISO has 1 for Z, 2 for M, and 3 for both
abbrev pub thousands : ℕ → ℕ
thousands type = type % 2 ^ 28 / 1000

-- eight, or nothing
abbrev pub eight_if : Bool → ℕ
eight_if b = if b then 8 else 0

-- how many bytes a position has: eight each for its longitude, its latitude, Z and M
abbrev pub stride_of : ℕ → ℕ
stride_of type = 16 + eight_if (has_flag 8 type || (thousands type == 1) || (thousands type == 3))
    + eight_if (has_flag 4 type || (thousands type == 2) || (thousands type == 3))

-- what a type with a geometry of this form says
abbrev pub layout_with : ℕ → Form → Layout
layout_with type form = record { form = form; stride = stride_of type; has_srid = has_flag 2 type }

-- what a type says. EWKB has Z in its highest bit, M in the next, and whether an SRID follows in the third; the fourth
-- is 0
unfoldable pub layout_of : ℕ → Result Layout FaultName
layout_of type =
    if has_flag 1 type || nat_lt 3 (thousands type) then Err names.Type
    else form_of (type % 2 ^ 28 % 1000) >>= λ form. Ok (layout_with type form)
