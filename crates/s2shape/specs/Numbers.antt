-- The numbers of WKB: whole numbers in either order of bytes, and the bits of doubles.
use Rattle.std.specs.Prelude.{ℕ, ◌%◌, ◌^◌, Bool, ◌==◌, ◌&&◌, ◌||◌, nat_lt, nat_le, List}
use Rattle.byteorder.specs.Endian.{big_number, little_number}
use Rattle.s2shape.specs.declared.head.Endian.{Endian}
use Rattle.s2shape.specs.declared.head.Endian.TheVariants.{Big, Little}

-- the number in the first `n` bytes
abbrev pub number : Endian → ℕ → List ℕ → ℕ
number Big n bytes = big_number n bytes
number Little n bytes = little_number n bytes

-- the bits of a double without its sign. Of two doubles that are numbers, the one with more bits is farther from 0
abbrev pub size_of : ℕ → ℕ
size_of bits = bits % 2 ^ 63

-- the bits of an infinite double
abbrev pub infinite : ℕ
infinite = 0x7ff0000000000000

-- the double is not a number
abbrev pub is_nan : ℕ → Bool
is_nan bits = nat_lt infinite (size_of bits)

-- the double is a number and not infinite
abbrev pub is_finite : ℕ → Bool
is_finite bits = nat_lt (size_of bits) infinite

-- from -540 to 540, whose bits these are
abbrev pub is_longitude : ℕ → Bool
is_longitude bits = nat_le (size_of bits) 0x4080e00000000000

-- from -90 to 90
abbrev pub is_latitude : ℕ → Bool
is_latitude bits = nat_le (size_of bits) 0x4056800000000000

-- two doubles are the same number: the same bits, or 0 with either sign
abbrev pub is_same : ℕ → ℕ → Bool
is_same x y = (x == y) || ((size_of x == 0) && (size_of y == 0))
