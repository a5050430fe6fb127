-- Numbers of eight bytes, the lowest first.
use Rattle.std.specs.Prelude.{ℕ, zero, suc, ◌+◌, ◌*◌, ◌^◌, List, slice_index}
use Rattle.byteorder.specs.Endian.{little_bytes}

-- the sum of the first `n` bytes, each times 256 to the power of its place
abbrev pub weighed : ℕ → List ℕ → ℕ
weighed zero bytes = 0
weighed (suc n) bytes = weighed n bytes + slice_index bytes n * 256 ^ n

-- the number in the first eight bytes
unfoldable pub first_number : List ℕ → ℕ
first_number bytes = weighed 8 bytes

-- the eight bytes of a number
unfoldable pub number_text : ℕ → List ℕ
number_text x = little_bytes 8 x
