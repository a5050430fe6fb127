-- The numbers in the bytes of a file.
use Rattle.std.specs.Prelude.{ℕ, ◌*◌, ◌/◌, List, map, length, drop}
use Rattle.std.specs.List.{range_with_len}
use Rattle.s2list.specs.Numbers.{first_number}

-- the number at index `i` in the bytes, eight bytes each
abbrev pub number_in : List ℕ → ℕ → ℕ
number_in bytes i = first_number (drop (8 * i) bytes)

-- all numbers in the bytes, in order
unfoldable pub numbers_in : List ℕ → List ℕ
numbers_in bytes = map (number_in bytes) (range_with_len 0 (length bytes / 8))
