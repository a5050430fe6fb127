-- The names of files.
use Rattle.std.specs.Prelude.{ℕ, suc, Bool, ◌&&◌, ◌||◌, not, List, [], ◌∷◌, ◌==◌, nat_le, nat_lt, if◌then◌else◌}
use Rattle.std.specs.Prelude.{length, slice_index, Option, Some, None}
use Rattle.std.specs.List.{list_all}
use Rattle.s2script.specs.declared.limits.TheConstants.{LONGEST_NAME}

-- an ASCII letter, a digit, `.`, `_` or `-`
abbrev pub is_name_byte : ℕ → Bool
is_name_byte b = (nat_le 48 b && nat_le b 57) || (nat_le 65 b && nat_le b 90) || (nat_le 97 b && nat_le b 122)
    || (b == 46) || (b == 95) || (b == 45)

-- the byte is neither `.` nor `-`: no name begins with these
abbrev pub is_first_byte : ℕ → Bool
is_first_byte b = not (b == 46) && not (b == 45)

-- 1 to `LONGEST_NAME` bytes that a name may have, the first of them no `.` and no `-`
abbrev pub is_name : List ℕ → Bool
is_name word = nat_le 1 (length word) && (nat_le (length word) LONGEST_NAME
    && (is_first_byte (slice_index word 0) && list_all is_name_byte word))

-- the word, if it is a name
abbrev pub name_of_word : List ℕ → Option (List ℕ)
name_of_word word = if is_name word then Some word else None

-- whether a byte may stand in a name at this index
abbrev pub fits_at : ℕ → ℕ → Bool
fits_at at b = nat_lt at LONGEST_NAME && (is_name_byte b && (nat_lt 0 at || is_first_byte b))

-- the index of the first byte that may not stand where it does, counted from `at`
abbrev pub unfit_from : ℕ → List ℕ → Option ℕ
unfit_from at [] = None
unfit_from at (b ∷ bs) = if fits_at at b then unfit_from (suc at) bs else Some at

-- the index of the first byte of a word that may not stand there in a name
abbrev pub unfit_index : List ℕ → Option ℕ
unfit_index word = unfit_from 0 word
