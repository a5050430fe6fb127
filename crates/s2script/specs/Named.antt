-- Words that name cells: a debug text if there is a slash, else a token.
use Rattle.std.specs.Prelude.{ℕ, ◌+◌, ◌-◌, ◌*◌, ◌^◌, Bool, ◌&&◌, List, [], ◌∷◌, ◌==◌}
use Rattle.std.specs.Prelude.{nat_lt, nat_le, if◌then◌else◌, length, Option, Some, None}
use Rattle.std.specs.List.{list_all, list_any}
use Rattle.std.specs.Char.{is_digit}
use Rattle.std.specs.Str.Parse.{digits_value}
use Rattle.s2cell.specs.Cell.{level_of, place_of, id_at}
use Rattle.s2script.specs.Number.{number_up_to}

-- whether `n` is the identifier of a cell, the one at the level and place computed from `n`
unfoldable pub is_cell : ℕ → Bool
unfolding level_of place_of
is_cell n = nat_lt (place_of n) (6 * 4 ^ level_of n) && (n == id_at (level_of n) (place_of n))

-- 1 to 16 hexadecimal digits
abbrev pub is_hexadecimal : List ℕ → Bool
is_hexadecimal word = nat_le 1 (length word) && (nat_le (length word) 16 && list_all (λ b. is_digit b 16) word)

-- the number that the digits stand for, with zeros appended up to 16 digits
abbrev pub padded_value : List ℕ → ℕ
padded_value word = digits_value 16 word * 16 ^ (16 - length word)

-- the cell that a word names as a token
unfoldable pub token_cell : List ℕ → Option ℕ
unfolding is_cell
token_cell word = if is_hexadecimal word && is_cell (padded_value word) then Some (padded_value word) else None

-- a digit 0 to 5, a slash, and 0 to 30 digits 0 to 3
abbrev pub is_face_and_digits : ℕ → ℕ → List ℕ → Bool
is_face_and_digits face slash digits = is_digit face 6
    && ((slash == 47) && (nat_le (length digits) 30 && list_all (λ b. is_digit b 4) digits))

-- the cell that a face and a digit for each level name
abbrev pub cell_below : ℕ → List ℕ → ℕ
cell_below face digits = id_at (length digits) ((face - 48) * 4 ^ length digits + digits_value 4 digits)

-- the cell that a word names as a debug text
unfoldable pub debug_cell : List ℕ → Option ℕ
debug_cell [] = None
debug_cell (face ∷ []) = None
debug_cell (face ∷ slash ∷ digits) = if is_face_and_digits face slash digits then Some (cell_below face digits)
    else None

-- whether the word has a slash
abbrev pub has_slash : List ℕ → Bool
has_slash word = list_any (λ b. b == 47) word

-- the number of 64 bits that stands for a negative one, of which this is the absolute value
abbrev pub negated : Option ℕ → Option ℕ
negated None = None
negated (Some n) = if nat_le n (2 ^ 63) then Some (2 ^ 64 - n) else None

-- the number that decimal digits stand for, with or without a minus before them
abbrev pub signed_number : List ℕ → Option ℕ
signed_number [] = None
signed_number (b ∷ bs) = if b == 45 then negated (number_up_to 19 bs) else number_up_to 20 (b ∷ bs)

-- the cell with this identifier, if there is one
abbrev pub cell_with : Option ℕ → Option ℕ
cell_with None = None
cell_with (Some n) = if is_cell n then Some n else None

-- the cell whose identifier a word has in decimal, signed or not; a shorter word may be meant as a token
unfoldable pub decimal_cell : List ℕ → Option ℕ
decimal_cell word = if nat_lt 16 (length word) then cell_with (signed_number word) else None

-- the cell that a word names
unfoldable pub cell_named : List ℕ → Option ℕ
unfolding token_cell debug_cell
cell_named word = if has_slash word then debug_cell word else token_cell word
