-- Numbers in decimal digits.
use Rattle.std.specs.Prelude.{ℕ, ◌+◌, ◌-◌, ◌*◌, Bool, ◌&&◌, List, nat_le, if◌then◌else◌, length, fold, Option}
use Rattle.std.specs.Prelude.{Some, None}
use Rattle.std.specs.List.{list_all}
use Rattle.s2script.specs.declared.limits.TheConstants.{MOST_DIGITS}

-- whether the byte is a decimal digit
abbrev pub is_decimal_digit : ℕ → Bool
is_decimal_digit b = nat_le 48 b && nat_le b 57

-- ten times the number so far, plus the digit
abbrev pub with_digit : ℕ → ℕ → ℕ
with_digit n b = 10 * n + (b - 48)

-- the number that 1 to `most` decimal digits stand for
abbrev pub number_up_to : ℕ → List ℕ → Option ℕ
number_up_to most word = if nat_le 1 (length word) && (nat_le (length word) most && list_all is_decimal_digit word)
    then Some (fold with_digit 0 word) else None

-- the number that 1 to 10 decimal digits stand for
abbrev pub number : List ℕ → Option ℕ
number word = number_up_to MOST_DIGITS word

-- the number, if it is from `low` to `high`
abbrev pub number_from : ℕ → ℕ → Option ℕ → Option ℕ
number_from low high None = None
number_from low high (Some n) = if nat_le low n && nat_le n high then Some n else None

-- the number from `low` to `high` that a word stands for
abbrev pub number_within : ℕ → ℕ → List ℕ → Option ℕ
number_within low high word = number_from low high (number word)
