-- The femtodegrees of a decimal number, by its digits.
use Rattle.std.specs.Prelude.{ℕ, ◌*◌, ◌^◌, ◌≡◌, ◌==◌, Bool, true, cond, List, drop, length, slice_index, ℤ}
use Rattle.std.specs.Float.Numeral.{Parts, has_digits, minus, numeral_digits, scan_numeral, tens_down, tens_up}
use Rattle.s2degrees.specs.Femtodegrees.{IsRounded, IsTooFar}
use Rattle.s2degrees.specs.declared.fault.TextFault.{TextFault}
use Rattle.s2degrees.specs.declared.fault.TextFault.TheVariants.{NotDecimal, TooFar}

-- a text begins with a minus
abbrev pub has_minus : List ℕ → Bool
has_minus text = slice_index text 0 == minus

-- a text without a minus that it begins with
abbrev pub size_text : List ℕ → List ℕ
size_text text = cond (has_minus text) (drop 1 text) text

-- a minus or none, digits, perhaps a point and digits, perhaps an exponent, and nothing else; one digit at least stands
-- before the exponent
abbrev pub IsDecimal : List ℕ → Type 0
IsDecimal text = ((scan_numeral (size_text text)).len ≡ length (size_text text))
    × (has_digits (scan_numeral (size_text text)) ≡ true)

-- z is a numeral's number of degrees in femtodegrees, rounded
abbrev pub IsFemtodegreesOfParts : Bool → Parts → ℤ → Type 0
IsFemtodegreesOfParts negative p z =
    IsRounded negative (numeral_digits p * 10 ^ 15 * 10 ^ tens_up p) (10 ^ tens_down p) z

-- z is a text's
abbrev pub IsFemtodegreesOfText : List ℕ → ℤ → Type 0
IsFemtodegreesOfText text z = IsFemtodegreesOfParts (has_minus text) (scan_numeral (size_text text)) z

-- what the fault of a text says is so
abbrev pub TextFaultIs : List ℕ → TextFault → Type 0
TextFaultIs text NotDecimal = ¬ (IsDecimal text)
TextFaultIs text TooFar = IsDecimal text × IsTooFar (IsFemtodegreesOfText text)
