-- Numbers written in a fixed number of digits.
use Rattle.std.specs.Prelude.{ℕ, zero, suc, ◌/◌, ◌%◌, List, [], ◌∷◌, ◌++◌}
use Rattle.std.specs.Char.{digit_char}

-- the lowest `len` digits of `n` in base `b`, most significant first
abbrev pub in_digits : ℕ → ℕ → ℕ → List ℕ
in_digits b zero n = []
in_digits b (suc len) n = in_digits b len (n / b) ++ digit_char (n % b) ∷ []
