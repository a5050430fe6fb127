-- Digits up to a place, which may be beyond the last.
use Rattle.std.specs.Prelude.{ℕ, ◌-◌, ◌*◌, ◌^◌, List, length, take}
use Rattle.std.specs.Str.Parse.{digits_value}

-- the number that the first `k` digits write, with zeros after the last
abbrev pub padded : List ℕ → ℕ → ℕ
padded ds k = digits_value 10 (take k ds) * 10 ^ (k - length ds)
