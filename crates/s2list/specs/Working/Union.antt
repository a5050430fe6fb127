-- What only private contracts need, beside Union.antt, which has what public contracts need.
use Rattle.std.specs.Prelude.{◌≡◌, ℕ, ◌<◌, true, List}
use Rattle.s2list.specs.Union.{has_leaf}

-- all leaves of `u` come before the leaf `end`
abbrev pub EndsBy : List ℕ → ℕ → Type 0
EndsBy u end = (x : ℕ) → has_leaf u x ≡ true → x < end
