-- What only private contracts need, beside Lines.antt, which has what public contracts need.
use Rattle.std.specs.Prelude.{◌≡◌, ℕ, ◌+◌, ◌<◌, List, ◌∷◌, length, take}
use Rattle.std.specs.Prelude.{drop}
use Rattle.s2script.specs.Lines.{IsUnbroken}

-- the first newline is at index `at`
pub record EndsLineAt (bytes : List ℕ) (at : ℕ) : Type 0 where
  pub within : at < length bytes
  pub before : IsUnbroken (take at bytes)
  pub here : drop at bytes ≡ 10 ∷ drop (at + 1) bytes
