-- What only private contracts need, beside Words.antt, which has what public contracts need.
use Rattle.std.specs.Prelude.{◌≡◌, ℕ, ◌+◌, ◌<◌, Bool, false, true, List, ◌∷◌, length, take}
use Rattle.std.specs.Prelude.{drop, slice_index}
use Rattle.std.specs.List.{AllByRecursion}

-- the first byte for which `p` holds is at index `at`
pub record EndsWordAt (p : ℕ → Bool) (bytes : List ℕ) (at : ℕ) : Type 0 where
  pub within : at < length bytes
  pub before : AllByRecursion (λ b. p b ≡ false) (take at bytes)
  pub between : p (slice_index bytes at) ≡ true
  pub here : drop at bytes ≡ slice_index bytes at ∷ drop (at + 1) bytes
