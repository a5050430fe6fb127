-- A listing whose lines are put together before they are handed on.
use Rattle.std.specs.Prelude.{◌≡◌, ℕ, List, ◌++◌, Option}
use Rattle.std.specs.Io.KnownBytes.{Appends}

-- since the writer had the bytes `start`, a beginning of `text` was written, and the rest of it waits
pub record IsUnderway (start now : Option (List ℕ)) (waiting text : List ℕ) : Type 0 where
  pub sent : List ℕ
  pub written : Appends start now sent
  pub all : text ≡ sent ++ waiting
