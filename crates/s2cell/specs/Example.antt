-- What the definitions say about a cell, for worked examples.
use Rattle.std.specs.Prelude.{◌≡◌, ℕ, ◌+◌, List}
use Rattle.s2cell.specs.Cell.{IsCell, level_of, face_of, first_leaf, size_of}
use Rattle.s2cell.specs.Token.{IsToken}
use Rattle.s2cell.specs.Debug.{IsDebug}

-- the cell `n` has these two texts, this level and face, and the leaves from `first` to `last`
pub record IsDescribed (n : ℕ) (token debug : List ℕ) (level face first last : ℕ) : Type 0 where
  pub cell : IsCell n
  pub has_token : IsToken token n
  pub has_debug : IsDebug debug n
  pub level_is : level_of n ≡ level
  pub face_is : face_of n ≡ face
  pub first_is : first_leaf n ≡ first
  pub last_is : first_leaf n + size_of n ≡ last + 1
