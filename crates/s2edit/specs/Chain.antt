-- The lists that a register may have.
use Rattle.std.specs.Prelude.{ℕ, ◌≤◌, List, length}
use Rattle.s2list.specs.Union.{IsLocal}

-- a list that a register may have: local, with at most limit cells
pub record IsLocalWithin (limit : ℕ) (cells : List ℕ) : Type 0 where
  pub local : IsLocal cells
  pub few : length cells ≤ limit
