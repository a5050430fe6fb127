-- What some words stand for.
use Rattle.std.specs.Prelude.{ℕ}

-- the place of a leaf
pub record Spot : Type 0 where
  pub face : ℕ
  pub i : ℕ
  pub j : ℕ

-- the two cells of a range
pub record RangeEnds : Type 0 where
  pub first : ℕ
  pub last : ℕ
