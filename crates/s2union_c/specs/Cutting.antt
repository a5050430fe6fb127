-- The levels to which a union can be cut.
use Rattle.std.specs.Prelude.{ℕ, ◌<◌, ◌≤◌}

-- the least level and the modulus are in range
pub record IsCutting (min modulus : ℕ) : Type 0 where
  pub level : min ≤ 30
  pub some : 0 < modulus
  pub most : modulus ≤ 3
