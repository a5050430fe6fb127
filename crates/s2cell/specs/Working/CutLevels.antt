-- What only private contracts need, beside CutLevels.antt, which has what public contracts need.
use Rattle.std.specs.Prelude.{◌≡◌, ℕ, ◌<◌, ◌≤◌, List, length, get_or}
use Rattle.s2cell.specs.CutLevels.{cut_level}

-- the table has the level that a cell of each level is cut to
pub record AreCutLevels (least modulus : ℕ) (levels : List ℕ) : Type 0 where
  pub some : 0 < modulus
  pub size : length levels ≡ 31
  pub each : (level : ℕ) → level ≤ 30 → get_or levels level 0 ≡ cut_level level least modulus
