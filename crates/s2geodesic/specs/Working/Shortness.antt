-- Short edges of one ring.
use Rattle.std.specs.Prelude.{ℕ, ◌<◌, ◌≤◌, All, List}
use Rattle.s2geodesic.specs.Rounded.{IsShort}
use Rattle.s2polygon.specs.Directions.{Point}
use Rattle.s2polygon.specs.Rings.{edge_from, edges_from}

-- the first `n` edges of the ring of the corners from `from` up to `end` are short
abbrev pub AreShort : List Point → ℕ → ℕ → ℕ → Type 0
AreShort corners from end n = All IsShort (edges_from corners from end n)

-- corner `i` is one of that ring, and the edge from it is not short
pub record IsLongIn (corners : List Point) (from end i : ℕ) : Type 0 where
  pub first : from ≤ i
  pub last : i < end
  pub long : ¬ (IsShort (edge_from corners from end i))
