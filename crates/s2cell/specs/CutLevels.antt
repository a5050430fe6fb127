-- The levels that cells are cut to, and the cells that this gives.
use Rattle.std.specs.Prelude.{◌≡◌, ℕ, ◌+◌, ◌-◌, ◌*◌, ◌/◌, ◌%◌, ◌^◌, ◌≤◌, ◌⊎◌, ◌↔◌, min, List, map, Contains}
use Rattle.std.specs.List.{range_with_len}
use Rattle.std.specs.List.Sorted.{IsStrictlyIncreasing}
use Rattle.s2cell.specs.Cell.{IsCell, level_of, IsInside}
use Rattle.s2cell.specs.Descendant.{descendant_of}

-- the levels that are wanted: `least`, and those above it that differ from it by a multiple of `modulus`
pub record Cutting : Type 0 where
  pub least : ℕ
  pub modulus : ℕ

-- a cell of level `level` may be cut to level `t`: `t` is at least `level` and at least `least`, and differs from
-- `least` by a multiple of `modulus`
pub record IsWanted (level least modulus t : ℕ) : Type 0 where
  pub own : level ≤ t
  pub high : least ≤ t
  pub step : (t - least) % modulus ≡ 0

-- `t` is the least wanted level, or 30 if there is none up to 30
pub record IsCutLevel (level least modulus t : ℕ) : Type 0 where
  pub real : t ≤ 30
  pub wanted : IsWanted level least modulus t ⊎ ((t ≡ 30) × ((s : ℕ) → s ≤ 30 → IsWanted level least modulus s → ⊥))
  pub first : (s : ℕ) → IsWanted level least modulus s → t ≤ s

-- `xs` lists all cells of level `t` inside the cell `c`, ascending
pub record IsCut (c t : ℕ) (xs : List ℕ) : Type 0 where
  pub ascending : IsStrictlyIncreasing xs
  pub members : (d : ℕ) → Contains xs d ↔ (IsCell d × (level_of d ≡ t) × IsInside d c)

-- the level that a cell of level `level` is cut to, computed
unfoldable pub cut_level : ℕ → ℕ → ℕ → ℕ
cut_level level least modulus = min (least + (level - least + (modulus - 1)) / modulus * modulus) 30

-- the cells of level `t` inside the cell `c`, computed, in order
unfoldable pub cells_in : ℕ → ℕ → List ℕ
cells_in t c = map (descendant_of c t) (range_with_len 0 (4 ^ (t - level_of c)))
