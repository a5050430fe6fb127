-- The cells before and after a cell along the curve, and the common ancestors of two cells.
use Rattle.std.specs.Prelude.{◌≡◌, ℕ, ◌+◌, ◌*◌, ◌^◌, ◌≤◌}
use Rattle.s2cell.specs.Cell.{IsCell, level_of, place_of, IsInside}

-- `b` is the cell of the same level one place further along the curve than `a`, possibly on the next face
pub record IsNext (a b : ℕ) : Type 0 where
  pub cell : IsCell b
  pub level : level_of b ≡ level_of a
  pub place : place_of b ≡ place_of a + 1

-- `a` is the last cell of its level
abbrev pub IsLast : ℕ → Type 0
IsLast a = place_of a + 1 ≡ 6 * 4 ^ level_of a

-- `a` is the first cell of its level
abbrev pub IsFirst : ℕ → Type 0
IsFirst a = place_of a ≡ 0

-- `c` is the cell of the greatest level that contains both `a` and `b`
pub record IsCommonAncestor (a b c : ℕ) : Type 0 where
  pub cell : IsCell c
  pub first : IsInside a c
  pub second : IsInside b c
  pub greatest : (d : ℕ) → IsCell d → IsInside a d → IsInside b d → level_of d ≤ level_of c
