-- Regions that may say of a cell that it crosses though it lies outside or inside, and how near a covering of few cells
-- comes to one.
use Rattle.std.specs.Prelude.{◌≡◌, ◌≢◌, ℕ, ◌+◌, ◌<◌, ◌≤◌, ◌⊎◌, List, All, AllPairs, Contains, true, ◌++◌}
use Rattle.std.specs.Prelude.{length, map}
use Rattle.std.specs.List.{sum_by}
use Rattle.s2cell.specs.Cell.{IsCell, IsInside, covers, level_of}
use Rattle.s2cell.specs.declared.TheConstants.{LEAVES}
use Rattle.s2list.specs.Union.{IsNormalForm, ShareNone, has_leaf}
use Rattle.s2cover.specs.Coverings.{HasLeavesOf}
use Rattle.s2cover.specs.Near.{TakeMore, looked_into, work_allowed}

-- each leaf of the cell `c` is one of `P`
abbrev pub EachLeaf : (ℕ → Type 0) → ℕ → Type 0
EachLeaf P c = (x : ℕ) → covers c x ≡ true → P x

-- the region says that the cell `c` crosses
abbrev pub IsCrossing : (ℕ → ℕ → Type 0) → ℕ → Type 0
IsCrossing crosses c = IsCell c × (n : ℕ) × crosses c n

-- it says so of each larger cell around `c`
abbrev pub AreCrossing : (ℕ → ℕ → Type 0) → ℕ → Type 0
AreCrossing crosses c = (d : ℕ) → IsCell d → level_of d < level_of c → IsInside c d → IsCrossing crosses d

-- the leaf `x` lies outside, or in a cell of level `k` of which the region says that it crosses
abbrev pub IsLeft : (ℕ → Type 0) → (ℕ → ℕ → Type 0) → ℕ → ℕ → Type 0
IsLeft outside crosses k x =
    outside x ⊎ ((c : ℕ) × (level_of c ≡ k) × (covers c x ≡ true) × IsCrossing crosses c)

-- a cell, and the work that it takes
pub record Worked : Type 0 where
  pub cell : ℕ
  pub work : ℕ

-- there are cells with work of which this is so, none listed twice, whose work adds up to more than `n`
pub record TakeMoreWork (P : ℕ → ℕ → Type 0) (n : ℕ) : Type 0 where
  pub cells : List Worked
  pub once : AllPairs ◌≢◌ (map (λ c. c.cell) cells)
  pub are : All (λ c. IsCell c.cell × P c.cell c.work) cells
  pub more : n < sum_by (λ c. c.work) cells

-- each leaf of the cell `c` lies outside, or in one of the cells `v` that lies in `c`
abbrev pub IsSplit : (ℕ → Type 0) → List ℕ → ℕ → Type 0
IsSplit outside v c = EachLeaf (λ x. outside x ⊎ ((d : ℕ) × Contains v d × (covers d x ≡ true) × IsInside d c)) c

-- the outer covering `u` of at most `most` cells comes near: it is the normal form of cells with no leaf in common.
-- Each of them lies inside or crosses, and each larger cell around one crosses. Each is of the level `deepest` or lies
-- inside, unless there are `most - 2` cells or more, or cells that are split take more work than is allowed. Cells that
-- cross but whose leaves all lie outside, `gone`, count too
pub record ComesNearOuter (outside inside : ℕ → Type 0) (crosses : ℕ → ℕ → Type 0) (size deepest most : ℕ)
    (u : List ℕ) : Type 0 where
  pub cells : List ℕ
  pub gone : List ℕ
  pub leaves : HasLeavesOf (has_leaf cells) u
  pub normal : IsNormalForm (has_leaf cells) u
  pub apart : AllPairs ShareNone (cells ++ gone)
  pub around : All (AreCrossing crosses) cells
  pub are : All (λ c. IsCell c × (EachLeaf inside c ⊎ IsCrossing crosses c)) cells
  pub gone_are : All (λ c. IsCrossing crosses c × EachLeaf outside c) gone
  pub near : All (λ c. (level_of c ≡ deepest) ⊎ EachLeaf inside c) cells
      ⊎ (most ≤ (length cells + length gone) + 2)
      ⊎ TakeMoreWork (λ c n. crosses c n × IsSplit outside cells c) (work_allowed size most)

-- above level `k` too many cells cross to look into: at one level more than `many`, or cells that take more work than
-- is `allowed`
abbrev pub IsMuchCrossing : (ℕ → ℕ → Type 0) → ℕ → ℕ → ℕ → Type 0
IsMuchCrossing crosses many allowed k =
    ((j : ℕ) × (j < k) × TakeMore (λ c. IsCrossing crosses c × (level_of c ≡ j)) (λ c. 1) many)
    ⊎ TakeMoreWork (λ c n. crosses c n × (level_of c < k)) allowed

-- the inner covering `u` of at most `most` cells comes near: it is the normal form of `most` cells, or has each leaf
-- but those that lie outside or in a cell of level `k` that crosses, for each level `k` down to `deepest`, unless too
-- many cells cross above that level
pub record ComesNearInner (outside : ℕ → Type 0) (crosses : ℕ → ℕ → Type 0) (size deepest most : ℕ) (u : List ℕ)
    : Type 0 where
  pub cells : List ℕ
  pub leaves : HasLeavesOf (has_leaf cells) u
  pub normal : IsNormalForm (has_leaf cells) u
  pub apart : AllPairs ShareNone cells
  pub around : All (AreCrossing crosses) cells
  pub near : (most ≤ length cells) ⊎ ((k : ℕ) → k ≤ deepest →
      ((x : ℕ) → x < LEAVES → (has_leaf u x ≡ true) ⊎ IsLeft outside crosses k x)
      ⊎ IsMuchCrossing crosses (looked_into most) (work_allowed size most) k)
