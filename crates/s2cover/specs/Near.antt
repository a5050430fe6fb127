-- How near a covering of few cells comes to its region.
use Rattle.std.specs.Prelude.{◌≡◌, ◌≢◌, ℕ, ◌+◌, ◌*◌, ◌^◌, ◌<◌, ◌≤◌, ◌⊎◌, Bool, List, All, AllPairs, Contains}
use Rattle.std.specs.Prelude.{length}
use Rattle.std.specs.List.{sum_by}
use Rattle.s2cell.specs.Cell.{IsCell, IsInside, covers, level_of}
use Rattle.s2list.specs.Union.{LiesIn, ShareNone, ShareSome, has_leaf}
use Rattle.s2cover.specs.Coverings.{EachShares, HasAllOf, HasLeavesOf, inner_set}

-- the cell `c` crosses the region whose sets are `outer` and `inner`: it has a leaf of `outer`, and not leaves of
-- `inner` alone
pub record Crosses (outer inner : ℕ → Bool) (c : ℕ) : Type 0 where
  pub cell : IsCell c
  pub shares : ShareSome (covers c) outer
  pub crosses : ¬ (LiesIn inner c)

-- no larger cell around `c` lies inside `S`
abbrev pub IsLargest : (ℕ → Bool) → ℕ → Type 0
IsLargest S c = (d : ℕ) → IsCell d → level_of d < level_of c → IsInside c d → ¬ (LiesIn S d)

-- the covering `u` is made of the cells `v`: it has their leaves, no two of them share one, and no larger cell around
-- one lies inside `S`. The covering is normalized, so it may have their parent in place of four of them
pub record IsMadeOf (S : ℕ → Bool) (v u : List ℕ) : Type 0 where
  pub leaves : HasLeavesOf (has_leaf v) u
  pub apart : AllPairs ShareNone v
  pub largest : All (IsLargest S) v

-- there are cells with the property, none listed twice, whose work adds up to more than `n`
pub record TakeMore (P : ℕ → Type 0) (work : ℕ → ℕ) (n : ℕ) : Type 0 where
  pub cells : List ℕ
  pub once : AllPairs ◌≢◌ cells
  pub are : All P cells
  pub more : n < sum_by work cells

-- one of the cells `v` is the cell `c` or lies in it
abbrev pub IsOver : List ℕ → ℕ → Type 0
IsOver v c = IsCell c × (d : ℕ) × Contains v d × IsInside d c

-- how much work a covering of at most `most` cells may take for a region of this size
abbrev pub work_allowed : ℕ → ℕ → ℕ
work_allowed size most = 2 ^ 20 + 32 * (size + most)

-- the outer covering `u` of at most `most` cells comes near: each cell that it is made of is of the level `deepest` or
-- lies inside, unless it is made of `most - 2` cells or more, or these and the cells around them take more work than is
-- allowed
pub record IsNearOuter (outer inner : ℕ → Bool) (work : ℕ → ℕ) (size deepest most : ℕ) (u : List ℕ) : Type 0 where
  pub cells : List ℕ
  pub made : IsMadeOf inner cells u
  pub shares : EachShares outer cells
  pub near : All (λ c. (level_of c ≡ deepest) ⊎ LiesIn inner c) cells ⊎ (most ≤ length cells + 2)
      ⊎ TakeMore (IsOver cells) work (work_allowed size most)

-- more than `n` cells of level `k` cross the region
abbrev pub CrossMore : (ℕ → Bool) → (ℕ → Bool) → ℕ → ℕ → Type 0
CrossMore outer inner k n = TakeMore (λ c. Crosses outer inner c × (level_of c ≡ k)) (λ c. 1) n

-- above level `k` too much crosses the region to look into: at one level more than `many` cells, or cells that take
-- more work than is `allowed`
abbrev pub IsMuchAbove : (ℕ → Bool) → (ℕ → Bool) → (ℕ → ℕ) → ℕ → ℕ → ℕ → Type 0
IsMuchAbove outer inner work many allowed k = ((j : ℕ) × (j < k) × CrossMore outer inner j many)
    ⊎ TakeMore (λ c. Crosses outer inner c × (level_of c < k)) work allowed

-- how many cells that cross an inner covering of at most `most` cells looks into at each level
abbrev pub looked_into : ℕ → ℕ
looked_into most = most + 32

-- the inner covering `u` of at most `most` cells comes near: it is made of `most`, or has each cell of each level down
-- to `deepest` that lies inside, unless too much crosses the region above that level
pub record IsNearInner (outer inner : ℕ → Bool) (work : ℕ → ℕ) (size deepest most : ℕ) (u : List ℕ) : Type 0 where
  pub cells : List ℕ
  pub made : IsMadeOf inner cells u
  pub near : (most ≤ length cells) ⊎ ((k : ℕ) → k ≤ deepest → HasAllOf (inner_set inner k) u
      ⊎ IsMuchAbove outer inner work (looked_into most) (work_allowed size most) k)
