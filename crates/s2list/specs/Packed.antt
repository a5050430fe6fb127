-- A list of cells while it is being put together.
use Rattle.std.specs.Prelude.{◌≡◌, ℕ, ◌+◌, ◌<◌, ◌≤◌, ◌||◌, List, [], ◌∷◌, ◌++◌, length, take, All, AllPairs}
use Rattle.std.specs.Prelude.{slice_index}
use Rattle.s2cell.specs.Cell.{IsCell, level_of, first_leaf, size_of, child_of, covers}
use Rattle.s2list.specs.Union.{has_leaf, between, IsNormalForm}

-- all leaves of `a` come before those of `b`
abbrev pub EndsBefore : ℕ → ℕ → Type 0
EndsBefore a b = first_leaf a + size_of a ≤ first_leaf b

-- `a`, `b`, `c` and `d` are the children of `p`, in order
pub record IsFamily (a b c d p : ℕ) : Type 0 where
  pub cell : IsCell p
  pub inner : level_of p < 30
  pub zero : a ≡ child_of p 0
  pub one : b ≡ child_of p 1
  pub two : c ≡ child_of p 2
  pub three : d ≡ child_of p 3

-- each cell ends before the next begins, and no four in a row are the children of one cell
pub record IsPacked (u : List ℕ) : Type 0 where
  pub cells : All IsCell u
  pub chain : AllPairs EndsBefore u
  pub unmerged : (k p : ℕ) → k + 3 < length u →
      IsFamily (slice_index u k) (slice_index u (k + 1)) (slice_index u (k + 2)) (slice_index u (k + 3)) p → ⊥

-- the first `kept` cells of `front`, followed by `merged`, are packed, and have the leaves of `front` and `cell`
pub record Merges (front : List ℕ) (cell kept merged : ℕ) : Type 0 where
  pub within : kept ≤ length front
  pub packed : IsPacked (take kept front ++ merged ∷ [])
  pub leaves : (x : ℕ) → (has_leaf (take kept front) x || covers merged x) ≡ (has_leaf front x || covers cell x)
  pub start : first_leaf merged ≤ first_leaf cell

-- the first `n` cells of `u` end by the leaf `lo`: all their leaves come before it
abbrev pub FirstEndBy : List ℕ → ℕ → ℕ → Type 0
FirstEndBy u n lo = (k : ℕ) → k < n → first_leaf (slice_index u k) + size_of (slice_index u k) ≤ lo

-- if there is a cell at index `n` of `u`, it doesn't end by the leaf `lo`
abbrev pub EndsAfter : List ℕ → ℕ → ℕ → Type 0
EndsAfter u n lo = n < length u → lo < first_leaf (slice_index u n) + size_of (slice_index u n)

-- the first `at` cells of `u` end by the leaf `lo`, and the next one, if there is one, doesn't
pub record IsPlace (u : List ℕ) (lo at : ℕ) : Type 0 where
  pub within : at ≤ length u
  pub ended : FirstEndBy u at lo
  pub next : EndsAfter u at lo

-- `new` is `old`, and then the normal form of the leaves from `lo` to before `hi`
pub record FillsGap (old new : List ℕ) (lo hi : ℕ) : Type 0 where
  pub tiles : List ℕ
  pub is : new ≡ old ++ tiles
  pub normal : IsNormalForm (between lo hi) tiles
  pub leaves : (x : ℕ) → has_leaf tiles x ≡ between lo hi x
