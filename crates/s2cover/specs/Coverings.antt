-- Regions of leaves, and their outer and inner coverings.
use Rattle.std.specs.Prelude.{◌≡◌, ℕ, zero, suc, ◌+◌, ◌-◌, ◌*◌, ◌/◌, ◌^◌, Bool, true, false, ◌&&◌}
use Rattle.std.specs.Prelude.{◌||◌, nat_lt, ◌<◌, ◌≤◌, List, All, length}
use Rattle.s2cell.specs.Cell.{IsCell, level_of, covers}
use Rattle.s2cell.specs.Rectangles.{Rect, rect_set}
use Rattle.s2cell.specs.declared.TheConstants.{LEAVES}
use Rattle.s2list.specs.Union.{LiesIn, ShareSome, IsNormalForm, has_leaf}
use Rattle.s2cover.specs.declared.region.CoverFault.{CoverFault}
use Rattle.s2cover.specs.declared.region.CoverFault.TheVariants.{TooMany}

-- no leaf of the cell `c` is in `S`
abbrev pub LiesOutside : (ℕ → Bool) → ℕ → Type 0
LiesOutside S c = (x : ℕ) → covers c x ≡ true → S x ≡ false

-- the `n` leaves from `lo` on are all in `S`
unfoldable pub filled : (ℕ → Bool) → ℕ → ℕ → Bool
filled S lo zero = true
filled S lo (suc n) = filled S lo n && S (lo + n)

-- at least one of the `n` leaves from `lo` on is in `S`
unfoldable pub touched : (ℕ → Bool) → ℕ → ℕ → Bool
touched S lo zero = false
touched S lo (suc n) = touched S lo n || S (lo + n)

-- the cell of level `k` around the leaf `x` shares a leaf with `R`
abbrev pub block_touched : (ℕ → Bool) → ℕ → ℕ → Bool
block_touched R k x = touched R (x / 4 ^ (30 - k) * 4 ^ (30 - k)) (4 ^ (30 - k))

-- the cell of level `k` around the leaf `x` lies inside `R`
abbrev pub block_filled : (ℕ → Bool) → ℕ → ℕ → Bool
block_filled R k x = filled R (x / 4 ^ (30 - k) * 4 ^ (30 - k)) (4 ^ (30 - k))

-- the leaves of all level `k` cells that share a leaf with `R`
unfoldable pub outer_set : (ℕ → Bool) → ℕ → ℕ → Bool
unfolding touched
outer_set R k x = nat_lt x LEAVES && block_touched R k x

-- the leaves of all level `k` cells that lie inside `R`
unfoldable pub inner_set : (ℕ → Bool) → ℕ → ℕ → Bool
unfolding filled
inner_set R k x = nat_lt x LEAVES && block_filled R k x

-- the leaf `x` is in a level `k` cell that shares a leaf with `R`
abbrev pub IsInOuter : (ℕ → Bool) → ℕ → ℕ → Type 0
IsInOuter R k x = (c : ℕ) × IsCell c × (level_of c ≡ k) × (covers c x ≡ true) × ShareSome (covers c) R

-- the leaf `x` is in a level `k` cell that lies inside `R`
abbrev pub IsInInner : (ℕ → Bool) → ℕ → ℕ → Type 0
IsInInner R k x = (c : ℕ) × IsCell c × (level_of c ≡ k) × (covers c x ≡ true) × LiesIn R c

-- the leaves of the cells `u` are those of `S`
abbrev pub HasLeavesOf : (ℕ → Bool) → List ℕ → Type 0
HasLeavesOf S u = (x : ℕ) → has_leaf u x ≡ S x

-- the fault is `TooMany` only if the normal form of `S` has more than `max` cells
abbrev pub TooManyMeans : (ℕ → Bool) → ℕ → CoverFault → Type 0
TooManyMeans S max fault = fault ≡ TooMany → (u : List ℕ) → IsNormalForm S u → max < length u

-- the leaves of the cells `u` that are in the rectangle
abbrev pub clipped : List ℕ → Rect → ℕ → Bool
clipped u r x = has_leaf u x && rect_set r x

-- the cells `u` have each leaf of `S`
abbrev pub HasAllOf : (ℕ → Bool) → List ℕ → Type 0
HasAllOf S u = (x : ℕ) → x < LEAVES → S x ≡ true → has_leaf u x ≡ true

-- each of the cells `u` shares a leaf with `S`
abbrev pub EachShares : (ℕ → Bool) → List ℕ → Type 0
EachShares S u = All (λ c. ShareSome (covers c) S) u

-- none of the cells `u` is deeper than level `k`
abbrev pub NoneDeeper : ℕ → List ℕ → Type 0
NoneDeeper k u = All (λ c. level_of c ≤ k) u
