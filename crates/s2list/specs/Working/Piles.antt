-- A set of leaves while it is put together from its intervals, from the first leaf to the last.
use Rattle.std.specs.Prelude.{◌≡◌, ℕ, ◌+◌, ◌-◌, ◌<◌, ◌≤◌, ◌⊎◌, Bool, true, false, ◌||◌, List, All, AllPairs}
use Rattle.std.specs.Prelude.{length, slice_index}
use Rattle.s2cell.specs.Cell.{IsCell, first_leaf, size_of}
use Rattle.s2cell.specs.declared.TheConstants.{LEAVES}
use Rattle.s2list.specs.Packed.{EndsBefore, FirstEndBy}
use Rattle.s2list.specs.Union.{IsGreatestIn, LiesIn, between, has_leaf}
use Rattle.s2list.specs.Working.Union.{EndsBy}
use Rattle.s2list.specs.declared.pile.Pile.{Pile}

-- a heap: before the leaf `done`, the set `S` has the leaves of `list` and those from `lo` to before `hi`. The cells of
-- `list` are greatest in `S`, and no cell inside `S` reaches over `lo`
pub record Heaping (S : ℕ → Bool) (list : List ℕ) (lo hi done : ℕ) : Type 0 where
  pub chain : AllPairs EndsBefore list
  pub greatest : All (IsGreatestIn S) list
  pub below : EndsBy list lo
  pub order : lo ≤ hi
  pub reach : hi ≤ done
  pub most : lo < hi → hi ≤ LEAVES
  pub edge : (p : ℕ) → IsCell p → LiesIn S p → first_leaf p < lo → first_leaf p + size_of p ≤ lo
  pub leaves : (x : ℕ) → x < done → S x ≡ (has_leaf list x || between lo hi x)

-- the list of a heap was written
pub record HeapIn (S : ℕ → Bool) (Holds : List ℕ → Type 0) (lo hi done : ℕ) : Type 0 where
  pub list : List ℕ
  pub held : Holds list
  pub heap : Heaping S list lo hi done

-- the heap of a pile
abbrev pub PileIn : (S : ℕ → Bool) (Holds : ℕ → List ℕ → Type 0) (p : Pile) (done : ℕ) → Type 0
PileIn S Holds p done = HeapIn S (Holds p.n) p.lo p.hi done

-- the leaves that `S` has from `done` to before `next` are those from `from` to before `to`
pub record Brings (S : ℕ → Bool) (done from to next : ℕ) : Type 0 where
  pub order : done ≤ from
  pub on : done ≤ next
  pub reach : from < to → to ≤ next
  pub most : from < to → to ≤ LEAVES
  pub before : (x : ℕ) → done ≤ x → x < next → x < from → S x ≡ false
  pub taken : (x : ℕ) → from ≤ x → x < to → S x ≡ true
  pub after : (x : ℕ) → from ≤ x → to ≤ x → x < next → S x ≡ false

-- after the leaf `done`, `S` has the leaves of the cells of `u` from index `i` to before `stop`, and then not the next
pub record IsRun (S : ℕ → Bool) (u : List ℕ) (done i stop : ℕ) : Type 0 where
  pub some : i < stop
  pub within : stop ≤ length u
  pub apart : done < first_leaf (slice_index u i)
  pub before : (x : ℕ) → done ≤ x → x < first_leaf (slice_index u i) → S x ≡ false
  pub same : (x : ℕ) → first_leaf (slice_index u i) ≤ x
      → x < first_leaf (slice_index u (stop - 1)) + size_of (slice_index u (stop - 1)) → S x ≡ has_leaf u x
  pub after : S (first_leaf (slice_index u (stop - 1)) + size_of (slice_index u (stop - 1))) ≡ false

-- a set that is put together on a walk along two lists: before the leaf `done` lie all leaves of the first `i` cells of
-- `xs` and of the first `j` of `ys`, and those of the set are in the heap of the pile
pub record Along (S : ℕ → Bool) (Holds : ℕ → List ℕ → Type 0) (xs ys : List ℕ) (i j : ℕ) (p : Pile) (done : ℕ) : Type 0
  where
    pub ended_x : FirstEndBy xs i done
    pub ended_y : FirstEndBy ys j done
    pub heap : PileIn S Holds p done

-- `at` is the index after `i`, if there is a cell at `i` of `len` that ends at `end`, by the leaf `done`; else `i`
abbrev pub IsPast : (i len end done at : ℕ) → Type 0
IsPast i len end done at = ((i < len) × (end ≤ done) × (at ≡ i + 1)) ⊎ ((at ≡ i) × (i < len → done < end))
