-- The last cells of a list that is passed one cell after another.
use Rattle.std.specs.Prelude.{◌≡◌, ◌↔◌, ◌+◌, ◌-◌, ◌<◌, ◌≤◌, ◌++◌, ℕ, List, Some, length, reverse, slice_get}
use Rattle.std.specs.Prelude.{slice_index}
use Rattle.s2list.specs.Packed.{EndsBefore, IsFamily, IsPacked}
use Rattle.s2union.specs.declared.apply.Tail.{Tail}

-- the cell comes after the last one, and is not the fourth of a family with the last three
pub record Follows (t : Tail) (cell : ℕ) : Type 0 where
  pub after : (c : ℕ) → t.last ≡ Some c → EndsBefore c cell
  pub unmerged : (a b c p : ℕ) → t.third ≡ Some a → t.second ≡ Some b → t.last ≡ Some c → IsFamily a b c cell p → ⊥

-- the last three cells of a list; `back` is that list in reverse
pub record IsTail (t : Tail) (back : List ℕ) : Type 0 where
  pub last : t.last ≡ slice_get back 0
  pub second : t.second ≡ slice_get back 1
  pub third : t.third ≡ slice_get back 2

-- A run passes exactly if the cells before it, followed by the run, are packed; this holds for all packed cells that
-- end in `old`. If the run passes, `new` is the end of all of them.
pub record Passes (passes : Type 0) (old new : Tail) (run : List ℕ) : Type 0 where
  pub exact : (back : List ℕ) → IsTail old back → IsPacked (reverse back) → (passes ↔ IsPacked (reverse back ++ run))
  pub ends : (back : List ℕ) → IsTail old back → IsPacked (reverse back) → passes → IsTail new (reverse run ++ back)

-- the last three cells of `list`, or all if it has fewer, are the cells of `cells` just before index `i`
pub record Continues (list cells : List ℕ) (i : ℕ) : Type 0 where
  pub within : (k : ℕ) → length list ≤ k + 3 → k < length list → length list ≤ k + i
  pub same : (k : ℕ) → length list ≤ k + 3 → k < length list →
      slice_index list k ≡ slice_index cells (k + i - length list)
