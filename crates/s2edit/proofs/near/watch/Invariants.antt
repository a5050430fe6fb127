use Rattle.std.proofs.Common.{◌≡◌, ℕ, Bool, true, drop}
use Rattle.s2list.specs.Union.{has_leaf, IsWithin}
use Rattle.s2union.specs.Apply.{has}
use Rattle.s2edit.specs.Working.Part.{Grows, IsWatched}
use Rattle.s2edit.proofs.near.watch.Given as goal

-- if the cells that are left are watched in a larger set, all are
abbrev pub invariant-loop-cell : goal.invariant-loop-cell
invariant-loop-cell l = record {
  grows : Grows (has_leaf l.initial.watched.items) (has_leaf l.watched.items) l.list;
  rest : (T : ℕ → Bool) → IsWithin (has_leaf l.watched.items) T →
      ((c : ℕ) → has (drop l.cell-index l.cells) c ≡ true → IsWatched T l.list c) →
      (c : ℕ) → has l.cells c ≡ true → IsWatched T l.list c;
}
