use Rattle.std.proofs.Common.{◌≡◌, ◌<◌, ◌≤◌, ℕ, true, length}
use Rattle.s2cell.specs.Cell.{first_leaf, child_of}
use Rattle.s2list.specs.Packed.{FirstEndBy}
use Rattle.s2list.specs.Union.{has_leaf, LiesIn}
use Rattle.s2union.specs.Apply.{has}
use Rattle.s2edit.specs.Working.Part.{Grows}
use Rattle.s2edit.proofs.near.watch_children.Given as goal

abbrev pub invariant-loop-k : goal.invariant-loop-k
invariant-loop-k l = record {
  within : l.at ≤ length l.list;
  ended : l.k < 4 → FirstEndBy l.list l.at (first_leaf (child_of l.parent l.k));
  grows : Grows (has_leaf l.initial.watched.items) (has_leaf l.watched.items) l.list;
  children : (i : ℕ) → i < l.k → has l.list (child_of l.parent i) ≡ true →
      LiesIn (has_leaf l.watched.items) (child_of l.parent i);
}
