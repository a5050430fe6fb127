use Rattle.std.proofs.Common.{◌≡◌, ◌<◌, ◌≤◌, ℕ, true}
use Rattle.s2cell.specs.Cell.{child_of}
use Rattle.s2list.specs.Packed.{IsPlace}
use Rattle.s2union.specs.Apply.{has}
use Rattle.s2edit.specs.Working.Splice.{child_start}
use Rattle.s2edit.proofs.splice.before_all.Given as goal

abbrev pub invariant-loop-left : goal.invariant-loop-left
invariant-loop-left l = record {
  most : l.left ≤ l.place;
  at : IsPlace l.list (child_start l.parent l.left) l.from;
  held : (i : ℕ) → l.left ≤ i → i < l.place → has l.list (child_of l.parent i) ≡ true;
}

abbrev pub decreases-loop-left : goal.decreases-loop-left
decreases-loop-left l = l.left
