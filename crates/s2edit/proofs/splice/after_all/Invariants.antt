use Rattle.std.proofs.Common.{◌≡◌, ◌<◌, ◌≤◌, ◌-◌, ℕ, true}
use Rattle.s2cell.specs.Cell.{child_of}
use Rattle.s2list.specs.Packed.{IsPlace}
use Rattle.s2union.specs.Apply.{has}
use Rattle.s2edit.specs.Working.Splice.{child_start}
use Rattle.s2edit.proofs.splice.after_all.Given as goal

abbrev pub invariant-loop-later : goal.invariant-loop-later
invariant-loop-later l = record {
  few : l.later ≤ 4;
  more : l.place < l.later;
  at : IsPlace l.list (child_start l.parent l.later) l.to;
  held : (i : ℕ) → l.place < i → i < l.later → has l.list (child_of l.parent i) ≡ true;
}

abbrev pub decreases-loop-later : goal.decreases-loop-later
decreases-loop-later l = 4 - l.later
