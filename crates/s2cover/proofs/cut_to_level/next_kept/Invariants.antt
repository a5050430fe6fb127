use Rattle.std.proofs.Common.{◌≡◌, ◌≤◌, ◌-◌, length, take}
use Rattle.s2list.specs.Union.{IsLocal}
use Rattle.s2cover.specs.Cut.{cells_kept}
use Rattle.s2cover.proofs.cut_to_level.next_kept.Given as goal

abbrev pub invariant-loop-i : goal.invariant-loop-i
invariant-loop-i g l = record {
  from : l.start ≤ l.i;
  within : l.i ≤ length (g.C.Listed.ids l.cells);
  passed : IsLocal (g.C.Listed.ids l.cells) → cells_kept l.level (take l.i (g.C.Listed.ids l.cells))
      ≡ cells_kept l.level (take l.start (g.C.Listed.ids l.cells));
}

abbrev pub decreases-loop-i : goal.decreases-loop-i
decreases-loop-i g l = length (g.C.Listed.ids l.cells) - l.i
