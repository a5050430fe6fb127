use Rattle.std.proofs.Common.{◌≡◌, ◌≤◌, ◌-◌, length, take}
use Rattle.s2cover.specs.Cut.{cells_kept}
use Rattle.s2cover.proofs.cut_to_level.union_kept.Given as goal

abbrev pub invariant-loop-at : goal.invariant-loop-at
invariant-loop-at g l = record {
  within : l.i ≤ length (g.C.Listed.ids l.cells);
  so_far : l.list.items ≡ cells_kept l.level (take l.i (g.C.Listed.ids l.cells));
}

abbrev pub decreases-loop-at : goal.decreases-loop-at
decreases-loop-at g l = length (g.C.Listed.ids l.cells) - l.i
