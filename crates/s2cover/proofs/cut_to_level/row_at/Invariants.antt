use Rattle.std.proofs.Common.{◌≤◌, ◌<◌, ◌-◌, length}
use Rattle.s2list.specs.Union.{IsLocal}
use Rattle.s2cover.specs.Working.Cut.{cells_cut}
use Rattle.s2cover.specs.Working.Rows.{HasRow}
use Rattle.s2cover.proofs.cut_to_level.row_at.Given as goal

abbrev pub invariant-loop-next : goal.invariant-loop-next
invariant-loop-next g l = record {
  from : l.fn.i < l.next;
  within : l.next ≤ length (g.C.Listed.ids l.cells);
  row : IsLocal (g.C.Listed.ids l.cells) → HasRow (cells_cut l.level (g.C.Listed.ids l.cells)) l.fn.i l.next l.lo l.hi;
}

abbrev pub decreases-loop-next : goal.decreases-loop-next
decreases-loop-next g l = length (g.C.Listed.ids l.cells) - l.next
