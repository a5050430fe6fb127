use Rattle.std.proofs.Common.{◌≡◌, ◌≤◌, ◌-◌, drop, length, take}
use Rattle.s2list.specs.Union.{IsLocal}
use Rattle.s2list.specs.Room.{IsPut}
use Rattle.s2cover.specs.Cut.{cells_kept}
use Rattle.s2cover.proofs.cut_to_level.put_kept.Given as goal

abbrev pub invariant-loop-n : goal.invariant-loop-n
invariant-loop-n g l = record {
  within : l.i ≤ length (g.C.Listed.ids l.cells);
  len : length l.out ≡ length l.fn.out;
  rest : drop l.n l.out ≡ drop l.n l.fn.out;
  so_far : IsLocal (g.C.Listed.ids l.cells) →
      IsPut (cells_kept l.level (take l.i (g.C.Listed.ids l.cells))) l.fn.out l.out l.n;
}

abbrev pub decreases-loop-n : goal.decreases-loop-n
decreases-loop-n g l = length (g.C.Listed.ids l.cells) - l.i
