use Rattle.std.proofs.Common.{◌≡◌, ◌+◌, ◌≤◌, ◌++◌, All, take, drop}
use Rattle.s2cell.specs.Cell.{IsCell}
use Rattle.s2cell.specs.Rectangles.{rect_set}
use Rattle.s2cover.specs.Cut.{cells_kept}
use Rattle.s2cover.specs.Working.Cut.{cells_met}
use Rattle.s2cover.proofs.met.add_met.Given as goal

abbrev pub invariant-loop-k : goal.invariant-loop-k
invariant-loop-k g l = record {
  list : All IsCell (g.C.Listed.ids l.cells) → l.list.items ≡ l.fn.list.items
      ++ cells_met (rect_set l.rect) (cells_kept l.level (take l.k (drop l.first (g.C.Listed.ids l.cells))));
  looks : l.looks.count ≤ l.fn.looks.count + l.k;
}
