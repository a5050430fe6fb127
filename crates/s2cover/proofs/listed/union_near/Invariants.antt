use Rattle.std.proofs.Common.{take}
use Rattle.s2cell.specs.Rectangles.{rect_set}
use Rattle.s2list.specs.Union.{IsLocal}
use Rattle.s2cover.proofs.Near.{HasNear}
use Rattle.s2cover.proofs.listed.union_near.Given as goal

abbrev pub invariant-loop-k : goal.invariant-loop-k
invariant-loop-k g l = IsLocal (g.C.Listed.ids l.cells)
    → HasNear (rect_set l.rect) l.level (g.C.Listed.ids l.cells) (take l.k l.around) l.list.items
