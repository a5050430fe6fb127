use Rattle.std.proofs.Common.{◌+◌, ◌≤◌, length}
use Rattle.s2list.specs.Packed.{IsPacked}
use Rattle.s2list.specs.Search.{Brackets}
use Rattle.s2list.proofs.find.find_id_one_by_one.Given as goal

abbrev pub invariant-loop-left : goal.invariant-loop-left
invariant-loop-left g l = record {
  within : l.base + l.left ≤ length (g.C.Listed.ids l.cells);
  brackets : IsPacked (g.C.Listed.ids l.cells) →
      Brackets (g.C.Listed.ids l.cells) l.mark l.start (l.start + l.size) →
      Brackets (g.C.Listed.ids l.cells) l.mark l.base (l.base + l.left);
}

abbrev pub decreases-loop-left : goal.decreases-loop-left
decreases-loop-left g l = l.left
