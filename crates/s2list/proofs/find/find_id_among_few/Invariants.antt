use Rattle.std.proofs.Common.{◌+◌, ◌≤◌, length}
use Rattle.s2list.specs.Packed.{IsPacked}
use Rattle.s2list.specs.Search.{Brackets}
use Rattle.s2list.proofs.find.find_id_among_few.Given as goal

abbrev pub invariant-loop-size : goal.invariant-loop-size
invariant-loop-size g l = record {
  within : l.base + l.size ≤ length (g.C.Listed.ids l.cells);
  brackets : IsPacked (g.C.Listed.ids l.cells) →
      Brackets (g.C.Listed.ids l.cells) l.mark l.base (l.base + l.size);
}

abbrev pub decreases-loop-size : goal.decreases-loop-size
decreases-loop-size g l = l.size
