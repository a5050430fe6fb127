use Rattle.std.proofs.Common.{◌-◌, ◌≤◌, length, take}
use Rattle.s2list.specs.Packed.{IsPacked}
use Rattle.s2list.proofs.whole.union_at_front.Given as goal

abbrev pub invariant-loop-k : goal.invariant-loop-k
invariant-loop-k g l = record {
  within : l.k ≤ length (g.C.Listed.ids l.cells);
  packed : IsPacked (take l.k (g.C.Listed.ids l.cells));
}

abbrev pub decreases-loop-k : goal.decreases-loop-k
decreases-loop-k g l = length (g.C.Listed.ids l.cells) - l.k
