use Rattle.std.proofs.Common.{◌≤◌, IsTrue, take}
use Rattle.s2list.specs.Packed.{IsPacked}
use Rattle.s2list.proofs.whole.surely_continues.Given as goal

abbrev pub invariant-loop-k : goal.invariant-loop-k
invariant-loop-k g l = record {
  from : l.start ≤ l.k;
  within : l.start ≤ l.stop → l.k ≤ l.stop;
  packed : IsTrue l.all → IsPacked (take l.start (g.C.Listed.ids l.cells)) → IsPacked
      (take l.k (g.C.Listed.ids l.cells));
}
