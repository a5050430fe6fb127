use Rattle.std.proofs.Common.{◌≡◌, ◌+◌, ◌++◌, length, take, drop}
use Rattle.s2list.proofs.room.put_run.Given as goal

abbrev pub invariant-loop-k : goal.invariant-loop-k
invariant-loop-k g l = record {
  len : length l.out ≡ length l.fn.out;
  run : l.out ≡ (take l.n l.fn.out ++ take l.k (drop l.from (g.C.Listed.ids l.cells))) ++ drop (l.n + l.k) l.fn.out;
}
