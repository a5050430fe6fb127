use Rattle.std.proofs.Common.{◌≡◌, ◌≤◌, length, take}
use Rattle.s2edit.proofs.lacking.same_front.Given as goal

abbrev pub invariant-loop-i : goal.invariant-loop-i
invariant-loop-i l = record {
  in_us : l.most ≤ length l.us;
  in_vs : l.most ≤ length l.vs;
  same : take l.i l.us ≡ take l.i l.vs;
}
