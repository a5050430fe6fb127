use Rattle.std.proofs.Common.{◌≡◌, ◌≤◌, ◌-◌, length, drop}
use Rattle.s2edit.proofs.lacking.same_back.Given as goal

abbrev pub invariant-loop-i : goal.invariant-loop-i
invariant-loop-i l = record {
  in_us : l.most ≤ length l.us;
  in_vs : l.most ≤ length l.vs;
  same : drop (length l.us - l.i) l.us ≡ drop (length l.vs - l.i) l.vs;
}
