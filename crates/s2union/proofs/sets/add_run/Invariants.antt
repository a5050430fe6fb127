use Rattle.std.proofs.Common.{length, ◌-◌, ◌≤◌, ◌≡◌, ◌+◌}
use Rattle.std.specs.Vec.{vec_len, vec_capacity}
use Rattle.s2union.proofs.Uniting.{Adding}
use Rattle.s2union.proofs.sets.add_run.Given as goal

abbrev pub invariant-loop-i : goal.invariant-loop-i
invariant-loop-i l = record {
  within : l.i ≤ length l.cells;
  few : vec_len l.list ≤ vec_len l.initial.list + l.i;
  room : vec_capacity l.list ≡ vec_capacity l.initial.list;
  adding : Adding l.initial.list.items l.cells l.list.items l.i;
}

abbrev pub decreases-loop-i : goal.decreases-loop-i
decreases-loop-i l = length l.cells - l.i
