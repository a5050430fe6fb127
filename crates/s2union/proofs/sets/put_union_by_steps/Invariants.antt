use Rattle.std.proofs.Common.{◌≡◌, ◌≤◌, ◌+◌, ◌-◌, length}
use Rattle.std.specs.Vec.{vec_len, vec_capacity}
use Rattle.s2union.proofs.Uniting.{Uniting}
use Rattle.s2union.proofs.sets.put_union_by_steps.Given as goal

abbrev pub invariant-loop-i : goal.invariant-loop-i
invariant-loop-i l = record {
  in_x : l.i ≤ length l.xs;
  in_y : l.j ≤ length l.ys;
  few : vec_len l.list ≤ l.i + l.j;
  room : vec_capacity l.list ≡ vec_capacity l.initial.list;
  joining : Uniting l.xs l.ys l.list.items l.i l.j;
}

abbrev pub decreases-loop-i : goal.decreases-loop-i
decreases-loop-i l = (length l.xs - l.i) + (length l.ys - l.j)
