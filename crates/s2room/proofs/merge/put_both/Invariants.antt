use Rattle.std.proofs.Common.{◌≡◌, ◌+◌, ◌-◌, ◌*◌, ◌≤◌}
use Rattle.s2room.specs.Working.Merging.{IsMerging}
use Rattle.s2room.proofs.merge.put_both.Given as goal

abbrev pub invariant-loop-turn : goal.invariant-loop-turn
invariant-loop-turn l = record {
  merging : IsMerging l.xs l.ys l.out l.rest;
  turns : l.turn ≤ 8;
  x_left : l.rest.x + 2 * (8 - l.turn) ≤ l.rest.x_end;
  y_left : l.rest.y + 2 * (8 - l.turn) ≤ l.rest.y_end;
  front : l.rest.x + l.rest.y ≡ l.fn.left.x + l.fn.left.y + l.turn;
  back : l.rest.x_end + l.rest.y_end ≤ l.fn.left.x_end + l.fn.left.y_end;
}

abbrev pub decreases-loop-turn : goal.decreases-loop-turn
decreases-loop-turn l = 8 - l.turn
