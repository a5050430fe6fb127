use Rattle.std.proofs.Common.{◌<◌, ◌≤◌, ◌-◌, length, get_or}
use Rattle.s2edit.proofs.lacking.leap_below.Given as goal

-- the last cell that is known to be below the mark
abbrev pub invariant-loop-leap : goal.invariant-loop-leap
invariant-loop-leap l = record {
  after : l.at ≤ l.last;
  within : l.last < length l.cells;
  below : get_or l.cells l.last 0 < l.mark;
  some : 0 < l.leap;
}

abbrev pub decreases-loop-leap : goal.decreases-loop-leap
decreases-loop-leap l = length l.cells - l.last

abbrev pub invariant-loop-leap-2 : goal.invariant-loop-leap-2
invariant-loop-leap-2 l = record {
  after : l.at ≤ l.last;
  within : l.last < length l.cells;
  below : get_or l.cells l.last 0 < l.mark;
}

abbrev pub decreases-loop-leap-2 : goal.decreases-loop-leap-2
decreases-loop-leap-2 l = l.leap
