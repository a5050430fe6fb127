use Rattle.s2cell.proofs.Walk.{DownToPlace, DownInTwo}
use Rattle.s2cell.proofs.way.place_at.Given as goal

abbrev pub invariant-loop-level : goal.invariant-loop-level
invariant-loop-level l = DownToPlace l.level l.start l.leaf l.i l.j l.shift

abbrev pub invariant-loop-step : goal.invariant-loop-step
invariant-loop-step l = DownInTwo l.step l.start l.leaf l.before l.last l.shift
