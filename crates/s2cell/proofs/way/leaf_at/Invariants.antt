use Rattle.std.proofs.Common.{◌+◌, ◌*◌}
use Rattle.s2cell.proofs.Walk.{DownToLeaf}
use Rattle.s2cell.proofs.way.leaf_at.Given as goal

abbrev pub invariant-loop-level : goal.invariant-loop-level
invariant-loop-level l = DownToLeaf l.level l.start l.leaf l.i l.j l.shift

abbrev pub invariant-loop-step : goal.invariant-loop-step
invariant-loop-step l = DownToLeaf (4 * l.step + 2) l.start l.leaf l.i l.j l.shift
