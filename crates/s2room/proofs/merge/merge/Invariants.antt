use Rattle.std.proofs.Common.{◌+◌, ◌-◌}
use Rattle.s2room.specs.Working.Merging.{IsMerging}
use Rattle.s2room.proofs.merge.merge.Given as goal

abbrev pub invariant-loop-left : goal.invariant-loop-left
invariant-loop-left l = IsMerging l.xs l.ys l.out l.left

abbrev pub decreases-loop-left : goal.decreases-loop-left
decreases-loop-left l = l.left.x_end + l.left.y_end - (l.left.x + l.left.y)

abbrev pub invariant-loop-left-2 : goal.invariant-loop-left-2
invariant-loop-left-2 l = IsMerging l.xs l.ys l.out l.left

abbrev pub decreases-loop-left-2 : goal.decreases-loop-left-2
decreases-loop-left-2 l = l.left.x_end + l.left.y_end - (l.left.x + l.left.y)
