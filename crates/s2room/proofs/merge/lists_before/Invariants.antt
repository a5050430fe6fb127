use Rattle.std.proofs.Common.{◌-◌, ◌≤◌, length}
use Rattle.s2room.proofs.merge.lists_before.Given as goal

abbrev pub invariant-loop-k : goal.invariant-loop-k
invariant-loop-k l = l.k ≤ length l.ends

abbrev pub decreases-loop-k : goal.decreases-loop-k
decreases-loop-k l = length l.ends - l.k
