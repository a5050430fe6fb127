use Rattle.std.proofs.Common.{length}
use Rattle.s2room.proofs.merge.+gather.Given as goal

abbrev pub decreases-gather : goal.decreases-gather
decreases-gather l = length l.ends.now
