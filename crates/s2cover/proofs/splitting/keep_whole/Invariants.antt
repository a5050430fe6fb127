use Rattle.std.proofs.Common.{length}
use Rattle.s2cover.proofs.Splittings.{Closing}
use Rattle.s2cover.proofs.splitting.keep_whole.Given as goal

abbrev pub invariant-loop-quadrant : goal.invariant-loop-quadrant
invariant-loop-quadrant g l = Closing g.R.RoughRegion.id l.fn.kept.items l.fn.ahead.items l.kept.items l.ahead.items

abbrev pub decreases-loop-quadrant : goal.decreases-loop-quadrant
decreases-loop-quadrant g l = length l.ahead.items
