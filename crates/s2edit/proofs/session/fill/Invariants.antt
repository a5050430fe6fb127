use Rattle.std.proofs.Common.{length, map}
use Rattle.s2edit.specs.Content.{diff_of}
use Rattle.s2edit.proofs.Saving.{Filled}
use Rattle.s2edit.proofs.session.fill.Given as goal

abbrev pub invariant-loop-change : goal.invariant-loop-change
invariant-loop-change l = Filled l.moves.items l.ring (map diff_of l.fn.moves.items) l.fn.ring.capacity

abbrev pub decreases-loop-change : goal.decreases-loop-change
decreases-loop-change l = length l.moves.items
