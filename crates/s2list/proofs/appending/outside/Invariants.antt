use Rattle.std.proofs.Common.{take}
use Rattle.s2list.proofs.Placing.{Leaving}
use Rattle.s2list.proofs.appending.outside.Given as goal

abbrev pub invariant-loop-kept : goal.invariant-loop-kept
invariant-loop-kept g l = Leaving (take l.n (g.C.Listed.ids l.list)) l.fn.cell l.kept

abbrev pub decreases-loop-kept : goal.decreases-loop-kept
decreases-loop-kept g l = l.kept
