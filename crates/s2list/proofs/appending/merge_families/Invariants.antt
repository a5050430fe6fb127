use Rattle.std.proofs.Common.{take}
use Rattle.s2list.proofs.Packing.{Merging}
use Rattle.s2list.proofs.appending.merge_families.Given as goal

abbrev pub invariant-loop-kept : goal.invariant-loop-kept
invariant-loop-kept g l = Merging (take l.fn.from (g.C.Listed.ids l.list)) l.fn.cell l.kept l.last

abbrev pub decreases-loop-kept : goal.decreases-loop-kept
decreases-loop-kept g l = l.kept
