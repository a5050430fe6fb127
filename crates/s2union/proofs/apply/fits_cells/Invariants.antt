use Rattle.std.proofs.Common.{◌+◌, length}
use Rattle.s2union.proofs.Ending.{Seen}
use Rattle.s2union.proofs.apply.fits_cells.Given as goal

-- what went by is packed, and the change fits as far as the walk has come
abbrev pub invariant-loop-merge : goal.invariant-loop-merge
invariant-loop-merge l = Seen (record { out = l.out; put = l.put; cells = l.cells }) l.merge l.tail

abbrev pub decreases-loop-merge : goal.decreases-loop-merge
decreases-loop-merge l = length l.merge.cells + length l.merge.put
