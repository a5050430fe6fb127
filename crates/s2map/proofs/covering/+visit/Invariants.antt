use Rattle.std.proofs.Common.{◌+◌, ◌-◌, ◌≤◌, length}
use Rattle.s2cell.specs.Cell.{level_of}
use Rattle.s2map.proofs.Coverings.{Visited}
use Rattle.s2map.proofs.covering.+visit.Given as goal

abbrev pub decreases-visit : goal.decreases-visit
decreases-visit l = 30 - level_of l.at.now.cell

abbrev pub invariant-loop-digit : goal.invariant-loop-digit
invariant-loop-digit l =
    Visited l.shape l.level l.at.cell l.digit l.fn.met.items l.fn.within.items l.met.items l.within.items
    × (length l.met.items + length l.within.items ≤ l.most)
