use Rattle.std.proofs.Common.{◌≡◌, ◌++◌, length}
use Rattle.s2calc.proofs.edits.union_of.Given as goal

-- the cells so far and those that are left are all
abbrev pub invariant-loop-cell : goal.invariant-loop-cell
invariant-loop-cell l = l.list.items ++ l.cells ≡ l.fn.cells

abbrev pub decreases-loop-cell : goal.decreases-loop-cell
decreases-loop-cell l = length l.cells
