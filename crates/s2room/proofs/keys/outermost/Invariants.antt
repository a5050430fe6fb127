use Rattle.std.proofs.Common.{◌≤◌}
use Rattle.s2cell.specs.Cell.{first_leaf, level_of, parent_of}
use Rattle.s2room.proofs.keys.outermost.Given as goal

abbrev pub invariant-loop-level : goal.invariant-loop-level
invariant-loop-level l = record {
  within : l.level ≤ level_of l.cell;
  start : l.from ≤ first_leaf l.cell → l.from ≤ first_leaf (parent_of l.cell l.level);
}

abbrev pub decreases-loop-level : goal.decreases-loop-level
decreases-loop-level l = l.level
