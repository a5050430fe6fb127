use Rattle.s2cell.specs.Cell.{level_of}
use Rattle.s2edit.specs.Working.Splice.{IsRun, Completes}
use Rattle.s2edit.proofs.splice.completed.Given as goal

abbrev pub invariant-loop-larger : goal.invariant-loop-larger
invariant-loop-larger l = record {
  run : IsRun l.list l.greatest;
  completes : Completes l.list l.initial.greatest.cell l.greatest.cell;
}

abbrev pub decreases-loop-larger : goal.decreases-loop-larger
decreases-loop-larger l = level_of l.greatest.cell
