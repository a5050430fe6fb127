use Rattle.std.proofs.Common.{◌≤◌, ◌-◌, length, map, drop}
use Rattle.s2edit.specs.Content.{diff_of}
use Rattle.s2edit.specs.Working.InTurn.{of_register}
use Rattle.s2edit.proofs.Turns.{GoesOn}
use Rattle.s2edit.proofs.restore.fitting.follow_batches.Given as goal

abbrev pub invariant-loop-done : goal.invariant-loop-done
invariant-loop-done l = record {
  within : l.done ≤ length l.moves;
  goes : GoesOn l.initial.list.cells (of_register l.register (map diff_of l.moves)) l.list.cells
      (of_register l.register (map diff_of (drop l.done l.moves)));
}

abbrev pub decreases-loop-done : goal.decreases-loop-done
decreases-loop-done l = length l.moves - l.done
