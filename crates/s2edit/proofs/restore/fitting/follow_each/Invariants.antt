use Rattle.std.proofs.Common.{map, drop}
use Rattle.s2edit.specs.Content.{diff_of}
use Rattle.s2edit.specs.Working.InTurn.{of_register}
use Rattle.s2edit.proofs.Turns.{GoesOn}
use Rattle.s2edit.proofs.restore.fitting.follow_each.Given as goal

abbrev pub invariant-loop-change : goal.invariant-loop-change
invariant-loop-change l = GoesOn l.initial.list.cells (of_register l.register (map diff_of l.moves)) l.list.cells
    (of_register l.register (map diff_of (drop l.change-index l.moves)))
