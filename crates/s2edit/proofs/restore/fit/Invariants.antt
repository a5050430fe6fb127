use Rattle.std.proofs.Common.{ℕ, ◌<◌, map}
use Rattle.s2edit.specs.Content.{diff_of}
use Rattle.s2edit.specs.Working.Chain.{lists_of}
use Rattle.s2edit.specs.Leads.{list_at}
use Rattle.s2edit.specs.Working.InTurn.{of_register, FitInTurn}
use Rattle.s2edit.proofs.restore.fit.Given as goal

abbrev pub invariant-loop-register : goal.invariant-loop-register
invariant-loop-register l = (r : ℕ) → r < l.register →
    FitInTurn (list_at (lists_of l.registers) r) (of_register r (map diff_of l.moves))
