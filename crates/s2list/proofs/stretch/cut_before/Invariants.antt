use Rattle.std.proofs.Common.{◌≤◌, length}
use Rattle.s2list.proofs.stretch.cut_before.Given as goal

abbrev pub invariant-loop-stop : goal.invariant-loop-stop
invariant-loop-stop g l = record { within : l.stop ≤ length (g.C.Listed.ids l.cells) }

abbrev pub decreases-loop-stop : goal.decreases-loop-stop
decreases-loop-stop g l = l.stop
