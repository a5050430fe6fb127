use Rattle.s2cell.proofs.Debugs.{DebugSoFar}
use Rattle.s2cell.proofs.cell.CellId.debug.Given as goal

abbrev pub invariant-loop-k : goal.invariant-loop-k
invariant-loop-k l = DebugSoFar l.fn.self l.k l.digits
