use Rattle.s2written.proofs.Walks.{IsWalked}
use Rattle.s2written.proofs.walk.walk.Given as goal

abbrev pub invariant-loop-above : goal.invariant-loop-above
invariant-loop-above l = IsWalked l.map l.above l.asked l.asked_by_all
