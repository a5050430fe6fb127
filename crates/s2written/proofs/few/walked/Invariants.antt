use Rattle.std.proofs.Common.{◌≡◌, take}
use Rattle.s2written.proofs.few.walked.Given as goal

abbrev pub invariant-loop-k : goal.invariant-loop-k
invariant-loop-k l = l.walks.items ≡ take l.k l.polygons
