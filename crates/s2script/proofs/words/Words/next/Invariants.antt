use Rattle.std.proofs.Common.{◌≡◌, length}
use Rattle.s2script.specs.Words.{words}
use Rattle.s2script.proofs.words.Words.next.Given as goal

abbrev pub invariant-loop-at : goal.invariant-loop-at
invariant-loop-at l = words l.self-inside.rest.now ≡ l.fn.self

abbrev pub decreases-loop-at : goal.decreases-loop-at
decreases-loop-at l = length l.self-inside.rest.now
