use Rattle.std.proofs.Common.{◌≡◌, length, filter}
use Rattle.s2script.specs.Similar.{is_like}
use Rattle.s2script.proofs.similar.next_like.Given as goal

-- the word is like none of the names so far
abbrev pub invariant-loop-name : goal.invariant-loop-name
invariant-loop-name l = filter (is_like l.word) l.names ≡ filter (is_like l.word) l.initial.names

abbrev pub decreases-loop-name : goal.decreases-loop-name
decreases-loop-name l = length l.names
