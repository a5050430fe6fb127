use Rattle.std.proofs.Common.{◌≤◌, length, min}
use Rattle.s2union.proofs.Passing.{Passing}
use Rattle.s2union.proofs.apply.Tail.pass.Given as goal

abbrev pub invariant-loop-k : goal.invariant-loop-k
invariant-loop-k l = record { within : l.k ≤ min (length l.run) 3; so_far : Passing l.initial.self l.self l.run l.k }
