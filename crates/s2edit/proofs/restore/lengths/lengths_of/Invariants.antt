use Rattle.std.proofs.Common.{◌≡◌, length, map, take}
use Rattle.s2edit.specs.Working.Chain.{lists_of}
use Rattle.s2edit.proofs.restore.lengths.lengths_of.Given as goal

abbrev pub invariant-loop-register : goal.invariant-loop-register
invariant-loop-register l = l.lengths.items ≡ map length (lists_of (take l.register-index l.registers))
