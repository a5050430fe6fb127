use Rattle.std.proofs.Common.{◌≡◌, [], replicate}
use Rattle.s2edit.specs.Working.Chain.{lists_of, AllRoomy}
use Rattle.s2edit.proofs.editor.empty_registers.Given as goal

abbrev pub invariant-loop-i : goal.invariant-loop-i
invariant-loop-i l = record {
  empty : lists_of l.registers.items ≡ replicate l._i [];
  roomy : AllRoomy l.limit l.registers.items;
}
