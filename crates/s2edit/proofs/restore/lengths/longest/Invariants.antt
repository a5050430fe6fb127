use Rattle.std.proofs.Common.{◌≡◌, length, map, drop}
use Rattle.std.specs.Prelude.{max}
use Rattle.std.specs.List.{AllByRecursion}
use Rattle.s2edit.specs.Content.{diff_of, IsMove}
use Rattle.s2script.specs.declared.register.TheConstants.{REGISTERS}
use Rattle.s2edit.specs.Working.Chain.{lists_of}
use Rattle.s2edit.specs.Working.Part.{longest}
use Rattle.s2edit.proofs.restore.lengths.longest.Given as goal

abbrev pub invariant-loop-change : goal.invariant-loop-change
invariant-loop-change l = record {
  rest : max l.most (longest l.lengths.items (map diff_of (drop l.change-index l.moves)))
      ≡ longest (map length (lists_of l.registers)) (map diff_of l.moves);
  count : length l.lengths.items ≡ REGISTERS;
  each : AllByRecursion IsMove (map diff_of (drop l.change-index l.moves));
}
