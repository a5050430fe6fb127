use Rattle.std.proofs.Common.{ℕ, Bool, map, drop}
use Rattle.std.specs.List.{AllByRecursion}
use Rattle.s2list.specs.Union.{IsWithin}
use Rattle.s2union.specs.Apply.{has}
use Rattle.s2edit.specs.Content.{diff_of}
use Rattle.s2edit.specs.Working.InTurn.{of_register}
use Rattle.s2edit.specs.Working.Part.{HoldsNamed}
use Rattle.s2edit.proofs.restore.parts.named_cells.Given as goal

-- a larger set that holds what the changes name that are left holds what all name
abbrev pub invariant-loop-change : goal.invariant-loop-change
invariant-loop-change l = (T : ℕ → Bool) → IsWithin (has l.named.items) T →
    AllByRecursion (HoldsNamed T) (of_register l.register (map diff_of (drop l.change-index l.moves))) →
    AllByRecursion (HoldsNamed T) (of_register l.register (map diff_of l.moves))
