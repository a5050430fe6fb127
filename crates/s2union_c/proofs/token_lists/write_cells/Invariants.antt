use Rattle.std.proofs.Common.{ℕ, ◌-◌, List, length}
use Rattle.s2union_c.specs.Working.Texts.{IsFilled}
use Rattle.s2union_c.proofs.Naming.{Naming}
use Rattle.s2union_c.proofs.token_lists.write_cells.Given as goal

abbrev pub invariant-loop-start : goal.invariant-loop-start
invariant-loop-start l = (ids : List ℕ) × Naming l.text l.at l.count ids × IsFilled l.fn.out l.out ids

abbrev pub decreases-loop-start : goal.decreases-loop-start
decreases-loop-start l = length l.text - l.at
