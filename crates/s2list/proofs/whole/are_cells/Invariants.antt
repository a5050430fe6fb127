use Rattle.std.proofs.Common.{ℕ, ◌<◌, IsTrue}
use Rattle.std.specs.Prelude.{slice_index}
use Rattle.s2cell.specs.Cell.{IsCell}
use Rattle.s2list.proofs.whole.are_cells.Given as goal

abbrev pub invariant-loop-k : goal.invariant-loop-k
invariant-loop-k g l = IsTrue l.all → (j : ℕ) → j < l.k → IsCell (slice_index (g.C.Listed.ids l.cells) j)
