use Rattle.std.proofs.Common.{◌<◌, ◌≤◌, ℕ, length}
use Rattle.std.specs.Prelude.{slice_index_or}
use Rattle.s2union_c.specs.Working.ManyCells.{HasRelative}
use Rattle.s2union_c.proofs.many_cells.first_without.Given as goal

abbrev pub invariant-loop-k : goal.invariant-loop-k
invariant-loop-k l = record {
  before : (i d : ℕ) → i < l.k → HasRelative l.which (slice_index_or l.ids i d);
  within : l.k ≤ length l.ids;
}
