use Rattle.std.proofs.Common.{◌<◌, ◌≤◌, ℕ, length}
use Rattle.std.specs.Prelude.{slice_index_or}
use Rattle.s2union_c.specs.declared.many_cells.Point.{Point}
use Rattle.s2union_c.specs.ManyCells.{IsOnFace}
use Rattle.s2union_c.proofs.many_cells.first_off_its_face.Given as goal

abbrev pub invariant-loop-k : goal.invariant-loop-k
invariant-loop-k l = record {
  before : (i : ℕ) (d : Point) → i < l.k → IsOnFace (slice_index_or l.points i d);
  within : l.k ≤ length l.points;
}
