use Rattle.std.proofs.Common.{◌≡◌, ◌<◌, ◌≤◌, ℕ, length, drop}
use Rattle.std.specs.Prelude.{slice_index, slice_index_or}
use Rattle.s2union_c.specs.declared.many_cells.Point.{Point}
use Rattle.s2union_c.specs.ManyCells.{IsFirstWithout, IsLeafAt, IsOnFace}
use Rattle.s2union_c.proofs.many_cells.s2u_from_points.Given as goal

abbrev pub invariant-loop-k : goal.invariant-loop-k
invariant-loop-k l = record {
  so_far : (i : ℕ) → i < l.k → (d : Point) → IsLeafAt (slice_index_or l.points i d) (slice_index l.out i);
  rest : drop (length l.points) l.out ≡ drop (length l.points) l.fn.out;
  room : length l.points ≤ length l.out;
  bad : IsFirstWithout IsOnFace l.points l.bad;
}
