use Rattle.std.proofs.Common.{◌≡◌, ◌<◌, ◌≤◌, ℕ, length, drop}
use Rattle.std.specs.Prelude.{slice_index}
use Rattle.s2cell.specs.Cell.{IsCell, level_of}
use Rattle.s2union_c.specs.ManyCells.{IsValueOr}
use Rattle.s2union_c.proofs.Firsts.{IsFirstSoFar}
use Rattle.s2union_c.proofs.many_cells.s2u_levels.Given as goal

abbrev pub invariant-loop-k : goal.invariant-loop-k
invariant-loop-k l = record {
  so_far : (i : ℕ) → i < l.k → IsValueOr (IsCell (slice_index l.ids i)) (level_of (slice_index l.ids i)) 255
      (slice_index l.out i);
  rest : drop (length l.ids) l.out ≡ drop (length l.ids) l.fn.out;
  room : length l.ids ≤ length l.out;
  first : IsFirstSoFar IsCell l.ids l.k l.first;
}
