use Rattle.std.proofs.Common.{◌≡◌, ◌+◌, ◌*◌, ◌<◌, ◌≤◌, ℕ, length, drop}
use Rattle.std.specs.List.{between}
use Rattle.std.specs.Prelude.{slice_index}
use Rattle.s2cell.specs.Cell.{IsCell}
use Rattle.s2union_c.specs.ManyCells.{IsFirstWithout, IsTokenField}
use Rattle.s2union_c.proofs.many_cells.s2u_token_fields.Given as goal

abbrev pub invariant-loop-k : goal.invariant-loop-k
invariant-loop-k l = record {
  so_far : (i : ℕ) → i < l.k → IsTokenField (slice_index l.ids i) (between (16 * i) (16 * i + 16) l.text);
  rest : drop (16 * length l.ids) l.text ≡ drop (16 * length l.ids) l.fn.text;
  room : 16 * length l.ids ≤ length l.text;
  bad : IsFirstWithout IsCell l.ids l.bad;
}
