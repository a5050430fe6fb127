use Rattle.std.proofs.Common.{◌≡◌, ◌≤◌, ◌+◌, ◌++◌, length, take}
use Rattle.std.specs.Vec.{vec_len, vec_capacity}
use Rattle.s2union.proofs.apply.with_cells.Given as goal

abbrev pub invariant-loop-k : goal.invariant-loop-k
invariant-loop-k l = record {
  within : l.k ≤ length l.cells;
  len : vec_len l.list ≡ vec_len l.initial.list + l.k;
  items : l.list.items ≡ l.initial.list.items ++ take l.k l.cells;
  room : vec_capacity l.list ≡ vec_capacity l.initial.list;
}
