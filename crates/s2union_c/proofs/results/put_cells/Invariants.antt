use Rattle.std.proofs.Common.{◌≡◌, ◌≤◌, ◌++◌, length, take, drop}
use Rattle.s2union_c.proofs.results.put_cells.Given as goal

abbrev pub invariant-loop-k : goal.invariant-loop-k
invariant-loop-k l = record {
  front : l.out ≡ take l.k l.cells ++ drop l.k l.fn.out;
  room : length l.cells ≤ length l.fn.out;
  len : l.len ≡ length l.cells;
}
