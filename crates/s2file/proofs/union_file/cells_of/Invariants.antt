use Rattle.std.proofs.Common.{◌≡◌, ◌≤◌, All, take}
use Rattle.std.specs.Vec.{vec_capacity}
use Rattle.s2cell.specs.Cell.{IsCell}
use Rattle.s2file.specs.Numbers.{numbers_in}
use Rattle.s2file.proofs.union_file.cells_of.Given as goal

abbrev pub invariant-loop-k : goal.invariant-loop-k
invariant-loop-k l = record {
  read : l.cells.items ≡ take l.k (numbers_in l.numbers);
  cells : All IsCell l.cells.items;
  room : l.len ≤ vec_capacity l.cells;
}
