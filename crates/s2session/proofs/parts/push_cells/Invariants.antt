use Rattle.std.proofs.Common.{◌≡◌, ◌+◌, ◌*◌, ◌≤◌, length}
use Rattle.std.specs.Vec.{vec_capacity}
use Rattle.s2session.proofs.SessionReading.{SpellsPart}
use Rattle.s2session.proofs.parts.push_cells.Given as goal

abbrev pub invariant-loop-chunk : goal.invariant-loop-chunk
invariant-loop-chunk l = record {
  part : SpellsPart l.numbers l.fn.cells.items l.cells.items l.chunk-iterator.rest.now;
  size : l.chunk-iterator.size ≡ 8;
  room : 8 * length l.cells.items + length l.chunk-iterator.rest.now ≤ 8 * vec_capacity l.cells;
}
