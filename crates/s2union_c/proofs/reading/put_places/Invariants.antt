use Rattle.std.proofs.Common.{◌≡◌, ◌≤◌, ◌++◌, drop, length, map, take}
use Rattle.s2union_c.specs.Reading.{place_of}
use Rattle.s2union_c.proofs.reading.put_places.Given as goal

abbrev pub invariant-loop-k : goal.invariant-loop-k
invariant-loop-k l = record {
  front : l.out ≡ map place_of (take l.k l.positions) ++ drop l.k l.fn.out;
  room : length l.positions ≤ length l.fn.out;
}
