use Rattle.std.proofs.Common.{◌≡◌, ◌≤◌, ◌++◌, ℕ, drop, length, take}
use Rattle.s2union_c.specs.Reading.{polygon_of_ring, rings_from}
use Rattle.s2union_c.proofs.reading.put_rings.Given as goal

abbrev pub invariant-loop-k : goal.invariant-loop-k
invariant-loop-k l = record {
  front : l.out ≡ rings_from 0 (take l.k l.ends) l.parts ++ drop l.k l.fn.out;
  room : length l.ends ≤ length l.fn.out;
  within : l.part ≤ length l.parts;
  same : (later : ℕ) → l.k ≤ later →
      polygon_of_ring later 0 l.parts ≡ polygon_of_ring later l.part (drop l.part l.parts);
}
