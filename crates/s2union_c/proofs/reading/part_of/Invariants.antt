use Rattle.std.proofs.Common.{◌≡◌, ◌≤◌, ℕ, drop, length}
use Rattle.s2union_c.specs.Reading.{polygon_of_ring}
use Rattle.s2union_c.proofs.reading.part_of.Given as goal

abbrev pub invariant-loop-part : goal.invariant-loop-part
invariant-loop-part l = record {
  within : l.part ≤ length l.parts;
  same : (later : ℕ) → l.ring ≤ later →
      polygon_of_ring later l.first (drop l.first l.parts) ≡ polygon_of_ring later l.part (drop l.part l.parts);
}
