use Rattle.std.proofs.Common.{◌≡◌}
use Rattle.s2written.specs.Maps.{first_ring, parts_edges}
use Rattle.s2written.proofs.map.map_of.Given as goal

abbrev pub invariant-loop-k : goal.invariant-loop-k
invariant-loop-k l = record {
  edges : l.map ≡ parts_edges l.corners.items l.shape.rings.items l.shape.parts.items l.k;
  first : l.first ≡ first_ring l.shape.parts.items l.k;
}
