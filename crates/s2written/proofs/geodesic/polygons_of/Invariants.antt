use Rattle.std.proofs.Common.{◌≡◌}
use Rattle.s2shape.specs.Reading.{shape_seen}
use Rattle.s2written.specs.Geodesics.{ArePolygonsOf}
use Rattle.s2written.specs.Maps.{first_ring}
use Rattle.s2written.proofs.geodesic.polygons_of.Given as goal

abbrev pub invariant-loop-k : goal.invariant-loop-k
invariant-loop-k l = record {
  polygons : ArePolygonsOf l.corners (shape_seen l.shape) l.k l.polygons.items;
  first : l.first ≡ first_ring l.shape.parts.items l.k;
}
