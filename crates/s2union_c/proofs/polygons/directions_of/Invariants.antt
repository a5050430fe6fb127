use Rattle.std.proofs.Common.{◌≡◌, All, take}
use Rattle.s2polygon.specs.Directions.{IsDirection}
use Rattle.s2union_c.specs.Polygons.{points_of}
use Rattle.s2union_c.proofs.polygons.directions_of.Given as goal

abbrev pub invariant-loop-k : goal.invariant-loop-k
invariant-loop-k l = record {
  items : l.directions.items ≡ points_of (take l.k l.corners);
  all : All IsDirection (points_of (take l.k l.corners));
}
