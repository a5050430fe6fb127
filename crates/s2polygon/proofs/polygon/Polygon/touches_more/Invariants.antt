use Rattle.std.proofs.Common.{◌*◌, ◌≤◌, ◌^◌}
use Rattle.s2polygon.specs.Counts.{crossing_below}
use Rattle.s2polygon.specs.Leaves.{inner_leaf, outer_leaf}
use Rattle.s2polygon.proofs.polygon.Polygon.touches_more.Given as goal

abbrev pub invariant-loop-face : goal.invariant-loop-face
invariant-loop-face l = (l.n ≤ l.limit)
    × (l.n ≤ crossing_below (outer_leaf l.self) (inner_leaf l.self) l.level (l.face * 4 ^ l.level))
