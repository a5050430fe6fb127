use Rattle.std.proofs.Common.{◌-◌, ◌≤◌}
use Rattle.s2cell.specs.Cell.{level_of}
use Rattle.s2polygon.specs.Counts.{crossing_below}
use Rattle.s2polygon.proofs.Countings.{place_at}
use Rattle.s2polygon.proofs.counting.+count_crossing.Given as goal

abbrev pub decreases-count_crossing : goal.decreases-count_crossing
decreases-count_crossing g l = l.level - level_of (g.Q.Quadrant.id l.quadrant.now)

abbrev pub invariant-loop-digit : goal.invariant-loop-digit
invariant-loop-digit g l = (l.n ≤ l.limit) × (l.n ≤ crossing_below (g.Q.Quadrant.outer l.quadrant)
    (g.Q.Quadrant.inner l.quadrant) l.level (place_at l.level (g.Q.Quadrant.id l.quadrant) l.digit))
