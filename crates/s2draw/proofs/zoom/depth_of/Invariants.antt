use Rattle.std.proofs.Common.{◌≡◌, ◌≤◌}
use Rattle.s2draw.specs.Zoom.{depth_from, unit_at}
use Rattle.s2draw.proofs.zoom.depth_of.Given as goal

-- the level so far
abbrev pub invariant-loop-deepest : goal.invariant-loop-deepest
invariant-loop-deepest l = (depth_from 30 l.fn.leaves ≡ depth_from l.deepest l.side) × (l.unit ≡ unit_at l.deepest)
    × (l.deepest ≤ 30)

abbrev pub decreases-loop-deepest : goal.decreases-loop-deepest
decreases-loop-deepest l = l.deepest
