use Rattle.std.proofs.Common.{◌-◌, vec_len}
use Rattle.s2cell.specs.Cell.{place_of}
use Rattle.s2cover.specs.Working.Descent.{blocks, depth_of, is_outer, set_for}
use Rattle.s2cover.proofs.Forms.{Visited}
use Rattle.s2cover.proofs.descent.+visit.Given as goal

abbrev pub decreases-visit : goal.decreases-visit
decreases-visit g l = depth_of (g.Q.Quadrant.id l.quadrant.now)

abbrev pub invariant-loop-digit : goal.invariant-loop-digit
invariant-loop-digit g l = Visited
    (blocks (is_outer l.kind) (set_for (is_outer l.kind) (g.Q.Quadrant.outer l.quadrant)
    (g.Q.Quadrant.inner l.quadrant)) (30 - l.level)) (30 - l.level) (depth_of (g.Q.Quadrant.id l.quadrant))
    (place_of (g.Q.Quadrant.id l.quadrant)) l.digit l.fn.list.items l.list.items (vec_len l.fn.list) (vec_len l.list)
    l.full l.loose l.max l.before
