use Rattle.s2cell.specs.Rectangles.{rect_set}
use Rattle.s2cover.specs.Coverings.{outer_set}
use Rattle.s2cover.proofs.Faces.{many_same}
use Rattle.s2cover.proofs.grid.rect_outer.Goals as goal

pub returns-clause-many : goal.returns-clause-many
returns-clause-many c = many_same c.cover_aligned.result _ c.args.max (rect_set c.round_outward.result)
    (outer_set (rect_set c.args.rect.now) c.args.level) c.round_outward.ensures.leaves c.cover_aligned.ensures.many
