use Rattle.std.proofs.Common.{◌∙◌, refl}
use Rattle.s2cell.specs.Rectangles.{rect_set}
use Rattle.s2cover.specs.Coverings.{inner_set}
use Rattle.s2cover.proofs.Faces.{many_same, none_normal}
use Rattle.s2cover.proofs.grid.rect_inner.Goals as goal

pub returns-in-Some-clause-many : goal.returns-in-Some-clause-many
returns-in-Some-clause-many c = many_same c.cover_aligned.result _ c.args.max (rect_set c.in-Some.narrow)
    (inner_set (rect_set c.args.rect.now) c.args.level) c.in-Some.ensures.leaves c.cover_aligned.ensures.many

pub returns-in-None-clause-normal : goal.returns-in-None-clause-normal
returns-in-None-clause-normal c = none_normal (inner_set (rect_set c.args.rect.now) c.args.level)
    c.from_normalized.result.cells (c.in-None.ensures.none refl) (c.from_normalized.ensures.value ∙ c.new.ensures.items)
