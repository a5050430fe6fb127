use Rattle.s2draw.proofs.Shapes.{computed}
use Rattle.s2draw.proofs.rectangle.rectangle_of.Goals as goal

pub overflow_sub-result : goal.overflow_sub-result
overflow_sub-result c = (computed c.id.ensures.cell c.requires c.square-square.ensures.square c.from-face.ensures).rows

pub overflow_sub-result-2 : goal.overflow_sub-result-2
overflow_sub-result-2 c =
    (computed c.id.ensures.cell c.requires c.square-square.ensures.square c.from-face.ensures).fits

pub returns-clause-left : goal.returns-clause-left
returns-clause-left c = (computed c.id.ensures.cell c.requires c.square-square.ensures.square c.from-face.ensures).left

pub returns-clause-top : goal.returns-clause-top
returns-clause-top c = (computed c.id.ensures.cell c.requires c.square-square.ensures.square c.from-face.ensures).top

pub returns-clause-side : goal.returns-clause-side
returns-clause-side c = (computed c.id.ensures.cell c.requires c.square-square.ensures.square c.from-face.ensures).side

pub returns-clause-within : goal.returns-clause-within
returns-clause-within c =
    (computed c.id.ensures.cell c.requires c.square-square.ensures.square c.from-face.ensures).within
