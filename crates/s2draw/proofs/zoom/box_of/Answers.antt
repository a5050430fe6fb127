use Rattle.std.proofs.Common.{refl}
use Rattle.s2draw.proofs.Boxes.{boxed}
use Rattle.s2draw.proofs.zoom.box_of.Goals as goal

pub overflow_sub-bottom : goal.overflow_sub-bottom
overflow_sub-bottom c = (boxed c.id.ensures.cell c.square-square.ensures.square c.from-face.ensures c.from-i.ensures
    c.from-j.ensures c.from-size.ensures).rows

pub overflow_sub-bottom-2 : goal.overflow_sub-bottom-2
overflow_sub-bottom-2 c = (boxed c.id.ensures.cell c.square-square.ensures.square c.from-face.ensures c.from-i.ensures
    c.from-j.ensures c.from-size.ensures).first

pub overflow_sub-result : goal.overflow_sub-result
overflow_sub-result c = (boxed c.id.ensures.cell c.square-square.ensures.square c.from-face.ensures c.from-i.ensures
    c.from-j.ensures c.from-size.ensures).second

pub returns-clause-bounds : goal.returns-clause-bounds
returns-clause-bounds c =
    let b = boxed c.id.ensures.cell c.square-square.ensures.square c.from-face.ensures c.from-i.ensures
    c.from-j.ensures c.from-size.ensures in
    rw (b.face, b.i_is, b.j_is, b.size_is) refl

pub returns-clause-within : goal.returns-clause-within
returns-clause-within c = (boxed c.id.ensures.cell c.square-square.ensures.square c.from-face.ensures c.from-i.ensures
    c.from-j.ensures c.from-size.ensures).within
