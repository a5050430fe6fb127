use Rattle.std.proofs.Common.{arith, rules}
use Rattle.s2cover.proofs.Corners.{corner_covers}
use Rattle.s2cover.proofs.around.corner.Goals as goal

pub returns : goal.returns
returns c = corner_covers c.args.level (search rules) (omega arith) c.requires.level c.parent.ensures.value
    c.requires.i c.requires.j c.from_face_ij.ensures.only
