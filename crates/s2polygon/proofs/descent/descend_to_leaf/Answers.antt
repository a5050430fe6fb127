use Rattle.std.proofs.Common.{arith}
use Rattle.s2polygon.proofs.Leaves.{at_leaf}
use Rattle.s2polygon.proofs.Polygons.{if_ok}
use Rattle.s2polygon.specs.Descents.{near_of}
use Rattle.s2polygon.proofs.descent.descend_to_leaf.Goals as goal

pub descend_to-requires-clause-bottom : goal.descend_to-requires-clause-bottom
descend_to-requires-clause-bottom c = omega arith

pub descend_to-requires-clause-x : goal.descend_to-requires-clause-x
descend_to-requires-clause-x c = c.requires.x

pub descend_to-requires-clause-y : goal.descend_to-requires-clause-y
descend_to-requires-clause-y c = c.requires.y

pub descend_to-requires-clause-margin : goal.descend_to-requires-clause-margin
descend_to-requires-clause-margin c = c.requires.margin

pub descend_to-requires-clause-framed : goal.descend_to-requires-clause-framed
descend_to-requires-clause-framed c = c.requires.framed

pub descend_to-requires-clause-within : goal.descend_to-requires-clause-within
descend_to-requires-clause-within c = c.requires.within

pub returns : goal.returns
returns c = λ top edges right.
    if_ok c.descend_to.result
    (λ leaf is. at_leaf c.args.margin top edges c.args.x c.args.y (near_of c.args.all.now leaf) is)
    (c.descend_to.ensures.right top edges right)
