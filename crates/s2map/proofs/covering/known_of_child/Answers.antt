use Rattle.s2map.proofs.Nears.{known_whole, known_within}
use Rattle.s2map.proofs.covering.known_of_child.Goals as goal

pub returns : goal.returns
returns c =
    let corner = c.corner_of.ensures.value in
    let sum = c.in_ok-near.ensures in
    known_within c.args.parent.now.bounds c.args.child.now.bounds c.requires.parent.box c.requires.child.box
    c.requires.held c.args.shape.now c.args.known.now c.in_ok-near.near c.are_parts.ensures c.requires.known
    c.if-known.false (rw corner at sum)

pub returns-then-known : goal.returns-then-known
returns-then-known c =
    known_whole c.args.parent.now.bounds c.args.child.now.bounds c.requires.parent.box c.requires.child.box
    c.requires.held c.args.shape.now c.args.known.now c.whole.result c.are_parts.ensures c.requires.known
    c.if-known.true c.whole.ensures.inside c.whole.ensures.none
