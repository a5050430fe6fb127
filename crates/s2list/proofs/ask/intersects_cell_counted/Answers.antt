use Rattle.std.proofs.Common.{arith}
use Rattle.s2list.proofs.Checking.{packed_from_local}
use Rattle.s2list.proofs.ask.intersects_cell_counted.Goals as goal

pub returns-clause-answer : goal.returns-clause-answer
returns-clause-answer g c local =
    let p = packed_from_local (g.C.Listed.ids c.args.cells.now) local in
    let v = c.first_leaf.ensures.value in
    let f = c.find_counted-at.ensures in
    c.intersects_cell_at_counted.ensures.answer local
    (record { within = f.within; ended = rw v at (f.ended p); next = rw v at (f.next p) })

pub returns-clause-looks : goal.returns-clause-looks
returns-clause-looks g c k h =
    let l = c.find_counted-at.ensures.looks k h in
    let m = c.intersects_cell_at_counted.ensures.looks in
    omega arith

pub returns-clause-least : goal.returns-clause-least
returns-clause-least g c =
    let s = c.find_counted-at.ensures.least in
    let l = c.intersects_cell_at_counted.ensures.least in
    omega arith

pub returns-clause-some : goal.returns-clause-some
returns-clause-some g c h =
    let s = c.find_counted-at.ensures.some h in
    let l = c.intersects_cell_at_counted.ensures.least in
    omega arith
