use Rattle.std.proofs.Common.{◌≡◌, arith}
use Rattle.s2room.proofs.Merging.{merged}
use Rattle.s2room.proofs.merge.merge.Goals as goal

pub returns-clause-all : goal.returns-clause-all
returns-clause-all c =
    let last = c.put_y.ensures in
    let before = c.put_x-left-2.ensures in
    let x_order = c.loop-left-2.invariant.x_order in
    let y_order = before.merging.y_order in
    let x = last.x in
    let x_end = last.x_end in
    let y = last.y in
    let y_end = last.y_end in
    let x_before = before.x in
    let x_end_before = before.x_end in
    let no_x : c.put_y.result.x ≡ c.put_y.result.x_end = omega arith in
    let no_y : c.put_y.result.y ≡ c.put_y.result.y_end = omega arith in
    merged last.merging no_x no_y
