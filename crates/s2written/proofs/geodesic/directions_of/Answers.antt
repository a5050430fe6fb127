use Rattle.std.proofs.Common.{◌<◌, arith, length}
use Rattle.s2written.proofs.Corners.{corners_next}
use Rattle.s2written.proofs.geodesic.directions_of.Goals as goal

pub loop-i-preserved : goal.loop-i-preserved
loop-i-preserved c =
    let n = c.len-i-end.ensures in
    let items = c.in_ok-push.ensures.items in
    let l : c.loop-i.i < length c.args.shape.now.positions.items = omega (arith, n) in
    rw items (corners_next c.args.shape.now.positions.items c.loop-i.i c.loop-i.corners.items c.index.result.now
    c.in-Some.place c.direction.result l c.index.ensures c.loop-i.invariant c.in-Some.ensures.some c.direction.ensures)
