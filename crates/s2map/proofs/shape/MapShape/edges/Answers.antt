use Rattle.std.proofs.Common.{ap, arith, length}
use Rattle.s2map.proofs.FewCells.{counted_next}
use Rattle.s2map.proofs.shape.MapShape.edges.Goals as goal

pub loop-part-preserved : goal.loop-part-preserved
loop-part-preserved c =
    let item = ap length c.part-item.is in
    let count = c.size.ensures in
    let sum = c.saturating_add-edges.ensures in
    counted_next length c.deref-part-items.result.now c.loop-part.part-index
    c.part-item.result c.loop-part.edges c.saturating_add-edges.result c.loop-part-test.true c.loop-part.invariant
    (omega (arith, item, count, sum))
