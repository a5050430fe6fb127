use Rattle.std.proofs.Common.{ap, arith, length}
use Rattle.s2map.proofs.FewCells.{counted_next}
use Rattle.s2map.proofs.near.Known.size.Goals as goal

pub loop-part-preserved : goal.loop-part-preserved
loop-part-preserved c =
    let item = ap (λ n. length n.edges.items) c.part-item.is in
    let count = c.len.ensures in
    let sum = c.saturating_add-size.ensures in
    counted_next (λ n. length n.edges.items) c.deref-part-items.result.now c.loop-part.part-index
    c.part-item.result c.loop-part.size c.saturating_add-size.result c.loop-part-test.true c.loop-part.invariant
    (omega (arith, item, count, sum))
