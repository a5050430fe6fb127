use Rattle.s2polygon.proofs.Picking.{sifted_next}
use Rattle.s2polygon.proofs.descent.sifted.Goals as goal

pub loop-n-preserved : goal.loop-n-preserved
loop-n-preserved c =
    sifted_next c.args.all.now c.args.numbers.now c.args.s c.args.q c.loop-n.n-index _ c.edge_at-e.result.now
    c.loop-n.odd c.crosses_step-odd.result c.is_met.result c.loop-n.met.items _ c.loop-n-test.true
    c.edge_at-e.ensures.value c.crosses_step-odd.ensures c.is_met.ensures c.in_ok-keep_if.ensures c.requires.within
    c.loop-n.invariant
