use Rattle.s2polygon.proofs.Ringing.{IsAfter, after_last, after_other}
use Rattle.s2map.proofs.Ringing.{edge_made, ringed_next}
use Rattle.s2map.proofs.part.add_ring.Goals.{then-i-end, else-i-end}
use Rattle.s2map.proofs.part.add_ring.Goals as goal

pub loop-i-preserved : goal.loop-i-preserved
loop-i-preserved c =
    let next : IsAfter c.args.from c.args.end c.loop-i.i c.if-i-end.next = elim c.if-i-end.branch [
      | then-i-end w ↦ after_last c.args.from c.args.end c.loop-i.i c.if-i-end.next c.requires.from w.if-i-end.true
          w.next-is
      | else-i-end w ↦ after_other c.args.from c.args.end c.loop-i.i c.if-i-end.next c.loop-i-test.true
          w.if-i-end.false w.next-is
    ] in
    let made = edge_made c.args.corners.now c.args.from c.args.end c.loop-i.i c.if-i-end.next next in
    let new = c.in_ok-push.ensures.items in
    rw new (ringed_next c.args.corners.now c.args.from c.args.end c.loop-i.i c.args.edges.now.items
    c.loop-i.edges.items _ c.loop-i.invariant made)
