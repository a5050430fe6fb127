use Rattle.std.proofs.Common.{arith, refl, get_or}
use Rattle.s2map.proofs.Ringing.{rings_next}
use Rattle.s2map.proofs.part.edges_of.Goals as goal

pub loop-ring-preserved : goal.loop-ring-preserved
loop-ring-preserved c =
    rings_next c.args.corners.now c.args.ends.now c.loop-ring.ring c.loop-ring.from
    (get_or c.args.ends.now c.loop-ring.ring 0) c.loop-ring.edges.items
    c.add_ring.new.edges.items c.loop-ring.invariant refl (omega arith) (omega arith) c.in_ok-add_ring.ensures.edges
