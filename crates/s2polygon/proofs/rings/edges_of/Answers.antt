use Rattle.std.proofs.Common.{arith, refl, get_or}
use Rattle.std.proofs.lemmas.Result.{err_from_is_err_and}
use Rattle.s2polygon.proofs.Ringing.{ring_fault, rings_next}
use Rattle.s2polygon.proofs.rings.edges_of.Goals as goal

pub returns-in_err-add_ring-clause-fault : goal.returns-in_err-add_ring-clause-fault
returns-in_err-add_ring-clause-fault c =
    let p = err_from_is_err_and c.from_residual.result c.from_residual.ensures.1 in
    rw (p.1, p.2) (ring_fault c.args.corners.now c.args.ends.now c.loop-ring.ring c.loop-ring.from _ _
    c.loop-ring-test.true
    c.loop-ring.invariant.start refl c.in_err-add_ring.ensures.fault)

pub loop-ring-preserved : goal.loop-ring-preserved
loop-ring-preserved c =
    rings_next c.args.corners.now c.args.ends.now c.loop-ring.ring c.loop-ring.from
    (get_or c.args.ends.now c.loop-ring.ring 0) c.loop-ring.edges.items
    c.add_ring.new.edges.items c.loop-ring.invariant refl (omega arith) (omega arith) c.in_ok-add_ring.ensures.edges
    c.in_ok-add_ring.ensures.proper
