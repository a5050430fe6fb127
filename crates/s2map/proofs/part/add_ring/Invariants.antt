use Rattle.s2map.proofs.Ringing.{RingedTo}
use Rattle.s2map.proofs.part.add_ring.Given as goal

abbrev pub invariant-loop-i : goal.invariant-loop-i
invariant-loop-i l = RingedTo l.corners l.from l.end l.i l.fn.edges.items l.edges.items
