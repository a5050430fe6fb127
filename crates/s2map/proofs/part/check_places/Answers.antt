use Rattle.std.proofs.Common.{IsTrue, rules, true, arith}
use Rattle.s2map.proofs.Ringing.{places_all, places_next}
use Rattle.s2map.proofs.part.check_places.Goals as goal

yes : IsTrue true
yes = search rules

pub loop-i-preserved : goal.loop-i-preserved
loop-i-preserved c =
    let h = c.if-not-is_place.ensures in
    places_next c.args.corners.now c.loop-i.i c.loop-i-test.true c.loop-i.invariant (h.0 yes)

pub returns-clause-places : goal.returns-clause-places
returns-clause-places c = places_all c.args.corners.now c.loop-i.i (omega arith) c.loop-i.invariant
