use Rattle.s2cell.specs.Cell.{first_leaf}
use Rattle.s2geodesic.proofs.Rounding.{made_polygon, rings_alone, rounded, small_margin}
use Rattle.s2geodesic.proofs.polygon.polygon_of.Goals as goal

pub returns-in_default-clause-fault : goal.returns-in_default-clause-fault
returns-in_default-clause-fault c = c.in_default.ensures.spread

pub long_edge-requires : goal.long_edge-requires
long_edge-requires c = c.in-Ok.ensures.rings

pub returns-in-None-clause-made : goal.returns-in-None-clause-made
returns-in-None-clause-made c =
    made_polygon c.args.corners.now c.args.ends.now c.in-Ok.polygon (first_leaf c.in-Some.outside) c.in-Ok.ensures.made
    c.in-Some.ensures.below c.in-Ok.ensures.rings c.in-Some.ensures.opposite c.in-None.ensures.none

pub returns-in-None-clause-outside : goal.returns-in-None-clause-outside
returns-in-None-clause-outside c =
    let made = returns-in-None-clause-made c in
    c.law_of_halves.ensures.opposite c.in-Ok.polygon c.args.corners.now c.args.ends.now made.edges made.rings
    made.outside (small_margin c.in-Ok.polygon made.margin)

pub returns-in-None-clause-touched : goal.returns-in-None-clause-touched
returns-in-None-clause-touched c =
    rounded c.args.corners.now c.args.ends.now c.in-Ok.polygon (returns-in-None-clause-made c)
    c.law_of_moved_corners.ensures.touched

pub returns-in-Some-long_edge-clause-fault : goal.returns-in-Some-long_edge-clause-fault
returns-in-Some-long_edge-clause-fault c = c.in-Some-long_edge.ensures.some

pub returns-in-Err-clause-fault : goal.returns-in-Err-clause-fault
returns-in-Err-clause-fault c other leaf =
    rings_alone c.args.corners.now c.args.ends.now c.in-Some.outside other c.in-Err.fault c.in-Some.ensures.leaf
    c.in-Err.ensures.fault
