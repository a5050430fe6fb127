use Rattle.std.proofs.Common.{subst, sym}
use Rattle.std.proofs.lemmas.Result.{err_from_is_err_and}
use Rattle.s2map.proofs.Ringing.{part_of_rings}
use Rattle.s2map.specs.Working.Even.{IsPart}
use Rattle.s2map.proofs.part.MapPart.new.Goals as goal

pub returns-in_err-check_places-clause-fault : goal.returns-in_err-check_places-clause-fault
returns-in_err-check_places-clause-fault c =
    let p = err_from_is_err_and c.from_residual.result c.from_residual.ensures.1 in
    rw (p.1, p.2) (c.in_err-check_places.ensures.fault c.args.ends.now)

pub invariant_of-result : goal.invariant_of-result
invariant_of-result c =
    subst IsPart (sym c.in_ok-edges.ensures.edges)
    (part_of_rings c.args.corners.now c.args.ends.now c.in_ok-edges.ensures.proper c.in_ok-check_places.ensures.places)
