use Rattle.std.proofs.lemmas.Result.{err_from_is_err_and}
use Rattle.s2polygon.proofs.Ringing.{rings_fault}
use Rattle.s2polygon.proofs.polygon.Polygon.new.Goals as goal

pub returns-in_err-edges-clause-fault : goal.returns-in_err-edges-clause-fault
returns-in_err-edges-clause-fault c =
    let p = err_from_is_err_and c.from_residual.result c.from_residual.ensures.1 in
    rw (p.1, p.2) (rings_fault c.args.corners.now c.args.ends.now c.args.outside c.args.margin _
    c.in_err-edges.ensures.fault)
