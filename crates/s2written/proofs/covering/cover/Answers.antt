use Rattle.std.proofs.lemmas.Result.{err_from_is_err_and}
use Rattle.s2shape.specs.Reading.{shape_seen}
use Rattle.s2written.proofs.Errors.{error_of_any}
use Rattle.s2written.proofs.Leaves.{are_coverings}
use Rattle.s2written.specs.Walks.{IsTooMuch}
use Rattle.s2written.proofs.covering.cover.Goals as goal

pub returns-in_err-map-clause-fault : goal.returns-in_err-map-clause-fault
returns-in_err-map-clause-fault c =
    let p = err_from_is_err_and c.from_residual.result c.from_residual.ensures.1 in
    rw (p.1, p.2)
    (error_of_any (IsTooMuch c.args.level c.args.work) (shape_seen c.args.shape.now) _ c.in_err-map.ensures.fault)

pub returns-clause-covers : goal.returns-clause-covers
returns-clause-covers c =
    are_coverings (shape_seen c.args.shape.now) c.args.level c.in_ok-map.map c.in_ok-found.found.met.items
    c.in_ok-found.found.within.items _ _ c.in_ok-map.ensures.map c.in_ok-found.ensures.outer
    c.in_ok-found.ensures.inner c.in_ok-found.ensures.met c.in_ok-normalised.ensures.outer_leaves
    c.in_ok-normalised.ensures.inner_leaves c.in_ok-normalised.ensures.outer_local
    c.in_ok-normalised.ensures.inner_local
