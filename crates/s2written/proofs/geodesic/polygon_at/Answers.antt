use Rattle.std.proofs.Common.{◌≡◌, ◌∙◌, ap₂, subst}
use Rattle.s2geodesic.specs.Rounded.{FaultMeans}
use Rattle.s2written.specs.Maps.{between, corners_of, ends_of}
use Rattle.s2written.proofs.geodesic.polygon_at.Goals as goal

pub returns-clause-fault : goal.returns-clause-fault
returns-clause-fault c =
    let corners = c.args.corners.now in
    let rings = c.args.rings.now in
    let own : c.between-own.result.now ≡ corners_of corners rings c.args.first c.args.end = c.between-own.ensures
    ∙ ap₂ (λ a b. between a b corners) c.start.ensures c.start-2.ensures in
    let ends : c.deref.result.now ≡ ends_of rings c.args.first c.args.end = c.deref.ensures.value
    ∙ c.in_ok-ends.ensures in
    c.error_of.ensures (corners_of corners rings c.args.first c.args.end) (ends_of rings c.args.first c.args.end)
    (subst (λ es. FaultMeans (corners_of corners rings c.args.first c.args.end) es c.in-Err.fault) ends
    (subst (λ cs. FaultMeans cs c.deref.result.now c.in-Err.fault) own c.in-Err.ensures.fault))
