use Rattle.std.proofs.Common.{◌≡◌, All, arith, get_or, length, refl, subst}
use Rattle.s2geodesic.proofs.Shortness.{rings_next}
use Rattle.s2geodesic.specs.Rounded.{IsShort}
use Rattle.s2polygon.specs.Rings.{rings_edges}
use Rattle.s2geodesic.proofs.edges.long_edge.Goals as goal

pub loop-ring-preserved : goal.loop-ring-preserved
loop-ring-preserved c =
    rings_next c.args.corners.now c.args.ends.now c.loop-ring.ring c.loop-ring.from
    (get_or c.args.ends.now c.loop-ring.ring 0) c.loop-ring.invariant refl c.in_default.ensures.none

pub returns-clause-none : goal.returns-clause-none
returns-clause-none c =
    let e : c.loop-ring.ring ≡ length c.args.ends.now =
    omega (arith, c.loop-ring-test.false, c.loop-ring.auto.ring-end) in
    subst (λ n. All IsShort (rings_edges c.args.corners.now c.args.ends.now n)) e c.loop-ring.invariant.short
