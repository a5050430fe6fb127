use Rattle.std.proofs.Common.{lit≤, ◌∙◌, rules, FitsSigned, w64}
use Rattle.s2polygon.proofs.Sizes.{three_steps, exact, exact_right, placed_within}
use Rattle.s2polygon.specs.Places.{whole}
use Rattle.s2polygon.proofs.meeting.side_of.Goals as goal

pub overflow_add-result : goal.overflow_add-result
overflow_add-result c =
    let fw : FitsSigned w64 c.args.n.w = search rules in
    let fu : FitsSigned w64 c.args.n.u = search rules in
    let e1 = exact_right c.times.result whole c.args.n.w fw c.times.ensures in
    let e2 = exact c.times-2.result c.args.u c.args.n.u c.ranges.u fu c.times-2.ensures in
    (three_steps c.times.result c.times-2.result whole
    (placed_within c.times.result whole c.args.n.w e1 (lit≤ tt) fw)
    (placed_within c.times-2.result c.args.u c.args.n.u e2 c.requires.u fu) (lit≤ tt)).first_fits

pub overflow_add-result-2 : goal.overflow_add-result-2
overflow_add-result-2 c =
    let fw : FitsSigned w64 c.args.n.w = search rules in
    let fu : FitsSigned w64 c.args.n.u = search rules in
    let fv : FitsSigned w64 c.args.n.v = search rules in
    let e1 = exact_right c.times.result whole c.args.n.w fw c.times.ensures in
    let e2 = exact c.times-2.result c.args.u c.args.n.u c.ranges.u fu c.times-2.ensures in
    let e3 = exact c.times-3.result c.args.v c.args.n.v c.ranges.v fv c.times-3.ensures in
    (three_steps c.times.result c.times-2.result c.times-3.result
    (placed_within c.times.result whole c.args.n.w e1 (lit≤ tt) fw)
    (placed_within c.times-2.result c.args.u c.args.n.u e2 c.requires.u fu)
    (placed_within c.times-3.result c.args.v c.args.n.v e3 c.requires.v fv)).step.fits

pub returns : goal.returns
returns c =
    let fw : FitsSigned w64 c.args.n.w = search rules in
    let fu : FitsSigned w64 c.args.n.u = search rules in
    let fv : FitsSigned w64 c.args.n.v = search rules in
    let e1 = exact_right c.times.result whole c.args.n.w fw c.times.ensures in
    let e2 = exact c.times-2.result c.args.u c.args.n.u c.ranges.u fu c.times-2.ensures in
    let e3 = exact c.times-3.result c.args.v c.args.n.v c.ranges.v fv c.times-3.ensures in
    (three_steps c.times.result c.times-2.result c.times-3.result
    (placed_within c.times.result whole c.args.n.w e1 (lit≤ tt) fw)
    (placed_within c.times-2.result c.args.u c.args.n.u e2 c.requires.u fu)
    (placed_within c.times-3.result c.args.v c.args.n.v e3 c.requires.v fv)).step.is
    ∙ rw (e1, e2, e3)
