use Rattle.std.proofs.Common.{lit≤, ◌∙◌, rules, FitsSigned, w64}
use Rattle.s2polygon.proofs.Sizes.{three_steps, exact, short_within}
use Rattle.s2polygon.specs.Places.{whole}
use Rattle.s2polygon.proofs.rings.dot.Goals as goal

pub overflow_add-result : goal.overflow_add-result
overflow_add-result c =
    let f1 : FitsSigned w64 c.args.a.w = search rules in
    let f2 : FitsSigned w64 c.args.b.w = search rules in
    let f3 : FitsSigned w64 c.args.a.u = search rules in
    let f4 : FitsSigned w64 c.args.b.u = search rules in
    let e1 = exact c.times.result c.args.a.w c.args.b.w f1 f2 c.times.ensures in
    let e2 = exact c.times-2.result c.args.a.u c.args.b.u f3 f4 c.times-2.ensures in
    let w1 = short_within c.times.result c.args.a.w c.args.b.w e1 c.requires.a.w c.requires.b.w in
    let w2 = short_within c.times-2.result c.args.a.u c.args.b.u e2 c.requires.a.u c.requires.b.u in
    (three_steps c.times.result c.times-2.result whole w1 w2 (lit≤ tt)).first_fits

pub overflow_add-result-2 : goal.overflow_add-result-2
overflow_add-result-2 c =
    let f1 : FitsSigned w64 c.args.a.w = search rules in
    let f2 : FitsSigned w64 c.args.b.w = search rules in
    let f3 : FitsSigned w64 c.args.a.u = search rules in
    let f4 : FitsSigned w64 c.args.b.u = search rules in
    let f5 : FitsSigned w64 c.args.a.v = search rules in
    let f6 : FitsSigned w64 c.args.b.v = search rules in
    let e1 = exact c.times.result c.args.a.w c.args.b.w f1 f2 c.times.ensures in
    let e2 = exact c.times-2.result c.args.a.u c.args.b.u f3 f4 c.times-2.ensures in
    let w1 = short_within c.times.result c.args.a.w c.args.b.w e1 c.requires.a.w c.requires.b.w in
    let w2 = short_within c.times-2.result c.args.a.u c.args.b.u e2 c.requires.a.u c.requires.b.u in
    let e3 = exact c.times-3.result c.args.a.v c.args.b.v f5 f6 c.times-3.ensures in
    let w3 = short_within c.times-3.result c.args.a.v c.args.b.v e3 c.requires.a.v c.requires.b.v in
    (three_steps c.times.result c.times-2.result c.times-3.result w1 w2 w3).step.fits

pub returns : goal.returns
returns c =
    let f1 : FitsSigned w64 c.args.a.w = search rules in
    let f2 : FitsSigned w64 c.args.b.w = search rules in
    let f3 : FitsSigned w64 c.args.a.u = search rules in
    let f4 : FitsSigned w64 c.args.b.u = search rules in
    let f5 : FitsSigned w64 c.args.a.v = search rules in
    let f6 : FitsSigned w64 c.args.b.v = search rules in
    let e1 = exact c.times.result c.args.a.w c.args.b.w f1 f2 c.times.ensures in
    let e2 = exact c.times-2.result c.args.a.u c.args.b.u f3 f4 c.times-2.ensures in
    let w1 = short_within c.times.result c.args.a.w c.args.b.w e1 c.requires.a.w c.requires.b.w in
    let w2 = short_within c.times-2.result c.args.a.u c.args.b.u e2 c.requires.a.u c.requires.b.u in
    let e3 = exact c.times-3.result c.args.a.v c.args.b.v f5 f6 c.times-3.ensures in
    let w3 = short_within c.times-3.result c.args.a.v c.args.b.v e3 c.requires.a.v c.requires.b.v in
    (three_steps c.times.result c.times-2.result c.times-3.result w1 w2 w3).step.is ∙ rw (e1, e2, e3)
