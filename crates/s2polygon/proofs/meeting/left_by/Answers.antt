use Rattle.std.proofs.Common.{lit≤, rules, FitsSigned, w64}
use Rattle.s2polygon.proofs.Sizes.{whole_last, exact, exact_right}
use Rattle.s2polygon.specs.Places.{whole}
use Rattle.s2polygon.proofs.meeting.left_by.Goals as goal

pub overflow_sub-result : goal.overflow_sub-result
overflow_sub-result c =
    let fits_place : FitsSigned w64 c.args.c.u = search rules in
    let fits_w : FitsSigned w64 c.args.c.w = search rules in
    (whole_last c.times.result c.times-2.result whole c.args.c.u c.args.u c.args.c.w
    (exact c.times.result c.args.u c.args.c.w c.ranges.u fits_w c.times.ensures)
    (exact_right c.times-2.result whole c.args.c.u fits_place c.times-2.ensures)
    (lit≤ tt) fits_place c.ranges.u fits_w).fits

pub returns : goal.returns
returns c =
    let fits_place : FitsSigned w64 c.args.c.u = search rules in
    let fits_w : FitsSigned w64 c.args.c.w = search rules in
    (whole_last c.times.result c.times-2.result whole c.args.c.u c.args.u c.args.c.w
    (exact c.times.result c.args.u c.args.c.w c.ranges.u fits_w c.times.ensures)
    (exact_right c.times-2.result whole c.args.c.u fits_place c.times-2.ensures)
    (lit≤ tt) fits_place c.ranges.u fits_w).is
