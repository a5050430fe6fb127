use Rattle.std.proofs.Common.{◌-◌, ◌≤◌, ◌<◌, arith, inl, inr, lit≤, refl}
use Rattle.s2degrees.proofs.Doubles.{far_of_double, least_of, near_of_double, small_size}
use Rattle.s2degrees.proofs.double.size_of.Goals as goal

pub returns-then-place-gt1035 : goal.returns-then-place-gt1035
returns-then-place-gt1035 c =
    let high : 1035 < c.args.place = omega (arith, c.if-place-gt1035.true) in
    let some : 0 < c.args.place = omega (arith, c.if-place-gt1035.true) in
    inr (lit≤ tt, far_of_double c.args.digits c.args.place (c.requires.large some) high)

pub overflow_cast-result : goal.overflow_cast-result
overflow_cast-result c =
    let cut : 38 ≤ c.min.result = omega (arith, c.min.ensures, c.if-place-gt1035.false) in
    record { fits = small_size c.args.digits c.min.result c.requires.few cut }

pub returns : goal.returns
returns c =
    let low : c.args.place ≤ 1035 = omega (arith, c.if-place-gt1035.false) in
    let cut : c.min.result ≤ 1073 - c.args.place = omega (arith, c.min.ensures) in
    inl (near_of_double c.args.digits c.args.place c.min.result _ c.requires.few low cut
    (least_of (1073 - c.args.place) 119 c.min.result c.min.ensures) refl)
