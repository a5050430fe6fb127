use Rattle.std.proofs.Common.{arith, ap, ℕ, ◌*◌, ◌+◌, ◌/◌}
use Rattle.s2polygon.proofs.Sides.{in_face, size_above}
use Rattle.s2polygon.proofs.places.middle_at.Goals as goal

pub size_of-size-requires : goal.size_of-size-requires
size_of-size-requires c = record { k = c.requires.k }

pub overflow_mul-result : goal.overflow_mul-result
overflow_mul-result c =
    let l = in_face c.args.k c.args.i c.size_of-size.result c.requires.k c.requires.i c.size_of-size.ensures.value in
    let p = size_above c.args.k c.size_of-size.result c.size_of-size.ensures.value in
    omega (arith, l, p)

pub overflow_add-result : goal.overflow_add-result
overflow_add-result c =
    let l = in_face c.args.k c.args.i c.size_of-size.result c.requires.k c.requires.i c.size_of-size.ensures.value in
    let p = size_above c.args.k c.size_of-size.result c.size_of-size.ensures.value in
    omega (arith, l, p)

pub overflow_mul-result-2 : goal.overflow_mul-result-2
overflow_mul-result-2 c =
    let l = in_face c.args.k c.args.i c.size_of-size.result c.requires.k c.requires.i c.size_of-size.ensures.value in
    let p = size_above c.args.k c.size_of-size.result c.size_of-size.ensures.value in
    omega (arith, l, p)

pub overflow_add-result-2 : goal.overflow_add-result-2
overflow_add-result-2 c =
    let l = in_face c.args.k c.args.i c.size_of-size.result c.requires.k c.requires.i c.size_of-size.ensures.value in
    let p = size_above c.args.k c.size_of-size.result c.size_of-size.ensures.value in
    omega (arith, l, p)

pub returns-clause-most : goal.returns-clause-most
returns-clause-most c =
    let l = in_face c.args.k c.args.i c.size_of-size.result c.requires.k c.requires.i c.size_of-size.ensures.value in
    let p = size_above c.args.k c.size_of-size.result c.size_of-size.ensures.value in
    omega (arith, l, p)

pub returns-clause-value : goal.returns-clause-value
returns-clause-value c = ap (λ (s : ℕ). 2 * (c.args.i * s + s / 2) + 1) c.size_of-size.ensures.value
