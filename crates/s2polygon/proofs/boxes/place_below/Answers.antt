use Rattle.std.proofs.Common.{arith}
use Rattle.std.proofs.lemmas.Int.{ints}
use Rattle.s2polygon.proofs.Between.{quotient_most}
use Rattle.s2polygon.proofs.boxes.place_below.Goals as goal

pub overflow_mul-n : goal.overflow_mul-n
overflow_mul-n c = omega (arith, c.requires.small, c.requires.near)

pub nonzero_div-n : goal.nonzero_div-n
nonzero_div-n c = c.requires.some

pub overflow_cast-result : goal.overflow_cast-result
overflow_cast-result c =
    let q = quotient_most c.args.s c.args.d c.requires.near in
    omega (arith, ints)

pub overflow_sub-result : goal.overflow_sub-result
overflow_sub-result c =
    let q = quotient_most c.args.s c.args.d c.requires.near in
    omega (arith, ints)

pub overflow_mul-result : goal.overflow_mul-result
overflow_mul-result c =
    let q = quotient_most c.args.s c.args.d c.requires.near in
    omega (arith, ints)

pub returns-clause-value : goal.returns-clause-value
returns-clause-value c =
    let q = quotient_most c.args.s c.args.d c.requires.near in
    omega (arith, ints)

pub returns-clause-most : goal.returns-clause-most
returns-clause-most c =
    let q = quotient_most c.args.s c.args.d c.requires.near in
    omega (arith, ints)
