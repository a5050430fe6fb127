use Rattle.std.specs.Float.Numeral.{tens_down}
use Rattle.s2degrees.proofs.Decimals.{all_digits, far_of_rounded, near_of_parts, tens_some}
use Rattle.s2degrees.proofs.decimal.size_of_numeral.Goals as goal

pub digits_before-tenths-requires : goal.digits_before-tenths-requires
digits_before-tenths-requires c =
    record { digits = all_digits _ _ c.whole.ensures.digits c.fraction.ensures.digits }

pub returns-clause-near : goal.returns-clause-near
returns-clause-near c =
    let whole = c.whole.ensures in
    let fraction = c.fraction.ensures in
    let p = c.args.numeral.now in
    let digits = rw (whole.value, fraction.value) at (all_digits _ _ whole.digits fraction.digits) in
    let tenths = rw (whole.value, fraction.value) at c.digits_before-tenths.ensures in
    near_of_parts p c.places_of.result c.digits_before-tenths.result c.min.result digits c.places_of.ensures tenths
    c.min.ensures

pub returns-clause-far : goal.returns-clause-far
returns-clause-far c l s z i =
    let whole = c.whole.ensures in
    let fraction = c.fraction.ensures in
    let p = c.args.numeral.now in
    let digits = rw (whole.value, fraction.value) at (all_digits _ _ whole.digits fraction.digits) in
    let tenths = rw (whole.value, fraction.value) at c.digits_before-tenths.ensures in
    let near = near_of_parts p c.places_of.result c.digits_before-tenths.result c.min.result digits c.places_of.ensures
    tenths c.min.ensures in
    far_of_rounded _ _ c.min.result (tens_some (tens_down p)) near l s z i
