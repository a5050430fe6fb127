use Rattle.std.proofs.Common.{◌++◌, arith}
use Rattle.s2degrees.proofs.Decimals.{padded_more}
use Rattle.s2degrees.proofs.decimal.digits_before.Goals as goal

pub loop-at-preserved : goal.loop-at-preserved
loop-at-preserved c =
    let ds = c.args.whole.now ++ c.args.fraction.now in
    let digit = c.digit_at.ensures in
    let more = padded_more ds c.loop-at.at c.digit_at.result digit.within digit.beyond in
    let held = c.loop-at.invariant in
    omega (arith, more, held, c.from.ensures, c.min-value.ensures)
