use Rattle.std.proofs.Common.{arith, length-append, refl}
use Rattle.std.proofs.lemmas.List.{get_or-append_right, get_or_append_left}
use Rattle.s2degrees.proofs.Decimals.{read_digit}
use Rattle.s2degrees.proofs.decimal.digit_at.Goals as goal

pub overflow_sub-result : goal.overflow_sub-result
overflow_sub-result c =
    let long = length-append c.args.whole.now c.args.fraction.now in
    let at = get_or_append_left c.args.whole.now c.args.fraction.now 0 c.args.at c.if-at-whole.true in
    (read_digit _ c.args.at _ c.requires.digits (omega (arith, long, c.if-at-whole.true)) at).0

pub returns-then-at-whole-clause-within : goal.returns-then-at-whole-clause-within
returns-then-at-whole-clause-within c h =
    let at = get_or_append_left c.args.whole.now c.args.fraction.now 0 c.args.at c.if-at-whole.true in
    (read_digit _ c.args.at _ c.requires.digits h at).1

pub returns-then-at-whole-clause-few : goal.returns-then-at-whole-clause-few
returns-then-at-whole-clause-few c =
    let long = length-append c.args.whole.now c.args.fraction.now in
    let at = get_or_append_left c.args.whole.now c.args.fraction.now 0 c.args.at c.if-at-whole.true in
    (read_digit _ c.args.at _ c.requires.digits (omega (arith, long, c.if-at-whole.true)) at).2

pub overflow_sub-result-then-at-whole-2-2 : goal.overflow_sub-result-then-at-whole-2-2
overflow_sub-result-then-at-whole-2-2 c =
    let long = length-append c.args.whole.now c.args.fraction.now in
    let at = get_or-append_right c.args.whole.now c.args.fraction.now _ c.args.at 0 refl c.if-at-whole.false in
    (read_digit _ c.args.at _ c.requires.digits (omega (arith, long, c.if-at-whole.false, c.if-at-whole-2.true)) at).0

pub returns-then-at-whole-2-clause-within : goal.returns-then-at-whole-2-clause-within
returns-then-at-whole-2-clause-within c h =
    let at = get_or-append_right c.args.whole.now c.args.fraction.now _ c.args.at 0 refl c.if-at-whole.false in
    (read_digit _ c.args.at _ c.requires.digits h at).1

pub returns-then-at-whole-2-clause-few : goal.returns-then-at-whole-2-clause-few
returns-then-at-whole-2-clause-few c =
    let long = length-append c.args.whole.now c.args.fraction.now in
    let at = get_or-append_right c.args.whole.now c.args.fraction.now _ c.args.at 0 refl c.if-at-whole.false in
    (read_digit _ c.args.at _ c.requires.digits (omega (arith, long, c.if-at-whole.false, c.if-at-whole-2.true)) at).2
