use Rattle.std.proofs.Common.{◌<◌, ◌∙◌, arith, rules, refl, get_or}
use Rattle.std.specs.Char.{digit_value}
use Rattle.s2cell.proofs.DigitTexts.{digit_below}
use Rattle.s2cell.proofs.Tokens.{read_more, read_room, read_whole, reading_answer}
use Rattle.s2cell.proofs.cell.CellId.from_token.Goals as goal

pub returns-then-digit-gt15 : goal.returns-then-digit-gt15
returns-then-digit-gt15 c = λ n r i.
    let low = digit_below 16 c.args.text.now c.loop-byte.byte-index 0 r.digits c.loop-byte-test.true in
    let is = c.value_of_digit-digit.ensures in
    omega arith

pub overflow_mul-id : goal.overflow_mul-id
overflow_mul-id c =
    let room = read_room 0 c.loop-byte-test.true c.if-text-gt-TOKEN_LEN.false c.loop-byte.invariant (omega arith) in
    omega arith

pub overflow_add-id : goal.overflow_add-id
overflow_add-id c =
    let small : c.value_of_digit-digit.result < 16 = let h = c.if-digit-gt15.false in omega arith in
    let room = read_room
    c.value_of_digit-digit.result c.loop-byte-test.true c.if-text-gt-TOKEN_LEN.false c.loop-byte.invariant small in
    let same = c.from.ensures in
    omega (arith, room, same)

pub loop-byte-preserved : goal.loop-byte-preserved
loop-byte-preserved c =
    let is = c.value_of_digit-digit.ensures in
    let small = c.if-digit-gt15.false in
    let low : digit_value (get_or c.args.text.now c.loop-byte.byte-index 0) < 16 = rw (← is) (omega (arith, small)) in
    read_more c.from.result _ c.loop-byte-test.true c.loop-byte.invariant refl low (c.from.ensures ∙ is)

pub returns : goal.returns
returns c =
    reading_answer c.from_id.result
    (read_whole _ (search rules) c.if-text-gt-TOKEN_LEN.false (search rules) (search rules) c.loop-byte.invariant refl)
    c.from_id.ensures
