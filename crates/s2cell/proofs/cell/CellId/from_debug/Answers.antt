use Rattle.std.proofs.Common.{◌<◌, ◌∙◌, sym, refl, arith, rules, length, drop}
use Rattle.std.proofs.lemmas.List.{take_rest}
use Rattle.s2cell.proofs.DigitTexts.{digit_below}
use Rattle.s2cell.proofs.Debugs.{debug_face, debug_short, debug_read_more, debug_read_whole, place_room, id_room}
use Rattle.s2cell.proofs.cell.CellId.from_debug.Goals as goal
use Rattle.s2cell.proofs.cell.CellId.from_debug.Goals.{then-place-gt5-via-then-place-gt5}
use Rattle.s2cell.proofs.cell.CellId.from_debug.Goals.{then-place-gt5-via-else-place-gt5+then-digits-gt30}

pub returns-then-place-gt5 : goal.returns-then-place-gt5
returns-then-place-gt5 c = λ n d.
    let face = debug_face d in
    let short = debug_short d in
    elim c.then-place-gt5.branch [
      | then-place-gt5-via-then-place-gt5 w ↦
          let large = w.if-place-gt5.true in
          let is = c.value_of_digit.ensures in
          let same = c.from-place.ensures in
          omega (arith, large, is, same, face)
      | then-place-gt5-via-else-place-gt5+then-digits-gt30 w ↦
          let long = w.if-digits-gt30.true in
          let after = take_rest c.args.text.now 2 in
          let more : 30 < length (drop 2 c.args.text.now) = rw after at long in
          omega (arith, more, short.1)
    ]

pub returns-then-digit-gt3 : goal.returns-then-digit-gt3
returns-then-digit-gt3 c = λ n d.
    let after = take_rest c.args.text.now 2 in
    let low = digit_below 4 (drop 2 c.args.text.now) c.loop-byte.byte-index 0 d.digits
    (rw after at c.loop-byte-test.true) in
    let is = rw after at c.value_of_digit-digit.ensures in
    let large = c.if-digit-gt3.true in
    omega (arith, low, is, large)

pub overflow_mul-place : goal.overflow_mul-place
overflow_mul-place c =
    let room = place_room c.loop-byte-test.true c.if-digits-gt30.false c.loop-byte.invariant in
    omega (arith, room)

pub overflow_add-place : goal.overflow_add-place
overflow_add-place c =
    let room = place_room c.loop-byte-test.true c.if-digits-gt30.false c.loop-byte.invariant in
    let small = c.if-digit-gt3.false in
    let same = c.from.ensures in
    omega (arith, room, small, same)

pub loop-byte-preserved : goal.loop-byte-preserved
loop-byte-preserved c =
    let small = c.if-digit-gt3.false in
    debug_read_more c.from.result c.loop-byte-test.true
    c.loop-byte.invariant (c.from.ensures ∙ c.value_of_digit-digit.ensures) (let same = c.from.ensures in
    omega (arith, small, same))

pub overflow_mul-result : goal.overflow_mul-result
overflow_mul-result c =
    let room = id_room (search rules) c.if-digits-gt30.false c.loop-byte.invariant in
    omega (arith, room)

pub overflow_add-result : goal.overflow_add-result
overflow_add-result c =
    let room = id_room (search rules) c.if-digits-gt30.false c.loop-byte.invariant in
    omega (arith, room)

pub returns : goal.returns
returns c =
    debug_read_whole c.args.text.now _
    (sym (take_rest c.args.text.now 2)) c.in-47.len_at_least c.if-digits-gt30.false c.loop-byte-test.false
    (search rules) c.loop-byte.invariant (search rules) refl

pub invariant_of-result : goal.invariant_of-result
invariant_of-result c = (returns c).cell
