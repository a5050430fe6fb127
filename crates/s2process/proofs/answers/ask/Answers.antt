use Rattle.s2process.proofs.answers.ask.Goals as goal

pub returns-in-Check-clause-answer : goal.returns-in-Check-clause-answer
returns-in-Check-clause-answer g c =
    let answer = c.check_answer.ensures.answer in
    rw c.in-Check.is (answer.reply, rw c.as_str.ensures.value at answer.checks, answer.tells)

pub returns-in-Draw-clause-answer : goal.returns-in-Draw-clause-answer
returns-in-Draw-clause-answer g c =
    let answer = c.draw_answer.ensures.answer in
    rw c.in-Draw.is (answer.reply, rw c.as_str-in-Draw.ensures.value at answer.draws, answer.tells)

pub returns-in-Overlay-clause-answer : goal.returns-in-Overlay-clause-answer
returns-in-Overlay-clause-answer g c =
    let answer = c.overlay_answer.ensures.answer in
    rw c.in-Overlay.is (answer.reply, answer.overlays, answer.tells)

pub returns-in-Fit-clause-answer : goal.returns-in-Fit-clause-answer
returns-in-Fit-clause-answer g c =
    let answer = c.fit_answer.ensures.answer in
    rw c.in-Fit.is (answer.reply, answer.fits, answer.tells)
