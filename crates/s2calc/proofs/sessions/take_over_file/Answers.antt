use Rattle.std.proofs.lemmas.Result.{err_from_is_err_and}
use Rattle.s2calc.proofs.SessionLemmas.{found_and_taken}
use Rattle.s2calc.proofs.sessions.take_over_file.Goals as goal

pub returns-in_err-session-clause-answer : goal.returns-in_err-session-clause-answer
returns-in_err-session-clause-answer g c =
    let exit = err_from_is_err_and c.from_residual.result c.from_residual.ensures.1 in
    rw (exit.1, exit.2) (c.in_err-session.ensures.answer c.args.editor.now)

pub returns-clause-answer : goal.returns-clause-answer
returns-clause-answer g c =
    let (bytes, fetched, spells) = c.in_ok-session.ensures.answer in
    found_and_taken c.take_over.result (g.S.Shelf.files c.args.shelf.now) (g.S.Shelf.files c.fetch_session.new.shelf)
    c.args.name.now bytes c.args.editor.now c.take_over.new.editor fetched (c.take_over.ensures.answer bytes spells)
