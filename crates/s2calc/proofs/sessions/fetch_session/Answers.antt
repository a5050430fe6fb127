use Rattle.s2shelf.proofs.Opened.{opened_fails}
use Rattle.s2calc.proofs.SessionLemmas.{kept_content, read_and_closed, none_closed}
use Rattle.s2calc.proofs.sessions.fetch_session.Goals as goal

pub returns-in-Ok-clause-content : goal.returns-in-Ok-clause-content
returns-in-Ok-clause-content g c = kept_content c.read_session-read.result c.session_of.result c.session_of.ensures
    c.read_session-read.ensures.content

pub returns-in-Ok-clause-answer : goal.returns-in-Ok-clause-answer
returns-in-Ok-clause-answer g c =
    read_and_closed g.S.File.Read.remaining (g.S.Shelf.files c.args.shelf.now) (g.S.Shelf.files c.open_file.new.shelf)
    (g.S.Shelf.files c.close.new.self) c.args.name.now c.in_ok-file.file c.read_session-read.new.file
    c.in_ok-file.ensures c.in-Ok.ensures c.read_session-read.result c.session_of.result c.session_of.ensures
    c.read_session-read.ensures.ended c.read_session-read.ensures.answer.back

pub returns-in-Err-clause-answer : goal.returns-in-Err-clause-answer
returns-in-Err-clause-answer g c =
    let old = g.S.Shelf.files c.args.shelf.now in
    let opened = g.S.Shelf.files c.open_file.new.shelf in
    let new = g.S.Shelf.files c.close.new.self in
    λ state. none_closed old new c.args.name.now state
    (opened_fails g.S.File.Read.remaining old opened new c.args.name.now c.in_ok-file.file c.read_session-read.new.file
    _ _ c.in_ok-file.ensures c.read_session-read.ensures.answer.back c.in-Err.ensures)
