use Rattle.std.proofs.Common.{◌≡◌, refl, rules}
use Rattle.std.proofs.lemmas.Result.{err_from_is_err_and}
use Rattle.s2calc.proofs.OrderLemmas.{Adds-none}
use Rattle.s2calc.proofs.ReadLemmas.{never_begins}
use Rattle.s2calc.proofs.engine.run_with.Goals as goal

pub returns-in_err-input-clause-runs : goal.returns-in_err-input-clause-runs
returns-in_err-input-clause-runs g c =
    let p = err_from_is_err_and c.from_residual.result c.from_residual.ensures.1 in
    rw (p.1, p.2, c.in_err-input.ensures.fault) (never_begins _ _ _, Adds-none _ _ refl)

pub returns-clause-runs : goal.returns-clause-runs
returns-clause-runs g c =
    let editor : c.editor-1.given.0 ≡ c.run_over-result.new.desk.editor.now = search rules in
    let writer : c.writer-1.given.0 ≡ c.run_over-result.new.desk.writer.now = search rules in
    let shelf : c.shelf-1.given.0 ≡ c.run_over-result.new.desk.shelf.now = search rules in
    let notes : c.notes-1.given.0 ≡ c.run_over-result.new.desk.notes.now = search rules in
    let observer : c.observer-1.given.0 ≡ c.run_over-result.new.desk.observer.now = search rules in
    rw (editor, writer, shelf, notes, observer) c.run_over-result.ensures.runs
