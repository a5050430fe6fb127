use Rattle.std.proofs.Common.{[], ap, sym, refl, ◌∙◌, inl, inr}
use Rattle.std.proofs.lemmas.Result.{err_from_is_err_and}
use Rattle.s2script.specs.Line.{line_of}
use Rattle.s2calc.specs.Step.{asks_for_file}
use Rattle.s2calc.proofs.AnswerLemmas.{Answered-between, Answered-in_part, AnswersKept-flushed}
use Rattle.s2calc.proofs.CallLemmas.{none_failed_more, none_failed_may, last_failed_may, last_failed_after}
use Rattle.s2calc.proofs.CallLemmas.{failed_if_err_after}
use Rattle.s2calc.proofs.OrderLemmas.{Adds-same}
use Rattle.s2calc.proofs.SettledLemmas.{LineSeen-between, LineCut-after, keeps_beside, calls_beside}
use Rattle.s2calc.proofs.engine.answer_line.Goals as goal

pub returns-in_err-begin_line-clause-answers : goal.returns-in_err-begin_line-clause-answers
returns-in_err-begin_line-clause-answers g c = λ kept is.
    let said_is = c.parse-said.ensures ∙ ap line_of is in
    let p = err_from_is_err_and c.from_residual.result c.from_residual.ensures.1 in
    let failed = c.in_err-begin_line.ensures.begins in
    rw (p.1, p.2) (
      failed.0.is_output,
      inr (
        failed.0.may,
        record {
          has_file = sym (c.asks_for_file-has_file.ensures ∙ ap asks_for_file said_is) ∙ failed.0.asked;
          flush = inl (refl, failed.0.kept, failed.1);
        },
      ),
    )

pub returns-in_err-begin_line-clause-calls : goal.returns-in_err-begin_line-clause-calls
returns-in_err-begin_line-clause-calls g c =
    let p = err_from_is_err_and c.from_residual.result c.from_residual.ensures.1 in
    rw p.1 c.in_err-begin_line.ensures.begins.0.failed

pub returns-in_err-outcome-clause-answers : goal.returns-in_err-outcome-clause-answers
returns-in_err-outcome-clause-answers g c = λ kept is.
    let said_is = c.parse-said.ensures ∙ ap line_of is in
    let same = sym (c.asks_for_file-has_file.ensures ∙ ap asks_for_file said_is) in
    let p = err_from_is_err_and c.from_residual-in_err-outcome.result c.from_residual-in_err-outcome.ensures.1 in
    let begun = c.in_ok-begin_line.ensures.begins in
    let done = c.in_err-outcome.ensures.executes in
    rw (p.1, p.2) (
      done.writes.0,
      inl (Answered-in_part _ _ _ (record { kept = []; tally = c.args.tally.now; lines = 0 }) _ said_is _ _ _
          done.reply done.step begun.0.kept done.writes.1 refl (LineCut-after g.W.Sink.contents g.W.Sink.calls
          g.F.Flushing.is_sent g.S.Shelf.files g.F.Flushing.may_fail _ _ _ _ _ _ _ same begun)),
    )

pub returns-in_err-outcome-clause-calls : goal.returns-in_err-outcome-clause-calls
returns-in_err-outcome-clause-calls g c =
    let p = err_from_is_err_and c.from_residual-in_err-outcome.result c.from_residual-in_err-outcome.ensures.1 in
    rw p.1 (last_failed_after _ _ _ _ c.in_ok-begin_line.ensures.begins.0.none_failed
    (last_failed_may _ _ _ c.in_err-outcome.ensures.calls))

pub returns-clause-answers : goal.returns-clause-answers
returns-clause-answers g c = λ kept is.
    let begun = c.in_ok-begin_line.ensures.begins in
    let done = c.in_ok-outcome.ensures.executes in
    let said_is = c.parse-said.ensures ∙ ap line_of is in
    let same = sym (c.asks_for_file-has_file.ensures ∙ ap asks_for_file said_is) in
    AnswersKept-flushed _ _ _ _ _ said_is _ _ _ _ _ g.W.Sink.contents g.W.Sink.calls g.F.Flushing.is_sent
    g.F.Flushing.may_fail _ _ _ _ _ c.end_line.result same c.end_line.ensures.ends
    (Answered-between _ _ _ _ _ said_is _ _ _ _ done.reply _ done.step begun.0.kept done.writes.1
    (keeps_beside g.W.Sink.contents g.W.Sink.calls g.F.Flushing.is_sent g.F.Flushing.may_fail _ _ _ _ _
    c.end_line.result c.end_line.ensures.ends) refl
    (λ replies e. c.count.ensures done.reply replies done.writes.0 e) c.next_number.ensures is
    (c.note.ensures done.reply done.writes.0))
    (λ ended. LineSeen-between g.W.Sink.contents g.W.Sink.calls g.F.Flushing.is_sent g.S.Shelf.files
    g.F.Flushing.may_fail _ _ _ _ _ _ _ _ _ _ _ same begun (none_failed_may _ _ _ c.in_ok-outcome.ensures.calls) ended)
    (λ unseen. Adds-same _ _ _ _ (LineCut-after g.W.Sink.contents g.W.Sink.calls g.F.Flushing.is_sent g.S.Shelf.files
    g.F.Flushing.may_fail _ _ _ _ _ _ _ same begun) unseen)

pub returns-clause-calls : goal.returns-clause-calls
returns-clause-calls g c = failed_if_err_after _ _ _ _ c.end_line.result
    (none_failed_more _ _ _ _ c.in_ok-begin_line.ensures.begins.0.none_failed
    (none_failed_may _ _ _ c.in_ok-outcome.ensures.calls))
    (calls_beside g.W.Sink.contents g.W.Sink.calls g.F.Flushing.is_sent g.F.Flushing.may_fail _ _ _ _ _
    c.end_line.result c.end_line.ensures.ends)
