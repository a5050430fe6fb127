use Rattle.std.proofs.Common.{◌∙◌}
use Rattle.std.proofs.lemmas.Result.{err_from_is_err_and}
use Rattle.s2calc.proofs.engine.answer_cut.Goals as goal

pub returns-in_err-answer_line-clause-answers : goal.returns-in_err-answer_line-clause-answers
returns-in_err-answer_line-clause-answers g c =
    let p = err_from_is_err_and c.from_residual.result c.from_residual.ensures.1 in
    rw (p.1, p.2) (c.in_err-answer_line.ensures.answers _ (c.as_slice-line.ensures ∙ c.keep.ensures))

pub returns-in_err-answer_line-clause-calls : goal.returns-in_err-answer_line-clause-calls
returns-in_err-answer_line-clause-calls g c =
    let p = err_from_is_err_and c.from_residual.result c.from_residual.ensures.1 in
    rw p.1 c.in_err-answer_line.ensures.calls

pub returns-clause-answers : goal.returns-clause-answers
returns-clause-answers g c = c.in_ok-answer_line.ensures.answers _ (c.as_slice-line.ensures ∙ c.keep.ensures)
