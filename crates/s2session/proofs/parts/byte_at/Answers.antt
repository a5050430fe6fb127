use Rattle.std.proofs.lemmas.Bool.{MatchBool-at_false}
use Rattle.std.proofs.lemmas.Result.{err_from_is_err_and}
use Rattle.s2shelf.proofs.Given.{none_left}
use Rattle.s2session.proofs.Taking.{failed}
use Rattle.s2session.proofs.TakingCells.{byte_lacks}
use Rattle.s2session.proofs.parts.byte_at.Goals as goal

pub returns-in_err-has : goal.returns-in_err-has
returns-in_err-has g c =
    let p = err_from_is_err_and c.from_residual.result c.from_residual.ensures.1 in
    rw (p.1, p.2) (failed c.in_err-has.field-0.0 _ c.in_err-has.ensures.has c.in_err-has.ensures.kept)

pub returns-then-not-branch : goal.returns-then-not-branch
returns-then-not-branch g c =
    let few = MatchBool-at_false _ _ c.if-not-branch.true c.in_ok-has.ensures.has in
    byte_lacks c.has.new.self c.in_ok-has.ensures.kept (none_left g.F.Read.remaining c.has.new.file few.1) few.0
