use Rattle.std.proofs.lemmas.Bool.{MatchBool-at_false}
use Rattle.std.proofs.lemmas.Result.{err_from_is_err_and}
use Rattle.s2shelf.proofs.Given.{none_left}
use Rattle.s2session.specs.Working.Source.{held}
use Rattle.s2session.proofs.SessionReading.{number_short}
use Rattle.s2session.proofs.Taking.{failed, held_all}
use Rattle.s2session.proofs.TakingCells.{number_taken}
use Rattle.s2session.proofs.parts.number_at.Goals as goal

pub returns-in_err-has : goal.returns-in_err-has
returns-in_err-has g c =
    let p = err_from_is_err_and c.from_residual.result c.from_residual.ensures.1 in
    rw (p.1, p.2) (failed c.in_err-has.field-0.0 _ c.in_err-has.ensures.has c.in_err-has.ensures.kept)

pub returns-then-not-branch : goal.returns-then-not-branch
returns-then-not-branch g c =
    let few = MatchBool-at_false _ _ c.if-not-branch.true c.in_ok-has.ensures.has in
    held_all c.has.new.self c.in_ok-has.ensures.kept (none_left g.F.Read.remaining c.has.new.file few.1)
    (number_short (held c.has.new.self) few.0)

pub returns : goal.returns
returns g c =
    number_taken c.has.new.self c.consume.new.self c.in_ok-has.ensures.kept c.as_slice.ensures c.consume.ensures
    c.number_spelled-value.ensures
