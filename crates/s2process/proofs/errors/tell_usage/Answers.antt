use Rattle.std.proofs.Common.{◌++◌, ◌∷◌, []}
use Rattle.std.specs.Prelude.{codes}
use Rattle.s2process.proofs.ErrorLemmas.{given_more, given_part}
use Rattle.s2process.proofs.errors.tell_usage.Goals as goal

pub returns-in-Ok : goal.returns-in-Ok
returns-in-Ok g c = given_more c.args.errors.now c.tell.new.errors (codes "s2calc: usage" ++ 10 ∷ []) c.args.wrong.now
    c.emit.new.writer c.in-Ok.ensures.ok c.in-Ok.ensures.none_failed c.tell.ensures

pub returns-in-Err : goal.returns-in-Err
returns-in-Err g c = given_part c.args.errors.now c.emit.new.writer (codes "s2calc: usage" ++ 10 ∷ []) c.args.wrong.now
    c.in-Err.ensures.err c.in-Err.ensures.failed
