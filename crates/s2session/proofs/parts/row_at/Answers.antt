use Rattle.std.proofs.Common.{List, map, arith}
use Rattle.std.proofs.lemmas.List.{length-map}
use Rattle.std.proofs.lemmas.Result.{err_from_is_err_and}
use Rattle.s2edit.specs.Diff.{Diff}
use Rattle.s2edit.specs.Content.{diff_of}
use Rattle.s2session.proofs.Taking.{joined, of_front}
use Rattle.s2session.proofs.TakingRows.{row_refused}
use Rattle.s2session.proofs.parts.row_at.Goals as goal

pub returns-in_err-move_at : goal.returns-in_err-move_at
returns-in_err-move_at g c =
    let p = err_from_is_err_and c.from_residual.result c.from_residual.ensures.1 in
    let ms : List Diff = map diff_of c.loop-i.moves.items in
    rw (p.1, p.2) (row_refused c.in_err-move_at.field-0.0 c.args.count c.loop-i.invariant.taken (omega (
      arith,
      c.loop-i.invariant.count,
      c.loop-i-test.true,
      length-map c.loop-i.moves.items diff_of,
    )) c.in_err-move_at.ensures)

pub returns-in_err-push : goal.returns-in_err-push
returns-in_err-push g c =
    let p = err_from_is_err_and c.from_residual-in_err-push.result c.from_residual-in_err-push.ensures.1 in
    rw (p.1, p.2) (of_front (joined c.loop-i.invariant.taken.is c.in_ok-move_at.ensures.is) (λ rest. tt))
