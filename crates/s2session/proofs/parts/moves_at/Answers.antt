use Rattle.std.proofs.lemmas.Result.{err_from_is_err_and}
use Rattle.s2session.proofs.TakingRows.{counts_refused, moves_of_many, moves_refused, moves_taken}
use Rattle.s2session.proofs.parts.moves_at.Goals as goal

pub returns-in_err-count : goal.returns-in_err-count
returns-in_err-count g c =
    let p = err_from_is_err_and c.from_residual.result c.from_residual.ensures.1 in
    rw (p.1, p.2) (counts_refused c.in_err-count.field-0.0 c.in_err-count.ensures)

pub returns-then-count : goal.returns-then-count
returns-then-count g c = moves_of_many c.in_ok-count.ensures c.if-count.true

pub returns-in_err-moves : goal.returns-in_err-moves
returns-in_err-moves g c =
    let p = err_from_is_err_and c.from_residual-in_err-moves.result c.from_residual-in_err-moves.ensures.1 in
    rw (p.1, p.2) (moves_refused c.in_ok-count.ensures c.in_err-moves.field-0.0 c.in_err-moves.ensures)

pub returns : goal.returns
returns g c = moves_taken c.in_ok-count.ensures c.in_ok-moves.ensures c.if-count.false
