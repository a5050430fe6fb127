use Rattle.std.proofs.lemmas.Result.{err_from_is_err_and}
use Rattle.s2session.proofs.TakingCells.{count_refused, list_taken, list_of_many, list_refused}
use Rattle.s2session.proofs.parts.cells_at.Goals as goal

pub returns-in_err-count : goal.returns-in_err-count
returns-in_err-count g c =
    let p = err_from_is_err_and c.from_residual.result c.from_residual.ensures.1 in
    rw (p.1, p.2) (count_refused c.in_err-count.field-0.0 c.in_err-count.ensures)

pub returns-then-count : goal.returns-then-count
returns-then-count g c = list_of_many c.in_ok-count.ensures c.if-count.true

pub returns-in_err-cells : goal.returns-in_err-cells
returns-in_err-cells g c =
    let p = err_from_is_err_and c.from_residual-in_err-cells.result c.from_residual-in_err-cells.ensures.1 in
    rw (p.1, p.2) (list_refused c.in_ok-count.ensures c.in_err-cells.field-0.0 c.in_err-cells.ensures)

pub returns : goal.returns
returns g c = list_taken c.in_ok-count.ensures c.in_ok-cells.ensures c.if-count.false
