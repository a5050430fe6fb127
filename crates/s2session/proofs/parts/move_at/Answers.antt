use Rattle.std.proofs.lemmas.Result.{err_from_is_err_and}
use Rattle.s2session.proofs.TakingRows.{byte_refused, out_refused, put_refused, change_wrong}
use Rattle.s2session.proofs.parts.move_at.Goals as goal

pub returns-in_err-register : goal.returns-in_err-register
returns-in_err-register g c =
    let p = err_from_is_err_and c.from_residual.result c.from_residual.ensures.1 in
    rw (p.1, p.2) (byte_refused c.in_err-register.field-0.0 c.in_err-register.ensures)

pub returns-in_err-out : goal.returns-in_err-out
returns-in_err-out g c =
    let p = err_from_is_err_and c.from_residual-in_err-out.result c.from_residual-in_err-out.ensures.1 in
    rw (p.1, p.2) (out_refused c.in_ok-register.ensures c.in_err-out.field-0.0 c.in_err-out.ensures)

pub returns-in_err-put : goal.returns-in_err-put
returns-in_err-put g c =
    let p = err_from_is_err_and c.from_residual-in_err-put.result c.from_residual-in_err-put.ensures.1 in
    rw (p.1, p.2) (put_refused c.in_ok-register.ensures c.in_ok-out.ensures c.in_err-put.field-0.0
    c.in_err-put.ensures)

pub returns-then-not-is_change : goal.returns-then-not-is_change
returns-then-not-is_change g c =
    change_wrong c.in_ok-register.ensures c.in_ok-out.ensures c.in_ok-put.ensures
    (λ m. c.if-not-is_change.ensures (rw (c.deref.ensures.value, c.deref-2.ensures.value) m))
