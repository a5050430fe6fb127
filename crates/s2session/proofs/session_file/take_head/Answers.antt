use Rattle.std.proofs.lemmas.Result.{err_from_is_err_and}
use Rattle.s2session.proofs.TakingSession.{no_first, first_wrong, no_second, second_wrong}
use Rattle.s2session.proofs.session_file.take_head.Goals as goal

pub returns-in_err-byte_at : goal.returns-in_err-byte_at
returns-in_err-byte_at g c =
    let p = err_from_is_err_and c.from_residual.result c.from_residual.ensures.1 in
    rw (p.1, p.2) (no_first c.in_err-byte_at.field-0.0 c.in_err-byte_at.ensures)

pub returns-then-branch-ne-FIRST : goal.returns-then-branch-ne-FIRST
returns-then-branch-ne-FIRST g c = first_wrong c.in_ok-byte_at.ensures c.if-branch-ne-FIRST.true

pub returns-in_err-byte_at-2 : goal.returns-in_err-byte_at-2
returns-in_err-byte_at-2 g c =
    let p = err_from_is_err_and c.from_residual-in_err-byte_at-2.result c.from_residual-in_err-byte_at-2.ensures.1 in
    rw (p.1, p.2) (no_second c.in_ok-byte_at.ensures c.in_err-byte_at-2.field-0.0 c.in_err-byte_at-2.ensures)

pub returns-then-branch-ne-SECOND : goal.returns-then-branch-ne-SECOND
returns-then-branch-ne-SECOND g c =
    second_wrong c.in_ok-byte_at.ensures c.in_ok-byte_at-2.ensures c.if-branch-ne-SECOND.true
