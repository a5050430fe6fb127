use Rattle.std.proofs.Common.{ℕ, List, subst}
use Rattle.std.proofs.lemmas.Result.{err_from_is_err_and}
use Rattle.s2list.specs.Union.{IsLocal}
use Rattle.s2session.proofs.SessionReading.{not_test}
use Rattle.s2session.proofs.TakingRows.{register_refused, register_wrong}
use Rattle.s2session.proofs.parts.register_at.Goals as goal

pub returns-in_err-cells : goal.returns-in_err-cells
returns-in_err-cells g c =
    let p = err_from_is_err_and c.from_residual.result c.from_residual.ensures.1 in
    rw (p.1, p.2) (register_refused c.in_err-cells.field-0.0 c.in_err-cells.ensures)

pub returns-then-not-is_normalized : goal.returns-then-not-is_normalized
returns-then-not-is_normalized g c =
    register_wrong c.in_ok-cells.ensures (subst (λ (l : List ℕ). IsLocal l → ⊥) c.deref.ensures.value (not_test
    c.is_normalized.result (IsLocal c.deref.result.now) c.is_normalized.ensures.local c.if-not-is_normalized.true))
