use Rattle.std.proofs.Common.{◌+◌, sym, subst, rules, take-append-drop}
use Rattle.std.proofs.lemmas.Result.{err_from_is_err_and, IfErr-weaker, IfOk-weaker}
use Rattle.s2calc.specs.Working.Listing.{IsUnderway}
use Rattle.s2calc.proofs.CallLemmas.{none_failed_more, last_failed_after}
use Rattle.s2calc.proofs.ListingLemmas.{lines_more, part_listed}
use Rattle.s2calc.proofs.listing.write_cells.Goals as goal

pub loop-cell-preserved : goal.loop-cell-preserved
loop-cell-preserved g c =
    let v = c.loop-cell.invariant in
    let more = lines_more c.args.cells.now c.loop-cell.cell-index c.cell-item.result (search rules) c.cell-item.is in (
      c.in_ok-waiting.ensures.room,
      subst (IsUnderway _ _ _) (sym more) (c.in_ok-waiting.ensures.ok _ _ v.1),
      none_failed_more ⊥ _ _ _ v.2 c.in_ok-waiting.ensures.none_failed,
    )

pub returns-in_err-waiting-clause-err : goal.returns-in_err-waiting-clause-err
returns-in_err-waiting-clause-err g c =
    let p = err_from_is_err_and c.from_residual.result c.from_residual.ensures.1 in
    rw p.1 (part_listed _ _ _ (c.in_err-waiting.ensures.err _ _ c.loop-cell.invariant.1)
    (sym (lines_more c.args.cells.now c.loop-cell.cell-index c.cell-item.result (search rules) c.cell-item.is))
    (take-append-drop (c.loop-cell.cell-index + 1) c.args.cells.now))

pub returns-in_err-waiting-clause-failed : goal.returns-in_err-waiting-clause-failed
returns-in_err-waiting-clause-failed g c =
    let p = err_from_is_err_and c.from_residual.result c.from_residual.ensures.1 in
    rw p.1 (last_failed_after ⊥ _ _ _ c.loop-cell.invariant.2 c.in_err-waiting.ensures.failed)

pub returns-clause-none_failed : goal.returns-clause-none_failed
returns-clause-none_failed g c = IfOk-weaker c.put_end.result _ _
    (λ u q. none_failed_more ⊥ _ _ _ c.loop-cell.invariant.2 q) c.put_end.ensures.none_failed

pub returns-clause-failed : goal.returns-clause-failed
returns-clause-failed g c = IfErr-weaker c.put_end.result _ _
    (λ fault q. last_failed_after ⊥ _ _ _ c.loop-cell.invariant.2 q) c.put_end.ensures.failed
