use Rattle.std.proofs.Common.{◌∷◌, ◌++◌, [], ap, sym, ◌∙◌, subst, append_assoc}
use Rattle.std.proofs.lemmas.List.{flat_map_more}
use Rattle.std.proofs.lemmas.Result.{err_from_is_err_and, IfErr-weaker, IfOk-weaker}
use Rattle.s2calc.specs.Texts.{token_line}
use Rattle.s2calc.specs.Working.Listing.{IsUnderway}
use Rattle.s2calc.proofs.CallLemmas.{none_failed_more, last_failed_after}
use Rattle.s2calc.proofs.ListingLemmas.{part_listed}
use Rattle.s2calc.proofs.listing.write_cut.Goals as goal

pub loop-cell-preserved : goal.loop-cell-preserved
loop-cell-preserved g c =
    let v = c.loop-cell.invariant in
    let done = c.loop-cell.yielded in
    let cut = ap (λ s. done ++ s) (sym c.in-Some.ensures.steps) ∙ v.0 in (
      append_assoc done (c.in-Some.cell ∷ []) c.next.new.self ∙ cut,
      c.in_ok-waiting.ensures.room,
      subst (IsUnderway _ _ _) (flat_map_more token_line [] done c.in-Some.cell) (c.in_ok-waiting.ensures.ok _ _ v.2),
      none_failed_more ⊥ _ _ _ v.3 c.in_ok-waiting.ensures.none_failed,
    )

pub returns-in_err-waiting-clause-err : goal.returns-in_err-waiting-clause-err
returns-in_err-waiting-clause-err g c =
    let p = err_from_is_err_and c.from_residual.result c.from_residual.ensures.1 in
    let v = c.loop-cell.invariant in
    let done = c.loop-cell.yielded in
    let cut = ap (λ s. done ++ s) (sym c.in-Some.ensures.steps) ∙ v.0 in
    rw p.1 (part_listed _ _ _ (c.in_err-waiting.ensures.err _ _ v.2)
    (flat_map_more token_line [] done c.in-Some.cell) (append_assoc done (c.in-Some.cell ∷ []) c.next.new.self ∙ cut))

pub returns-in_err-waiting-clause-failed : goal.returns-in_err-waiting-clause-failed
returns-in_err-waiting-clause-failed g c =
    let p = err_from_is_err_and c.from_residual.result c.from_residual.ensures.1 in
    rw p.1 (last_failed_after ⊥ _ _ _ c.loop-cell.invariant.3 c.in_err-waiting.ensures.failed)

pub returns-clause-none_failed : goal.returns-clause-none_failed
returns-clause-none_failed g c = IfOk-weaker c.put_end.result _ _
    (λ u q. none_failed_more ⊥ _ _ _ c.loop-cell.invariant.3 q) c.put_end.ensures.none_failed

pub returns-clause-failed : goal.returns-clause-failed
returns-clause-failed g c = IfErr-weaker c.put_end.result _ _
    (λ fault q. last_failed_after ⊥ _ _ _ c.loop-cell.invariant.3 q) c.put_end.ensures.failed
