use Rattle.std.proofs.Common.{inr}
use Rattle.std.proofs.lemmas.Result.{IfOk-weaker, IfErr-weaker}
use Rattle.std.proofs.KnownBytes.{Appends-kept}
use Rattle.s2calc.proofs.CallLemmas.{last_flushed_after, last_failed_after}
use Rattle.s2calc.proofs.program.write_line.Goals as goal

pub returns-clause-err : goal.returns-clause-err
returns-clause-err g c = IfErr-weaker c.flush.result _ _
    (λ fault f. inr (Appends-kept _ _ _ _ c.in_ok-emit.ensures.ok c.flush.ensures.kept)) c.flush.ensures.fault

pub returns-clause-flushed : goal.returns-clause-flushed
returns-clause-flushed g c = IfOk-weaker c.flush.result _ _
    (λ u q. last_flushed_after ⊥ _ _ _ c.in_ok-emit.ensures.none_failed q) c.flush.ensures.flushed

pub returns-clause-failed : goal.returns-clause-failed
returns-clause-failed g c = IfErr-weaker c.flush.result _ _
    (λ fault q. last_failed_after ⊥ _ _ _ c.in_ok-emit.ensures.none_failed q) c.flush.ensures.failed
