use Rattle.std.proofs.Common.{sym, subst}
use Rattle.std.proofs.lemmas.Result.{IfOk-weaker, IfErr-weaker}
use Rattle.s2calc.specs.Calls.{NoneFailed}
use Rattle.s2calc.proofs.CallLemmas.{last_flushed_after, last_failed_after}
use Rattle.s2calc.proofs.answer_buffer.AnswerBufferSink.flush.Goals as goal

pub returns-clause-flushed : goal.returns-clause-flushed
returns-clause-flushed g c =
    let handed = subst (λ b. NoneFailed ⊥ (g.W.Sink.calls c.args.self.now.writer) (g.W.Sink.calls b.writer))
    (sym c.self.view_is) c.in_ok-hand_over.ensures.none_failed in
    IfOk-weaker c.flush.result _ _ (λ u q. last_flushed_after ⊥ _ _ _ handed q) c.flush.ensures.flushed

pub returns-clause-failed : goal.returns-clause-failed
returns-clause-failed g c =
    let handed = subst (λ b. NoneFailed ⊥ (g.W.Sink.calls c.args.self.now.writer) (g.W.Sink.calls b.writer))
    (sym c.self.view_is) c.in_ok-hand_over.ensures.none_failed in
    IfErr-weaker c.flush.result _ _ (λ error q. last_failed_after ⊥ _ _ _ handed q) c.flush.ensures.failed
