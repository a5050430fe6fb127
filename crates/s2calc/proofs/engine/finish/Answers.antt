use Rattle.std.proofs.Common.{◌≡◌, ◌<◌, [], length, refl, arith, inl, inr}
use Rattle.std.proofs.lemmas.Grind.{common_steps}
use Rattle.std.proofs.lemmas.Result.{err_from_is_err_and, MatchResult-weaker}
use Rattle.s2calc.proofs.CallLemmas.{flushed_if_ok_after}
use Rattle.s2calc.proofs.CloseLemmas.{Ended-none, EndsUnflushed-none, Ended-line, EndsUnflushed-line, EndsInPart-part}
use Rattle.s2calc.proofs.CloseLemmas.{Ends-unflushed}
use Rattle.s2calc.proofs.OrderLemmas.{Adds-none, Adds-weaker, Adds-same, LastSeen-none, LastSeen-line, EndSeen-none}
use Rattle.s2calc.proofs.OrderLemmas.{EndSeen-cut}
use Rattle.s2calc.proofs.engine.finish.Goals as goal

pub returns-then-is_empty-clause-finishes : goal.returns-then-is_empty-clause-finishes
returns-then-is_empty-clause-finishes g c =
    let none : c.args.progress.kept ≡ [] = grind (arith, common_steps) in
    λ start script replies s. MatchResult-weaker c.flush_at_the_end.result c.flush_at_the_end.ensures.result
    (λ told t. Ended-none start script replies _ _ s _ told _ _ none c.flush_at_the_end.ensures.kept t (
      Adds-none _ _ (LastSeen-none g.W.Sink.contents g.W.Sink.calls g.F.Flushing.is_sent g.S.Shelf.files
          g.F.Flushing.may_fail start script replies [] _ _ _ s none),
      omega arith,
    ))
    (λ fault f. (
      f,
      inr (inl (EndsUnflushed-none start script replies _ _ s _ _ _ none c.flush_at_the_end.ensures.kept (
        Adds-none _ _ (LastSeen-none g.W.Sink.contents g.W.Sink.calls g.F.Flushing.is_sent g.S.Shelf.files
            g.F.Flushing.may_fail start script replies [] _ _ _ s none),
        omega arith,
      ))),
    ))

pub returns-in_err-answer_line-clause-finishes : goal.returns-in_err-answer_line-clause-finishes
returns-in_err-answer_line-clause-finishes g c =
    let some : 0 < length c.args.progress.kept = grind (arith, common_steps) in
    let p = err_from_is_err_and c.from_residual.result c.from_residual.ensures.1 in
    let done = c.in_err-answer_line.ensures.answers _ c.as_slice-last.ensures in
    rw (p.1, p.2) (λ start script replies s. (
      done.0,
      elim done.1 [
        | inl part ↦ inl (EndsInPart-part start script replies _ _ s _ some _ _ _ _ part (λ reply begun. (
          Adds-weaker _ _ _ _ (λ ms l. EndSeen-cut g.W.Sink.contents g.W.Sink.calls g.F.Flushing.is_sent
              g.S.Shelf.files g.F.Flushing.may_fail start script replies _ _ _ s reply _ ms some refl l) begun,
          omega arith,
        )))
        | inr failed ↦ inr (Ends-unflushed start script replies _ _ s _ some _ _ _ _ _ _ _ failed.0 failed.1
            (λ unseen. (
              Adds-same _ _ _ _ (Adds-none _ _ (EndSeen-none g.W.Sink.contents g.W.Sink.calls g.F.Flushing.is_sent
                  g.S.Shelf.files g.F.Flushing.may_fail start script replies _ _ c.args.desk.now.writer.now s []))
                  unseen,
              omega arith,
            )) (λ reply begun. (
              Adds-weaker _ _ _ _ (λ ms l. EndSeen-cut g.W.Sink.contents g.W.Sink.calls g.F.Flushing.is_sent
                  g.S.Shelf.files g.F.Flushing.may_fail start script replies _ _ _ s reply _ ms some refl l) begun,
              omega arith,
            )))
      ],
    ))

pub returns-clause-finishes : goal.returns-clause-finishes
returns-clause-finishes g c =
    let some : 0 < length c.args.progress.kept = grind (arith, common_steps) in
    let done = c.in_ok-answer_line.ensures.answers _ c.as_slice-last.ensures in
    let well = c.in_ok-answer_line.ensures.calls in
    λ start script replies s. MatchResult-weaker c.flush_at_the_end-2.result c.flush_at_the_end-2.ensures.result
    (λ told t. Ended-line start script replies _ _ s _ some _ _ _ _ done.0 c.flush_at_the_end-2.ensures.kept _ told
    t (
      Adds-weaker _ _ _ _ (λ ms l. LastSeen-line g.W.Sink.contents g.W.Sink.calls g.F.Flushing.is_sent
          g.S.Shelf.files g.F.Flushing.may_fail start script replies _ _ _ _ _ _ _ _ ms s some done.0 well refl refl l)
          done.1,
      omega arith,
    ))
    (λ fault f. (
      f,
      inr (inl (EndsUnflushed-line start script replies _ _ s _ some _ _ _ _ done.0
          c.flush_at_the_end-2.ensures.kept _ _ (inl refl) (
            Adds-weaker _ _ _ _ (λ ms l. LastSeen-line g.W.Sink.contents g.W.Sink.calls g.F.Flushing.is_sent
                g.S.Shelf.files g.F.Flushing.may_fail start script replies _ _ _ _ _ _ _ _ ms s some done.0 well refl
                refl l) done.1,
            omega arith,
          ))),
    ))

pub returns-clause-calls : goal.returns-clause-calls
returns-clause-calls g c = flushed_if_ok_after _ _ _ _ c.flush_at_the_end-2.result c.in_ok-answer_line.ensures.calls
    c.flush_at_the_end-2.ensures.calls

pub returns-in_err-answer_line-clause-sent : goal.returns-in_err-answer_line-clause-sent
returns-in_err-answer_line-clause-sent g c =
    let p = err_from_is_err_and c.from_residual.result c.from_residual.ensures.1 in
    let done = c.in_err-answer_line.ensures.answers _ c.as_slice-last.ensures in
    rw (p.1, p.2) done.0
