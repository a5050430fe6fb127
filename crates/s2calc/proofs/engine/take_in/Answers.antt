use Rattle.std.proofs.Common.{◌≡◌, ℕ, List, [], ◌∷◌, ◌++◌, ◌+◌, ◌-◌, length, take, drop, refl, ap, sym}
use Rattle.std.proofs.Common.{◌∙◌, append_assoc, append-nil, length-append, arith, take-append-drop, subst, inl, inr}
use Rattle.std.proofs.lemmas.List.{take_rest}
use Rattle.std.proofs.lemmas.Result.{err_from_is_err_and}
use Rattle.s2script.specs.Working.Lines.{EndsLineAt}
use Rattle.s2calc.proofs.CallLemmas.{none_failed_none, none_failed_more, last_failed_after}
use Rattle.s2calc.proofs.DeskLemmas.{SameReferences-trans}
use Rattle.s2calc.proofs.TakeInLemmas.{StandsAfter-none, StandsAfter-line, StandsAfter-rest, StopsInside-line}
use Rattle.s2calc.proofs.TakeInLemmas.{StopsBeside-line, but_last-push}
use Rattle.s2calc.proofs.RefusedLemmas.{none_by_tally, none_but_last, first_refused}
use Rattle.s2calc.specs.Replies.{NoneRefused}
use Rattle.s2calc.proofs.OrderLemmas.{Adds-none, Adds-trans, Adds-weaker, Adds-same, MoreSeen-none, MoreSeen-line}
use Rattle.s2calc.proofs.OrderLemmas.{MoreSeen-rest, ManySeen-before, ManySeen-cut}
use Rattle.s2calc.proofs.engine.take_in.Goals as goal

-- the chunk, cut at a newline
cut_at : (chunk seen rest : List ℕ) (at : ℕ) → chunk ≡ seen ++ rest → EndsLineAt rest at →
    chunk ≡ (seen ++ take at rest) ++ 10 ∷ drop (at + 1) rest
cut_at chunk seen rest at e h =
    e ∙ ap (λ s. seen ++ s) (sym (take-append-drop at rest) ∙ ap (λ s. take at rest ++ s) h.here)
    ∙ sym (append_assoc seen (take at rest) (10 ∷ drop (at + 1) rest))

cut_after : (chunk seen rest : List ℕ) (at : ℕ) → chunk ≡ seen ++ rest → EndsLineAt rest at →
    chunk ≡ ((seen ++ take at rest) ++ 10 ∷ []) ++ take (length rest - (at + 1)) (drop (at + 1) rest)
cut_after chunk seen rest at e h =
    cut_at chunk seen rest at e h ∙ sym (append_assoc (seen ++ take at rest) (10 ∷ []) (drop (at + 1) rest))
    ∙ ap (λ s. ((seen ++ take at rest) ++ 10 ∷ []) ++ s) (sym (take_rest rest (at + 1)))

pub loop-at-init : goal.loop-at-init
loop-at-init g c = (
  [],
  refl,
  λ start script replies s none. (
    StandsAfter-none start script replies _ _ _ s,
    Adds-none _ _ (MoreSeen-none g.W.Sink.contents g.W.Sink.calls g.F.Flushing.is_sent g.S.Shelf.files
        g.F.Flushing.may_fail start.world script replies _ _),
    λ e. subst NoneRefused (sym (append-nil replies)) (none e),
  ),
  none_failed_none _ _,
  (refl, refl, refl, refl, refl),
)

pub returns-in_err-answer_next-clause-takes_in : goal.returns-in_err-answer_next-clause-takes_in
returns-in_err-answer_next-clause-takes_in g c =
    let p = err_from_is_err_and c.from_residual.result c.from_residual.ensures.1 in
    let i = c.loop-at.invariant in
    let rest = c.loop-at.rest.now in
    let ends = c.in-Some.ensures.some in
    let done = c.in_err-answer_next.ensures.answers in
    rw (p.1, p.2) (λ start script replies s none.
    let here = i.2 start script replies s none in
    let whole = cut_at _ i.0 rest c.in-Some.at i.1 ends in (
      done.0,
      elim done.1 [
        | inl part ↦ inl (StopsInside-line _ _ start script replies _ i.0 (take c.in-Some.at rest)
            (drop (c.in-Some.at + 1) rest) _ _ _ _ _ _ _ here.0 ends.before refl refl refl part whole
            (λ reply held begun. (
              Adds-trans _ _ _ _ _ _ (λ ms ns m l. ManySeen-cut g.W.Sink.contents g.W.Sink.calls
                  g.F.Flushing.is_sent g.S.Shelf.files g.F.Flushing.may_fail start script replies i.0
                  (take c.in-Some.at rest) (drop (c.in-Some.at + 1) rest) _ _ _ _ _ _ ms here.0 ends.before held whole
                  m reply _ ns i.3 refl l) here.1 begun,
              λ e. subst NoneRefused (sym (but_last-push replies here.0.more reply)) (here.2 e),
            )))
        | inr failed ↦ inr (
          failed.0,
          StopsBeside-line _ _ _ start script replies _ i.0 (take c.in-Some.at rest) (drop (c.in-Some.at + 1) rest)
              _ _ _ _ _ _ _ _ here.0 ends.before refl refl refl failed.1 whole
              (λ held unseen. (
                Adds-same _ _ _ _ (Adds-weaker _ _ _ _ (λ ms m. ManySeen-before g.W.Sink.contents
                    g.W.Sink.calls g.F.Flushing.is_sent g.S.Shelf.files g.F.Flushing.may_fail start script replies i.0
                    (take c.in-Some.at rest) (drop (c.in-Some.at + 1) rest) _ _ _ _ _ c.loop-at.desk.writer.now ms
                    here.0 ends.before held whole m) here.1) unseen,
                λ e. none_but_last (replies ++ here.0.more) (here.2 e),
              ))
              (λ reply held begun. (
                Adds-trans _ _ _ _ _ _ (λ ms ns m l. ManySeen-cut g.W.Sink.contents g.W.Sink.calls
                    g.F.Flushing.is_sent g.S.Shelf.files g.F.Flushing.may_fail start script replies i.0
                    (take c.in-Some.at rest) (drop (c.in-Some.at + 1) rest) _ _ _ _ _ _ ms here.0 ends.before held
                    whole m reply _ ns i.3 refl l) here.1 begun,
                λ e. subst NoneRefused (sym (but_last-push replies here.0.more reply)) (here.2 e),
              )),
        )
      ],
    ))

pub returns-in_err-answer_next-clause-calls : goal.returns-in_err-answer_next-clause-calls
returns-in_err-answer_next-clause-calls g c =
    let p = err_from_is_err_and c.from_residual.result c.from_residual.ensures.1 in
    rw p.1 (last_failed_after _ _ _ _ c.loop-at.invariant.3 c.in_err-answer_next.ensures.calls)

pub returns-in_err-answer_next-clause-same : goal.returns-in_err-answer_next-clause-same
returns-in_err-answer_next-clause-same g c =
    SameReferences-trans c.args.desk.now c.loop-at.desk c.answer_next.new.desk c.loop-at.invariant.4
    c.answer_next.ensures.same

-- a refused line stops the run
pub returns-then-is_halted-clause-takes_in : goal.returns-then-is_halted-clause-takes_in
returns-then-is_halted-clause-takes_in g c =
    let i = c.loop-at.invariant in
    let rest = c.loop-at.rest.now in
    let ends = c.in-Some.ensures.some in
    let done = c.in_ok-answer_next.ensures.answers in
    let well = c.in_ok-answer_next.ensures.calls in
    let halted = c.is_halted.ensures.halted c.if-is_halted.true in
    λ start script replies s none. let here = i.2 start script replies s none in
    let after = StandsAfter-line start script replies i.0 (take c.in-Some.at rest) _ _ _ _ _ _ _ _ _ here.0
    ends.before refl refl refl done.0 c.in_ok-answer_next.ensures.cleared refl refl in
    let one_more = length-append here.0.more (done.0.reply ∷ []) in (
      (i.0 ++ take c.in-Some.at rest) ++ 10 ∷ [],
      drop (c.in-Some.at + 1) rest,
      cut_at _ i.0 rest c.in-Some.at i.1 ends
          ∙ sym (append_assoc (i.0 ++ take c.in-Some.at rest) (10 ∷ []) (drop (c.in-Some.at + 1) rest)),
      after,
      Adds-trans _ _ _ _ _ _ (λ ms ns p q. MoreSeen-line g.W.Sink.contents g.W.Sink.calls g.F.Flushing.is_sent
          g.S.Shelf.files g.F.Flushing.may_fail start script replies i.0 (take c.in-Some.at rest) _ _ _ _ _ _ _ _ _ _
          ms ns here.0 ends.before refl refl refl done.0 i.3 well refl refl p q) here.1 done.1,
      halted.0,
      first_refused replies here.0.more done.0.reply c.answer_next.new.progress.tally after.stands.tally_is halted.1
          (here.2 halted.0),
      omega (arith, one_more),
    )

pub returns-then-is_halted-clause-calls : goal.returns-then-is_halted-clause-calls
returns-then-is_halted-clause-calls g c =
    none_failed_more _ _ _ _ c.loop-at.invariant.3 c.in_ok-answer_next.ensures.calls

pub loop-at-preserved : goal.loop-at-preserved
loop-at-preserved g c =
    let i = c.loop-at.invariant in
    let rest = c.loop-at.rest.now in
    let ends = c.in-Some.ensures.some in
    let done = c.in_ok-answer_next.ensures.answers in
    let well = c.in_ok-answer_next.ensures.calls in (
      (i.0 ++ take c.in-Some.at rest) ++ 10 ∷ [],
      cut_after _ i.0 rest c.in-Some.at i.1 ends,
      λ start script replies s none. let here = i.2 start script replies s none in
          let after = StandsAfter-line start script replies i.0 (take c.in-Some.at rest) _ _ _ _ _ _ _ _ _ here.0
          ends.before refl refl refl done.0 c.in_ok-answer_next.ensures.cleared refl refl in (
            after,
            Adds-trans _ _ _ _ _ _ (λ ms ns p q. MoreSeen-line g.W.Sink.contents g.W.Sink.calls g.F.Flushing.is_sent
                g.S.Shelf.files g.F.Flushing.may_fail start script replies i.0 (take c.in-Some.at rest)
                _ _ _ _ _ _ _ _ _ _ ms ns here.0 ends.before refl refl refl done.0 i.3 well refl refl p q)
                here.1 done.1,
            λ e. none_by_tally (replies ++ after.more) c.answer_next.new.progress.tally after.stands.tally_is
                (c.is_halted.ensures.goes_on c.if-is_halted.false e),
          ),
      none_failed_more _ _ _ _ i.3 well,
      SameReferences-trans c.args.desk.now c.loop-at.desk c.answer_next.new.desk i.4 c.answer_next.ensures.same,
    )

pub returns-clause-takes_in : goal.returns-clause-takes_in
returns-clause-takes_in g c =
    let i = c.loop-at.invariant in
    λ start script replies s none. let here = i.2 start script replies s none in (
      StandsAfter-rest start script replies _ i.0 c.loop-at.rest.now _ _ _ _ _ here.0 c.in_default.ensures.none
          c.keep.ensures refl refl i.1,
      Adds-weaker _ _ _ _ (λ ms m. MoreSeen-rest g.W.Sink.contents g.W.Sink.calls g.F.Flushing.is_sent g.S.Shelf.files
          g.F.Flushing.may_fail start script replies _ _ i.0 c.loop-at.rest.now _ _ _ _ _ ms here.0
          c.in_default.ensures.none i.1 m) here.1,
      here.2,
    )

pub returns-clause-calls : goal.returns-clause-calls
returns-clause-calls g c = c.loop-at.invariant.3

pub returns-clause-same : goal.returns-clause-same
returns-clause-same g c = c.loop-at.invariant.4
