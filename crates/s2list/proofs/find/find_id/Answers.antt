use Rattle.std.proofs.Common.{arith, sym, ◌∙◌}
use Rattle.std.proofs.lemmas.Bool.{false≢true}
use Rattle.s2list.proofs.Finding.{ascends, none_below}
use Rattle.s2list.proofs.find.find_id.Goals as goal

pub returns-then-not-is_below_at-clause-place : goal.returns-then-not-is_below_at-clause-place
returns-then-not-is_below_at-clause-place g c packed = none_below c.args.mark (ascends _ packed)
    (λ h. false≢true (sym c.if-not-is_below_at.true ∙ c.is_below_at.ensures.answer.1 h))

pub returns-clause-place : goal.returns-clause-place
returns-clause-place g c packed = c.find_id_from.ensures.place packed (λ k h. absurd (omega arith))
