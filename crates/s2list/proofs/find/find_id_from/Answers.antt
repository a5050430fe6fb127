use Rattle.std.proofs.Common.{arith, sym, ◌∙◌}
use Rattle.std.proofs.lemmas.Bool.{false≢true}
use Rattle.s2list.proofs.Finding.{bracketed}
use Rattle.s2list.proofs.find.find_id_from.Goals as goal

pub returns-then-is_below_at-clause-place : goal.returns-then-is_below_at-clause-place
returns-then-is_below_at-clause-place g c packed ended =
    let f = c.find_from-at.ensures in
    let below = c.is_below_at.ensures.answer.0 c.if-is_below_at.true in
    bracketed c.args.mark c.find_from-at.result packed f.within (f.ended packed ended) (f.next packed ended)
    (omega arith) (omega arith) (omega (arith, below.0)) (λ _. below.1) (λ h _ _. absurd (omega arith))

pub returns-clause-place : goal.returns-clause-place
returns-clause-place g c packed ended =
    let f = c.find_from-at.ensures in
    bracketed c.args.mark c.find_from-at.result packed f.within (f.ended packed ended) (f.next packed ended)
    (omega arith) (omega arith) f.within (λ h. absurd (omega arith))
    (λ _ h l. false≢true (sym c.if-is_below_at.false ∙ c.is_below_at.ensures.answer.1 (h, l)))
