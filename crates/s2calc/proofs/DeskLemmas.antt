-- Lemmas on the desk of a run.
use Rattle.std.proofs.Common.{◌∙◌}
use Rattle.s2calc.specs.declared.desk.Desk.{Desk}
use Rattle.s2calc.specs.Working.Desk.{SameReferences}

pub SameReferences-trans : {W S N O : Type 0} (a b c : Desk W S N O) → SameReferences a b → SameReferences b c →
    SameReferences a c
SameReferences-trans a b c p q = (q.0 ∙ p.0, q.1 ∙ p.1, q.2 ∙ p.2, q.3 ∙ p.3, q.4 ∙ p.4)
