use Rattle.std.proofs.lemmas.Result.{IfOk-weaker}
use Rattle.s2map.proofs.shape.MapShape.inner_up_to.Goals as goal

pub returns-clause-inner : goal.returns-clause-inner
returns-clause-inner c =
    let made = c.rough_inner_up_to in
    IfOk-weaker made.result _ _ (λ u only n p has. only n has p) made.ensures.leaves
