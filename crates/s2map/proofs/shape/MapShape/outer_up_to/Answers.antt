use Rattle.std.proofs.lemmas.Result.{IfOk-weaker}
use Rattle.s2map.proofs.FewCells.{none_missed}
use Rattle.s2map.proofs.shape.MapShape.outer_up_to.Goals as goal

pub returns-clause-outer : goal.returns-clause-outer
returns-clause-outer c =
    let made = c.rough_outer_up_to in
    IfOk-weaker made.result _ _ (λ u all n p proper holds inside. none_missed c.args.self.now u.cells n p proper holds
    inside (all n holds.leaf)) made.ensures.leaves
