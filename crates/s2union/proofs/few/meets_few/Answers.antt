use Rattle.s2list.specs.Union.{has_leaf}
use Rattle.s2list.proofs.Asking.{one_shares}
use Rattle.s2union.proofs.few.meets_few.Goals as goal

pub returns-clause-answer : goal.returns-clause-answer
returns-clause-answer g c = one_shares (has_leaf (g.C.Listed.ids c.args.xs.now)) (g.C.Listed.ids c.args.ys.now)
    c.is_decided.result c.is_decided.ensures.none c.is_decided.ensures.found
