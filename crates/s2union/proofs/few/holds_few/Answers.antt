use Rattle.s2list.specs.Union.{has_leaf}
use Rattle.s2list.proofs.Asking.{none_lacks}
use Rattle.s2union.proofs.few.holds_few.Goals as goal

pub returns-clause-answer : goal.returns-clause-answer
returns-clause-answer g c = none_lacks (has_leaf (g.C.Listed.ids c.args.xs.now)) (g.C.Listed.ids c.args.ys.now)
    c.is_decided.result c.is_decided.ensures.none c.is_decided.ensures.found
