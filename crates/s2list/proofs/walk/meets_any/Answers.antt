use Rattle.std.proofs.Common.{arith}
use Rattle.s2list.specs.Union.{has_leaf}
use Rattle.s2list.proofs.Asking.{one_shares}
use Rattle.s2list.proofs.walk.meets_any.Goals as goal

pub returns-clause-answer : goal.returns-clause-answer
returns-clause-answer g c lx ly =
    one_shares (has_leaf (g.X.Listed.ids c.args.xs.now)) (g.Y.Listed.ids c.args.ys.now) c.is_decided.result
    (c.is_decided.ensures.none lx ly) (c.is_decided.ensures.found lx ly)

pub returns-clause-looks : goal.returns-clause-looks
returns-clause-looks g c lx ly d i j cut known k h =
    let l = (c.is_decided.ensures.looks lx ly 0 (omega arith) (omega arith)).turns d i j cut known k h in
    omega arith

pub returns-clause-sizes : goal.returns-clause-sizes
returns-clause-sizes g c lx ly k h =
    let l = (c.is_decided.ensures.looks lx ly 0 (omega arith) (omega arith)).sizes k h in
    omega arith
