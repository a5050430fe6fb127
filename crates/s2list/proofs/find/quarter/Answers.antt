use Rattle.std.proofs.Common.{◌/◌, arith}
use Rattle.s2list.proofs.Finding.{ascends}
use Rattle.s2list.proofs.Galloping.{seeking_quarter, small}
use Rattle.s2list.proofs.Narrowing.{quarter_within}
use Rattle.s2list.proofs.find.quarter.Goals as goal

pub returns-clause-within : goal.returns-clause-within
returns-clause-within g c =
    let w = quarter_within c.args.base c.args.size (c.args.size / 4) c.is_below-first.result c.is_below-second.result
    c.is_below-third.result (small _ _ _ c.is_below-first.ensures.below) (small _ _ _ c.is_below-second.ensures.below)
    (small _ _ _ c.is_below-third.ensures.below) (omega arith) in
    omega arith

pub returns-clause-brackets : goal.returns-clause-brackets
returns-clause-brackets g c packed brackets =
    let u = g.C.Listed.ids c.args.cells.now in
    let size = c.args.size in
    seeking_quarter u c.args.mark c.args.base size (size / 4) c.is_below-first.result c.is_below-second.result
    c.is_below-third.result (ascends u packed) brackets (omega arith) (omega arith)
    (rw c.look.ensures.id at c.is_below-first.ensures.below) (rw c.look-2.ensures.id at c.is_below-second.ensures.below)
    (rw c.look-3.ensures.id at c.is_below-third.ensures.below)
