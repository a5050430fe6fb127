use Rattle.s2list.proofs.Checking.{packed_from_local}
use Rattle.s2list.proofs.difference.leap_if.Goals as goal

pub returns-then-asked-clause-ended : goal.returns-then-asked-clause-ended
returns-then-asked-clause-ended g c local b =
    c.find_from.ensures.ended (packed_from_local (g.C.Listed.ids c.args.cells.now) local) b
