use Rattle.s2cover.proofs.Coverings.{outer_in, outer_from, inner_in, inner_from}
use Rattle.s2cover.proofs.laws.covering_sets.Goals as goal

pub returns-clause-outer : goal.returns-clause-outer
returns-clause-outer c R k x h = (outer_in R k x h, outer_from R k x)

pub returns-clause-inner : goal.returns-clause-inner
returns-clause-inner c R k x h = (inner_in R k x h, inner_from R k x)
