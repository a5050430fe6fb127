use Rattle.s2polygon.proofs.Changes.{inner_fewer, outer_more}
use Rattle.s2polygon.proofs.laws.law_of_margins.Goals as goal

pub returns-clause-outer : goal.returns-clause-outer
returns-clause-outer c = outer_more

pub returns-clause-inner : goal.returns-clause-inner
returns-clause-inner c = inner_fewer
