use Rattle.s2polygon.proofs.Changes.{inside_permuted, touched_permuted}
use Rattle.s2polygon.proofs.laws.law_of_orders.Goals as goal

pub returns-clause-inside : goal.returns-clause-inside
returns-clause-inside c = inside_permuted

pub returns-clause-touched : goal.returns-clause-touched
returns-clause-touched c = touched_permuted
