use Rattle.s2polygon.proofs.Changes.{exchanged}
use Rattle.s2polygon.proofs.laws.law_of_complements.Goals as goal

pub returns : goal.returns
returns c = exchanged
