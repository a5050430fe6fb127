use Rattle.s2map.proofs.Leaves.{held_by}
use Rattle.s2map.proofs.laws.law_of_leaves.Goals as goal

pub returns : goal.returns
returns c p proper = held_by p proper c.law_of_sums.ensures.sine c.law_of_sums.ensures.cosine
