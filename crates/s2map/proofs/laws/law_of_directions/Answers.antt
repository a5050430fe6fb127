use Rattle.s2map.proofs.Meanings.{same_passing}
use Rattle.s2map.proofs.laws.law_of_directions.Goals as goal

pub returns : goal.returns
returns c = same_passing
