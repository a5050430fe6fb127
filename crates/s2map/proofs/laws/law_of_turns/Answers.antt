use Rattle.s2map.proofs.Meanings.{far_turns}
use Rattle.s2map.proofs.laws.law_of_turns.Goals as goal

pub returns : goal.returns
returns c = far_turns
