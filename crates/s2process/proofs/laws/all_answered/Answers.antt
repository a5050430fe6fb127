use Rattle.s2process.proofs.LawLemmas.{all_answered}
use Rattle.s2process.proofs.laws.all_answered.Goals as goal

pub returns : goal.returns
returns g c = all_answered _ _ _ _ _ _
