use Rattle.s2calc.proofs.OrdinaryLemmas.{keeps_ordinary}
use Rattle.s2calc.proofs.laws.states_stay_ordinary.Goals as goal

pub returns : goal.returns
returns c = keeps_ordinary
