use Rattle.s2calc.proofs.CutOffLemmas.{one_end_of_input}
use Rattle.s2calc.proofs.laws.one_end_of_input.Goals as goal

pub returns : goal.returns
returns c = one_end_of_input
