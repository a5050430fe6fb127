use Rattle.s2calc.proofs.CutOffLemmas.{one_end_of_output}
use Rattle.s2calc.proofs.laws.one_end_of_output.Goals as goal

pub returns : goal.returns
returns c = one_end_of_output
