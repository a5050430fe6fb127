use Rattle.s2process.proofs.OutputLemmas.{one_output}
use Rattle.s2process.proofs.laws.one_output.Goals as goal

pub returns : goal.returns
returns g c = one_output _ _ _ _ _ _
