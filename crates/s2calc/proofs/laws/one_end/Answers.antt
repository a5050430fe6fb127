use Rattle.s2calc.proofs.ScriptLemmas.{one_end}
use Rattle.s2calc.proofs.laws.one_end.Goals as goal

pub returns : goal.returns
returns c = one_end
