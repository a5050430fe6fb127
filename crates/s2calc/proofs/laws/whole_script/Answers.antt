use Rattle.s2calc.proofs.ReadLemmas.{all_out}
use Rattle.s2calc.proofs.ScriptLemmas.{whole_steps}
use Rattle.s2calc.proofs.laws.whole_script.Goals as goal

pub returns : goal.returns
returns c = λ old new ran script all e. (whole_steps old new ran script all e, all_out old new ran all.2)
