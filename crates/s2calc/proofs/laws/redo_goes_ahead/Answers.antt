use Rattle.s2calc.proofs.RedoLemmas.{law_of_redo}
use Rattle.s2calc.proofs.laws.redo_goes_ahead.Goals as goal

pub returns : goal.returns
returns c = law_of_redo
