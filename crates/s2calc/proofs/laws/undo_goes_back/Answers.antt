use Rattle.s2calc.proofs.UndoLemmas.{law_of_undo}
use Rattle.s2calc.proofs.laws.undo_goes_back.Goals as goal

pub returns : goal.returns
returns c = law_of_undo
