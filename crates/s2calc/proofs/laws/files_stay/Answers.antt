use Rattle.s2calc.proofs.StepLemmas.{files_stay}
use Rattle.s2calc.proofs.laws.files_stay.Goals as goal

pub returns : goal.returns
returns c = λ old new line reply s h. files_stay old new line reply s h
