use Rattle.s2calc.proofs.StoredLemmas.{comes_back}
use Rattle.s2calc.proofs.laws.stored_comes_back.Goals as goal

pub returns : goal.returns
returns c = comes_back
