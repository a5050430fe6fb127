use Rattle.s2calc.proofs.OneRun.{gives_back}
use Rattle.s2calc.proofs.laws.restore_gives_back.Goals as goal

pub returns : goal.returns
returns c = gives_back
