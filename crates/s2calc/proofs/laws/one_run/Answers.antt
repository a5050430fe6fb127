use Rattle.s2calc.proofs.OneRun.{one_run_of}
use Rattle.s2calc.proofs.laws.one_run.Goals as goal

pub returns : goal.returns
returns c = λ a b x y ls rs ss s t l m p q. one_run_of a b x y ls rs ss s t l m p q
