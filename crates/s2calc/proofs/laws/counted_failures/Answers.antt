use Rattle.s2calc.proofs.Failures.{failures_of}
use Rattle.s2calc.proofs.laws.counted_failures.Goals as goal

pub returns : goal.returns
returns c = failures_of
