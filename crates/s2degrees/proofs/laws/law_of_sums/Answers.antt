use Rattle.std.proofs.Common.{◌+◌, ◌/◌, ◌%◌}
use Rattle.s2degrees.specs.Degrees.{around, quarter}
use Rattle.s2degrees.proofs.Sums.{below_quarter, sine_in}
use Rattle.s2degrees.proofs.laws.law_of_sums.Goals as goal

pub returns-clause-sine : goal.returns-clause-sine
returns-clause-sine c angle = sine_in (around angle / quarter) (around angle % quarter) (below_quarter (around angle))

pub returns-clause-cosine : goal.returns-clause-cosine
returns-clause-cosine c angle =
    sine_in (around angle / quarter + 1) (around angle % quarter) (below_quarter (around angle))
