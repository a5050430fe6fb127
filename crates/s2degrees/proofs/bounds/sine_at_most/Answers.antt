use Rattle.std.proofs.Common.{◌+◌, arith}
use Rattle.s2degrees.proofs.Bounding.{at_most, at_most_one, small_sum}
use Rattle.s2degrees.proofs.bounds.sine_at_most.Goals as goal

pub returns-clause-most : goal.returns-clause-most
returns-clause-most c x p d h i =
    at_most_one _ (c.quarter_sine.result + 40000) p d (omega arith)
    (small_sum x p d (omega (arith, h, c.requires)) i)
    (at_most c.args.angle c.quarter_sine.result x p d c.requires c.quarter_sine.ensures.near h i)
