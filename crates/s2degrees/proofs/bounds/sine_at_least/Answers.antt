use Rattle.std.proofs.Common.{◌-◌, ◌≡◌, arith}
use Rattle.s2degrees.proofs.Bounding.{at_least}
use Rattle.s2degrees.proofs.bounds.sine_at_least.Goals as goal

pub returns-clause-least : goal.returns-clause-least
returns-clause-least c x p d h up i =
    let r : c.saturating_sub.result ≡ c.quarter_sine.result - 40000 = omega arith in
    rw r (at_least c.args.angle c.quarter_sine.result x p d c.requires c.quarter_sine.ensures.near h up i)
