use Rattle.std.proofs.Common.{◌-◌, arith}
use Rattle.s2degrees.specs.Degrees.{quarter}
use Rattle.s2map.proofs.Octants.{cosine_least}
use Rattle.s2map.proofs.angles.least_by_cosine.Goals as goal

pub returns-clause-least : goal.returns-clause-least
returns-clause-least c t m x y z p h k =
    c.angle_at_least.ensures.least m
    (cosine_least t m x y z p c.args.n c.args.d c.sine_at_least.result c.scaled.result k
    (c.sine_at_least.ensures.least (quarter - t) p.k p.e (omega (arith, h)) (omega arith) p.east_cosine)
    c.scaled.ensures.value)
