use Rattle.s2map.proofs.Octants.{sine_least}
use Rattle.s2map.proofs.angles.least_by_sine.Goals as goal

pub returns-clause-least : goal.returns-clause-least
returns-clause-least c t m x y z p h k =
    c.angle_at_least.ensures.least m (sine_least t m x y z p c.args.n c.args.d c.sine_at_least.result c.scaled.result k
    (c.sine_at_least.ensures.least t p.a p.b h p.east p.east_sine) c.scaled.ensures.value)
