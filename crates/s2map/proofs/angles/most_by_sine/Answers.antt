use Rattle.s2map.proofs.Octants.{sine_most}
use Rattle.s2map.proofs.angles.most_by_sine.Goals as goal

pub returns-clause-most : goal.returns-clause-most
returns-clause-most c t m x y z p h k =
    c.angle_at_most.ensures.most m (sine_most t m x y z p c.args.n c.args.d c.sine_at_most.result c.scaled.result k
    (c.sine_at_most.ensures.most t p.a p.b h p.east_sine) c.scaled.ensures.value)
