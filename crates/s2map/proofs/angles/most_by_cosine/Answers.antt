use Rattle.std.proofs.Common.{◌-◌, arith}
use Rattle.s2degrees.specs.Degrees.{quarter}
use Rattle.s2map.proofs.Octants.{cosine_most}
use Rattle.s2map.proofs.angles.most_by_cosine.Goals as goal

pub returns-clause-most : goal.returns-clause-most
returns-clause-most c t m x y z p h k =
    c.angle_at_most.ensures.most m (cosine_most t m x y z p c.args.n c.args.d c.sine_at_most.result c.scaled.result k
    (c.sine_at_most.ensures.most (quarter - t) p.k p.e (omega (arith, h)) p.east_cosine) c.scaled.ensures.value)
