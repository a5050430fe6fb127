use Rattle.std.proofs.Common.{◌≤◌, arith}
use Rattle.s2map.proofs.Octants.{east_least, east_most}
use Rattle.s2map.specs.Working.Octants.{whole}
use Rattle.s2map.proofs.angles.angles_by_y.Goals as goal

pub returns-clause-all : goal.returns-clause-all
returns-clause-all c t m p q r at h k =
    let east = c.ordered-east.ensures.all t
    (c.angle_at_least.ensures.least t (east_least t m p q r at whole c.args.x.high h.high))
    (c.angle_at_most.ensures.most t (east_most t m p q r at whole c.args.x.low h.low)) in
    let below = at.north in
    let north : m ≤ c.most_by_sine.result = c.most_by_sine.ensures.most t m p q r at east.high k.high in (
      east,
      c.ordered.ensures.all m (c.least_by_sine-south.ensures.least t m p q r at east.low k.low)
          (omega (arith, north, below)),
    )
