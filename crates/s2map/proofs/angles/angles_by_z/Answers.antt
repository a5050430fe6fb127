use Rattle.std.proofs.Common.{◌≤◌, arith}
use Rattle.s2map.proofs.Octants.{crossed, east_least, east_most}
use Rattle.s2map.proofs.angles.angles_by_z.Goals as goal

pub returns-clause-all : goal.returns-clause-all
returns-clause-all c t m p q r at h k =
    let east = c.ordered-east.ensures.all t
    (c.angle_at_least.ensures.least t (east_least t m p q r at c.args.y.low c.args.x.high
    (crossed c.args.y.low c.args.x.high p q r k.low h.high)))
    (c.angle_at_most.ensures.most t (east_most t m p q r at c.args.y.high c.args.x.low
    (crossed c.args.x.low c.args.y.high q p r h.low k.high))) in
    let below = at.north in
    let north : m ≤ c.nearest.result = c.nearest.ensures.most t m p q r at h.low k.low in (
      east,
      c.ordered.ensures.all m (c.farthest-south.ensures.least t m p q r at h.high k.high)
          (omega (arith, north, below)),
    )
