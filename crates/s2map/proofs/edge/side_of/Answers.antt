use Rattle.std.proofs.Common.{◌-ℤ◌, of_z, to_z}
use mir.Syntax.{w128}
use Rattle.s2polygon.proofs.Sizes.{Step}
use Rattle.s2map.proofs.Sizes.{side_made}
use Rattle.s2map.specs.Map.{side}
use Rattle.s2map.proofs.edge.side_of.Goals as goal
use Rattle.s2map.proofs.edge.side_of.Goals.{After-times-2}

made : (c : After-times-2)
    → Step (to_z w128 (of_z w128 c.times.result) -ℤ to_z w128 (of_z w128 c.times-2.result)) (side c.args.e c.args.p)
made c =
    side_made c.args.e c.args.p c.minus-wide.result c.minus-north.result c.minus-east.result c.minus-high.result
    c.times.result c.times-2.result c.requires.edge c.requires.place c.minus-wide.ensures c.minus-north.ensures
    c.minus-east.ensures c.minus-high.ensures c.times.ensures c.times-2.ensures

pub overflow_sub-result : goal.overflow_sub-result
overflow_sub-result c = (made c).fits

pub returns : goal.returns
returns c = (made c).is
