use Rattle.std.proofs.Common.{◌∙◌}
use Rattle.s2polygon.proofs.Polygons.{list_met_framed}
use Rattle.s2polygon.proofs.polygon.Polygon.list.Goals as goal

pub returns-clause-framed : goal.returns-clause-framed
returns-clause-framed c =
    list_met_framed c.self.inside.margin c.args.face c.self.inside.edges.items _
    (c.list_at.ensures ∙ c.self.invariant.listed c.args.face c.requires)
