use Rattle.std.proofs.Common.{inl}
use Rattle.std.proofs.lemmas.Result.{IfErr-weaker}
use Rattle.s2polygon.proofs.Around.{none_missed}
use Rattle.s2polygon.proofs.Polygons.{if_ok}
use Rattle.s2polygon.specs.Leaves.{outer_leaf}
use Rattle.s2polygon.proofs.polygon.Polygon.outer.Goals as goal

pub returns-clause-missed : goal.returns-clause-missed
returns-clause-missed c =
    if_ok c.quartered_outer.result
    (λ u has. none_missed (outer_leaf c.args.self.now) c.args.level u.cells c.requires.level
    c.covering_sets.ensures.outer has)
    c.quartered_outer.ensures.leaves

pub returns-clause-many : goal.returns-clause-many
returns-clause-many c =
    IfErr-weaker c.quartered_outer.result _ _ (λ fault many. inl many) c.quartered_outer.ensures.many
