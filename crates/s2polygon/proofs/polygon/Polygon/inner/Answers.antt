use Rattle.std.proofs.Common.{inl}
use Rattle.std.proofs.lemmas.Result.{IfErr-weaker}
use Rattle.s2polygon.proofs.Around.{none_foreign}
use Rattle.s2polygon.proofs.Polygons.{if_ok}
use Rattle.s2polygon.specs.Leaves.{inner_leaf}
use Rattle.s2polygon.proofs.polygon.Polygon.inner.Goals as goal

pub returns-clause-proper : goal.returns-clause-proper
returns-clause-proper c =
    if_ok c.quartered_inner.result
    (λ u has. none_foreign (inner_leaf c.args.self.now) c.args.level u.cells c.requires.level
    c.covering_sets.ensures.inner has)
    c.quartered_inner.ensures.leaves

pub returns-clause-many : goal.returns-clause-many
returns-clause-many c =
    IfErr-weaker c.quartered_inner.result _ _ (λ fault many. inl many) c.quartered_inner.ensures.many
