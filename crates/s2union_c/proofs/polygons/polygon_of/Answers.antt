use Rattle.std.proofs.Common.{◌∙◌, subst}
use Rattle.s2polygon.specs.Rings.{FaultMeans}
use Rattle.s2union_c.proofs.polygons.polygon_of.Goals as goal

pub returns-in-Err-clause-fault : goal.returns-in-Err-clause-fault
returns-in-Err-clause-fault c = c.in-Err.ensures.fault c.args.ends.now

pub returns-clause-fault : goal.returns-clause-fault
returns-clause-fault c =
    c.fault_of.ensures c.args.corners.now c.args.ends.now c.args.outside c.args.margin c.requires.leaf c.requires.margin
    (subst (λ points. FaultMeans points c.args.ends.now c.args.outside c.args.margin c.in-Err-new.fault)
    (c.deref.ensures.value ∙ c.in-Ok.ensures.made) c.in-Err-new.ensures.fault)
