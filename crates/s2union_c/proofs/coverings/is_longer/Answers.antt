use Rattle.std.proofs.Common.{arith}
use Rattle.std.proofs.lemmas.Bool.{ltb-true}
use Rattle.s2list.specs.Union.{has_leaf}
use Rattle.s2union_c.specs.Working.Coverings.{covering_of}
use Rattle.s2union_c.proofs.Covering.{covering_few, many_put}
use Rattle.s2union_c.proofs.coverings.is_longer.Goals as goal

pub returns-then-ids-bound-clause-longer : goal.returns-then-ids-bound-clause-longer
returns-then-ids-bound-clause-longer c local more u normal =
    many_put (covering_of c.args.side c.args.level (has_leaf c.args.ids.now)) c.args.bound c.put_covering.result _
    c.put_covering.new.out (c.put_covering.ensures.made local)
    (ltb-true c.args.bound c.put_covering.result more) u normal

pub returns-else-ids-bound-clause-rest : goal.returns-else-ids-bound-clause-rest
returns-else-ids-bound-clause-rest c local short =
    let (v, normal, few) = covering_few c.args.side c.args.level c.args.ids.now c.requires local in
    (v, normal, omega (arith, c.if-ids-bound.false))
