use Rattle.std.proofs.Common.{rules}
use Rattle.s2list.specs.Union.{has_leaf}
use Rattle.s2list.specs.Sets.{intersection_of}
use Rattle.s2list.proofs.Normal.{normal_from_leaves}
use Rattle.s2union.proofs.union.CellUnion.intersection.Goals as goal

pub returns-clause-normal : goal.returns-clause-normal
returns-clause-normal c =
    normal_from_leaves (intersection_of (has_leaf c.args.self.now.cells) (has_leaf c.args.other.now.cells)) _
    c.in_ok-put_intersection.ensures.local (search rules)
