use Rattle.std.proofs.Common.{rules}
use Rattle.s2list.specs.Union.{has_leaf}
use Rattle.s2list.specs.Sets.{symmetric_difference_of}
use Rattle.s2list.proofs.Normal.{normal_from_leaves}
use Rattle.s2union.proofs.union.CellUnion.symmetric_difference.Goals as goal

pub returns-clause-normal : goal.returns-clause-normal
returns-clause-normal c =
    normal_from_leaves (symmetric_difference_of (has_leaf c.args.self.now.cells) (has_leaf c.args.other.now.cells)) _
    c.in_ok-put_symmetric_difference.ensures.local (search rules)
