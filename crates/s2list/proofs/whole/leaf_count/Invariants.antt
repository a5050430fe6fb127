use Rattle.std.proofs.Common.{◌≡◌, take}
use Rattle.s2list.specs.Union.{IsLocal, has_leaf}
use Rattle.s2list.specs.Count.{count_below}
use Rattle.s2cell.specs.declared.TheConstants.{LEAVES}
use Rattle.s2list.proofs.whole.leaf_count.Given as goal

abbrev pub invariant-loop-k : goal.invariant-loop-k
invariant-loop-k g l = IsLocal (g.C.Listed.ids l.cells) →
    l.total ≡ count_below (has_leaf (take l.k (g.C.Listed.ids l.cells))) LEAVES
