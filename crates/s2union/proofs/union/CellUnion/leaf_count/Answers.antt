use Rattle.s2union.proofs.union.CellUnion.leaf_count.Goals as goal

pub returns-clause-value : goal.returns-clause-value
returns-clause-value c =
    rw c.list.ensures.value at (c.leaf_count.ensures.value (rw c.list.ensures.value c.list.ensures.local))

pub returns-clause-most : goal.returns-clause-most
returns-clause-most c = c.leaf_count.ensures.most (rw c.list.ensures.value c.list.ensures.local)
