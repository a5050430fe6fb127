use Rattle.s2union.proofs.union.CellUnion.contains_cell.Goals as goal

pub returns : goal.returns
returns c = rw c.list.ensures.value at (c.contains_cell.ensures (rw c.list.ensures.value c.list.ensures.local))
