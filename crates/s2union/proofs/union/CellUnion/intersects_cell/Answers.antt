use Rattle.s2union.proofs.union.CellUnion.intersects_cell.Goals as goal

pub returns : goal.returns
returns c = rw c.list.ensures.value at (c.intersects_cell.ensures (rw c.list.ensures.value c.list.ensures.local))
