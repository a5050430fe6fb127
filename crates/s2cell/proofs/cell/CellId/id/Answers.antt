use Rattle.std.proofs.Common.{arith}
use Rattle.s2cell.proofs.CellLemmas.{own_place, cell_leaves}
use Rattle.s2cell.proofs.cell.CellId.id.Goals as goal

pub returns-clause-cell : goal.returns-clause-cell
returns-clause-cell c = rw (← c.self.view_is) (own_place _ c.self.invariant)

pub returns-clause-most : goal.returns-clause-most
returns-clause-most c =
    let l = cell_leaves _ c.self.invariant in
    let m = l.middle in
    let w = l.within in
    let p = l.some in
    let v = c.self.view_is in
    omega arith
