use Rattle.std.proofs.Common.{arith}
use Rattle.s2cell.proofs.CellLemmas.{cell_leaves}
use Rattle.s2cell.proofs.cell.CellId.first_leaf.Goals as goal

pub returns-clause-most : goal.returns-clause-most
returns-clause-most c =
    let l = cell_leaves c.args.self (rw (← c.self.view_is) c.self.invariant) in
    let m = l.middle in
    let w = l.within in
    let z = l.some in
    let v = c.self.view_is in
    let s = c.leaf_count.ensures.value in
    omega arith
