use Rattle.std.proofs.Common.{arith}
use Rattle.s2cell.proofs.CellLemmas.{cell_leaves}
use Rattle.s2cell.proofs.cell.CellId.end_leaf.Goals as goal

pub overflow_add-result : goal.overflow_add-result
overflow_add-result c =
    let l = cell_leaves c.args.self (rw (← c.self.view_is) c.self.invariant) in
    let m = l.middle in
    let w = l.within in
    let v = c.self.view_is in
    let s = c.leaf_count.ensures.most in
    omega arith

pub returns-clause-most : goal.returns-clause-most
returns-clause-most c =
    let l = cell_leaves c.args.self (rw (← c.self.view_is) c.self.invariant) in
    let m = l.middle in
    let w = l.within in
    let v = c.self.view_is in
    let s = c.leaf_count.ensures.value in
    omega arith
