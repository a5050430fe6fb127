use Rattle.std.proofs.Common.{arith}
use Rattle.s2cell.proofs.CellLemmas.{cell_leaves}
use Rattle.s2cell.proofs.Calls.{fits_u64, IsCell-last}
use Rattle.s2cell.proofs.cell.CellId.range_max.Goals as goal

pub overflow_add-result : goal.overflow_add-result
overflow_add-result c =
    let f = fits_u64 _ c.self.invariant in
    let m = c.leaf_count.ensures.middle in
    let s = c.leaf_count.ensures.value in
    let l = cell_leaves c.args.self (rw (← c.self.view_is) c.self.invariant) in
    let w = l.within in
    let v = c.self.view_is in
    omega arith

pub invariant_of-result : goal.invariant_of-result
invariant_of-result c =
    let m = c.leaf_count.ensures.middle in
    let s = c.leaf_count.ensures.value in
    let v = c.self.view_is in
    let p = c.leaf_count.ensures.some in
    IsCell-last c.args.self _ (rw (← v) c.self.invariant) (omega arith)
