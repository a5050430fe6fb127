use Rattle.std.proofs.Common.{rules}
use Rattle.s2cell.proofs.CellLemmas.{cell_leaves}
use Rattle.s2cell.proofs.Calls.{size_most, size_bits}
use Rattle.s2cell.proofs.cell.CellId.leaf_count.Goals as goal

pub returns-clause-value : goal.returns-clause-value
returns-clause-value c = rw (← c.self.view_is) (size_bits _ _ c.self.invariant (search rules) c.wrapping_neg.ensures)

pub returns-clause-middle : goal.returns-clause-middle
returns-clause-middle c =
    let e = size_bits _ c.wrapping_neg.result c.self.invariant (search rules) c.wrapping_neg.ensures in
    let l = cell_leaves _ c.self.invariant in
    rw (← c.self.view_is, e) l.middle

pub returns-clause-some : goal.returns-clause-some
returns-clause-some c =
    let e = size_bits _ c.wrapping_neg.result c.self.invariant (search rules) c.wrapping_neg.ensures in
    let l = cell_leaves _ c.self.invariant in
    rw e l.some

pub returns-clause-most : goal.returns-clause-most
returns-clause-most c =
    let e = size_bits _ c.wrapping_neg.result c.self.invariant (search rules) c.wrapping_neg.ensures in
    rw e (size_most c.self.invariant)
