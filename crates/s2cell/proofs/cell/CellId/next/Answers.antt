use Rattle.std.proofs.Common.{arith}
use Rattle.s2cell.specs.Cell.{IsCell}
use Rattle.s2cell.proofs.CellLemmas.{cell_leaves}
use Rattle.s2cell.proofs.Following.{next_cell, last_cell}
use Rattle.s2cell.proofs.cell.CellId.next.Goals as goal

pub overflow_add-id : goal.overflow_add-id
overflow_add-id c =
    let l = cell_leaves _ c.self.invariant in
    let m = l.middle in
    let w = l.within in
    let s = c.leaf_count.ensures.most in
    omega arith

pub invariant_of-result : goal.invariant_of-result
invariant_of-result c =
    let i : IsCell c.args.self = rw (← c.self.view_is) c.self.invariant in
    rw c.self.view_is
    (next_cell c.leaf_count.result i c.leaf_count.ensures.value (rw c.self.view_is at c.if-id-lt-END.true)).cell

pub returns-then-id-lt-END : goal.returns-then-id-lt-END
returns-then-id-lt-END c =
    let i : IsCell c.args.self = rw (← c.self.view_is) c.self.invariant in
    rw c.self.view_is
    (next_cell c.leaf_count.result i c.leaf_count.ensures.value (rw c.self.view_is at c.if-id-lt-END.true))

pub returns-else-id-lt-END : goal.returns-else-id-lt-END
returns-else-id-lt-END c =
    let i : IsCell c.args.self = rw (← c.self.view_is) c.self.invariant in
    last_cell c.leaf_count.result i c.leaf_count.ensures.value (rw c.self.view_is at c.if-id-lt-END.false)
