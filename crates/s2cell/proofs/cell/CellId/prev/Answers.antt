use Rattle.s2cell.specs.Cell.{IsCell}
use Rattle.s2cell.proofs.Following.{cell_before, first_cell}
use Rattle.s2cell.proofs.cell.CellId.prev.Goals as goal

pub invariant_of-result : goal.invariant_of-result
invariant_of-result c =
    let i : IsCell c.args.self = rw (← c.self.view_is) c.self.invariant in
    rw c.self.view_is (cell_before
    c.leaf_count-step.result i c.leaf_count-step.ensures.value (rw c.self.view_is at c.if-step-self.true)).0

pub returns-then-step-self : goal.returns-then-step-self
returns-then-step-self c =
    let i : IsCell c.args.self = rw (← c.self.view_is) c.self.invariant in
    rw c.self.view_is (cell_before
    c.leaf_count-step.result i c.leaf_count-step.ensures.value (rw c.self.view_is at c.if-step-self.true)).1

pub returns-else-step-self : goal.returns-else-step-self
returns-else-step-self c =
    let i : IsCell c.args.self = rw (← c.self.view_is) c.self.invariant in
    first_cell c.leaf_count-step.result i c.leaf_count-step.ensures.value (rw c.self.view_is at c.if-step-self.false)
