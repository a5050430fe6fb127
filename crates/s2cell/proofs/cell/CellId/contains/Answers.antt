use Rattle.s2cell.specs.Cell.{IsCell}
use Rattle.s2cell.proofs.Leaves.{contains_from_test, contains_from_first_test}
use Rattle.s2cell.proofs.cell.CellId.contains.Goals as goal

pub returns-then-range_min-other-clause-value : goal.returns-then-range_min-other-clause-value
returns-then-range_min-other-clause-value c =
    let mine : IsCell c.args.self = rw (← c.self.view_is) c.self.invariant in
    let others : IsCell c.args.other = rw (← c.other.view_is) c.other.invariant in
    let above = rw (c.range_min-2.view_is, c.other.view_is) at c.if-range_min-other.true in
    rw (c.other.view_is, c.result.view_is) (contains_from_test
    c.range_min.result c.range_max.result mine others c.range_min.ensures.value c.range_max.ensures.value above)

pub returns-else-range_min-other-clause-value : goal.returns-else-range_min-other-clause-value
returns-else-range_min-other-clause-value c =
    let others : IsCell c.args.other = rw (← c.other.view_is) c.other.invariant in
    let before = rw (c.range_min-2.view_is, c.other.view_is) at c.if-range_min-other.false in
    rw (c.other.view_is, c.range_min-2.view_is)
    (contains_from_first_test c.args.self c.range_min.result others c.range_min.ensures.value before)
