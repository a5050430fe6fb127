use Rattle.std.proofs.Common.{arith}
use Rattle.s2cell.proofs.Calls.{IsCell-first}
use Rattle.s2cell.proofs.cell.CellId.range_min.Goals as goal

pub invariant_of-result : goal.invariant_of-result
invariant_of-result c =
    let m = c.leaf_count.ensures.middle in
    let v = c.self.view_is in
    let p = c.leaf_count.ensures.some in
    IsCell-first c.args.self _ (rw (← v) c.self.invariant) (omega arith)
