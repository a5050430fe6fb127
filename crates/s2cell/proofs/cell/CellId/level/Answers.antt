use Rattle.std.proofs.Common.{arith}
use Rattle.s2cell.proofs.Calls.{trailing_at, shallow}
use Rattle.s2cell.proofs.cell.CellId.level.Goals as goal

pub overflow_sub-result : goal.overflow_sub-result
overflow_sub-result c = let t = trailing_at c.self.invariant in omega arith

pub returns-clause-value : goal.returns-clause-value
returns-clause-value c =
    rw (← c.self.view_is) (let t = trailing_at c.self.invariant in let s = shallow _ c.self.invariant in omega arith)
