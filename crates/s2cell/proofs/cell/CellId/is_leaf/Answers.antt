use Rattle.std.proofs.Common.{arith}
use Rattle.s2cell.proofs.Calls.{leaf_bit}
use Rattle.s2cell.proofs.cell.CellId.is_leaf.Goals as goal

pub returns : goal.returns
returns c = rw (← c.self.view_is) (let b = leaf_bit c.self.invariant in grind (arith, b))
