use Rattle.std.proofs.Common.{arith, refl}
use Rattle.s2cell.specs.Cell.{IsCell}
use Rattle.s2cell.proofs.Debugs.{debug_more, debug_done, IsDebug-debug_of}
use Rattle.s2cell.proofs.cell.CellId.debug.Goals as goal

pub loop-k-preserved : goal.loop-k-preserved
loop-k-preserved c = debug_more _ c.loop-k.invariant (omega arith) (rw c.self.view_is refl)

pub returns-clause-value : goal.returns-clause-value
returns-clause-value c =
    let i : IsCell c.args.self = rw (← c.self.view_is) c.self.invariant in
    debug_done _ i c.loop-k.invariant c.loop-k-test.false
    (rw (← c.level.ensures.value) (rw c.from-text.ensures.0 at c.truncate.ensures.items))

pub returns-clause-debug : goal.returns-clause-debug
returns-clause-debug c =
    let i : IsCell c.args.self = rw (← c.self.view_is) c.self.invariant in
    rw (returns-clause-value c) (IsDebug-debug_of i)
