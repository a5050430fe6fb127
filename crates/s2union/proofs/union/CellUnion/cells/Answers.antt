use Rattle.std.proofs.Common.{rules}
use Rattle.s2list.specs.Union.{IsLocal}
use Rattle.s2list.proofs.Normal.{normal_from_local}
use Rattle.s2union.proofs.union.CellUnion.cells.Goals as goal

pub returns-clause-normal : goal.returns-clause-normal
returns-clause-normal c = let local : IsLocal c.args.self.now.cells = search rules in normal_from_local _ local
