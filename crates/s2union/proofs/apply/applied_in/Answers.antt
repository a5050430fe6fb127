use Rattle.s2list.proofs.Checking.{packed_from_local}
use Rattle.s2union.proofs.apply.applied_in.Goals as goal

pub new-merge-requires-clause-cells_packed : goal.new-merge-requires-clause-cells_packed
new-merge-requires-clause-cells_packed c = packed_from_local c.args.cells.now c.requires.local
