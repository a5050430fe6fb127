use Rattle.s2edit.proofs.DiffLemmas.{IsDiff-between}
use Rattle.s2edit.proofs.change.Change.written_over.Goals as goal

pub invariant_of-result : goal.invariant_of-result
invariant_of-result c = rw (
  c.in_ok-out.ensures.out,
  c.in_ok-out.ensures.put,
  c.cells.ensures.value,
  c.cells-2.ensures.value,
)
    (IsDiff-between c.args.old.now.cells c.args.«new».now.cells c.cells.ensures.local c.cells-2.ensures.local)
