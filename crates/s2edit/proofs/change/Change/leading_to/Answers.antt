use Rattle.std.proofs.Common.{◌≡◌, []}
use Rattle.s2edit.proofs.DiffLemmas.{between-nothing}
use Rattle.s2edit.proofs.change.Change.leading_to.Goals as goal

pub returns-then-is_empty-clause-change : goal.returns-then-is_empty-clause-change
returns-then-is_empty-clause-change c =
    let e : c.args.old.now.cells ≡ [] = c.is_empty.ensures.0 c.if-is_empty.true in
    rw (c.new.ensures.items, c.into_cells.ensures.value)
    (between-nothing c.args.register c.args.old.now.cells c.args.«new».cells e)
