use Rattle.std.proofs.Common.{◌≡◌, ap}
use Rattle.s2list.specs.Union.{Union}
use Rattle.s2list.proofs.Normal.{same_from_leaves}
use Rattle.s2union.proofs.laws.same_cells.Goals as goal

pub returns : goal.returns
returns c =
    let ea : c.a.inside.cells.items ≡ c.args.a.now.cells = ap (λ (u : Union). u.cells) c.a.view_is in
    let eb : c.b.inside.cells.items ≡ c.args.b.now.cells = ap (λ (u : Union). u.cells) c.b.view_is in
    same_from_leaves c.args.a.now.cells c.args.b.now.cells (rw ea at c.a.invariant) (rw eb at c.b.invariant) c.requires
