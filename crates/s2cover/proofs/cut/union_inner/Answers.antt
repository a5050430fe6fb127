use Rattle.std.proofs.Common.{◌∙◌, ap, sym, length, arith}
use Rattle.s2list.specs.Union.{has_leaf}
use Rattle.s2list.proofs.Normal.{local_from_normal, one_normal_form}
use Rattle.s2cover.specs.Cut.{cells_kept}
use Rattle.s2cover.specs.Coverings.{inner_set}
use Rattle.s2cover.proofs.OwnCells.{inner_cells, kept_normal}
use Rattle.s2cover.proofs.cut.union_inner.Goals as goal

pub returns-in-Some-clause-leaves : goal.returns-in-Some-clause-leaves
returns-in-Some-clause-leaves c x =
    let k = c.args.level in
    ap (λ v. has_leaf v x)
    ((rw c.in-Some.is at c.in_ok-covering.ensures.kept) ∙ ap (cells_kept k) c.cells.ensures.value)
    ∙ sym (inner_cells k c.requires.level c.cells.ensures.local x)

pub returns-in-Some-clause-normal : goal.returns-in-Some-clause-normal
returns-in-Some-clause-normal c =
    let k = c.args.level in
    kept_normal k c.args.union.now.cells _ c.requires.level c.cells.ensures.local
    ((rw c.in-Some.is at c.in_ok-covering.ensures.kept) ∙ ap (cells_kept k) c.cells.ensures.value)

pub returns-in-Some-clause-local : goal.returns-in-Some-clause-local
returns-in-Some-clause-local c =
    local_from_normal (inner_set (has_leaf c.args.union.now.cells) c.args.level) _ (returns-in-Some-clause-normal c)

pub returns-in-None-clause-many : goal.returns-in-None-clause-many
returns-in-None-clause-many c _ v normal =
    let u = c.args.union.now.cells in
    let k = c.args.level in
    let kept = cells_kept k c.cells.result.now in
    let e = ap length (one_normal_form (inner_set (has_leaf u) k) v kept normal
    (kept_normal k u kept c.requires.level c.cells.ensures.local (ap (cells_kept k) c.cells.ensures.value))) in
    let more = rw c.in-None.is at c.in_ok-covering.ensures.many in
    omega arith
