use Rattle.std.proofs.Common.{◌∙◌, ap, sym}
use Rattle.s2list.specs.Union.{has_leaf}
use Rattle.s2list.proofs.Normal.{local_from_normal, normal_form_same}
use Rattle.s2cover.specs.Working.Cut.{cells_cut}
use Rattle.s2cover.specs.Coverings.{outer_set}
use Rattle.s2cover.proofs.OwnCells.{cut_normal, outer_cells}
use Rattle.s2cover.proofs.cut.union_outer.Goals as goal

pub returns-in-Some-clause-leaves : goal.returns-in-Some-clause-leaves
returns-in-Some-clause-leaves c x =
    let u = c.args.union.now.cells in
    let k = c.args.level in
    (rw c.in-Some.is at c.in_ok-covering.ensures.leaves) x ∙ ap (λ v. has_leaf (cells_cut k v) x) c.cells.ensures.value
    ∙ sym (outer_cells k u c.requires.level c.cells.ensures.local.cells x)

pub returns-in-Some-clause-local : goal.returns-in-Some-clause-local
returns-in-Some-clause-local c = local_from_normal (has_leaf (cells_cut c.args.level c.cells.result.now)) _
    (rw c.in-Some.is at c.in_ok-covering.ensures.normal)

pub returns-in-Some-clause-normal : goal.returns-in-Some-clause-normal
returns-in-Some-clause-normal c = cut_normal c.args.level (cells_cut c.args.level c.cells.result.now) c.requires.level
    c.cells.ensures.local (ap (cells_cut c.args.level) c.cells.ensures.value)
    (rw c.in-Some.is at c.in_ok-covering.ensures.normal)

pub returns-in-None-clause-many : goal.returns-in-None-clause-many
returns-in-None-clause-many c _ v normal =
    let u = c.args.union.now.cells in
    let k = c.args.level in
    (rw c.in-None.is at c.in_ok-covering.ensures.many) v (normal_form_same (outer_set (has_leaf u) k)
    (has_leaf (cells_cut k c.cells.result.now)) v (λ x.
    outer_cells k u c.requires.level c.cells.ensures.local.cells x
    ∙ ap (λ w. has_leaf (cells_cut k w) x) (sym c.cells.ensures.value)) normal)
