use Rattle.std.proofs.Common.{◌≡◌, All, ◌∙◌, ap, sym, subst, length, arith}
use Rattle.std.proofs.lemmas.List.Elements.{All-filter}
use Rattle.s2cell.specs.Cell.{IsCell}
use Rattle.s2cell.specs.Rectangles.{rect_set}
use Rattle.s2list.specs.Union.{has_leaf, IsLocal}
use Rattle.s2list.proofs.Normal.{local_from_normal}
use Rattle.s2cover.specs.Working.Cut.{cells_cut, meets, cells_met}
use Rattle.s2cover.proofs.Near.{kept_all}
use Rattle.s2cover.proofs.NormalForms.{cut_few}
use Rattle.s2cover.proofs.Parts.{normal_above, cut_above, cut_cells}
use Rattle.s2cover.proofs.clip.cut_union.Goals as goal
use Rattle.s2cover.proofs.clip.cut_union.Goals.{After-cells-2}

-- what the cells are that meet the rectangle
met : (c : After-cells-2) → c.cells-2.result.now ≡ cells_met (rect_set c.args.rect.now) c.args.union.now.cells
met c = c.cells-2.ensures.value ∙ c.in_ok-met.ensures.cells
    ∙ ap (cells_met (rect_set c.args.rect.now)) (kept_all c.args.union.now.cells c.cells.ensures.local.cells)

pub returns-clause-leaves : goal.returns-clause-leaves
returns-clause-leaves c x = (rw c.in-Some.is at c.in_ok-cut.ensures.leaves) x
    ∙ ap (λ v. has_leaf (cells_cut c.args.level v) x) (met (goal.at.returns-clause-leaves c).After-cells-2)

pub returns-clause-local : goal.returns-clause-local
returns-clause-local c = local_from_normal (has_leaf (cells_cut c.args.level c.cells-2.result.now)) _
    (rw c.in-Some.is at c.in_ok-cut.ensures.normal)

pub returns-clause-above : goal.returns-clause-above
returns-clause-above c =
    let S = rect_set c.args.rect.now in
    let k = c.args.level in
    let all : All IsCell (cells_met S c.args.union.now.cells) =
    All-filter (meets S) IsCell c.args.union.now.cells c.cells.ensures.local.cells in
    normal_above k (cells_cut k (cells_met S c.args.union.now.cells)) (returns-clause-local c)
    (cut_cells k (cells_met S c.args.union.now.cells) all) (cut_above k (cells_met S c.args.union.now.cells) all)
    (returns-clause-leaves c)

pub returns-clause-few : goal.returns-clause-few
returns-clause-few c =
    let few = c.in_ok-met.ensures.few in
    let n = c.len.ensures in
    let w = (rw c.in-Some.is at c.in_ok-cut.ensures.within) in
    omega arith

pub unreachable-requires : goal.unreachable-requires
unreachable-requires c =
    let local = subst IsLocal (sym c.cells-2.ensures.value) c.cells-2.ensures.local in
    let (v, normal, few) = cut_few c.args.level c.cells-2.result.now c.requires.level local in
    let more = (rw c.in_default.is at c.in_ok-cut.ensures.many) v normal in
    let n = c.len.ensures in
    let e = ap length c.cells-2.ensures.value in
    omega arith
