use Rattle.std.proofs.Common.{◌≤◌, ◌∙◌, All, ap, sym, subst, length, arith}
use Rattle.std.proofs.lemmas.List.Elements.{All-filter}
use Rattle.s2cell.specs.Cell.{level_of}
use Rattle.s2cell.specs.Rectangles.{rect_set}
use Rattle.s2list.specs.Union.{IsLocal}
use Rattle.s2cover.specs.Cut.{cells_kept, reaches}
use Rattle.s2cover.proofs.Levelling.{filter_local, kept_few}
use Rattle.s2cover.specs.Working.Cut.{meets}
use Rattle.s2cover.proofs.Clips.{met_few}
use Rattle.s2cover.proofs.Near.{added_all}
use Rattle.s2cover.proofs.Parts.{kept_above}
use Rattle.s2cover.proofs.clip.met_union.Goals as goal

pub from_normalized-requires : goal.from_normalized-requires
from_normalized-requires c =
    let S = rect_set c.args.rect.now in
    let u = c.args.union.now.cells in
    let k = c.args.level in
    let n = c.len.ensures in
    let is = added_all S k c.len.result u _ _ _ c.cells.ensures.value c.new-met.ensures.items (omega arith)
    c.cells.ensures.local.cells c.in_ok-add_met.ensures.list in
    subst IsLocal (sym is)
    (filter_local (meets S) (cells_kept k u) (filter_local (reaches k) u c.cells.ensures.local))

pub returns-clause-cells : goal.returns-clause-cells
returns-clause-cells c =
    let n = c.len.ensures in
    c.from_normalized.ensures.value
    ∙ added_all (rect_set c.args.rect.now) c.args.level c.len.result c.args.union.now.cells _ _ _ c.cells.ensures.value
    c.new-met.ensures.items (omega arith) c.cells.ensures.local.cells c.in_ok-add_met.ensures.list

pub returns-clause-above : goal.returns-clause-above
returns-clause-above c =
    let u = c.args.union.now.cells in
    let k = c.args.level in
    subst (All (λ d. level_of d ≤ k)) (sym (returns-clause-cells c))
    (All-filter (meets (rect_set c.args.rect.now)) (λ d. level_of d ≤ k) (cells_kept k u) (kept_above k u))

pub returns-clause-few : goal.returns-clause-few
returns-clause-few c =
    let kept = cells_kept c.args.level c.args.union.now.cells in
    let e = ap length (returns-clause-cells c) in
    let met_no_more = met_few (rect_set c.args.rect.now) kept in
    let kept_no_more = kept_few c.args.level c.args.union.now.cells in
    omega arith
