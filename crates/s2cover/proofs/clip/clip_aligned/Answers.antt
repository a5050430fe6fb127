use Rattle.std.proofs.Common.{◌≡◌, ◌-◌, ◌<◌, List, ℕ, length, ◌∙◌, ap, sym, subst}
use Rattle.std.proofs.lemmas.Result.{err_from_is_err_and}
use Rattle.std.specs.List.{flat_map}
use Rattle.s2cell.specs.Rectangles.{rect_set}
use Rattle.s2list.specs.Union.{has_leaf, IsLocal, IsNormalForm}
use Rattle.s2list.proofs.Normal.{local_from_normal}
use Rattle.s2cover.specs.Working.Descent.{form_in}
use Rattle.s2cover.specs.Coverings.{clipped}
use Rattle.s2cover.proofs.Parts.{parts_normal, parts_many}
use Rattle.s2cover.proofs.clip.clip_aligned.Goals as goal

pub from_normalized-requires : goal.from_normalized-requires
from_normalized-requires c =
    let S = rect_set c.args.rect.now in
    let f = form_in S (30 - c.args.level) in
    let p = parts_normal S c.args.level c.requires.aligned c.cells.ensures.local c.requires.above in
    let is : c.in_ok-list.list.items ≡ flat_map f c.args.union.now.cells = c.in_ok-list.ensures.list
    ∙ ap (flat_map f) c.cells.ensures.value in
    subst IsLocal (sym is) (local_from_normal (clipped c.args.union.now.cells c.args.rect.now)
    (flat_map f c.args.union.now.cells) p.normal)

pub returns-clause-leaves : goal.returns-clause-leaves
returns-clause-leaves c x =
    let S = rect_set c.args.rect.now in
    let f = form_in S (30 - c.args.level) in
    let p = parts_normal S c.args.level c.requires.aligned c.cells.ensures.local c.requires.above in
    ap (λ v. has_leaf v x) (c.from_normalized.ensures.value ∙ c.in_ok-list.ensures.list
    ∙ ap (flat_map f) c.cells.ensures.value) ∙ p.leaves x

pub returns-clause-normal : goal.returns-clause-normal
returns-clause-normal c =
    let S = rect_set c.args.rect.now in
    let f = form_in S (30 - c.args.level) in
    let p = parts_normal S c.args.level c.requires.aligned c.cells.ensures.local c.requires.above in
    let is : c.from_normalized.result.cells ≡ flat_map f c.args.union.now.cells = c.from_normalized.ensures.value
    ∙ c.in_ok-list.ensures.list ∙ ap (flat_map f) c.cells.ensures.value in
    subst (IsNormalForm (clipped c.args.union.now.cells c.args.rect.now)) (sym is) p.normal

pub returns-in_err-list-clause-many : goal.returns-in_err-list-clause-many
returns-in_err-list-clause-many c =
    let p = err_from_is_err_and c.from_residual.result c.from_residual.ensures.1 in
    let S = rect_set c.args.rect.now in
    let f = form_in S (30 - c.args.level) in
    rw (p.1, p.2)
    (λ e w n. parts_many S c.args.level c.args.max c.requires.aligned c.cells.ensures.local c.requires.above
    (subst (λ (v : List ℕ). c.args.max < length (flat_map f v)) c.cells.ensures.value (c.in_err-list.ensures.many e)) n)
