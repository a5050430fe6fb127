use Rattle.std.proofs.Common.{arith, ◌≡◌, ◌-◌, ◌++◌, vec_len, ◌∙◌, ap}
use Rattle.std.proofs.lemmas.Result.{err_from_is_err_and}
use Rattle.s2cell.specs.Rectangles.{Rect, rect_set}
use Rattle.s2list.specs.Union.{has_leaf}
use Rattle.s2list.proofs.Normal.{local_from_normal}
use Rattle.s2cover.specs.Working.Descent.{form_in}
use Rattle.s2cover.proofs.Faces.{rect_face, too_long}
use Rattle.s2cover.proofs.grid.cover_aligned.Goals as goal

pub from_normalized-requires : goal.from_normalized-requires
from_normalized-requires c =
    let one = rect_face c.args.rect.now (30 - c.args.level) c.requires.aligned (omega arith) c.face.ensures.placed.cell
    c.face.ensures.level c.face.ensures.face (ap (λ (v : Rect). v.face) c.rect.view_is) in
    let is : c.seek.new.list.items ≡ form_in (rect_set c.args.rect.now) (30 - c.args.level) c.face.result.cell =
    c.in_ok-seek.ensures.list
    ∙ ap (λ z. z ++ form_in (rect_set c.args.rect.now) (30 - c.args.level) c.face.result.cell)
    c.new-list.ensures.items in
    rw is (local_from_normal (rect_set c.args.rect.now)
    (form_in (rect_set c.args.rect.now) (30 - c.args.level) c.face.result.cell) one.normal)

pub returns-clause-leaves : goal.returns-clause-leaves
returns-clause-leaves c x =
    let one = rect_face c.args.rect.now (30 - c.args.level) c.requires.aligned (omega arith) c.face.ensures.placed.cell
    c.face.ensures.level c.face.ensures.face (ap (λ (v : Rect). v.face) c.rect.view_is) in
    let is : c.seek.new.list.items ≡ form_in (rect_set c.args.rect.now) (30 - c.args.level) c.face.result.cell =
    c.in_ok-seek.ensures.list
    ∙ ap (λ z. z ++ form_in (rect_set c.args.rect.now) (30 - c.args.level) c.face.result.cell)
    c.new-list.ensures.items in
    ap (λ u. has_leaf u x) (c.from_normalized.ensures.value ∙ is) ∙ one.leaves x

pub returns-clause-normal : goal.returns-clause-normal
returns-clause-normal c =
    let one = rect_face c.args.rect.now (30 - c.args.level) c.requires.aligned (omega arith) c.face.ensures.placed.cell
    c.face.ensures.level c.face.ensures.face (ap (λ (v : Rect). v.face) c.rect.view_is) in
    let is : c.seek.new.list.items ≡ form_in (rect_set c.args.rect.now) (30 - c.args.level) c.face.result.cell =
    c.in_ok-seek.ensures.list
    ∙ ap (λ z. z ++ form_in (rect_set c.args.rect.now) (30 - c.args.level) c.face.result.cell)
    c.new-list.ensures.items in
    let all : c.from_normalized.result.cells
    ≡ form_in (rect_set c.args.rect.now) (30 - c.args.level) c.face.result.cell =
    c.from_normalized.ensures.value ∙ is in
    rw all one.normal

pub returns-in_err-seek-clause-many : goal.returns-in_err-seek-clause-many
returns-in_err-seek-clause-many c =
    let p = err_from_is_err_and c.from_residual.result c.from_residual.ensures.1 in
    let one = rect_face c.args.rect.now (30 - c.args.level) c.requires.aligned (omega arith) c.face.ensures.placed.cell
    c.face.ensures.level c.face.ensures.face (ap (λ (v : Rect). v.face) c.rect.view_is) in
    rw (p.1, p.2) (λ e u n. too_long
    (vec_len c.new-list.result) c.args.max one.normal c.new-list.ensures.len (c.in_err-seek.ensures.many e) n)
