use Rattle.std.proofs.Common.{◌+◌, ◌∙◌, ap}
use Rattle.std.proofs.lemmas.Result.{IfOk-weaker}
use Rattle.s2cell.specs.Cell.{level_of, place_of}
use Rattle.s2cover.specs.Working.Descent.{depth_of}
use Rattle.s2cover.proofs.Visits.{child_at}
use Rattle.s2cover.proofs.descent.child.Goals as goal

pub returns-clause-level : goal.returns-clause-level
returns-clause-level g c =
    let w = child_at c.args.digit c.requires.cell c.requires.inner c.requires.digit in
    IfOk-weaker c.child.result _ _ (λ x e. ap level_of e ∙ w.level) c.child.ensures.cell

pub returns-clause-depth : goal.returns-clause-depth
returns-clause-depth g c =
    let w = child_at c.args.digit c.requires.cell c.requires.inner c.requires.digit in
    IfOk-weaker c.child.result _ _ (λ x e. ap (λ z. depth_of z + 1) e ∙ w.depth) c.child.ensures.cell

pub returns-clause-place : goal.returns-clause-place
returns-clause-place g c =
    let w = child_at c.args.digit c.requires.cell c.requires.inner c.requires.digit in
    IfOk-weaker c.child.result _ _ (λ x e. ap place_of e ∙ w.place) c.child.ensures.cell
