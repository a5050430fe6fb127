use Rattle.std.proofs.Common.{◌-◌, max, ap, arith, refl}
use Rattle.s2cell.specs.Rectangles.{Rect}
use Rattle.s2cover.proofs.Corners.{fits_steps}
use Rattle.s2cover.proofs.around.level_around.Goals as goal

pub overflow_sub-result : goal.overflow_sub-result
overflow_sub-result c =
    let i = c.rect.invariant.i.1 in let j = c.rect.invariant.j.1 in let m = c.max-steps.ensures in
    (fits_steps c.max-steps.result _ (omega arith) refl).least

pub returns-clause-wide : goal.returns-clause-wide
returns-clause-wide c =
    let i = c.rect.invariant.i.1 in let j = c.rect.invariant.j.1 in let m = c.max-steps.ensures in
    let same = ap (λ (r : Rect). max (r.i1 - r.i0) (r.j1 - r.j0)) c.rect.view_is in
    let w = (fits_steps c.max-steps.result _ (omega arith) refl).wide in
    omega arith

pub returns-clause-deepest : goal.returns-clause-deepest
returns-clause-deepest c h =
    let i = c.rect.invariant.i.1 in let j = c.rect.invariant.j.1 in let m = c.max-steps.ensures in
    let same = ap (λ (r : Rect). max (r.i1 - r.i0) (r.j1 - r.j0)) c.rect.view_is in
    let d = (fits_steps c.max-steps.result _ (omega arith) refl).deepest h in
    omega arith
