use Rattle.std.proofs.Common.{refl}
use Rattle.s2cell.specs.Rectangles.{rect_set}
use Rattle.s2cover.proofs.Clips.{met_none, met_some}
use Rattle.s2cover.proofs.met.meets_rect.Goals as goal

pub returns-in-Out-clause-value : goal.returns-in-Out-clause-value
returns-in-Out-clause-value c = met_none (rect_set c.args.rect.now) c.args.cell
    ((c.in-Out.ensures.out c.args.cell c.square.ensures.square).0 refl)

pub returns-in-In-clause-value : goal.returns-in-In-clause-value
returns-in-In-clause-value c = met_some (rect_set c.args.rect.now) c.args.cell
    (λ h. let e = (c.in-In.ensures.out c.args.cell c.square.ensures.square).1 h in cc)

pub returns-in-Cross-clause-value : goal.returns-in-Cross-clause-value
returns-in-Cross-clause-value c = met_some (rect_set c.args.rect.now) c.args.cell
    (λ h. let e = (c.in-Cross.ensures.out c.args.cell c.square.ensures.square).1 h in cc)
