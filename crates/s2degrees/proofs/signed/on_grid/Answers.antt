use Rattle.std.proofs.Common.{◌<◌, ◌^◌, subst, sym, unsigned_abs}
use Rattle.s2degrees.specs.Directions.{IsOnGrid}
use Rattle.s2degrees.specs.Femtodegrees.{with_sign}
use Rattle.s2degrees.proofs.Signs.{grid_near, read_back, with_sign_below}
use Rattle.s2degrees.proofs.signed.on_grid.Goals as goal

pub returns-clause-near : goal.returns-clause-near
returns-clause-near c e p d l h =
    let made = sym c.whole.ensures in
    let small = subst (λ y. unsigned_abs y < 2 ^ 31) made
    (with_sign_below c.args.a.negative c.steps.result (2 ^ 31) c.steps.ensures.small) in
    read_back c.whole.result p d small (subst (λ y. IsOnGrid y p d) made
    (subst (λ a. IsOnGrid (with_sign c.args.a.negative c.steps.result) a d) (sym h.value)
    (grid_near c.args.a.negative e c.args.a.size c.steps.result h.p d c.steps.ensures.exact l h.near)))
