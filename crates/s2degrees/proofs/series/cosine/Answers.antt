use Rattle.std.proofs.Common.{refl}
use Rattle.s2degrees.proofs.Numbers.{cosine_made, cosine_near}
use Rattle.s2degrees.proofs.series.cosine.Goals as goal

pub returns-clause-exact : goal.returns-clause-exact
returns-clause-exact c =
    cosine_made c.args.angle _ _ _ _ _ _ _ _ _ _ _ c.radians-x.ensures.exact c.product-q.ensures.exact
    c.step-a.ensures.exact c.step-b.ensures.exact c.step-c.ensures.exact c.step-d.ensures.exact c.step-e.ensures.exact
    c.step-f.ensures.exact c.step-g.ensures.exact c.step.ensures.exact refl

pub returns-clause-near : goal.returns-clause-near
returns-clause-near c p d i = rw (returns-clause-exact c) (cosine_near c.args.angle p d c.requires i)
