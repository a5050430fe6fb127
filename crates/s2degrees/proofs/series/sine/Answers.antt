use Rattle.s2degrees.proofs.Numbers.{sine_made, sine_near}
use Rattle.s2degrees.proofs.series.sine.Goals as goal

pub returns-clause-exact : goal.returns-clause-exact
returns-clause-exact c =
    sine_made c.args.angle _ _ _ _ _ _ _ _ _ _ c.radians-x.ensures.exact c.product-q.ensures.exact
    c.step-a.ensures.exact c.step-b.ensures.exact c.step-c.ensures.exact c.step-d.ensures.exact c.step-e.ensures.exact
    c.step-f.ensures.exact c.step.ensures.exact c.product.ensures.exact

pub returns-clause-near : goal.returns-clause-near
returns-clause-near c p d i = rw (returns-clause-exact c) (sine_near c.args.angle p d c.requires i)
