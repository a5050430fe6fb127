use Rattle.std.proofs.Common.{arith}
use Rattle.s2degrees.proofs.Bounding.{checked_least}
use Rattle.s2degrees.proofs.tangent.angle_at_least.Goals as goal

pub returns-then-product-clause-least : goal.returns-then-product-clause-least
returns-then-product-clause-least c x h =
    checked_least c.saturating_sub-angle.result c.args.n c.args.d c.sine_at_most.result c.sine_at_least.result x
    c.sine_at_most.ensures.most c.sine_at_least.ensures.least
    (omega (arith, c.if-product.true, c.product.ensures.exact, c.product-2.ensures.exact)) h
