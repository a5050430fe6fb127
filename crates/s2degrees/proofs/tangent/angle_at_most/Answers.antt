use Rattle.std.proofs.Common.{arith}
use Rattle.s2degrees.proofs.Bounding.{checked_most}
use Rattle.s2degrees.proofs.tangent.angle_at_most.Goals as goal

pub returns-then-product-clause-most : goal.returns-then-product-clause-most
returns-then-product-clause-most c x h =
    checked_most c.min-angle.result c.args.n c.args.d c.sine_at_least.result c.sine_at_most.result x
    c.sine_at_least.ensures.least c.sine_at_most.ensures.most
    (omega (arith, c.if-product.true, c.product.ensures.exact, c.product-2.ensures.exact)) h
