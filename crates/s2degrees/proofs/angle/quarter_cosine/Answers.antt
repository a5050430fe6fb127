use Rattle.std.proofs.Common.{arith, inl, inr}
use Rattle.s2degrees.proofs.angle.quarter_cosine.Goals as goal

pub returns-then-angle-le-EIGHTH-clause-near : goal.returns-then-angle-le-EIGHTH-clause-near
returns-then-angle-le-EIGHTH-clause-near c p d (inl i) = c.cosine.ensures.near p d i.1
returns-then-angle-le-EIGHTH-clause-near c p d (inr j) = absurd (omega (arith, j.0, c.if-angle-le-EIGHTH.true))

pub returns-else-angle-le-EIGHTH-clause-near : goal.returns-else-angle-le-EIGHTH-clause-near
returns-else-angle-le-EIGHTH-clause-near c p d (inl i) = absurd (omega (arith, i.0, c.if-angle-le-EIGHTH.false))
returns-else-angle-le-EIGHTH-clause-near c p d (inr j) = c.sine.ensures.near p d j.1
