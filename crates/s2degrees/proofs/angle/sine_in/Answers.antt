use Rattle.std.proofs.Common.{arith}
use Rattle.s2degrees.proofs.Signs.{sine_near}
use Rattle.s2degrees.proofs.angle.sine_in.Goals as goal
use Rattle.s2degrees.proofs.angle.sine_in.Goals.{then-q-eq0, else-q-eq0}

pub returns-clause-near : goal.returns-clause-near
returns-clause-near c a b h = elim c.if-q-eq0.branch [
  | then-q-eq0 w ↦ sine_near c.args.q c.args.rest c.if-q-eq0.size a b c.requires.q
      (λ _ p d i. rw w.size-is (w.quarter_sine-size.ensures.near p d i)) (λ ne. absurd (ne w.if-q-eq0.true)) h
  | else-q-eq0 w ↦ sine_near c.args.q c.args.rest c.if-q-eq0.size a b c.requires.q
      (λ e. absurd (omega (arith, e, w.if-q-eq0.false)))
      (λ _ p d i. rw w.size-is (w.quarter_cosine-size.ensures.near p d i)) h
]
