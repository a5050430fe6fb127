use Rattle.std.proofs.Common.{◌*◌, ◌^◌, inl, inr, lit≤, neg_ℤ, pos, refl}
use Rattle.s2degrees.specs.Series.{over, under}
use Rattle.s2degrees.proofs.Sums.{cosine_over, cosine_sum, cosine_under, sine_over, sine_sum, sine_under}
use Rattle.s2degrees.proofs.laws.known_sines.Goals as goal

pub returns-clause-zero : goal.returns-clause-zero
unfolding over under
returns-clause-zero c =
    (pos (sine_over 0), sine_under, (inl (lit≤ tt, sine_sum 0 (lit≤ tt)), refl), lit≤ tt)

pub returns-clause-thirty : goal.returns-clause-thirty
unfolding over under
returns-clause-thirty c =
    (pos (sine_over (30 * 10 ^ 15)), sine_under, (inl (lit≤ tt, sine_sum (30 * 10 ^ 15) (lit≤ tt)), refl), lit≤ tt)

pub returns-clause-eighth : goal.returns-clause-eighth
unfolding over under
returns-clause-eighth c =
    (pos (sine_over (45 * 10 ^ 15)), sine_under, (inl (lit≤ tt, sine_sum (45 * 10 ^ 15) (lit≤ tt)), refl), lit≤ tt)

pub returns-clause-quarter : goal.returns-clause-quarter
unfolding over under
returns-clause-quarter c =
    (pos (cosine_over 0), cosine_under, (inl (lit≤ tt, cosine_sum 0 (lit≤ tt)), refl), lit≤ tt)

pub returns-clause-second_quarter : goal.returns-clause-second_quarter
unfolding over under
returns-clause-second_quarter c = (
  pos (cosine_over (45 * 10 ^ 15)),
  cosine_under,
  (inl (lit≤ tt, cosine_sum (45 * 10 ^ 15) (lit≤ tt)), refl),
  lit≤ tt,
)

pub returns-clause-half : goal.returns-clause-half
unfolding over under
returns-clause-half c =
    (neg_ℤ (pos (sine_over 0)), sine_under, (inl (lit≤ tt, sine_sum 0 (lit≤ tt)), refl), lit≤ tt)

pub returns-clause-third_quarter : goal.returns-clause-third_quarter
unfolding over under
returns-clause-third_quarter c = (
  neg_ℤ (pos (sine_over (30 * 10 ^ 15))),
  sine_under,
  (inl (lit≤ tt, sine_sum (30 * 10 ^ 15) (lit≤ tt)), refl),
  lit≤ tt,
)

pub returns-clause-last_quarter : goal.returns-clause-last_quarter
unfolding over under
returns-clause-last_quarter c = (
  neg_ℤ (pos (sine_over (30 * 10 ^ 15))),
  sine_under,
  (inr (lit≤ tt, sine_sum (30 * 10 ^ 15) (lit≤ tt)), refl),
  lit≤ tt,
)

pub returns-clause-west : goal.returns-clause-west
unfolding over under
returns-clause-west c = (
  neg_ℤ (pos (sine_over (30 * 10 ^ 15))),
  sine_under,
  (inr (lit≤ tt, sine_sum (30 * 10 ^ 15) (lit≤ tt)), refl),
  lit≤ tt,
)

pub returns-clause-turned : goal.returns-clause-turned
unfolding over under
returns-clause-turned c =
    (pos (sine_over (30 * 10 ^ 15)), sine_under, (inl (lit≤ tt, sine_sum (30 * 10 ^ 15) (lit≤ tt)), refl), lit≤ tt)
