-- Angles of at most 90 degrees by their tangents.
use Rattle.std.specs.Prelude.{ℕ, ◌-◌, ◌*◌, ◌≤◌}
use Rattle.s2degrees.specs.Degrees.{IsEitherSine, quarter}

-- the tangent of an angle is at most n / d, by a sum of its sine and one of its cosine
pub record HasTangentAtMost (angle n d : ℕ) : Type 0 where
  pub within : angle ≤ quarter
  pub a : ℕ
  pub b : ℕ
  pub c : ℕ
  pub e : ℕ
  pub sine : IsEitherSine angle a b
  pub cosine : IsEitherSine (quarter - angle) c e
  pub most : d * (a * e) ≤ n * (c * b)

-- it is at least n / d
pub record HasTangentAtLeast (angle n d : ℕ) : Type 0 where
  pub within : angle ≤ quarter
  pub a : ℕ
  pub b : ℕ
  pub c : ℕ
  pub e : ℕ
  pub sine : IsEitherSine angle a b
  pub cosine : IsEitherSine (quarter - angle) c e
  pub least : n * (c * b) ≤ d * (a * e)
