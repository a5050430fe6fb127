-- Places of one eighth of the sphere: bounds of their longitudes and latitudes, as tangents.
use Rattle.std.proofs.Common.{ℕ, ◌+◌, ◌-◌, ◌*◌, ◌/◌, ◌^◌, ◌≤◌, ◌<◌, ◌≡◌, arith, inl, inr, lit<}
use Rattle.std.proofs.Math.Nat.{mul-le-mul_left, mul-le-mul_right, le_of_mul-le-mul_left}
use Rattle.std.proofs.lemmas.Bool.{cases_lt}
use Rattle.std.proofs.lemmas.Nat.{mul-le}
use Rattle.s2degrees.specs.Degrees.{quarter}
use Rattle.s2degrees.specs.Tangents.{HasTangentAtLeast, HasTangentAtMost}
use Rattle.s2degrees.proofs.Bounding.{some_under}
use Rattle.s2degrees.proofs.Steps.{quotient}
use Rattle.s2map.proofs.Folding.{none_at_0}
use Rattle.s2map.specs.Working.Octants.{IsAt, whole}

-- ---- a factor is left out, and a cosine or a sine replaced by a bound v of it
least_by : (n d v r k e c p q : ℕ) → 1 ≤ c → 1 ≤ e → n * (k * c * p) ≤ d * (c * e * q) → v * e ≤ 2 ^ 62 * k
    → r * 2 ^ 62 ≤ n * v → r * p ≤ d * q
least_by n d v r k e c p q hc he h low hr =
    let h1 : c * (n * k * p) ≤ c * (d * e * q) = omega (arith, h) in
    let h2 : n * k * p ≤ d * e * q = le_of_mul-le-mul_left {k = c} h1 hc in
    let h3 = mul-le-mul_right e hr in
    let h4 = mul-le-mul_left n low in
    let h5 : 2 ^ 62 * (r * e) ≤ 2 ^ 62 * (n * k) = omega (arith, h3, h4) in
    let h6 : r * e ≤ n * k = le_of_mul-le-mul_left {k = 2 ^ 62} h5 (lit< tt) in
    let h7 = mul-le-mul_right p h6 in
    let h8 : e * (r * p) ≤ e * (d * q) = omega (arith, h2, h7) in
    le_of_mul-le-mul_left {k = e} h8 he

most_by : (n d v r k e c p q : ℕ) → 1 ≤ c → 1 ≤ e → d * (c * e * q) ≤ n * (k * c * p) → 2 ^ 62 * k ≤ v * e
    → n * v ≤ r * 2 ^ 62 → d * q ≤ r * p
most_by n d v r k e c p q hc he h high hr =
    let h1 : c * (d * e * q) ≤ c * (n * k * p) = omega (arith, h) in
    let h2 : d * e * q ≤ n * k * p = le_of_mul-le-mul_left {k = c} h1 hc in
    let h3 = mul-le-mul_right e hr in
    let h4 = mul-le-mul_left n high in
    let h5 : 2 ^ 62 * (n * k) ≤ 2 ^ 62 * (r * e) = omega (arith, h3, h4) in
    let h6 : n * k ≤ r * e = le_of_mul-le-mul_left {k = 2 ^ 62} h5 (lit< tt) in
    let h7 = mul-le-mul_right p h6 in
    let h8 : e * (d * q) ≤ e * (r * p) = omega (arith, h2, h7) in
    le_of_mul-le-mul_left {k = e} h8 he

-- a product that is rounded down, and one more
pub rounded : (n v r : ℕ) → r ≡ n * v / 2 ^ 62 → (r * 2 ^ 62 ≤ n * v) × (n * v ≤ (r + 1) * 2 ^ 62)
rounded n v r e =
    let q = quotient (n * v) (2 ^ 62) (lit< tt) in
    let low : r * 2 ^ 62 ≤ n * v = rw e q.0 in
    let high : n * v + 1 ≤ r * 2 ^ 62 + 2 ^ 62 = rw e q.1 in
    (low, omega (arith, high))

module _ (t m x y z : ℕ) (p : IsAt t m x y z) where
  pub sine_under_some : 1 ≤ p.b
  sine_under_some = some_under t p.a p.b p.east_sine

  pub cosine_under_some : 1 ≤ p.e
  cosine_under_some = some_under (quarter - t) p.k p.e p.east_cosine

  -- a place off the poles has a cosine of its latitude
  pub axis_some : 1 ≤ p.g * p.h
  axis_some = elim (cases_lt 0 p.g) [
    | inl some ↦ mul-le 1 1 p.g p.h some (some_under m p.f p.h p.north_sine)
    | inr none ↦
        let z = none_at_0 (quarter - m) p.g p.i (omega (arith, none)) p.north_cosine in
        absurd (omega (arith, z, p.north))
  ]

  pub east_least : (n d : ℕ) → n * x ≤ d * y → HasTangentAtLeast t n d
  east_least n d h =
      let own = rw (p.x_is, p.y_is) at h in
      let u : p.g * p.h * (n * (p.k * p.b)) ≤ p.g * p.h * (d * (p.a * p.e)) = omega (arith, own) in
      record {
        within = p.east;
        a = p.a;
        b = p.b;
        c = p.k;
        e = p.e;
        sine = p.east_sine;
        cosine = p.east_cosine;
        least = le_of_mul-le-mul_left {k = p.g * p.h} u axis_some;
      }

  pub east_most : (n d : ℕ) → d * y ≤ n * x → HasTangentAtMost t n d
  east_most n d h =
      let own = rw (p.x_is, p.y_is) at h in
      let u : p.g * p.h * (d * (p.a * p.e)) ≤ p.g * p.h * (n * (p.k * p.b)) = omega (arith, own) in
      record {
        within = p.east;
        a = p.a;
        b = p.b;
        c = p.k;
        e = p.e;
        sine = p.east_sine;
        cosine = p.east_cosine;
        most = le_of_mul-le-mul_left {k = p.g * p.h} u axis_some;
      }

  tangent_least : (n d : ℕ) → n * (p.g * p.h) ≤ d * (p.f * p.i) → HasTangentAtLeast m n d
  tangent_least n d h = record {
    within = omega (arith, p.north);
    a = p.f;
    b = p.h;
    c = p.g;
    e = p.i;
    sine = p.north_sine;
    cosine = p.north_cosine;
    least = h;
  }

  tangent_most : (n d : ℕ) → d * (p.f * p.i) ≤ n * (p.g * p.h) → HasTangentAtMost m n d
  tangent_most n d h = record {
    within = omega (arith, p.north);
    a = p.f;
    b = p.h;
    c = p.g;
    e = p.i;
    sine = p.north_sine;
    cosine = p.north_cosine;
    most = h;
  }

  module _ (n d v r : ℕ) where
    pub cosine_least : n * x ≤ d * z → v * p.e ≤ 2 ^ 62 * p.k → r ≡ n * v / 2 ^ 62 → HasTangentAtLeast m r d
    cosine_least h low e =
        let given = rw (p.x_is, p.z_is) at h in
        let own : n * (p.k * p.b * (p.g * p.h)) ≤ d * (p.b * p.e * (p.f * p.i)) = omega (arith, given) in
        tangent_least r d (least_by n d v r p.k p.e p.b (p.g * p.h) (p.f * p.i) sine_under_some cosine_under_some own
        low (rounded n v r e).0)

    pub cosine_most : d * z ≤ n * x → 2 ^ 62 * p.k ≤ v * p.e → r ≡ n * v / 2 ^ 62 → HasTangentAtMost m (r + 1) d
    cosine_most h high e =
        let given = rw (p.x_is, p.z_is) at h in
        let own : d * (p.b * p.e * (p.f * p.i)) ≤ n * (p.k * p.b * (p.g * p.h)) = omega (arith, given) in
        tangent_most (r + 1) d (most_by n d v (r + 1) p.k p.e p.b (p.g * p.h) (p.f * p.i) sine_under_some
        cosine_under_some own high (rounded n v r e).1)

    pub sine_least : n * y ≤ d * z → v * p.b ≤ 2 ^ 62 * p.a → r ≡ n * v / 2 ^ 62 → HasTangentAtLeast m r d
    sine_least h low e =
        let given = rw (p.y_is, p.z_is) at h in
        let own : n * (p.a * p.e * (p.g * p.h)) ≤ d * (p.e * p.b * (p.f * p.i)) = omega (arith, given) in
        tangent_least r d (least_by n d v r p.a p.b p.e (p.g * p.h) (p.f * p.i) cosine_under_some sine_under_some own
        low (rounded n v r e).0)

    pub sine_most : d * z ≤ n * y → 2 ^ 62 * p.a ≤ v * p.b → r ≡ n * v / 2 ^ 62 → HasTangentAtMost m (r + 1) d
    sine_most h high e =
        let given = rw (p.y_is, p.z_is) at h in
        let own : d * (p.e * p.b * (p.f * p.i)) ≤ n * (p.a * p.e * (p.g * p.h)) = omega (arith, given) in
        tangent_most (r + 1) d (most_by n d v (r + 1) p.a p.b p.e (p.g * p.h) (p.f * p.i) cosine_under_some
        sine_under_some own high (rounded n v r e).1)

-- two quotients by z, of which one is at least n and the other at most d, over `whole`
pub crossed : (n d x y z : ℕ) → n * z ≤ whole * y → whole * x ≤ d * z → n * x ≤ d * y
crossed n d x y z h k =
    let h1 = mul-le-mul_left d h in
    let h2 = mul-le-mul_left n k in
    let h3 : whole * (n * x) ≤ whole * (d * y) = omega (arith, h1, h2) in
    le_of_mul-le-mul_left {k = whole} h3 (lit< tt)
