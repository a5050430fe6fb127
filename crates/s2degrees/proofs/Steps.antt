-- What is near stays near: by a product, by a step of a series; and where the series begins.
use Rattle.std.proofs.Common.{ℕ, zero, suc, ◌+◌, ◌-◌, ◌*◌, ◌/◌, ◌^◌, ◌≤◌, ◌<◌, ◌≡◌, ap, arith}
use Rattle.std.proofs.Math.Nat.{mul-le-mul_left, mul-le-mul_right, div-mul-le_self, mul-sub, le_of_mul-le-mul_left}
use Rattle.std.proofs.lemmas.Nat.{mod_below, div-add-mod', mul-le}
use Rattle.s2degrees.specs.Series.{over, under}
use Rattle.s2degrees.specs.Working.Near.{IsNear}

pub quotient : (t m : ℕ) → 0 < m → (t / m * m ≤ t) × (t + 1 ≤ t / m * m + m)
quotient t m h = (div-mul-le_self t m, omega (arith, mod_below t m h, div-add-mod' t m))

two_quotients : (t o n : ℕ) → 0 < o → 0 < n → (t / o / n * (o * n) ≤ t) × (t + 1 ≤ t / o / n * (o * n) + o * n)
two_quotients t o n ho hn =
    let a = quotient t o ho in
    let b = quotient (t / o) n hn in
    let h1 = mul-le-mul_right o b.0 in
    let h2 = mul-le-mul_right o b.1 in
    (omega (arith, a.0, h1), omega (arith, a.1, h2))

rest_least : (o d p s : ℕ) → o * d ≤ s + o * p → o * (d - p) ≤ s
rest_least o d p s h = rw (mul-sub o d p) (omega (arith, h))

rest_over : (o d p s g : ℕ) → s + o * p ≤ o * d + g → s ≤ o * (d - p) + g
rest_over o d p s g h = rw (mul-sub o d p) (omega (arith, h))

pub one_below : (k : ℕ) → 0 < k → 2 ≤ k * (k + 1)
one_below k h = let h1 = mul-le-mul_right (k + 1) h in omega (arith, h1)

pub rest_of : (o t n : ℕ) → 0 < n → t ≤ o → (o - t / n) + t / n ≡ o
rest_of o t n hn ht =
    let h1 = div-mul-le_self t n in
    let h2 = mul-le-mul_left (t / n) hn in
    omega (arith, h1, h2, ht)

-- ---- a product of two numbers x and y of o parts, which are c and e away from p / d and b / a
module _ (o x y p d b a c e : ℕ) (some : 0 < o) (hy : y ≤ o) (hp : p ≤ d) (x-least : o * p ≤ (x + c) * d)
    (x-most : x * d ≤ o * p + c * d) (y-least : o * b ≤ (y + e) * a) (y-most : y * a ≤ o * b + e * a) where
  pub times_most : x * y * (d * a) ≤ o * (o * (p * b) + (c + e) * (d * a))
  times_most =
      let h1 = mul-le-mul_right (y * a) x-most in
      let h2 = mul-le-mul_right (o * p) y-most in
      let h3 = mul-le-mul_right (c * d * a) hy in
      let h4 = mul-le-mul_right (o * e * a) hp in
      omega (arith, h1, h2, h3, h4)

  pub times_least : o * (o * (p * b)) ≤ x * y * (d * a) + o * ((c + e) * (d * a))
  times_least =
      let h1 = mul-le-mul_right (o * p) y-least in
      let h2 = mul-le-mul_right (y * a) x-least in
      let h3 = mul-le-mul_right (c * d * a) hy in
      let h4 = mul-le-mul_right (o * e * a) hp in
      omega (arith, h1, h2, h3, h4)

  -- rounded down
  pub product_near : (r : ℕ) → r ≡ x * y / o
      → (o * (p * b) ≤ (r + (c + e + 1)) * (d * a)) × (r * (d * a) ≤ o * (p * b) + (c + e + 1) * (d * a))
  product_near r er =
      let q = quotient (x * y) o some in
      let ql : r * o ≤ x * y = rw er q.0 in
      let qm : x * y + 1 ≤ r * o + o = rw er q.1 in
      let h1 = mul-le-mul_right (d * a) ql in
      let h2 = mul-le-mul_right (d * a) qm in
      let f : o * (o * (p * b)) ≤ o * ((r + (c + e + 1)) * (d * a)) = omega (arith, h2, times_least) in
      let g : o * (r * (d * a)) ≤ o * (o * (p * b) + (c + e + 1) * (d * a)) = omega (arith, h1, times_most) in
      (le_of_mul-le-mul_left {k = o} f some, le_of_mul-le-mul_left {k = o} g some)

  -- a step: divided by n too, rounded down, and taken from o; z is the new denominator
  pub step_near : (n f r g z v : ℕ) → 0 < n → f ≡ x * y / o / n → r + f ≡ o → z ≡ d * n * a → v ≡ p * b
      → c + e + n ≤ g * n → (o * (z - v) ≤ (r + g) * z) × (r * z ≤ o * (z - v) + g * z)
  step_near n f r g z v hn ef er ez ev hg =
      let q = two_quotients (x * y) o n some hn in
      let ql : f * (o * n) ≤ x * y = rw ef q.0 in
      let qm : x * y + 1 ≤ f * (o * n) + o * n = rw ef q.1 in
      let h1 = mul-le-mul_right (d * a) ql in
      let h2 = mul-le-mul_right (d * a) qm in
      let h3 = mul-le-mul_right (o * (d * a)) hg in
      let f1 : o * (f * (d * n * a)) ≤ o * (o * (p * b) + g * (d * n * a)) =
      omega (arith, h1, times_most, h3) in
      let f2 : o * (o * (p * b)) ≤ o * (f * (d * n * a) + g * (d * n * a)) = omega (arith, h2, times_least, h3) in
      let u1 : f * z ≤ o * v + g * z = rw (ez, ev) (le_of_mul-le-mul_left {k = o} f1 some) in
      let u2 : o * v ≤ f * z + g * z = rw (ez, ev) (le_of_mul-le-mul_left {k = o} f2 some) in
      let h : (r + f) * z ≡ o * z = ap (λ (t : ℕ). t * z) er in
      (rest_least o z v ((r + g) * z) (omega (arith, u1, h)), rest_over o z v (r * z) (g * z) (omega (arith, u2, h)))

-- ---- where the series begins: 1 is near to each of its sums
pub over-under : (p q k m : ℕ) → over p q k m ≤ under q k m
unfolding over under
over-under p q k zero = omega arith
over-under p q k (suc m) = omega arith

pub one_near : (p q k m e : ℕ) → p ≤ q → 2 ^ 62 ≤ e * (k * (k + 1)) → IsNear e (2 ^ 62) (over p q k m) (under q k m)
unfolding over under
one_near p q k zero e h g = record { least = omega arith; most = omega arith }
one_near p q k (suc m) e h g =
    let n = k * (k + 1) in
    let a = under q (k + 2) m in
    let b = over p q (k + 2) m in
    let h1 = mul-le p b q a h (over-under p q (k + 2) m) in
    let h2 = mul-le-mul_right (q * a) g in
    let h3 = mul-le-mul_left (2 ^ 62) h1 in
    let z : ℕ = q * n * a in
    record {
      least = rest_least (2 ^ 62) z (p * b) ((2 ^ 62 + e) * z) (omega arith);
      most = rest_over (2 ^ 62) z (p * b) (2 ^ 62 * z) (e * z) (omega (arith, h2, h3));
    }

pub weaken : (c e y a b : ℕ) → c ≤ e → IsNear c y a b → IsNear e y a b
weaken c e y a b h k =
    let h1 = mul-le-mul_right b h in
    let l = k.least in
    let m = k.most in
    record { least = omega (arith, h1, l); most = omega (arith, h1, m) }
