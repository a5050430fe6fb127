-- Which planes are tried.
use Rattle.std.proofs.Common.{◌≡◌, refl, ap, ◌∙◌, subst, ℕ, zero, suc, ◌+◌, ◌*◌, ◌/◌, ◌%◌, ◌≤◌, ◌<◌, arith, ℤ, pos}
use Rattle.std.proofs.Common.{negsuc, ◌*ℤ◌, ◌^◌, Bool, true, false, nat_lt, ltb-true, ltb-false, List, unsigned_abs}
use Rattle.std.proofs.Common.{FitsSigned, to_z, of_z, w64}
use Rattle.std.proofs.lemmas.Int.{ints}
use Rattle.s2geodesic.proofs.Opposite.{kept, kept_sign}
use Rattle.s2geodesic.specs.Halves.{AreSpread, IsTried, LieBefore}
use Rattle.s2geodesic.specs.Working.Places.{normal_at, sign_at}
use Rattle.s2polygon.proofs.Sizes.{exact, within_64, within_product}
use Rattle.s2polygon.specs.Directions.{Point}
use Rattle.s2polygon.specs.Moves.{product_of}

-- a number that is at most 1 in size is one of the three
record IsSign (n : ℤ) : Type 0 where
  number : ℕ
  below : number < 3
  is : sign_at number ≡ n

signed : (n : ℤ) → unsigned_abs n ≤ 1 → IsSign n
signed (pos zero) h = record { number = 1; below = omega arith; is = refl }
signed (pos (suc zero)) h = record { number = 2; below = omega arith; is = refl }
signed (pos (suc (suc n))) h = absurd (omega (arith, ints, h))
signed (negsuc zero) h = record { number = 0; below = omega arith; is = refl }
signed (negsuc (suc n)) h = absurd (omega (arith, ints, h))

-- each such plane has a number
number_of : (n : Point) → IsTried n → (k : ℕ) × (k < 27) × (normal_at k ≡ n)
number_of n tried =
    let x = signed n.x tried.x in
    let y = signed n.y tried.y in
    let z = signed n.z tried.z in
    let a = x.below in
    let b = y.below in
    let c = z.below in
    let k = x.number * 9 + y.number * 3 + z.number in
    let first : k / 9 ≡ x.number = omega arith in
    let second : k / 3 % 3 ≡ y.number = omega arith in
    let third : k % 3 ≡ z.number = omega arith in
    (k, omega arith, by _ _ _ (ap sign_at first ∙ x.is) (ap sign_at second ∙ y.is) (ap sign_at third ∙ z.is))
  where
    by : (p q r : ℤ) → p ≡ n.x → q ≡ n.y → r ≡ n.z → ◌≡◌ {A = Point} (record { x = p; y = q; z = r }) n
    by p q r e f g = rw (e, f, g) refl

pub all_tried : (corners : List Point) → ((k : ℕ) → k < 27 → ¬ (LieBefore (normal_at k) corners)) → AreSpread corners
all_tried corners none n tried =
    let at = number_of n tried in
    subst (λ (m : Point). ¬ (LieBefore m corners)) at.2 (none at.0 at.1)

-- ---- what code computes
-- a callee's product, whose arguments went to bits
pub record IsSmallProduct (r a b : ℤ) : Type 0 where
  pub is : r ≡ a *ℤ b
  pub small : unsigned_abs r ≤ 2 ^ 125

pub small_product : (r a b : ℤ) → FitsSigned w64 a → FitsSigned w64 b
    → r ≡ to_z w64 (of_z w64 a) *ℤ to_z w64 (of_z w64 b) → unsigned_abs a ≤ 2 ^ 62 → IsSmallProduct r a b
small_product r a b f g e h =
    let is = exact r a b f g e in
    record { is = is; small = rw is (omega (arith, within_product a b (2 ^ 62) (2 ^ 63) h (within_64 b g))) }

pub product_kept : (x y z : ℤ) → unsigned_abs x ≤ 2 ^ 62 → unsigned_abs y ≤ 2 ^ 62 → unsigned_abs z ≤ 2 ^ 62
    → (p : Point)
    → product_of (record { x = to_z w64 (of_z w64 x); y = to_z w64 (of_z w64 y); z = to_z w64 (of_z w64 z) }) p
    ≡ product_of (record { x = x; y = y; z = z }) p
product_kept x y z h k l p = rw (kept x h, kept y k, kept z l) refl

pub next_tried : (corners : List Point) (k : ℕ) → ((j : ℕ) → j < k → ¬ (LieBefore (normal_at j) corners))
    → ¬ (LieBefore (normal_at k) corners) → (j : ℕ) → j < k + 1 → ¬ (LieBefore (normal_at j) corners)
next_tried corners k before this j l = by (nat_lt j k) refl
  where
    by : (b : Bool) → nat_lt j k ≡ b → ¬ (LieBefore (normal_at j) corners)
    by true e = before j (ltb-true j k e)
    by false e = let m = ltb-false j k e in let same : j ≡ k = omega arith in rw same this

pub normal_kept : (x y z p q r : ℤ) → unsigned_abs x ≤ 1 → unsigned_abs y ≤ 1 → unsigned_abs z ≤ 1 → x ≡ p → y ≡ q
    → z ≡ r
    → ◌≡◌ {A = Point} (record { x = to_z w64 (of_z w64 x); y = to_z w64 (of_z w64 y); z = to_z w64 (of_z w64 z) })
    (record { x = p; y = q; z = r })
normal_kept x y z p q r h k l e f g = rw (kept_sign x h, kept_sign y k, kept_sign z l, e, f, g) refl
