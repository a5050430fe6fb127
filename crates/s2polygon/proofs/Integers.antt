-- Polynomial identities and inequalities over ℤ: written as expressions, whose two parts over ℕ `omega` multiplies out.
use Rattle.std.proofs.Common.{◌≡◌, ℕ, zero, suc, ◌+◌, ◌*◌, ◌≤◌, ◌<◌, ap, arith, ℤ, pos, negsuc, ◌+ℤ◌, ◌*ℤ◌, ◌-ℤ◌}
use Rattle.std.proofs.Common.{neg_ℤ, ◌≤ℤ◌, ◌<ℤ◌}
use borrow.Author.Differences.{up, down, same_in, at_most_in, below_in, le_out, lt_out, sum_is_lem, neg_is}
use borrow.Author.Differences.{product_is, ints}

infixl 6 ◌⊕◌
infixl 6 ◌⊖◌
infixl 7 ◌⊗◌
pub data Expr : Type 0 where
  at : ℤ → Expr
  ◌⊕◌ : Expr → Expr → Expr
  ◌⊖◌ : Expr → Expr → Expr
  ◌⊗◌ : Expr → Expr → Expr

abbrev pub value : Expr → ℤ
value (at z) = z
value (e ⊕ f) = value e +ℤ value f
value (e ⊖ f) = value e -ℤ value f
value (e ⊗ f) = value e *ℤ value f

-- the two numbers whose difference the value is
abbrev pub parts : Expr → ℕ × ℕ
parts (at z) = (up z, down z)
parts (e ⊕ f) = ((parts e).0 + (parts f).0, (parts e).1 + (parts f).1)
parts (e ⊖ f) = ((parts e).0 + (parts f).1, (parts e).1 + (parts f).0)
parts (e ⊗ f) = (
  (parts e).0 * (parts f).0 + (parts e).1 * (parts f).1,
  (parts e).0 * (parts f).1 + (parts e).1 *
      (parts f).0,
)

product_of : (ux dx uy dy p m q n : ℕ) → ux + m ≡ dx + p → uy + n ≡ dy + q → (ux * uy + dx * dy) + (p * n + m * q) ≡
    (ux * dy + dx * uy) + (p * q + m * n)
product_of ux dx uy dy p m q n h k =
    omega (arith, ap (λ (t : ℕ). t * uy) h, ap (λ (t : ℕ). t * dy) h, ap (λ (t : ℕ). p * t) k, ap (λ (t : ℕ). m * t) k)

pub value_is : (e : Expr) → up (value e) + (parts e).1 ≡ down (value e) + (parts e).0
value_is (at z) = omega arith
value_is (e ⊕ f) = omega (arith, sum_is_lem (value e) (value f), value_is e, value_is f)
value_is (e ⊖ f) = omega (arith, sum_is_lem (value e) (neg_ℤ (value f)), neg_is (value f), value_is e, value_is f)
value_is (e ⊗ f) =
    let h = product_of (up (value e)) (down (value e)) (up (value f)) (down (value f)) (parts e).0 (parts e).1
    (parts f).0 (parts f).1 (value_is e) (value_is f) in
    let k = product_is (value e) (value f) in
    omega arith

pub equal : (e f : Expr) → (parts e).0 + (parts f).1 ≡ (parts f).0 + (parts e).1 → value e ≡ value f
equal e f h = same_in (value e) (value f) (omega (arith, value_is e, value_is f))

pub at_most : (e f : Expr) → (parts e).0 + (parts f).1 ≤ (parts f).0 + (parts e).1 → value e ≤ℤ value f
at_most e f h = at_most_in (value e) (value f) (omega (arith, value_is e, value_is f))

-- a fact on two expressions, as one on their parts
pub at_most_parts : (e f : Expr) → value e ≤ℤ value f → (parts e).0 + (parts f).1 ≤ (parts f).0 + (parts e).1
at_most_parts e f h = omega (arith, le_out (value e) (value f) h, value_is e, value_is f)

pub product_at_least : (x y : ℤ) → pos 0 ≤ℤ x → pos 0 ≤ℤ y → pos 0 ≤ℤ (x *ℤ y)
product_at_least (pos a) (pos b) h k = omega (arith, ints)
product_at_least (pos a) (negsuc b) h k = absurd (omega (arith, ints))
product_at_least (negsuc a) y h k = absurd (omega (arith, ints))

pub factor_at_least : (x y : ℤ) → pos 0 <ℤ x → pos 0 ≤ℤ (x *ℤ y) → pos 0 ≤ℤ y
factor_at_least x (pos b) h k = omega (arith, ints)
factor_at_least (pos zero) (negsuc b) h k = absurd (omega (arith, ints))
factor_at_least (pos (suc a)) (negsuc b) h k = absurd (omega (arith, ints))
factor_at_least (negsuc a) (negsuc b) h k = absurd (omega (arith, ints))

pub product_at_most : (x y : ℤ) → pos 0 ≤ℤ x → y ≤ℤ pos 0 → (x *ℤ y) ≤ℤ pos 0
product_at_most (pos a) (pos b) h k = let e : b ≡ 0 = omega (arith, ints) in rw e (omega (arith, ints))
product_at_most (pos a) (negsuc b) h k = omega (arith, ints)
product_at_most (negsuc a) y h k = absurd (omega (arith, ints))

pub below_parts : (e f : Expr) → value e <ℤ value f → (parts e).0 + (parts f).1 < (parts f).0 + (parts e).1
below_parts e f h = omega (arith, lt_out (value e) (value f) h, value_is e, value_is f)

pub less : (e f : Expr) → (parts e).0 + (parts f).1 < (parts f).0 + (parts e).1 → value e <ℤ value f
less e f h = below_in (value e) (value f) (omega (arith, value_is e, value_is f))

pub weaken : (x y : ℤ) → x <ℤ y → x ≤ℤ y
weaken x y h = omega (arith, ints)

pub sum_above : (x y : ℤ) → pos 0 ≤ℤ x → pos 0 <ℤ y → pos 0 <ℤ (x +ℤ y)
sum_above x y h k = omega (arith, ints)

pub above_sum : (x y : ℤ) → pos 0 <ℤ x → pos 0 ≤ℤ y → pos 0 <ℤ (x +ℤ y)
above_sum x y h k = omega (arith, ints)
