-- How far the straight line between two directions reaches, as code computes it.
use Rattle.std.proofs.Common.{◌≡◌, refl, sym, ap, subst, ◌∙◌, ℕ, ◌*◌, ◌^◌, ◌≤◌, ◌<◌, arith, ℤ, pos, ◌+ℤ◌}
use Rattle.std.proofs.Common.{◌≤ℤ◌, Bool, IsTrue, ◌↔◌, FitsSigned, to_z, of_z, w64, unsigned_abs, ◌⊎◌, inl, inr}
use Rattle.std.proofs.lemmas.Int.{ints, to_z-of_z}
use Rattle.s2geodesic.proofs.Opposite.{kept}
use Rattle.s2geodesic.proofs.Shortness.{either_way}
use Rattle.s2geodesic.proofs.Tries.{product_kept}
use Rattle.s2geodesic.specs.Rounded.{IsShort}
use Rattle.s2geodesic.specs.declared.edges.TheConstants.{HEIGHT}
use Rattle.s2polygon.proofs.Sizes.{read}
use Rattle.s2polygon.specs.Directions.{IsDirection, IsTooLarge, IsZero, Point}
use Rattle.s2polygon.specs.Moves.{StaysClear, product_of, sizes_of, sum_of}
use Rattle.s2polygon.specs.declared.directions.DirectionFault.{DirectionFault}
use Rattle.s2polygon.specs.declared.directions.DirectionFault.TheVariants.{TooLarge, Zero}
use Rattle.s2polygon.specs.declared.directions.Edge.{Edge}

-- ---- sums
pub small_read : (r x : ℤ) → r ≡ x → unsigned_abs x < 2 ^ 31 → unsigned_abs (to_z w64 (of_z w64 r)) < 2 ^ 31
small_read r x e h = rw e (rw (read x h) h)

pub record IsSum (s x y : ℤ) : Type 0 where
  pub is : s ≡ x +ℤ y
  pub small : unsigned_abs s ≤ 2 ^ 32

pub sum_is : (s r t x y : ℤ) → r ≡ x → t ≡ y → unsigned_abs x < 2 ^ 31 → unsigned_abs y < 2 ^ 31
    → s ≡ to_z w64 (of_z w64 r) +ℤ to_z w64 (of_z w64 t) → IsSum s x y
sum_is s r t x y e f h k is =
    let same : s ≡ x +ℤ y = is ∙ rw (e, f) (rw (read x h, read y k) refl) in
    record { is = same; small = rw same (omega (arith, ints, h, k)) }

pub passed_sum : (s x y : ℤ) → IsSum s x y → unsigned_abs (to_z w64 (of_z w64 s)) ≤ 2 ^ 62
passed_sum s x y h =
    let small = h.small in
    let fits : unsigned_abs s ≤ 2 ^ 62 = omega (arith, small) in
    rw (kept s fits) fits

pub size_is : (u : ℕ) (s x y : ℤ) → u ≡ unsigned_abs (to_z w64 (of_z w64 s)) → IsSum s x y → u ≡ unsigned_abs (x +ℤ y)
size_is u s x y e h =
    let small = h.small in
    e ∙ ap unsigned_abs (kept s (omega (arith, small)) ∙ h.is)

pub size_small : (u : ℕ) (s x y : ℤ) → u ≡ unsigned_abs (to_z w64 (of_z w64 s)) → IsSum s x y → u ≤ 2 ^ 32
size_small u s x y e h =
    let small = h.small in
    let same = e ∙ ap unsigned_abs (kept s (omega (arith, small))) in
    omega (arith, same, small)

pub reach_is : (x y z : ℤ) (p q c : Point) → IsSum x p.x q.x → IsSum y p.y q.y → IsSum z p.z q.z
    → product_of (record { x = to_z w64 (of_z w64 x); y = to_z w64 (of_z w64 y); z = to_z w64 (of_z w64 z) }) c
    ≡ product_of (sum_of p q) c
reach_is x y z p q c h k l =
    let a = h.small in
    let b = k.small in
    let d = l.small in
    product_kept x y z (omega (arith, a)) (omega (arith, b)) (omega (arith, d)) c ∙ rw (h.is, k.is, l.is) refl

-- ---- clear of the center
module _ (p q : Point) (a b least : ℤ) (sizes : ℕ) (a_is : a ≡ product_of (sum_of p q) p)
    (b_is : b ≡ product_of (sum_of p q) q) (sizes_is : sizes ≡ sizes_of (sum_of p q))
    (least_is : least ≡ pos (536870912 * sizes)) where
  abbrev edge : Edge
  edge = record { a = p; b = q }

  least_of : least ≡ pos (HEIGHT * sizes_of (sum_of p q))
  least_of = least_is ∙ ap (λ (n : ℕ). pos (536870912 * n)) sizes_is

  pub clear_some : StaysClear HEIGHT edge → 0 < sizes
  clear_some h = rw sizes_is h.some

  pub clear_a : StaysClear HEIGHT edge → least ≤ℤ a
  clear_a h = rw (least_of, a_is, either_way (sum_of p q) p) h.a

  pub clear_b : StaysClear HEIGHT edge → least ≤ℤ b
  clear_b h = rw (least_of, b_is, either_way (sum_of p q) q) h.b

  pub clear_by : 0 < sizes → least ≤ℤ a → least ≤ℤ b → StaysClear HEIGHT edge
  clear_by h k l = record {
    some = rw (sym sizes_is) h;
    a = rw (sym least_of, either_way p (sum_of p q), sym a_is) k;
    b = rw (sym least_of, either_way q (sum_of p q), sym b_is) l;
  }

-- ---- corners that are directions
pub no_direction : (fault : DirectionFault) (p : Point) → (fault ≡ Zero → IsZero p) → (fault ≡ TooLarge → IsTooLarge p)
    → ¬ (IsDirection p)
no_direction Zero p zero large d = d.some (zero refl)
no_direction TooLarge p zero large d = by (large refl)
  where
    by : IsTooLarge p → ⊥
    by (inl h) = let k = d.x in omega (arith, h, k)
    by (inr (inl h)) = let k = d.y in omega (arith, h, k)
    by (inr (inr h)) = let k = d.z in omega (arith, h, k)

pub point_kept : (x y z : ℤ) (p : Point) → FitsSigned w64 x → FitsSigned w64 y → FitsSigned w64 z → x ≡ p.x → y ≡ p.y
    → z ≡ p.z
    → ◌≡◌ {A = Point} (record { x = to_z w64 (of_z w64 x); y = to_z w64 (of_z w64 y); z = to_z w64 (of_z w64 z) }) p
point_kept x y z p f g h k l m = rw (to_z-of_z w64 x f, to_z-of_z w64 y g, to_z-of_z w64 z h, k, l, m) refl

pub short_is : (a b p q : Point) (r : Bool) → p ≡ a → q ≡ b → IsDirection p → IsDirection q
    → (IsTrue r ↔ StaysClear HEIGHT (record { a = p; b = q })) → IsTrue r ↔ IsShort (record { a = a; b = b })
short_is a b p q r e f d g h =
    subst (λ (x : Point). IsTrue r ↔ IsShort (record { a = x; b = b })) e
    (subst (λ (y : Point). IsTrue r ↔ IsShort (record { a = p; b = y })) f
    (λ t. (record { a = d; b = g }, h.0 t), λ s. h.1 s.1))

pub never_short : (a b : Point) → ¬ (IsDirection a) ⊎ ¬ (IsDirection b) → ¬ (IsShort (record { a = a; b = b }))
never_short a b (inl h) s = h s.0.a
never_short a b (inr h) s = h s.0.b
