-- Cells, steps and squares by their places.
use Rattle.std.proofs.Common.{◌≡◌, refl, sym, ap, ◌∙◌, ℕ, suc, ◌+◌, ◌-◌, ◌*◌, ◌/◌, ◌%◌, ◌^◌, ◌≤◌, ◌<◌, min, max}
use Rattle.std.proofs.Common.{arith, ℤ, pos, ◌+ℤ◌, ◌-ℤ◌, ◌<ℤ◌, FitsSigned, to_z, of_z, w64, nat_lt}
use Rattle.std.proofs.Common.{Bool, true, false, pow_pos, pow-add, pow-suc, mul-le-mul, mul-le-mul_right}
use Rattle.std.proofs.Common.{mod-eq_of_lt, ltb-true, ltb-false}
use Rattle.std.proofs.lemmas.Int.{ints, to_z-of_z, to_z_pos}
use Rattle.s2polygon.proofs.Along.{low, high}
use Rattle.s2polygon.proofs.Tests.{square_wide, square_high}
use Rattle.s2polygon.specs.Cells.{square_of, widened}
use Rattle.s2polygon.specs.Places.{along}
use Rattle.s2polygon.specs.Ways.{middle_of}
use Rattle.s2polygon.specs.Working.Descent.{line_of, places_of}
use Rattle.s2polygon.specs.Working.Sizes.{IsPlace, IsOnFace, IsOfPlaces, IsOfFace, HasPlacesOfLine}
use Rattle.s2polygon.specs.declared.places.Line.{Line}
use Rattle.s2polygon.specs.declared.places.Square.{Square}
use Rattle.s2polygon.specs.declared.places.Step.{Step}

-- ---- sizes
pub pow_most : (k : ℕ) → k ≤ 30 → 2 ^ k ≤ 2 ^ 30
pow_most k h =
    let e : 2 ^ (30 - k) * 2 ^ k ≡ 2 ^ (30 - k + k) = sym (pow-add 2 (30 - k) k) in
    let f : 30 - k + k ≡ 30 = omega arith in
    let g : 2 ^ (30 - k) * 2 ^ k ≡ 2 ^ 30 = e ∙ ap (λ (t : ℕ). 2 ^ t) f in
    let l = mul-le-mul_right (2 ^ k) (pow_pos (30 - k)) in
    omega (arith, g, l)

pub size_most : (k : ℕ) → k ≤ 30 → 1 * 2 ^ k % 2 ^ 64 ≤ 2 ^ 30
size_most k h =
    let p = pow_most k h in
    let one : 1 * 2 ^ k ≡ 2 ^ k = omega arith in
    let l : 2 ^ k < 2 ^ 64 = omega arith in
    rw (one, mod-eq_of_lt l) p

pub in_face : (k i s : ℕ) → k ≤ 30 → i < 2 ^ (30 - k) → s ≡ 2 ^ k → i * s + s ≤ 2 ^ 30
in_face k i s h l is =
    let e : 2 ^ (30 - k) * 2 ^ k ≡ 2 ^ (30 - k + k) = sym (pow-add 2 (30 - k) k) in
    let f : 30 - k + k ≡ 30 = omega arith in
    let g : 2 ^ (30 - k) * 2 ^ k ≡ 2 ^ 30 = e ∙ ap (λ (t : ℕ). 2 ^ t) f in
    let m = mul-le-mul_right (2 ^ k) l in
    rw is (omega (arith, g, m))

pub half_in_face : (k i : ℕ) → k < 30 → i < 2 ^ (30 - k) → i / 2 < 2 ^ (30 - (k + 1))
half_in_face k i h l =
    let f : 30 - k ≡ suc (30 - (k + 1)) = omega arith in
    let g : 2 ^ (30 - k) ≡ 2 ^ (30 - (k + 1)) * 2 = ap (λ (t : ℕ). 2 ^ t) f ∙ pow-suc 2 (30 - (k + 1)) in
    omega (arith, g, l)

pub size_above : (k s : ℕ) → s ≡ 2 ^ k → 0 < s
size_above k s e = rw e (pow_pos k)

-- ---- places
low_most : (n : ℕ) → 2 ^ 60 ≤ n → n ≤ 2 ^ 62 → IsOnFace (pos (2 ^ 60) -ℤ pos n)
low_most n h k = omega (arith, ints)

high_most : (n : ℕ) → 2 ^ 60 ≤ n → n ≤ 2 ^ 62 → IsOnFace (pos n -ℤ pos (2 ^ 60))
high_most n h k = omega (arith, ints)

square_between : (t : ℕ) → 2 ^ 30 ≤ t → t ≤ 2 ^ 31 → (2 ^ 60 ≤ t * t) × (t * t ≤ 2 ^ 62)
square_between t h k =
    let l = mul-le-mul {n₁ = 2 ^ 30} {m₁ = 2 ^ 30} {n₂ = t} {m₂ = t} h h in
    let m = mul-le-mul {n₁ = t} {m₁ = t} {n₂ = 2 ^ 31} {m₂ = 2 ^ 31} k k in
    (omega (arith, l), omega (arith, m))

pub along_on_face : (t : ℕ) → t ≤ 2 ^ 31 → IsOnFace (along t)
along_on_face t h = by (nat_lt t (2 ^ 30)) refl
  where
    by : (c : Bool) → nat_lt t (2 ^ 30) ≡ c → IsOnFace (along t)
    by true e =
        let l = ltb-true t (2 ^ 30) e in
        let b = square_between (2 ^ 31 - t) (omega arith) (omega arith) in
        rw (low t l) (low_most ((2 ^ 31 - t) * (2 ^ 31 - t)) b.0 b.1)
    by false e =
        let l = ltb-false t (2 ^ 30) e in
        let b = square_between t l h in
        rw (high t l) (high_most (t * t) b.0 b.1)

pub along_place : (t : ℕ) → t ≤ 2 ^ 31 → IsPlace (along t)
along_place t h = let p = along_on_face t h in omega arith

pub line_placed : (at from to : ℕ) → at ≤ 2 ^ 31 → from ≤ 2 ^ 31 → to ≤ 2 ^ 31 → HasPlacesOfLine (line_of at from to)
line_placed at from to h k l = record {
  at = along_place at h;
  low = along_place (min from to) (omega arith);
  high = along_place (max from to) (omega arith);
}

pub line_is : (x y z a b c : ℤ) → FitsSigned w64 x → FitsSigned w64 y → FitsSigned w64 z → x ≡ a → y ≡ b → z ≡ c
    → ◌≡◌ {A = Line} (record {
      at = to_z w64 (of_z w64 x);
      low = to_z w64 (of_z w64 y);
      high = to_z w64
          (of_z w64 z);
    }) (record { at = a; low = b; high = c })
line_is x y z a b c f g h p q r =
    let p1 = to_z-of_z w64 x f ∙ p in
    let q1 = to_z-of_z w64 y g ∙ q in
    let r1 = to_z-of_z w64 z h ∙ r in
    rw (p1, q1, r1) refl

pub square_is : (x y z t a b c d : ℤ) → FitsSigned w64 x → FitsSigned w64 y → FitsSigned w64 z → FitsSigned w64 t → x
    ≡ a → y ≡ b → z ≡ c → t ≡ d
    → ◌≡◌ {A = Square} (record {
      u0 = to_z w64 (of_z w64 x);
      u1 = to_z w64 (of_z w64 y);
      v0 = to_z w64
          (of_z w64 z);
      v1 = to_z w64 (of_z w64 t);
    }) (record { u0 = a; u1 = b; v0 = c; v1 = d })
square_is x y z t a b c d f g h i p q r s =
    let p1 = to_z-of_z w64 x f ∙ p in
    let q1 = to_z-of_z w64 y g ∙ q in
    let r1 = to_z-of_z w64 z h ∙ r in
    let s1 = to_z-of_z w64 t i ∙ s in
    rw (p1, q1, r1, s1) refl

pub of_face : (k i j : ℕ) → k ≤ 30 → i < 2 ^ (30 - k) → j < 2 ^ (30 - k) → IsOfFace (square_of k i j)
of_face k i j h l m =
    let p = in_face k i (2 ^ k) h l refl in
    let q = in_face k j (2 ^ k) h m refl in
    record {
      u0 = along_on_face (2 * (i * 2 ^ k)) (omega (arith, p));
      u1 = along_on_face (2 * (i * 2 ^ k + 2 ^ k)) (omega (arith, p));
      v0 = along_on_face (2 * (j * 2 ^ k)) (omega (arith, q));
      v1 = along_on_face (2 * (j * 2 ^ k + 2 ^ k)) (omega (arith, q));
      wide = square_wide k i j;
      high = square_high k i j;
    }

-- ---- a margin
pub record MarginStep (code exact : ℤ) : Type 0 where
  pub fits : FitsSigned w64 code
  pub is : to_z w64 (of_z w64 code) ≡ exact
  pub place : IsPlace exact

near : (z : ℤ) → IsPlace z → MarginStep z z
near z p = let f : FitsSigned w64 z = omega (arith, ints) in record { fits = f; is = to_z-of_z w64 z f; place = p }

pub margin_is : (m : ℕ) → m ≤ 2 ^ 60 → to_z w64 m ≡ pos m
margin_is m h = to_z_pos w64 m (omega arith)

pub margin_off : (u : ℤ) (m : ℕ) → IsOnFace u → m ≤ 2 ^ 60 → MarginStep (u -ℤ to_z w64 m) (u -ℤ pos m)
margin_off u m f h = rw (margin_is m h) (near (u -ℤ pos m) (omega (arith, ints)))

pub margin_on : (u : ℤ) (m : ℕ) → IsOnFace u → m ≤ 2 ^ 60 → MarginStep (u +ℤ to_z w64 m) (u +ℤ pos m)
margin_on u m f h = rw (margin_is m h) (near (u +ℤ pos m) (omega (arith, ints)))

on_face_fits : (u : ℤ) → IsOnFace u → to_z w64 (of_z w64 u) ≡ u
on_face_fits u f = let g : FitsSigned w64 u = omega (arith, ints) in to_z-of_z w64 u g

-- the same of places that are read from bits
pub margin_off_read : (u : ℤ) (m : ℕ) → IsOnFace u → m ≤ 2 ^ 60 → MarginStep (to_z w64 (of_z w64 u) -ℤ to_z w64 m)
    (u -ℤ pos m)
margin_off_read u m f h = rw (on_face_fits u f) (margin_off u m f h)

pub margin_on_read : (u : ℤ) (m : ℕ) → IsOnFace u → m ≤ 2 ^ 60 → MarginStep (to_z w64 (of_z w64 u) +ℤ to_z w64 m)
    (u +ℤ pos m)
margin_on_read u m f h = rw (on_face_fits u f) (margin_on u m f h)

pub widened_is : (q : Square) (m : ℕ) → IsOfFace q → m ≤ 2 ^ 60 → ◌≡◌ {A = Square} (record {
  u0 = to_z w64 (of_z w64 (to_z w64 (of_z w64 q.u0) -ℤ to_z w64 m));
  u1 = to_z w64 (of_z w64 (to_z w64 (of_z w64 q.u1) +ℤ to_z w64 m));
  v0 = to_z w64 (of_z w64 (to_z w64 (of_z w64 q.v0) -ℤ to_z w64 m));
  v1 = to_z w64 (of_z w64 (to_z w64 (of_z w64 q.v1) +ℤ to_z w64 m));
}) (widened m q)
widened_is q m f h =
    let a = (margin_off_read q.u0 m f.u0 h).is in
    let b = (margin_on_read q.u1 m f.u1 h).is in
    let c = (margin_off_read q.v0 m f.v0 h).is in
    let d = (margin_on_read q.v1 m f.v1 h).is in
    rw (a, b, c, d) refl

wider : (a b : ℤ) (m : ℕ) → a <ℤ b → (a -ℤ pos m) <ℤ (b +ℤ pos m)
wider a b m h = omega (arith, ints)

pub widened_places : (q : Square) (m : ℕ) → IsOfFace q → m ≤ 2 ^ 60 → IsOfPlaces (widened m q)
widened_places q m f h = record {
  u0 = (margin_off q.u0 m f.u0 h).place;
  u1 = (margin_on q.u1 m f.u1 h).place;
  v0 = (margin_off q.v0 m f.v0 h).place;
  v1 = (margin_on q.v1 m f.v1 h).place;
  wide = wider q.u0 q.u1 m f.wide;
  high = wider q.v0 q.v1 m f.high;
}

pub step_is : (k i j : ℕ) (r s : Line) (fu fv tu tv : ℕ) → fu ≡ middle_of (k + 1) (i / 2) → fv ≡ middle_of (k + 1)
    (j / 2) → tu ≡ middle_of k i → tv ≡ middle_of k j
    → r ≡ line_of fv fu tu → s ≡ line_of tu fv tv → ◌≡◌ {A = Step} (record { row = r; column = s }) (places_of k i j)
step_is k i j r s fu fv tu tv e f g h p q =
    let one : k + 1 ≡ suc k = omega arith in
    let e1 = e ∙ ap (λ (t : ℕ). middle_of t (i / 2)) one in
    let f1 = f ∙ ap (λ (t : ℕ). middle_of t (j / 2)) one in
    rw (p, q, e1, f1, g, h) refl
