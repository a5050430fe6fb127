-- True corners are near to rounded ones.
use Rattle.std.proofs.Common.{◌≡◌, refl, sym, ap, ◌∙◌, ℕ, zero, suc, ◌+◌, ◌-◌, ◌*◌, ◌≤◌, ◌<◌, arith, ℤ, pos}
use Rattle.std.proofs.Common.{◌-ℤ◌, ◌*ℤ◌, unsigned_abs, mul-le-mul_left, mul-le-mul_right, Bool, true, false, nat_lt}
use Rattle.std.proofs.Common.{ltb-true, ltb-false, List, [], ◌∷◌, ◌++◌, All, drop, get_or, length, take}
use Rattle.std.proofs.lemmas.Int.{ints, unsigned_abs-mul}
use Rattle.std.proofs.lemmas.List.Elements.{All-head, All-nil, All-tail, All-cons}
use Rattle.std.specs.List.{AllZip}
use Rattle.s2degrees.specs.Directions.{IsOnGrid}
use Rattle.s2geodesic.specs.Rounded.{AreTrue}
use Rattle.s2map.specs.declared.place.Place.{Place}
use Rattle.s2polygon.proofs.Integers.{at, ◌⊖◌, ◌⊗◌, equal}
use Rattle.s2polygon.specs.Directions.{Point}
use Rattle.s2polygon.specs.Moves.{IsNearBy, IsOffMiddles, PassesNear}
use Rattle.s2polygon.specs.Rings.{corner, start_of}
use Rattle.s2shape.specs.declared.shape.Position.{Position}
use Rattle.s2written.proofs.Maps.{places_next, zip_push}
use Rattle.s2written.specs.Geodesics.{AreTrueCorners, IsBeside, IsRoundedCorner, IsTrueCorner}
use Rattle.s2written.specs.Maps.{IsPlaceOf, between, corners_of}
use Rattle.s2written.specs.Working.Corners.{HasCorners}

-- ---- one coordinate
scaled_apart : (d q a : ℤ) (scale b : ℕ) → (q -ℤ pos scale *ℤ d) *ℤ pos b
    ≡ (q *ℤ pos b -ℤ pos scale *ℤ (pos 2147483647 *ℤ a)) -ℤ pos scale *ℤ (d *ℤ pos b -ℤ pos 2147483647 *ℤ a)
scaled_apart d q a scale b =
    equal ((at q ⊖ at (pos scale) ⊗ at d) ⊗ at (pos b))
    ((at q ⊗ at (pos b) ⊖ at (pos scale) ⊗ (at (pos 2147483647) ⊗ at a)) ⊖
    at (pos scale) ⊗ (at d ⊗ at (pos b) ⊖ at (pos 2147483647) ⊗ at a)) (omega arith)

size_of_difference : (x y : ℤ) → unsigned_abs (x -ℤ y) ≤ unsigned_abs x + unsigned_abs y
size_of_difference x y = omega (arith, ints)

near_by : (d q a : ℤ) (scale b : ℕ) → 0 < b → IsOnGrid d a b → IsBeside scale q a b → IsNearBy 502 1000 scale d q
near_by d q a scale b some grid beside =
    let x = q *ℤ pos b -ℤ pos scale *ℤ (pos 2147483647 *ℤ a) in
    let y = d *ℤ pos b -ℤ pos 2147483647 *ℤ a in
    let z = unsigned_abs (q -ℤ pos scale *ℤ d) in
    let size : z * b ≡ unsigned_abs (x -ℤ pos scale *ℤ y) =
    sym (unsigned_abs-mul (q -ℤ pos scale *ℤ d) (pos b)) ∙ ap unsigned_abs (scaled_apart d q a scale b) in
    let sum = size_of_difference x (pos scale *ℤ y) in
    let part : unsigned_abs (pos scale *ℤ y) ≡ scale * unsigned_abs y = unsigned_abs-mul (pos scale) y in
    let most = mul-le-mul_left scale grid in
    by (unsigned_abs x) (unsigned_abs (pos scale *ℤ y)) (unsigned_abs (x -ℤ pos scale *ℤ y)) (unsigned_abs y) z size sum
    part beside most (nat_lt (502 * scale) (1000 * z)) refl
  where
    by : (x y n v z : ℕ) → z * b ≡ n → n ≤ x + y → y ≡ scale * v → 1000 * x ≤ scale * b
        → scale * (1000 * v) ≤ scale * (501 * b) → (t : Bool) → nat_lt (502 * scale) (1000 * z) ≡ t
        → 1000 * z ≤ 502 * scale
    by x y n v z e f g i h false r = ltb-false (502 * scale) (1000 * z) r
    by x y n v z e f g i h true r =
        let l = ltb-true (502 * scale) (1000 * z) r in
        let next : 502 * scale + 1 ≤ 1000 * z = omega (arith, l) in
        let more = mul-le-mul_right b next in
        absurd (omega (arith, e, f, g, i, h, more, some))

-- ---- corners
passes_near : (p : Place) (d q : Point) → IsRoundedCorner p d → IsTrueCorner p q → PassesNear 502 1000 d q
passes_near p d q is t =
    let a = t.longitude_cosine in
    let b = t.longitude_sine in
    let c = t.latitude_cosine in
    let e = t.latitude_sine in
    record {
      scale = t.scale;
      some = t.some;
      x = near_by d.x q.x (a.over *ℤ c.over) t.scale (a.under * c.under) (both a.under c.under a.some c.some)
          (is.x a.over c.over a.under c.under a.is c.is) t.x;
      y = near_by d.y q.y (b.over *ℤ c.over) t.scale (b.under * c.under) (both b.under c.under b.some c.some)
          (is.y b.over c.over b.under c.under b.is c.is) t.y;
      z = near_by d.z q.z e.over t.scale e.under e.some (is.z e.over e.under e.is) t.z;
    }
  where
    both : (m n : ℕ) → 0 < m → 0 < n → 0 < m * n
    both m n h k =
        let one : 1 ≤ m = omega arith in
        let more = mul-le-mul_right n one in
        omega (arith, more, k)

all_near : (places : List Place) (corners moved : List Point) → AllZip IsRoundedCorner places corners
    → AllZip IsTrueCorner places moved → AllZip (PassesNear 502 1000) corners moved
all_near [] [] [] h k = tt
all_near [] (c ∷ cs) ms h k = absurd h
all_near [] [] (m ∷ ms) h k = absurd k
all_near (p ∷ ps) [] ms h k = absurd h
all_near (p ∷ ps) (c ∷ cs) [] h k = absurd k
all_near (p ∷ ps) (c ∷ cs) (m ∷ ms) h k = (passes_near p c m h.0 k.0, all_near ps cs ms h.1 k.1)

-- ---- parts of lists
zip_drop : {A B : Type 0} (R : A → B → Type 0) (n : ℕ) (xs : List A) (ys : List B) → AllZip R xs ys
    → AllZip R (drop n xs) (drop n ys)
zip_drop R zero xs ys h = h
zip_drop R (suc n) [] [] h = tt
zip_drop R (suc n) [] (y ∷ ys) h = absurd h
zip_drop R (suc n) (x ∷ xs) [] h = absurd h
zip_drop R (suc n) (x ∷ xs) (y ∷ ys) h = zip_drop R n xs ys h.1

zip_take : {A B : Type 0} (R : A → B → Type 0) (n : ℕ) (xs : List A) (ys : List B) → AllZip R xs ys
    → AllZip R (take n xs) (take n ys)
zip_take R zero xs ys h = tt
zip_take R (suc n) [] [] h = tt
zip_take R (suc n) [] (y ∷ ys) h = absurd h
zip_take R (suc n) (x ∷ xs) [] h = absurd h
zip_take R (suc n) (x ∷ xs) (y ∷ ys) h = (h.0, zip_take R n xs ys h.1)

all_drop : {A : Type 0} (P : A → Type 0) (n : ℕ) (xs : List A) → All P xs → All P (drop n xs)
all_drop P zero xs h = h
all_drop P (suc n) [] h = h
all_drop P (suc n) (x ∷ xs) h = all_drop P n xs (All-tail P x xs h)

all_take : {A : Type 0} (P : A → Type 0) (n : ℕ) (xs : List A) → All P xs → All P (take n xs)
all_take P zero xs h = All-nil P
all_take P (suc n) [] h = h
all_take P (suc n) (x ∷ xs) h = All-cons P x (take n xs) (All-head P x xs h) (all_take P n xs (All-tail P x xs h))

as_many : (R : Point → Point → Type 0) (xs ys : List Point) → AllZip R xs ys → length ys ≡ length xs
as_many R [] [] h = refl
as_many R [] (y ∷ ys) h = absurd h
as_many R (x ∷ xs) [] h = absurd h
as_many R (x ∷ xs) (y ∷ ys) h = ap suc (as_many R xs ys h.1)

each_of : (R : Point → Point → Type 0) (xs ys : List Point) → AllZip R xs ys → (i : ℕ) → i < length xs
    → R (corner xs i) (corner ys i)
each_of R [] [] h i l = absurd (omega (arith, l))
each_of R [] (y ∷ ys) h i l = absurd h
each_of R (x ∷ xs) [] h i l = absurd h
each_of R (x ∷ xs) (y ∷ ys) h zero l = h.0
each_of R (x ∷ xs) (y ∷ ys) h (suc i) l = each_of R xs ys h.1 i (omega (arith, l))

-- the true corners of a part
pub true_part : (places : List Place) (corners moved : List Point) (rings : List ℕ) (first end : ℕ)
    → AllZip IsRoundedCorner places corners → AreTrueCorners places moved
    → AreTrue (corners_of corners rings first end) (corners_of moved rings first end)
true_part places corners moved rings first end h t =
    let a = start_of rings first in
    let b = start_of rings end in
    let near = zip_take (PassesNear 502 1000) (b - a) (drop a corners) (drop a moved)
    (zip_drop (PassesNear 502 1000) a corners moved (all_near places corners moved h t.near)) in
    record {
      near = record {
        as_many = as_many (PassesNear 502 1000) (between a b corners) (between a b moved) near;
        near = each_of (PassesNear 502 1000) (between a b corners) (between a b moved) near;
      };
      off = all_take IsOffMiddles (b - a) (drop a moved) (all_drop IsOffMiddles a moved t.off);
    }

-- ---- one more position
pub corners_next : (positions : List Position) (i : ℕ) (corners : List Point) (q : Position) (p : Place) (d : Point)
    → i < length positions → q ≡ get_or positions i q → HasCorners (take i positions) corners → IsPlaceOf q p
    → IsRoundedCorner p d → HasCorners (take (i + 1) positions) (corners ++ (d ∷ []))
corners_next positions i corners q p d l read h is rounded = (
  h.0 ++ (p ∷ []),
  record {
    are_places = places_next positions i h.0 q p l read h.1.are_places is;
    rounded = zip_push IsRoundedCorner h.0 corners p d h.1.rounded rounded;
  },
)
