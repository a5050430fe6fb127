-- Sizes of the numbers of the map.
use Rattle.std.proofs.Common.{◌≡◌, ℕ, ◌+◌, ◌*◌, ◌^◌, ◌≤◌, ◌<◌, arith, ℤ, ◌-ℤ◌, ◌*ℤ◌, unsigned_abs}
use Rattle.std.proofs.Common.{to_z, of_z, w64}
use Rattle.std.proofs.lemmas.Int.{fits_signed_from_abs, to_z-of_z}
use mir.Syntax.{w128}
use Rattle.s2polygon.proofs.Sizes.{Step, difference_step, within_difference, within_product}
use Rattle.s2map.specs.Map.{side}
use Rattle.s2map.specs.Working.Sizes.{IsNear, IsNearEdge}
use Rattle.s2map.specs.declared.place.MapEdge.{MapEdge}
use Rattle.s2map.specs.declared.place.Place.{Place}

-- what is read from bits
kept_64 : (x : ℤ) → unsigned_abs x < 2 ^ 63 → to_z w64 (of_z w64 x) ≡ x
kept_64 x h = to_z-of_z w64 x (fits_signed_from_abs w64 x h)

-- a number that is a difference of two others
record Difference (r a b : ℤ) (n : ℕ) : Type 0 where
  is : r ≡ a -ℤ b
  small : unsigned_abs r ≤ n

difference : (r a b : ℤ) (n : ℕ) → n ≤ 2 ^ 61 → unsigned_abs a ≤ n → unsigned_abs b ≤ n
    → r ≡ to_z w64 (of_z w64 a) -ℤ to_z w64 (of_z w64 b) → Difference r a b (n + n)
difference r a b n l h k e =
    let f = kept_64 a (omega arith) in
    let g = kept_64 b (omega arith) in
    let is : r ≡ a -ℤ b = rw (f, g) at e in
    record { is = is; small = rw is (within_difference a b n n h k) }

-- a difference of two products, whose factors are differences of longitudes and of latitudes
products : (p q w n e h : ℤ) → p ≡ w *ℤ n → q ≡ e *ℤ h → unsigned_abs w ≤ 2 ^ 62 → unsigned_abs n ≤ 2 ^ 58
    → unsigned_abs e ≤ 2 ^ 62 → unsigned_abs h ≤ 2 ^ 58
    → Step (to_z w128 (of_z w128 p) -ℤ to_z w128 (of_z w128 q)) (w *ℤ n -ℤ e *ℤ h)
products p q w n e h hp hq lw ln le lh =
    let x = within_product w n (2 ^ 62) (2 ^ 58) lw ln in
    let y = within_product e h (2 ^ 62) (2 ^ 58) le lh in
    let z = within_difference (w *ℤ n) (e *ℤ h) (2 ^ 62 * 2 ^ 58) (2 ^ 62 * 2 ^ 58) x y in
    rw (hp, hq) (difference_step (w *ℤ n) (e *ℤ h) (omega arith) (omega arith) (omega arith))

-- a product of two numbers that are read from bits
read : (r a b : ℤ) → unsigned_abs a < 2 ^ 63 → unsigned_abs b < 2 ^ 63
    → r ≡ to_z w64 (of_z w64 a) *ℤ to_z w64 (of_z w64 b) → r ≡ a *ℤ b
read r a b h k e = rw (kept_64 a h, kept_64 b k) at e

-- the side of an edge, by the steps of the code
pub side_made : (edge : MapEdge) (place : Place) (w n e h p q : ℤ) → IsNearEdge edge → IsNear place
    → w ≡ to_z w64 (of_z w64 edge.b.longitude) -ℤ to_z w64 (of_z w64 edge.a.longitude)
    → n ≡ to_z w64 (of_z w64 place.latitude) -ℤ to_z w64 (of_z w64 edge.a.latitude)
    → e ≡ to_z w64 (of_z w64 place.longitude) -ℤ to_z w64 (of_z w64 edge.a.longitude)
    → h ≡ to_z w64 (of_z w64 edge.b.latitude) -ℤ to_z w64 (of_z w64 edge.a.latitude)
    → p ≡ to_z w64 (of_z w64 w) *ℤ to_z w64 (of_z w64 n) → q ≡ to_z w64 (of_z w64 e) *ℤ to_z w64 (of_z w64 h)
    → Step (to_z w128 (of_z w128 p) -ℤ to_z w128 (of_z w128 q)) (side edge place)
side_made edge place w n e h p q near there ew en ee eh ep eq =
    let dw = difference w edge.b.longitude edge.a.longitude (2 ^ 61) (omega arith) near.b.longitude near.a.longitude
    ew in
    let dn = difference n place.latitude edge.a.latitude (2 ^ 57) (omega arith) there.latitude near.a.latitude en in
    let de = difference e place.longitude edge.a.longitude (2 ^ 61) (omega arith) there.longitude near.a.longitude
    ee in
    let dh = difference h edge.b.latitude edge.a.latitude (2 ^ 57) (omega arith) near.b.latitude near.a.latitude eh in
    let sw = dw.small in
    let sn = dn.small in
    let se = de.small in
    let sh = dh.small in
    let fp = read p w n (omega arith) (omega arith) ep in
    let fq = read q e h (omega arith) (omega arith) eq in
    rw (← dw.is, ← dn.is, ← de.is, ← dh.is)
    (products p q w n e h fp fq (omega arith) (omega arith) (omega arith) (omega arith))
