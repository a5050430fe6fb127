-- Of all places of a box, the two corners that are asked lie farthest to the two sides of an edge.
use Rattle.std.proofs.Common.{◌≡◌, refl, ℤ, pos, ◌+ℤ◌, ◌-ℤ◌, ◌*ℤ◌, ◌≤ℤ◌, ◌<ℤ◌, arith, int_lt, ◌⊎◌, inl, inr}
use Rattle.std.proofs.Common.{Bool, true, false, cond}
use Rattle.std.proofs.Math.Bool.{beq}
use Rattle.std.proofs.lemmas.Int.{ints}
use Rattle.s2map.proofs.Answers.{lt_not, lt_out}
use Rattle.s2polygon.proofs.Integers.{at, ◌⊕◌, ◌⊖◌, ◌⊗◌, equal, product_at_least, product_at_most}
use Rattle.s2polygon.proofs.Quarters.{down_up}
use Rattle.s2map.proofs.Products.{product_of_opposites, side_at}
use Rattle.s2map.specs.Boxes.{InBox, east_corner, west_corner}
use Rattle.s2map.specs.Map.{side}
use Rattle.s2map.specs.declared.place.MapBox.{MapBox}
use Rattle.s2map.specs.declared.place.MapEdge.{MapEdge}
use Rattle.s2map.specs.declared.place.Place.{Place}

module _ (ax ay bx by x y u v : ℤ) where
  -- from the place (u, v) to the place (x, y)
  moved : side_at ax ay bx by x y ≡ side_at ax ay bx by u v +ℤ ((bx -ℤ ax) *ℤ (y -ℤ v) -ℤ (x -ℤ u) *ℤ (by -ℤ ay))
  moved = equal ((at bx ⊖ at ax) ⊗ (at y ⊖ at ay) ⊖ (at x ⊖ at ax) ⊗ (at by ⊖ at ay))
      ((at bx ⊖ at ax) ⊗ (at v ⊖ at ay) ⊖ (at u ⊖ at ax) ⊗ (at by ⊖ at ay)
      ⊕ ((at bx ⊖ at ax) ⊗ (at y ⊖ at v) ⊖ (at x ⊖ at u) ⊗ (at by ⊖ at ay))) (omega arith)

  lower : ((bx -ℤ ax) *ℤ (y -ℤ v)) ≤ℤ pos 0 → pos 0 ≤ℤ ((x -ℤ u) *ℤ (by -ℤ ay))
      → side_at ax ay bx by x y ≤ℤ side_at ax ay bx by u v
  lower h k = rw moved (omega (arith, ints))

  higher : pos 0 ≤ℤ ((bx -ℤ ax) *ℤ (y -ℤ v)) → ((x -ℤ u) *ℤ (by -ℤ ay)) ≤ℤ pos 0
      → side_at ax ay bx by u v ≤ℤ side_at ax ay bx by x y
  higher h k = rw moved (omega (arith, ints))

-- a number lies between two others
abbrev IsBetween : ℤ → ℤ → ℤ → Type 0
IsBetween s m n = ((m ≤ℤ s) × (s ≤ℤ n)) ⊎ ((n ≤ℤ s) × (s ≤ℤ m))

module _ (q : MapBox) (e : MapEdge) (r : Place) (i : InBox q r) where
  abbrev wide : ℤ
  wide = e.b.longitude -ℤ e.a.longitude

  abbrev high : ℤ
  high = e.b.latitude -ℤ e.a.latitude

  abbrev corner : ℤ → ℤ → Place
  corner x y = record { longitude = x; latitude = y }

  sunk : (x y : ℤ) → (wide *ℤ (r.latitude -ℤ y)) ≤ℤ pos 0 → pos 0 ≤ℤ ((r.longitude -ℤ x) *ℤ high)
      → side e r ≤ℤ side e (corner x y)
  sunk x y h k = lower e.a.longitude e.a.latitude e.b.longitude e.b.latitude r.longitude r.latitude x y h k

  raised : (x y : ℤ) → pos 0 ≤ℤ (wide *ℤ (r.latitude -ℤ y)) → ((r.longitude -ℤ x) *ℤ high) ≤ℤ pos 0
      → side e (corner x y) ≤ℤ side e r
  raised x y h k = higher e.a.longitude e.a.latitude e.b.longitude e.b.latitude r.longitude r.latitude x y h k

  from_west : pos 0 ≤ℤ (r.longitude -ℤ q.west)
  from_west = let h = i.west in omega (arith, ints)

  off_east : pos 0 ≤ℤ (pos 0 -ℤ (r.longitude -ℤ q.east))
  off_east = let h = i.east in omega (arith, ints)

  off_north : pos 0 ≤ℤ (pos 0 -ℤ (r.latitude -ℤ q.north))
  off_north = let h = i.north in omega (arith, ints)

  off : (z : ℤ) → z ≤ℤ pos 0 → pos 0 ≤ℤ (pos 0 -ℤ z)
  off z h = omega (arith, ints)

  from_east : (r.longitude -ℤ q.east) ≤ℤ pos 0
  from_east = let h = i.east in omega (arith, ints)

  from_south : pos 0 ≤ℤ (r.latitude -ℤ q.south)
  from_south = let h = i.south in omega (arith, ints)

  from_north : (r.latitude -ℤ q.north) ≤ℤ pos 0
  from_north = let h = i.north in omega (arith, ints)

  back : int_lt e.b.longitude e.a.longitude ≡ true → wide ≤ℤ pos 0
  back h = let l = lt_out e.b.longitude e.a.longitude h in omega (arith, ints)

  ahead : int_lt e.b.longitude e.a.longitude ≡ false → pos 0 ≤ℤ wide
  ahead h = let l = lt_not e.b.longitude e.a.longitude h in omega (arith, ints)

  down : int_lt e.b.latitude e.a.latitude ≡ true → high ≤ℤ pos 0
  down h = let l = lt_out e.b.latitude e.a.latitude h in omega (arith, ints)

  up : int_lt e.b.latitude e.a.latitude ≡ false → pos 0 ≤ℤ high
  up h = let l = lt_not e.b.latitude e.a.latitude h in omega (arith, ints)

  by_ways : (s t : Bool) → int_lt e.b.longitude e.a.longitude ≡ s → int_lt e.b.latitude e.a.latitude ≡ t
      → IsBetween (side e r) (side e (corner q.west (cond (beq s t) q.north q.south)))
      (side e (corner q.east (cond (beq s t) q.south q.north)))
  by_ways true true h k = inl (
    raised q.west q.north (product_of_opposites wide (r.latitude -ℤ q.north) (off wide (back h)) off_north)
        (product_at_most (r.longitude -ℤ q.west) high from_west (down k)),
    sunk q.east q.south (down_up wide (r.latitude -ℤ q.south) (back h) from_south)
        (product_of_opposites (r.longitude -ℤ q.east) high off_east (off high (down k))),
  )
  by_ways false false h k = inr (
    raised q.east q.south (product_at_least wide (r.latitude -ℤ q.south) (ahead h) from_south)
        (down_up (r.longitude -ℤ q.east) high from_east (up k)),
    sunk q.west q.north (product_at_most wide (r.latitude -ℤ q.north) (ahead h) from_north)
        (product_at_least (r.longitude -ℤ q.west) high from_west (up k)),
  )
  by_ways true false h k = inr (
    raised q.east q.north (product_of_opposites wide (r.latitude -ℤ q.north) (off wide (back h)) off_north)
        (down_up (r.longitude -ℤ q.east) high from_east (up k)),
    sunk q.west q.south (down_up wide (r.latitude -ℤ q.south) (back h) from_south)
        (product_at_least (r.longitude -ℤ q.west) high from_west (up k)),
  )
  by_ways false true h k = inl (
    raised q.west q.south (product_at_least wide (r.latitude -ℤ q.south) (ahead h) from_south)
        (product_at_most (r.longitude -ℤ q.west) high from_west (down k)),
    sunk q.east q.north (product_at_most wide (r.latitude -ℤ q.north) (ahead h) from_north)
        (product_of_opposites (r.longitude -ℤ q.east) high off_east (off high (down k))),
  )

  pub between : IsBetween (side e r) (side e (west_corner q e)) (side e (east_corner q e))
  between = by_ways (int_lt e.b.longitude e.a.longitude) (int_lt e.b.latitude e.a.latitude) refl refl

above : (s m n : ℤ) → IsBetween s m n → pos 0 <ℤ m → pos 0 <ℤ n → pos 0 <ℤ s
above s m n (inl b) h k = let l = b.0 in omega (arith, ints)
above s m n (inr b) h k = let l = b.0 in omega (arith, ints)

below : (s m n : ℤ) → IsBetween s m n → m <ℤ pos 0 → n <ℤ pos 0 → s <ℤ pos 0
below s m n (inl b) h k = let l = b.1 in omega (arith, ints)
below s m n (inr b) h k = let l = b.1 in omega (arith, ints)

module _ (q : MapBox) (e : MapEdge) where
  pub all_left : pos 0 <ℤ side e (west_corner q e) → pos 0 <ℤ side e (east_corner q e) → (r : Place) → InBox q r
      → pos 0 <ℤ side e r
  all_left h k r i = above (side e r) (side e (west_corner q e)) (side e (east_corner q e)) (between q e r i) h k

  pub all_right : side e (west_corner q e) <ℤ pos 0 → side e (east_corner q e) <ℤ pos 0 → (r : Place) → InBox q r
      → side e r <ℤ pos 0
  all_right h k r i = below (side e r) (side e (west_corner q e)) (side e (east_corner q e)) (between q e r i) h k
