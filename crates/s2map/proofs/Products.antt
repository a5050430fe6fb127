-- Signs of the side on which a place lies.
use Rattle.std.proofs.Common.{◌≡◌, arith, ℤ, pos, negsuc, ◌+ℤ◌, ◌-ℤ◌, ◌*ℤ◌, ◌≤ℤ◌, ◌<ℤ◌}
use Rattle.std.proofs.lemmas.Int.{ints}
use Rattle.s2polygon.proofs.Integers.{at, ◌⊕◌, ◌⊖◌, ◌⊗◌, equal, product_at_least, product_at_most}
use Rattle.s2polygon.proofs.Quarters.{down_up}
use Rattle.s2polygon.proofs.Rejects.{product_above, product_below}

-- a product of two numbers whose opposites are at least 0
pub product_of_opposites : (x y : ℤ) → pos 0 ≤ℤ (pos 0 -ℤ x) → pos 0 ≤ℤ (pos 0 -ℤ y) → pos 0 ≤ℤ (x *ℤ y)
product_of_opposites x y h k =
    let l = product_at_least (pos 0 -ℤ x) (pos 0 -ℤ y) h k in
    let e = equal ((at (pos 0) ⊖ at x) ⊗ (at (pos 0) ⊖ at y)) (at x ⊗ at y) (omega arith) in
    rw e at l

-- ---- the side of the edge from (ax, ay) to (bx, by) on which the place (x, y) lies
abbrev pub side_at : ℤ → ℤ → ℤ → ℤ → ℤ → ℤ → ℤ
side_at ax ay bx by x y = (bx -ℤ ax) *ℤ (y -ℤ ay) -ℤ (x -ℤ ax) *ℤ (by -ℤ ay)

module _ (ax ay bx by x y : ℤ) where
  -- by how far the place is above the two ends
  by_ends : side_at ax ay bx by x y ≡ (bx -ℤ x) *ℤ (y -ℤ ay) +ℤ (x -ℤ ax) *ℤ (y -ℤ by)
  by_ends = equal ((at bx ⊖ at ax) ⊗ (at y ⊖ at ay) ⊖ (at x ⊖ at ax) ⊗ (at by ⊖ at ay))
      ((at bx ⊖ at x) ⊗ (at y ⊖ at ay) ⊕ (at x ⊖ at ax) ⊗ (at y ⊖ at by)) (omega arith)

  -- the same by how far the two ends are above the place
  by_ends_above : side_at ax ay bx by x y ≡ (x -ℤ bx) *ℤ (ay -ℤ y) +ℤ (ax -ℤ x) *ℤ (by -ℤ y)
  by_ends_above = equal ((at bx ⊖ at ax) ⊗ (at y ⊖ at ay) ⊖ (at x ⊖ at ax) ⊗ (at by ⊖ at ay))
      ((at x ⊖ at bx) ⊗ (at ay ⊖ at y) ⊕ (at ax ⊖ at x) ⊗ (at by ⊖ at y)) (omega arith)

  -- a place between the ends that lies north of both, or level with them
  pub north_of_east : ax ≤ℤ x → x <ℤ bx → ay ≤ℤ y → by ≤ℤ y → pos 0 ≤ℤ side_at ax ay bx by x y
  north_of_east h k l m =
      let p = product_at_least (bx -ℤ x) (y -ℤ ay) (omega (arith, ints)) (omega (arith, ints)) in
      let q = product_at_least (x -ℤ ax) (y -ℤ by) (omega (arith, ints)) (omega (arith, ints)) in
      rw by_ends (omega (arith, ints))

  pub north_of_west : bx ≤ℤ x → x <ℤ ax → ay ≤ℤ y → by ≤ℤ y → side_at ax ay bx by x y ≤ℤ pos 0
  north_of_west h k l m =
      let p = product_at_most (x -ℤ bx) (ay -ℤ y) (omega (arith, ints)) (omega (arith, ints)) in
      let q = product_at_most (ax -ℤ x) (by -ℤ y) (omega (arith, ints)) (omega (arith, ints)) in
      rw by_ends_above (omega (arith, ints))

  -- one that lies south of both
  pub south_of_east : ax ≤ℤ x → x <ℤ bx → y <ℤ ay → y <ℤ by → side_at ax ay bx by x y <ℤ pos 0
  south_of_east h k l m =
      let p = product_below (bx -ℤ x) (y -ℤ ay) (omega (arith, ints)) (omega (arith, ints)) in
      let q = product_at_most (x -ℤ ax) (y -ℤ by) (omega (arith, ints)) (omega (arith, ints)) in
      rw by_ends (omega (arith, ints))

  pub south_of_west : bx ≤ℤ x → x <ℤ ax → y <ℤ ay → y <ℤ by → pos 0 <ℤ side_at ax ay bx by x y
  south_of_west h k l m =
      let p = product_at_least (x -ℤ bx) (ay -ℤ y) (omega (arith, ints)) (omega (arith, ints)) in
      let q = product_above (ax -ℤ x) (by -ℤ y) (omega (arith, ints)) (omega (arith, ints)) in
      rw by_ends_above (omega (arith, ints))

module _ (ax ay bx by y : ℤ) where
  pub at_a : side_at ax ay bx by ax y ≡ (bx -ℤ ax) *ℤ (y -ℤ ay)
  at_a = equal ((at bx ⊖ at ax) ⊗ (at y ⊖ at ay) ⊖ (at ax ⊖ at ax) ⊗ (at by ⊖ at ay))
      ((at bx ⊖ at ax) ⊗ (at y ⊖ at ay)) (omega arith)

  pub at_b : side_at ax ay bx by bx y ≡ (bx -ℤ ax) *ℤ (y -ℤ by)
  at_b = equal ((at bx ⊖ at ax) ⊗ (at y ⊖ at ay) ⊖ (at bx ⊖ at ax) ⊗ (at by ⊖ at ay))
      ((at bx ⊖ at ax) ⊗ (at y ⊖ at by)) (omega arith)

-- a product with its first factor known: the sign of the other
pub not_below : (w z : ℤ) → pos 0 ≤ℤ w → pos 0 <ℤ (w *ℤ z) → pos 0 ≤ℤ z
not_below w (pos b) h k = omega (arith, ints)
not_below w (negsuc b) h k =
    let l = product_at_most w (negsuc b) h (omega (arith, ints)) in absurd (omega (arith, ints))

pub not_above : (w z : ℤ) → w <ℤ pos 0 → pos 0 <ℤ (w *ℤ z) → z <ℤ pos 0
not_above w (pos b) h k =
    let l = down_up w (pos b) (omega (arith, ints)) (omega (arith, ints)) in absurd (omega (arith, ints))
not_above w (negsuc b) h k = omega (arith, ints)

pub not_below_0 : (w z : ℤ) → w ≤ℤ pos 0 → (w *ℤ z) <ℤ pos 0 → pos 0 ≤ℤ z
not_below_0 w (pos b) h k = omega (arith, ints)
not_below_0 w (negsuc b) h k =
    let l = product_of_opposites w (negsuc b) (omega (arith, ints)) (omega (arith, ints)) in
    absurd (omega (arith, ints))

pub not_above_0 : (w z : ℤ) → pos 0 <ℤ w → (w *ℤ z) <ℤ pos 0 → z <ℤ pos 0
not_above_0 w (pos b) h k =
    let l = product_at_least w (pos b) (omega (arith, ints)) (omega (arith, ints)) in absurd (omega (arith, ints))
not_above_0 w (negsuc b) h k = omega (arith, ints)
