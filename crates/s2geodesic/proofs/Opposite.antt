-- The leaf that is farthest behind a plane, on the face where the plane is farthest from the middle.
use Rattle.std.proofs.Common.{◌≡◌, sym, subst, ap, ◌∙◌, ℕ, ◌/◌, ◌^◌, arith, ℤ, pos, neg_ℤ, ◌+ℤ◌, ◌-ℤ◌, ◌*ℤ◌, ◌≤ℤ◌, ◌<ℤ◌}
use Rattle.std.proofs.Common.{◌≤◌, to_z, of_z, unsigned_abs, w64}
use Rattle.std.proofs.lemmas.Int.{fits_signed_from_abs, ints, to_z-of_z}
use Rattle.s2cell.proofs.Places.{place_is}
use Rattle.s2cell.proofs.Squares.{one_place}
use Rattle.s2cell.specs.Curve.{IsPlaceOf, i_of, j_of}
use Rattle.s2geodesic.proofs.Sides.{far}
use Rattle.s2geodesic.specs.Halves.{IsBehind}
use Rattle.s2geodesic.specs.Working.Places.{IsFarLeaf, IsFarthest, LieFar}
use Rattle.s2polygon.proofs.Integers.{at, ◌⊖◌, ◌⊗◌, equal, product_at_most, weaken}
use Rattle.s2polygon.proofs.Quarters.{down_up}
use Rattle.s2polygon.proofs.Turned.{minus_is}
use Rattle.s2polygon.specs.Cells.{square_of, widened}
use Rattle.s2polygon.specs.Directions.{Point}
use Rattle.s2polygon.specs.Frames.{in_frame}
use Rattle.s2polygon.specs.Meets.{InSquare}
use Rattle.s2polygon.specs.Moves.{product_of}

pub far_leaf : (x face i j : ℕ) (u v : ℤ) → IsPlaceOf x face i j → IsFarthest u i → IsFarthest v j
    → IsFarLeaf face u v x
far_leaf x face i j u v place row column =
    let same = one_place x face i j (x / 4 ^ 30) (i_of x) (j_of x) place (place_is x) in
    record {
      face_is = sym same.0;
      rows = λ c within. far u (i_of x) c.w c.u (subst (IsFarthest u) same.1 row) within.first_column
          within.last_column;
      columns = λ c within. far v (j_of x) c.w c.v (subst (IsFarthest v) same.2 column) within.first_row
          within.last_row;
    }

sum_down : (p q r : ℤ) → p ≤ℤ pos 0 → q ≤ℤ pos 0 → r ≤ℤ pos 0 → (p +ℤ q +ℤ r) ≤ℤ pos 0
sum_down p q r h k l = omega (arith, ints, h, k, l)

minus_up : (p : ℤ) → pos 0 ≤ℤ neg_ℤ p → p ≤ℤ pos 0
minus_up p h = omega (arith, ints, h)

without_minus : (n p : ℤ) → (neg_ℤ n *ℤ neg_ℤ p) ≤ℤ pos 0 → (n *ℤ p) ≤ℤ pos 0
without_minus n p h =
    subst (λ (z : ℤ). z ≤ℤ pos 0)
    (ap (λ (z : ℤ). z *ℤ neg_ℤ p) (minus_is n) ∙ ap (λ (z : ℤ). (pos 0 -ℤ n) *ℤ z) (minus_is p)
    ∙ equal ((at (pos 0) ⊖ at n) ⊗ (at (pos 0) ⊖ at p)) (at n ⊗ at p) (omega arith)) h

behind_on : (n : Point) (f x : ℕ) (u v : ℤ) → IsFarLeaf f u v x
    → ((p : Point) → LieFar u (in_frame f p).w (in_frame f p).u → LieFar v (in_frame f p).w (in_frame f p).v
    → product_of n p ≤ℤ pos 0)
    → IsBehind n (2 ^ 60) x
behind_on n f x u v leaf most p within =
    let there = subst (λ (g : ℕ). InSquare (in_frame g p) (widened (2 ^ 60) (square_of 0 (i_of x) (j_of x))))
    leaf.face_is within in
    most p (leaf.rows (in_frame f p) there) (leaf.columns (in_frame f p) there)

-- what code passes on is the number itself
pub kept : (n : ℤ) → unsigned_abs n ≤ 2 ^ 62 → to_z w64 (of_z w64 n) ≡ n
kept n h = to_z-of_z w64 n (fits_signed_from_abs w64 n (omega (arith, h)))

pub kept_sign : (n : ℤ) → unsigned_abs n ≤ 1 → to_z w64 (of_z w64 n) ≡ n
kept_sign n h = kept n (omega (arith, h))

pub minus_kept : (n : ℤ) → unsigned_abs n ≤ 1 → to_z w64 (of_z w64 (pos 0 -ℤ to_z w64 (of_z w64 n))) ≡ neg_ℤ n
minus_kept n h =
    let small : unsigned_abs (pos 0 -ℤ n) ≤ 1 = omega (arith, ints, h) in
    let same : pos 0 -ℤ n ≡ neg_ℤ n = omega (arith, ints) in
    rw (kept_sign n h) (kept_sign (pos 0 -ℤ n) small ∙ same)

pub as_given : (f : ℕ) (p q u v : ℤ) (leaf : ℕ) → IsFarLeaf f p q leaf → p ≡ u → q ≡ v → IsFarLeaf f u v leaf
as_given f p q u v leaf h e g = subst (λ (m : ℤ). IsFarLeaf f m v leaf) e (subst (λ (m : ℤ). IsFarLeaf f p m leaf) g h)

module _ (x y z : ℤ) (leaf : ℕ) where
  abbrev normal : Point
  normal = record { x = x; y = y; z = z }

  pub behind_0 : IsFarLeaf 0 y z leaf → x <ℤ pos 0 → IsBehind normal (2 ^ 60) leaf
  behind_0 far_leaf h = behind_on normal 0 leaf y z far_leaf (λ p rows columns.
      sum_down (x *ℤ p.x) (y *ℤ p.y) (z *ℤ p.z) (down_up x p.x (weaken x (pos 0) h) rows.ahead) rows.off columns.off)

  pub behind_1 : IsFarLeaf 1 (neg_ℤ x) z leaf → y <ℤ pos 0 → IsBehind normal (2 ^ 60) leaf
  behind_1 far_leaf h = behind_on normal 1 leaf (neg_ℤ x) z far_leaf (λ p rows columns.
      sum_down (x *ℤ p.x) (y *ℤ p.y) (z *ℤ p.z) (without_minus x p.x rows.off)
      (down_up y p.y (weaken y (pos 0) h) rows.ahead) columns.off)

  pub behind_2 : IsFarLeaf 2 (neg_ℤ x) (neg_ℤ y) leaf → z <ℤ pos 0 → IsBehind normal (2 ^ 60) leaf
  behind_2 far_leaf h = behind_on normal 2 leaf (neg_ℤ x) (neg_ℤ y) far_leaf (λ p rows columns.
      sum_down (x *ℤ p.x) (y *ℤ p.y) (z *ℤ p.z) (without_minus x p.x rows.off) (without_minus y p.y columns.off)
      (down_up z p.z (weaken z (pos 0) h) rows.ahead))

  pub behind_3 : IsFarLeaf 3 (neg_ℤ z) (neg_ℤ y) leaf → pos 0 <ℤ x → IsBehind normal (2 ^ 60) leaf
  behind_3 far_leaf h = behind_on normal 3 leaf (neg_ℤ z) (neg_ℤ y) far_leaf (λ p rows columns.
      sum_down (x *ℤ p.x) (y *ℤ p.y) (z *ℤ p.z)
      (product_at_most x p.x (weaken (pos 0) x h) (minus_up p.x rows.ahead)) (without_minus y p.y columns.off)
      (without_minus z p.z rows.off))

  pub behind_4 : IsFarLeaf 4 (neg_ℤ z) x leaf → pos 0 <ℤ y → IsBehind normal (2 ^ 60) leaf
  behind_4 far_leaf h = behind_on normal 4 leaf (neg_ℤ z) x far_leaf (λ p rows columns.
      sum_down (x *ℤ p.x) (y *ℤ p.y) (z *ℤ p.z) columns.off
      (product_at_most y p.y (weaken (pos 0) y h) (minus_up p.y rows.ahead)) (without_minus z p.z rows.off))

  pub behind_5 : IsFarLeaf 5 y x leaf → pos 0 ≤ℤ z → IsBehind normal (2 ^ 60) leaf
  behind_5 far_leaf h = behind_on normal 5 leaf y x far_leaf (λ p rows columns.
      sum_down (x *ℤ p.x) (y *ℤ p.y) (z *ℤ p.z) columns.off rows.off
      (product_at_most z p.z h (minus_up p.z rows.ahead)))
