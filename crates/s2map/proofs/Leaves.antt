-- Each place of the map is held by a leaf.
use Rattle.std.proofs.Common.{◌≡◌, refl, sym, subst, ◌∙◌, ℕ, zero, suc, ◌+◌, ◌-◌, ◌*◌, ◌/◌, ◌%◌, ◌^◌, ◌<◌, ◌≤◌, arith}
use Rattle.std.proofs.Common.{inl, inr}
use Rattle.std.proofs.Common.{Bool, true, false, ℤ, pos, negsuc, neg_ℤ, ◌-ℤ◌, ◌*ℤ◌, ◌≤ℤ◌, ◌<ℤ◌, int_le, lit<}
use Rattle.std.proofs.lemmas.Bool.{cases_lt}
use Rattle.std.proofs.lemmas.Int.{ints}
use Rattle.s2cell.proofs.Places.{leaf_exists, place_is}
use Rattle.s2cell.proofs.Squares.{one_place, place_of_leaf}
use Rattle.s2cell.specs.Curve.{i_of, j_of}
use Rattle.s2cell.specs.declared.TheConstants.{LEAVES}
use Rattle.s2degrees.specs.Degrees.{IsCosine, IsSine, quarter}
use Rattle.s2degrees.specs.Femtodegrees.{with_sign}
use Rattle.s2polygon.specs.Cells.{square}
use Rattle.s2polygon.specs.Directions.{Point}
use Rattle.s2polygon.specs.Frames.{in_frame}
use Rattle.s2polygon.specs.Meets.{InSquare}
use Rattle.s2polygon.specs.Places.{along}
use Rattle.s2polygon.specs.declared.frames.Framed.{Framed}
use Rattle.s2map.proofs.Answers.{le_not, le_out}
use Rattle.s2map.proofs.Folding.{none_at_0}
use Rattle.s2map.proofs.Octants.{axis_some, cosine_under_some, sine_under_some}
use Rattle.s2map.proofs.Sides.{located, none_of}
use Rattle.s2map.specs.Cells.{HasDirection, HasSides, HoldsPlace, IsProperPlace}
use Rattle.s2map.specs.Working.Octants.{IsAt, whole}
use Rattle.s2map.specs.declared.place.Place.{Place}

-- ---- a direction of the place
pub sides_by : (angle : ℤ) (sine : (a : ℤ) × (b : ℕ) × IsSine angle a b)
    (cosine : (a : ℤ) × (b : ℕ) × IsCosine angle a b)
    → HasSides angle (sine.0 *ℤ pos cosine.1) (cosine.0 *ℤ pos sine.1) (sine.1 * cosine.1)
sides_by angle sine cosine = record {
  a = sine.0;
  b = sine.1;
  k = cosine.0;
  e = cosine.1;
  sine = sine.2;
  cosine = cosine.2;
  s_is = refl;
  c_is = refl;
  d_is = refl;
}

signed : (z : ℤ) → (r : Bool) × (n : ℕ) × (z ≡ with_sign r n)
signed (pos n) = (false, n, refl)
signed (negsuc n) = (true, suc n, refl)

some_east : (t m x y z : ℕ) → IsAt t m x y z → 1 ≤ x + y
some_east t m x y z at = elim (cases_lt 0 (x + y)) [
  | inl some ↦ some
  | inr none ↦
      let x-none : at.k * at.b * (at.g * at.h) ≡ 0 = sym at.x_is ∙ omega (arith, none) in
      let y-none : at.a * at.e * (at.g * at.h) ≡ 0 = sym at.y_is ∙ omega (arith, none) in
      let axis = axis_some t m x y z at in
      let k = none_of at.k at.b (at.g * at.h) (sine_under_some t m x y z at) axis x-none in
      let a = none_of at.a at.e (at.g * at.h) (cosine_under_some t m x y z at) axis y-none in
      let last = none_at_0 (quarter - t) at.k at.e k at.east_cosine in
      let first = none_at_0 t at.a at.b a at.east_sine in
      absurd (omega (arith, first, last))
]

-- ---- the face before which a direction lies
record Within (z : ℤ) (w : ℕ) : Type 0 where
  low : neg_ℤ (pos w) ≤ℤ z
  high : z ≤ℤ pos w

within : (z : ℤ) (r : Bool) (n w : ℕ) → z ≡ with_sign r n → n ≤ w → Within z w
within z true n w e h = record { low = omega (arith, ints, e, h); high = omega (arith, ints, e, h) }
within z false n w e h = record { low = omega (arith, ints, e, h); high = omega (arith, ints, e, h) }

mirrored : (z : ℤ) (w : ℕ) → Within z w → Within (neg_ℤ z) w
mirrored z w h = record { low = omega (arith, ints, h.high); high = omega (arith, ints, h.low) }

record Before (d : Point) : Type 0 where
  f : ℕ
  w : ℕ
  six : f < 6
  some : 0 < w
  w_is : (in_frame f d).w ≡ pos w
  u : Within (in_frame f d).u w
  v : Within (in_frame f d).v w

module _ (d : Point) (x y z : ℕ) where
  before_x : (r s t : Bool) → d.x ≡ with_sign r x → d.y ≡ with_sign s y → d.z ≡ with_sign t z → 0 < x → y ≤ x
      → z ≤ x → Before d
  before_x false s t ex ey ez some hy hz = record {
    f = 0;
    w = x;
    six = lit< tt;
    some = some;
    w_is = ex;
    u = within d.y s y x ey hy;
    v = within d.z t z x ez hz;
  }
  before_x true s t ex ey ez some hy hz = record {
    f = 3;
    w = x;
    six = lit< tt;
    some = some;
    w_is = omega (arith, ints, ex);
    u = mirrored d.z x (within d.z t z x ez hz);
    v = mirrored d.y x (within d.y s y x ey hy);
  }

  before_y : (r s t : Bool) → d.x ≡ with_sign r x → d.y ≡ with_sign s y → d.z ≡ with_sign t z → 0 < y → x ≤ y
      → z ≤ y → Before d
  before_y r false t ex ey ez some hx hz = record {
    f = 1;
    w = y;
    six = lit< tt;
    some = some;
    w_is = ey;
    u = mirrored d.x y (within d.x r x y ex hx);
    v = within d.z t z y ez hz;
  }
  before_y r true t ex ey ez some hx hz = record {
    f = 4;
    w = y;
    six = lit< tt;
    some = some;
    w_is = omega (arith, ints, ey);
    u = mirrored d.z y (within d.z t z y ez hz);
    v = within d.x r x y ex hx;
  }

  before_z : (r s t : Bool) → d.x ≡ with_sign r x → d.y ≡ with_sign s y → d.z ≡ with_sign t z → 0 < z → x ≤ z
      → y ≤ z → Before d
  before_z r s false ex ey ez some hx hy = record {
    f = 2;
    w = z;
    six = lit< tt;
    some = some;
    w_is = ez;
    u = mirrored d.x z (within d.x r x z ex hx);
    v = mirrored d.y z (within d.y s y z ey hy);
  }
  before_z r s true ex ey ez some hx hy = record {
    f = 5;
    w = z;
    six = lit< tt;
    some = some;
    w_is = omega (arith, ints, ez);
    u = within d.y s y z ey hy;
    v = within d.x r x z ex hx;
  }

  before : (r s t : Bool) → d.x ≡ with_sign r x → d.y ≡ with_sign s y → d.z ≡ with_sign t z → 1 ≤ x + y → Before d
  before r s t ex ey ez some = elim (cases_lt x y) [
    | inr xy ↦ elim (cases_lt x z) [
      | inr xz ↦ before_x r s t ex ey ez (omega (arith, some, xy)) xy xz
      | inl zx ↦ before_z r s t ex ey ez (omega (arith, zx)) (omega (arith, zx)) (omega (arith, zx, xy))
    ]
    | inl yx ↦ elim (cases_lt y z) [
      | inr yz ↦ before_y r s t ex ey ez (omega (arith, yx)) (omega (arith, yx)) yz
      | inl zy ↦ before_z r s t ex ey ez (omega (arith, zy)) (omega (arith, zy, yx)) (omega (arith, zy))
    ]
  ]

-- ---- the column or the row of leaves in which a place along a face lies
between : (g : ℕ → ℤ) (z : ℤ) (n : ℕ) → g 0 ≤ℤ z → z ≤ℤ g (n + 1)
    → (i : ℕ) × (i < n + 1) × (g i ≤ℤ z) × (z ≤ℤ g (i + 1))
between g z zero low high = (0, omega arith, low, high)
between g z (suc n) low high = by (int_le (g (n + 1)) z) refl (λ below. between g z n low below)
  where
    by : (c : Bool) → int_le (g (n + 1)) z ≡ c
        → (z ≤ℤ g (n + 1) → (i : ℕ) × (i < n + 1) × (g i ≤ℤ z) × (z ≤ℤ g (i + 1)))
        → (i : ℕ) × (i < suc n + 1) × (g i ≤ℤ z) × (z ≤ℤ g (i + 1))
    by true e rest =
        let next : suc n + 1 ≡ n + 1 + 1 = omega arith in
        (n + 1, omega arith, le_out (g (n + 1)) z e, subst (λ (k : ℕ). z ≤ℤ g k) next high)
    by false e rest =
        let below : z ≤ℤ g (n + 1) = (let h = le_not (g (n + 1)) z e in omega (arith, ints, h)) in
        let r = rest below in
        (r.0, omega (arith, r.1), r.2, r.3)

record Column (z : ℤ) (w : ℕ) : Type 0 where
  i : ℕ
  within : i < 2 ^ 30
  low : pos 0 ≤ℤ (pos whole *ℤ z -ℤ along (2 * i) *ℤ pos w)
  high : pos 0 ≤ℤ (along (2 * (i + 1)) *ℤ pos w -ℤ pos whole *ℤ z)

column : (z : ℤ) (w : ℕ) → Within z w → Column z w
column z w h =
    let low = h.low in
    let high = h.high in
    let first : (along (2 * 0) *ℤ pos w) ≤ℤ (pos whole *ℤ z) = omega (arith, ints, low) in
    let last : (pos whole *ℤ z) ≤ℤ (along (2 * (1073741823 + 1)) *ℤ pos w) = omega (arith, ints, high) in
    of (between (λ (k : ℕ). along (2 * k) *ℤ pos w) (pos whole *ℤ z) 1073741823 first last)
  where
    of : (i : ℕ) × (i < 1073741823 + 1) × ((along (2 * i) *ℤ pos w) ≤ℤ (pos whole *ℤ z))
        × ((pos whole *ℤ z) ≤ℤ (along (2 * (i + 1)) *ℤ pos w)) → Column z w
    of r = record {
      i = r.0;
      within = omega (arith, r.1);
      low = apart (along (2 * r.0) *ℤ pos w) (pos whole *ℤ z) r.2;
      high = apart (pos whole *ℤ z) (along (2 * (r.0 + 1)) *ℤ pos w) r.3;
    }
      where
        apart : (a b : ℤ) → a ≤ℤ b → pos 0 ≤ℤ (b -ℤ a)
        apart a b h = omega (arith, ints, h)

-- ---- the leaf there
module _ (p : Place) (d : Point) (has : HasDirection p d) where
  moved : (n f i j : ℕ) → n < LEAVES → f ≡ n / 4 ^ 30 → i ≡ i_of n → j ≡ j_of n → pos 0 <ℤ (in_frame f d).w
      → InSquare (in_frame f d) (square i j 1) → HoldsPlace n p
  moved n f i j leaf ef ei ej front inside = record {
    leaf = leaf;
    direction = d;
    is = has;
    before = rw ef at front;
    within = rw (ef, ei, ej) at inside;
  }

  held_at : (f w : ℕ) → f < 6 → 0 < w → (in_frame f d).w ≡ pos w → Column (in_frame f d).u w
      → Column (in_frame f d).v w → (n : ℕ) × HoldsPlace n p
  held_at f w six some e u v =
      let c : Framed = in_frame f d in
      let leaf = leaf_exists 30 (f % 2) u.i v.i (omega arith) u.within v.within in
      let n : ℕ = 4 ^ 30 * f + leaf.0 in
      let place = place_of_leaf f leaf.0 u.i v.i leaf.1 in
      let same = one_place n f u.i v.i (n / 4 ^ 30) (i_of n) (j_of n) place (place_is n) in
      let on = same.0 in
      let inside : InSquare c (square u.i v.i 1) = record {
        first_column = subst (λ z. pos 0 ≤ℤ (pos whole *ℤ c.u -ℤ along (2 * u.i) *ℤ z)) (sym e) u.low;
        last_column = subst (λ z. pos 0 ≤ℤ (along (2 * (u.i + 1)) *ℤ z -ℤ pos whole *ℤ c.u)) (sym e) u.high;
        first_row = subst (λ z. pos 0 ≤ℤ (pos whole *ℤ c.v -ℤ along (2 * v.i) *ℤ z)) (sym e) v.low;
        last_row = subst (λ z. pos 0 ≤ℤ (along (2 * (v.i + 1)) *ℤ z -ℤ pos whole *ℤ c.v)) (sym e) v.high;
      } in
      let front : pos 0 <ℤ (in_frame f d).w = omega (arith, ints, e, some) in
      (n, moved n f u.i v.i (omega (arith, on, six)) on same.1 same.2 front inside)

  held : IsProperPlace p → (n : ℕ) × HoldsPlace n p
  held proper =
      let x = signed d.x in
      let y = signed d.y in
      let z = signed d.z in
      let l = located p d proper has x.0 y.0 z.0 x.1 y.1 z.1 x.2 y.2 z.2 in
      let b = before d x.1 y.1 z.1 x.0 y.0 z.0 x.2 y.2 z.2 (some_east l.t l.m x.1 y.1 z.1 l.at) in
      held_at b.f b.w b.six b.some b.w_is (column (in_frame b.f d).u b.w b.u) (column (in_frame b.f d).v b.w b.v)

pub held_by : (p : Place) → IsProperPlace p → ((angle : ℤ) → (a : ℤ) × (b : ℕ) × IsSine angle a b)
    → ((angle : ℤ) → (a : ℤ) × (b : ℕ) × IsCosine angle a b) → (n : ℕ) × HoldsPlace n p
held_by p proper sines cosines =
    let east = sides_by p.longitude (sines p.longitude) (cosines p.longitude) in
    let north = sides_by p.latitude (sines p.latitude) (cosines p.latitude) in
    by _ _ _ _ _ _ east north
  where
    by : (s c : ℤ) (d : ℕ) (t g : ℤ) (f : ℕ) → HasSides p.longitude s c d → HasSides p.latitude t g f
        → (n : ℕ) × HoldsPlace n p
    by s c d t g f east north = held p (record { x = c *ℤ g; y = s *ℤ g; z = pos d *ℤ t }) (record {
      s = s;
      c = c;
      d = d;
      t = t;
      g = g;
      f = f;
      east = east;
      north = north;
      x_is = refl;
      y_is = refl;
      z_is = refl;
    }) proper
