-- Where the places of a cell lie, by its columns and rows.
use Rattle.std.proofs.Common.{ℕ, suc, ◌+◌, ◌-◌, ◌*◌, ◌^◌, ◌≤◌, ◌<◌, ◌≡◌, arith, inl, inr, refl, ap, sym, ◌∙◌, ◌⊎◌}
use Rattle.std.proofs.Common.{subst}
use Rattle.std.proofs.Common.{Bool, true, false, not, cond, ℤ, pos, negsuc, neg_ℤ, ◌+ℤ◌, ◌-ℤ◌, ◌*ℤ◌, ◌≤ℤ◌, ◌<ℤ◌}
use Rattle.std.proofs.Common.{unsigned_abs, lt-ltb, le-ltb, of_z, to_z, w64}
use Rattle.std.proofs.Math.IntN.{neg_ℤ-neg_ℤ}
use Rattle.std.proofs.Math.Nat.{mul-le-mul_left, mul-le-mul_right}
use Rattle.std.proofs.lemmas.Bool.{cases_lt}
use Rattle.std.proofs.lemmas.Int.{fits_signed_from_abs, ints, to_z-of_z}
use Rattle.std.proofs.lemmas.Nat.{mul-le}
use Rattle.s2cell.specs.Square.{InSquare as InCell}
use Rattle.s2degrees.specs.Degrees.{quarter, turn}
use Rattle.s2degrees.specs.Femtodegrees.{with_sign}
use Rattle.s2degrees.proofs.Bounding.{some_under}
use Rattle.s2degrees.proofs.Signs.{times_signs}
use Rattle.s2polygon.specs.Cells.{square}
use Rattle.s2polygon.specs.Directions.{Point}
use Rattle.s2polygon.specs.Frames.{in_frame}
use Rattle.s2polygon.specs.Meets.{InSquare}
use Rattle.s2polygon.specs.Places.{along}
use Rattle.s2polygon.specs.declared.frames.Framed.{Framed}
use Rattle.s2map.proofs.Folding.{Folded, folded, latitude_folded, none_at_0, same_signs, turned_to, turned_upright}
use Rattle.s2map.specs.Cells.{HasDirection, IsProperPlace}
use Rattle.s2map.specs.Boxes.{IsBox}
use Rattle.s2map.specs.Working.Octants.{AreIn, IsAlong, IsAt, IsInOctant, IsRangeOf, IsSeen, IsSideOf, angle_of, whole}
use Rattle.s2map.specs.declared.angles.Angles.{Angles}
use Rattle.s2map.specs.declared.angles.Span.{Span}
use Rattle.s2map.specs.declared.cells.Range.{Range}
use Rattle.s2map.specs.declared.cells.Side.{Side}
use Rattle.s2map.specs.declared.place.Place.{Place}

-- ---- signs of products
sign_times : (r : Bool) (m n : ℕ) → with_sign r m *ℤ pos n ≡ with_sign r (m * n)
sign_times true m n = times_signs true false m n
sign_times false m n = times_signs false false m n

times_sign : (r : Bool) (m n : ℕ) → pos m *ℤ with_sign r n ≡ with_sign r (m * n)
times_sign true m n = times_signs false true m n
times_sign false m n = times_signs false false m n

times_of : (x c g : ℤ) (r : Bool) (m n : ℕ) → x ≡ c *ℤ g → c ≡ with_sign r m → g ≡ pos n → x ≡ with_sign r (m * n)
times_of x c g r m n e f h = rw (e, f, h) (sign_times r m n)

of_times : (x c g : ℤ) (r : Bool) (m n : ℕ) → x ≡ c *ℤ g → c ≡ pos m → g ≡ with_sign r n → x ≡ with_sign r (m * n)
of_times x c g r m n e f h = rw (e, f, h) (times_sign r m n)

pub negated : (a : ℤ) (r : Bool) (n : ℕ) → neg_ℤ a ≡ with_sign r n → a ≡ with_sign (not r) n
negated a true n h = sym (neg_ℤ-neg_ℤ a) ∙ (ap neg_ℤ h ∙ neg_ℤ-neg_ℤ (pos n))
negated a false n h = sym (neg_ℤ-neg_ℤ a) ∙ ap neg_ℤ h

pub none_of : (k c r : ℕ) → 1 ≤ c → 1 ≤ r → k * c * r ≡ 0 → k ≡ 0
none_of k c r hc hr e =
    let h = mul-le 1 1 c r hc hr in
    let h2 = mul-le-mul_left k h in
    omega (arith, h2, e)

none_last : (c r k : ℕ) → 1 ≤ c → 1 ≤ r → c * (k * r) ≡ 0 → k ≡ 0
none_last c r k hc hr e =
    let h = mul-le 1 1 c r hc hr in
    let h2 = mul-le-mul_left k h in
    omega (arith, h2, e)

-- ---- a place by two angles of at most 90 degrees
pub record Located (p : Place) (behind west south : Bool) (x y z : ℕ) : Type 0 where
  pub t : ℕ
  pub m : ℕ
  pub at : IsAt t m x y z
  pub longitude : (p.longitude ≡ angle_of behind west t) ⊎ (p.longitude +ℤ pos turn ≡ angle_of behind west t)
  pub latitude : p.latitude ≡ angle_of false south m

below_pole : (west : Bool) (m : ℕ) (angle : ℤ) → unsigned_abs angle < quarter → angle ≡ angle_of false west m
    → m < quarter
below_pole true m angle h e = let g = rw e at h in omega (arith, ints, g)
below_pole false m angle h e = let g = rw e at h in g

module _ (p : Place) (d : Point) (proper : IsProperPlace p) (has : HasDirection p d) where
  east_folded : Folded p.longitude has.east.a has.east.b has.east.k has.east.e
  east_folded = folded p.longitude has.east.a has.east.b has.east.k has.east.e proper.west proper.east has.east.sine
      has.east.cosine

  north_folded : (f : Folded p.latitude has.north.a has.north.b has.north.k has.north.e) × (f.behind ≡ false)
  north_folded = latitude_folded p.latitude has.north.a has.north.b has.north.k has.north.e proper.latitude
      has.north.sine has.north.cosine

  pub located : (behind west south : Bool) (x y z : ℕ) → d.x ≡ with_sign behind x → d.y ≡ with_sign west y
      → d.z ≡ with_sign south z → Located p behind west south x y z
  located behind west south x y z ex ey ez =
      let e = east_folded in
      let n = north_folded.0 in
      let b : ℕ = has.east.b in
      let i : ℕ = has.east.e in
      let h : ℕ = has.north.b in
      let j : ℕ = has.north.e in
      let angle : p.latitude ≡ angle_of false n.west n.t =
      subst (λ r. p.latitude ≡ angle_of r n.west n.t) north_folded.1 n.angle_is in
      let below = below_pole n.west n.t p.latitude proper.latitude angle in
      let cosine : has.north.k ≡ pos n.k_size =
      subst (λ r. has.north.k ≡ with_sign r n.k_size) north_folded.1 n.k_is in
      let b-some : 1 ≤ b = some_under e.t e.a_size b e.sine in
      let i-some : 1 ≤ i = some_under (quarter - e.t) e.k_size i e.cosine in
      let h-some : 1 ≤ h = some_under n.t n.a_size h n.sine in
      let j-some : 1 ≤ j = some_under (quarter - n.t) n.k_size j n.cosine in
      let axis : 1 ≤ n.k_size * h = elim (cases_lt 0 n.k_size) [
        | inl some ↦ mul-le 1 1 n.k_size h some h-some
        | inr none ↦
            let q = none_at_0 (quarter - n.t) n.k_size j (omega (arith, none)) n.cosine in absurd
            (omega (arith, q, below))
      ] in
      let g = times_of has.g has.north.k (pos h) false n.k_size h has.north.c_is cosine refl in
      let c = times_of has.c has.east.k (pos b) e.behind e.k_size b has.east.c_is e.k_is refl in
      let s = times_of has.s has.east.a (pos i) e.west e.a_size i has.east.s_is e.a_is refl in
      let u = times_of has.t has.north.a (pos j) n.west n.a_size j has.north.s_is n.a_is refl in
      let x-own = times_of d.x has.c has.g e.behind (e.k_size * b) (n.k_size * h) has.x_is c g in
      let y-own = times_of d.y has.s has.g e.west (e.a_size * i) (n.k_size * h) has.y_is s g in
      let z-own = of_times d.z (pos has.d) has.t n.west (b * i) (n.a_size * j) has.z_is (ap pos has.east.d_is) u in
      let x-same = same_signs e.behind behind _ x (sym x-own ∙ ex) in
      let y-same = same_signs e.west west _ y (sym y-own ∙ ey) in
      let z-same = same_signs n.west south _ z (sym z-own ∙ ez) in
      record {
        t = e.t;
        m = n.t;
        at = record {
          east = e.within;
          north = below;
          a = e.a_size;
          b = b;
          k = e.k_size;
          e = i;
          f = n.a_size;
          h = h;
          g = n.k_size;
          i = j;
          east_sine = e.sine;
          east_cosine = e.cosine;
          north_sine = n.sine;
          north_cosine = n.cosine;
          x_is = sym x-same.0;
          y_is = sym y-same.0;
          z_is = sym z-same.0;
        };
        longitude = turned_to e.behind e.west behind west e.t p.longitude e.within
            (either_none x-same.1 (λ o. none_at_0 (quarter - e.t) e.k_size i (none_of e.k_size b (n.k_size * h) b-some
            axis o) e.cosine))
            (either_none y-same.1 (λ o. none_at_0 e.t e.a_size b (none_of e.a_size i (n.k_size * h) i-some axis o)
            e.sine)) proper.east e.angle_is;
        latitude = turned_upright n.west south n.t p.latitude
            (either_none z-same.1 (λ o. none_at_0 n.t n.a_size h (none_last (b * i) j n.a_size
            (mul-le 1 1 b i b-some i-some) j-some o) n.sine)) angle;
      }
    where
      either_none : {A : Type 0} {v w : ℕ} → A ⊎ (v ≡ 0) → (v ≡ 0 → w ≡ 0) → A ⊎ (w ≡ 0)
      either_none (inl a) f = inl a
      either_none (inr z) f = inr (f z)

-- ---- columns or rows on one side of the middle
pub far_up : (t : ℕ) → 2 ^ 30 ≤ t → along t ≡ pos (t * t - 2 ^ 60)
far_up t h =
    let square = mul-le (2 ^ 30) (2 ^ 30) t t h h in
    ap (λ (c : Bool). cond c (pos (2 ^ 60) -ℤ pos ((2 ^ 31 - t) * (2 ^ 31 - t))) (pos (t * t) -ℤ pos (2 ^ 60)))
    (le-ltb t (2 ^ 30) h) ∙ omega (arith, ints, square)

pub far_down : (t : ℕ) → t ≤ 2 ^ 30 → along t ≡ neg_ℤ (pos ((2 ^ 31 - t) * (2 ^ 31 - t) - 2 ^ 60))
far_down t h =
    let low : 2 ^ 30 ≤ 2 ^ 31 - t = omega (arith, h) in
    let square = mul-le (2 ^ 30) (2 ^ 30) (2 ^ 31 - t) (2 ^ 31 - t) low low in
    elim (cases_lt t (2 ^ 30)) [
      | inl l ↦
          ap (λ (c : Bool). cond c (pos (2 ^ 60) -ℤ pos ((2 ^ 31 - t) * (2 ^ 31 - t))) (pos (t * t) -ℤ pos (2 ^ 60)))
          (lt-ltb t (2 ^ 30) l) ∙ omega (arith, ints, square)
      | inr g ↦ (let e : t ≡ 2 ^ 30 = omega (arith, g, h) in rw e refl)
    ]

up : (l h : ℕ) (u : ℤ) (w : ℕ) → pos 0 ≤ℤ (pos whole *ℤ u -ℤ pos l *ℤ pos w)
    → pos 0 ≤ℤ (pos h *ℤ pos w -ℤ pos whole *ℤ u)
    → (n : ℕ) × (u ≡ with_sign false n) × (l * w ≤ whole * n) × (whole * n ≤ h * w)
up l h (pos n) w a b = (n, refl, omega (arith, ints, a, b), omega (arith, ints, a, b))
up l h (negsuc n) w a b = absurd (omega (arith, ints, a, b))

down : (l h : ℕ) (u : ℤ) (w : ℕ) → pos 0 ≤ℤ (pos whole *ℤ u -ℤ neg_ℤ (pos h) *ℤ pos w)
    → pos 0 ≤ℤ (neg_ℤ (pos l) *ℤ pos w -ℤ pos whole *ℤ u)
    → (n : ℕ) × (u ≡ with_sign true n) × (l * w ≤ whole * n) × (whole * n ≤ h * w)
down l h u w a b =
    by u (subst (λ z. pos 0 ≤ℤ (pos whole *ℤ u -ℤ z)) (times_signs true false h w) a)
    (subst (λ z. pos 0 ≤ℤ (z -ℤ pos whole *ℤ u)) (times_signs true false l w) b)
  where
    by : (u : ℤ) → pos 0 ≤ℤ (pos whole *ℤ u -ℤ neg_ℤ (pos (h * w))) → pos 0 ≤ℤ (neg_ℤ (pos (l * w)) -ℤ pos whole *ℤ u)
        → (n : ℕ) × (u ≡ with_sign true n) × (l * w ≤ whole * n) × (whole * n ≤ h * w)
    by (pos n) a b = (0, omega (arith, ints, a, b), omega (arith, ints, a, b), omega (arith, ints, a, b))
    by (negsuc n) a b = (suc n, refl, omega (arith, ints, a, b), omega (arith, ints, a, b))

squares : (s t : ℕ) → s ≤ t → s * s - 2 ^ 60 ≤ t * t - 2 ^ 60
squares s t h = let q = mul-le s s t t h h in omega (arith, q)

bounded : (s : Span) (l h low high n w : ℕ) → s.low ≡ low → s.high ≡ high → low ≤ l → h ≤ high → l * w ≤ whole * n
    → whole * n ≤ h * w → IsAlong s n w
bounded s l h low high n w el eh hl hh first last =
    let a = mul-le-mul_right w hl in
    let b = mul-le-mul_right w hh in
    record { low = rw el (omega (arith, a, first)); high = rw eh (omega (arith, b, last)) }

module _ (s : Span) (i size x : ℕ) (u : ℤ) (w : ℕ) (from : i ≤ x) (to : x < i + size)
    (column : pos 0 ≤ℤ (pos whole *ℤ u -ℤ along (2 * x) *ℤ pos w))
    (next : pos 0 ≤ℤ (along (2 * (x + 1)) *ℤ pos w -ℤ pos whole *ℤ u)) where
  pub side_up : 2 ^ 29 ≤ i → s.low ≡ 2 * i * (2 * i) - 2 ^ 60 → s.high ≡ 2 * (i + size) * (2 * (i + size)) - 2 ^ 60
      → (n : ℕ) × (u ≡ with_sign false n) × IsAlong s n w
  side_up half el eh =
      let a = rw (far_up (2 * x) (omega (arith, half, from))) at column in
      let b = rw (far_up (2 * (x + 1)) (omega (arith, half, from))) at next in
      let r = up (2 * x * (2 * x) - 2 ^ 60) (2 * (x + 1) * (2 * (x + 1)) - 2 ^ 60) u w a b in (
        r.0,
        r.1,
        bounded s (2 * x * (2 * x) - 2 ^ 60) (2 * (x + 1) * (2 * (x + 1)) - 2 ^ 60) (2 * i * (2 * i) - 2 ^ 60)
            (2 * (i + size) * (2 * (i + size)) - 2 ^ 60) r.0 w el eh (squares (2 * i) (2 * x) (omega (arith, from)))
            (squares (2 * (x + 1)) (2 * (i + size)) (omega (arith, to))) r.2 r.3,
      )

  pub side_down : i + size ≤ 2 ^ 29
      → s.low ≡ (2 ^ 31 - 2 * (i + size)) * (2 ^ 31 - 2 * (i + size)) - 2 ^ 60
      → s.high ≡ (2 ^ 31 - 2 * i) * (2 ^ 31 - 2 * i) - 2 ^ 60 → (n : ℕ) × (u ≡ with_sign true n) × IsAlong s n w
  side_down half el eh =
      let a = rw (far_down (2 * x) (omega (arith, half, to))) at column in
      let b = rw (far_down (2 * (x + 1)) (omega (arith, half, to))) at next in
      let r = down ((2 ^ 31 - 2 * (x + 1)) * (2 ^ 31 - 2 * (x + 1)) - 2 ^ 60)
      ((2 ^ 31 - 2 * x) * (2 ^ 31 - 2 * x) - 2 ^ 60) u w a b in (
        r.0,
        r.1,
        bounded s ((2 ^ 31 - 2 * (x + 1)) * (2 ^ 31 - 2 * (x + 1)) - 2 ^ 60)
            ((2 ^ 31 - 2 * x) * (2 ^ 31 - 2 * x) - 2 ^ 60)
            ((2 ^ 31 - 2 * (i + size)) * (2 ^ 31 - 2 * (i + size)) - 2 ^ 60)
            ((2 ^ 31 - 2 * i) * (2 ^ 31 - 2 * i) - 2 ^ 60) r.0 w el eh
            (squares (2 ^ 31 - 2 * (i + size)) (2 ^ 31 - 2 * (x + 1)) (omega (arith, to)))
            (squares (2 ^ 31 - 2 * x) (2 ^ 31 - 2 * i) (omega (arith, from))) r.2 r.3,
      )

-- ---- a direction in the square of a leaf of the cell
pub seen : (face i j size x y : ℕ) (d : Point) (u v : Side) → IsSideOf u i size → IsSideOf v j size
    → InCell i j size x y → pos 0 <ℤ (in_frame face d).w → InSquare (in_frame face d) (square x y 1) → IsSeen face d u v
seen face i j size x y d u v su sv at before within =
    let f : Framed = in_frame face d in
    let w : ℕ = unsigned_abs f.w in
    let ew : f.w ≡ pos w = omega (arith, ints, before) in
    let a = su.all x f.u w at.first.0 at.first.1
    (subst (λ z. pos 0 ≤ℤ (pos whole *ℤ f.u -ℤ along (2 * x) *ℤ z)) ew within.first_column)
    (subst (λ z. pos 0 ≤ℤ (along (2 * (x + 1)) *ℤ z -ℤ pos whole *ℤ f.u)) ew within.last_column) in
    let b = sv.all y f.v w at.second.0 at.second.1
    (subst (λ z. pos 0 ≤ℤ (pos whole *ℤ f.v -ℤ along (2 * y) *ℤ z)) ew within.first_row)
    (subst (λ z. pos 0 ≤ℤ (along (2 * (y + 1)) *ℤ z -ℤ pos whole *ℤ f.v)) ew within.last_row) in
    record { w = w; n = a.0; k = b.0; w_is = ew; u_is = a.1; v_is = b.1; along_u = a.2; along_v = b.2 }

-- ---- the six faces
module _ (p : Place) (d : Point) (u v : Side) (angles : Angles) (proper : IsProperPlace p) (has : HasDirection p d)
  where
    pub on_0 : ((t m p q r : ℕ) → IsAt t m p q r → IsAlong u.span q p → IsAlong v.span r p → AreIn angles t m)
        → IsSeen 0 d u v
        → IsInOctant (record { behind = false; west = u.negative; south = v.negative; angles = angles }) p
    on_0 all s =
        let l = located p d proper has false u.negative v.negative s.w s.n s.k s.w_is s.u_is s.v_is in
        let both = all l.t l.m s.w s.n s.k l.at s.along_u s.along_v in
        record { t = l.t; m = l.m; angles = both; longitude = l.longitude; latitude = l.latitude }

    pub on_1 : ((t m p q r : ℕ) → IsAt t m p q r → IsAlong u.span p q → IsAlong v.span r q → AreIn angles t m)
        → IsSeen 1 d u v
        → IsInOctant (record { behind = not u.negative; west = false; south = v.negative; angles = angles }) p
    on_1 all s =
        let l = located p d proper has (not u.negative) false v.negative s.n s.w s.k (negated d.x u.negative s.n s.u_is)
        s.w_is s.v_is in
        let both = all l.t l.m s.n s.w s.k l.at s.along_u s.along_v in
        record { t = l.t; m = l.m; angles = both; longitude = l.longitude; latitude = l.latitude }

    pub on_2 : ((t m p q r : ℕ) → IsAt t m p q r → IsAlong u.span p r → IsAlong v.span q r → AreIn angles t m)
        → IsSeen 2 d u v
        → IsInOctant (record { behind = not u.negative; west = not v.negative; south = false; angles = angles }) p
    on_2 all s =
        let l = located p d proper has (not u.negative) (not v.negative) false s.n s.k s.w
        (negated d.x u.negative s.n s.u_is) (negated d.y v.negative s.k s.v_is) s.w_is in
        let both = all l.t l.m s.n s.k s.w l.at s.along_u s.along_v in
        record { t = l.t; m = l.m; angles = both; longitude = l.longitude; latitude = l.latitude }

    pub on_3 : ((t m p q r : ℕ) → IsAt t m p q r → IsAlong v.span q p → IsAlong u.span r p → AreIn angles t m)
        → IsSeen 3 d u v
        → IsInOctant (record { behind = true; west = not v.negative; south = not u.negative; angles = angles }) p
    on_3 all s =
        let l = located p d proper has true (not v.negative) (not u.negative) s.w s.k s.n (negated d.x false s.w s.w_is)
        (negated d.y v.negative s.k s.v_is) (negated d.z u.negative s.n s.u_is) in
        let both = all l.t l.m s.w s.k s.n l.at s.along_v s.along_u in
        record { t = l.t; m = l.m; angles = both; longitude = l.longitude; latitude = l.latitude }

    pub on_4 : ((t m p q r : ℕ) → IsAt t m p q r → IsAlong v.span p q → IsAlong u.span r q → AreIn angles t m)
        → IsSeen 4 d u v
        → IsInOctant (record { behind = v.negative; west = true; south = not u.negative; angles = angles }) p
    on_4 all s =
        let l = located p d proper has v.negative true (not u.negative) s.k s.w s.n s.v_is
        (negated d.y false s.w s.w_is)
        (negated d.z u.negative s.n s.u_is) in
        let both = all l.t l.m s.k s.w s.n l.at s.along_v s.along_u in
        record { t = l.t; m = l.m; angles = both; longitude = l.longitude; latitude = l.latitude }

    pub on_5 : ((t m p q r : ℕ) → IsAt t m p q r → IsAlong v.span p r → IsAlong u.span q r → AreIn angles t m)
        → IsSeen 5 d u v
        → IsInOctant (record { behind = v.negative; west = u.negative; south = true; angles = angles }) p
    on_5 all s =
        let l = located p d proper has v.negative u.negative true s.k s.n s.w s.v_is s.u_is
        (negated d.z false s.w s.w_is) in
        let both = all l.t l.m s.k s.n s.w l.at s.along_v s.along_u in
        record { t = l.t; m = l.m; angles = both; longitude = l.longitude; latitude = l.latitude }

-- a number that is written and read back
kept : (x : ℤ) → unsigned_abs x ≤ 2 * quarter → to_z w64 (of_z w64 x) ≡ x
kept x h = to_z-of_z w64 x (fits_signed_from_abs w64 x (omega (arith, h)))

-- the box of a range of longitudes and one of latitudes
pub box_made : (longitudes latitudes : Range) (behind west south : Bool) (east north : Span)
    → IsRangeOf longitudes behind west east → IsRangeOf latitudes false south north → IsBox (record {
      west = to_z w64 (of_z w64 longitudes.low);
      east = to_z w64 (of_z w64 longitudes.high);
      south = to_z w64 (of_z w64 latitudes.low);
      north = to_z w64 (of_z w64 latitudes.high);
    })
box_made longitudes latitudes behind west south east north a b =
    rw (kept longitudes.low a.low, kept longitudes.high a.high, kept latitudes.low b.low, kept latitudes.high b.high)
    (record {
      first = record { longitude = omega (arith, a.low); latitude = b.upright_low refl };
      last = record { longitude = omega (arith, a.high); latitude = b.upright_high refl };
      wide = a.order;
      high = b.order;
    })
