-- Products of three directions: identities.
use Rattle.std.proofs.Common.{◌≡◌, sym, ap₂, ◌∙◌, arith, ℤ, pos, ◌+ℤ◌, ◌-ℤ◌, ◌*ℤ◌}
use Rattle.s2polygon.proofs.Integers.{Expr, at, ◌⊕◌, ◌⊖◌, ◌⊗◌, value, equal}
use Rattle.s2polygon.proofs.Turned.{right, up}
use Rattle.s2polygon.specs.Frames.{normal_of}
use Rattle.s2polygon.specs.Meets.{above, left_of}
use Rattle.s2polygon.specs.Places.{whole}
use Rattle.s2polygon.specs.Working.Rings.{dot_of}
use Rattle.s2polygon.specs.declared.frames.Framed.{Framed}

-- the product of a direction with the normal of two others: on which side of the plane through these it lies
abbrev pub triple : Framed → Framed → Framed → ℤ
triple a b c = dot_of a (normal_of b c)

abbrev pub minor : Expr → Expr → Expr → Expr → Expr
minor p q r s = p ⊗ s ⊖ q ⊗ r

abbrev pub sum : Expr → Expr → Expr → Expr → Expr → Expr → Expr
sum aw au av bw bu bv = aw ⊗ bw ⊕ au ⊗ bu ⊕ av ⊗ bv

abbrev all_three : Expr → Expr → Expr → Expr → Expr → Expr → Expr → Expr → Expr → Expr
all_three aw au av bw bu bv cw cu cv = sum aw au av (minor bu bv cu cv) (minor bv bw cv cw) (minor bw bu cw cu)

-- ---- three directions
module _ (aw au av bw bu bv cw cu cv : ℤ) where
  abbrev given : Expr
  given = all_three (at aw) (at au) (at av) (at bw) (at bu) (at bv) (at cw) (at cu) (at cv)

  next_is : value given
      ≡ value (all_three (at bw) (at bu) (at bv) (at cw) (at cu) (at cv) (at aw) (at au) (at av))
  next_is = equal given (all_three (at bw) (at bu) (at bv) (at cw) (at cu) (at cv) (at aw) (at au) (at av))
      (omega arith)

  swap_is : value (all_three (at aw) (at au) (at av) (at cw) (at cu) (at cv) (at bw) (at bu) (at bv))
      ≡ value (at (pos 0) ⊖ given)
  swap_is = equal (all_three (at aw) (at au) (at av) (at cw) (at cu) (at cv) (at bw) (at bu) (at bv))
      (at (pos 0) ⊖ given) (omega arith)

  abbrev right_of_three : Expr
  right_of_three = all_three (at au) (at (pos 0) ⊖ at aw) (at av) (at bu) (at (pos 0) ⊖ at bw) (at bv) (at cu)
      (at (pos 0) ⊖ at cw) (at cv)

  right_is : value right_of_three ≡ value given
  right_is = equal right_of_three given (omega arith)

  abbrev up_of_three : Expr
  up_of_three = all_three (at av) (at au) (at (pos 0) ⊖ at aw) (at bv) (at bu) (at (pos 0) ⊖ at bw) (at cv) (at cu)
      (at (pos 0) ⊖ at cw)

  up_is : value up_of_three ≡ value given
  up_is = equal up_of_three given (omega arith)

module _ (a b c : Framed) where
  pub turned_on : triple a b c ≡ triple b c a
  turned_on = next_is a.w a.u a.v b.w b.u b.v c.w c.u c.v

  pub exchanged : triple a c b ≡ pos 0 -ℤ triple a b c
  exchanged = swap_is a.w a.u a.v b.w b.u b.v c.w c.u c.v

  pub triple_right : triple (right a) (right b) (right c) ≡ triple a b c
  triple_right = right_is a.w a.u a.v b.w b.u b.v c.w c.u c.v

  pub triple_up : triple (up a) (up b) (up c) ≡ triple a b c
  triple_up = up_is a.w a.u a.v b.w b.u b.v c.w c.u c.v

-- ---- products of two directions with two others
spread : (x y z k l m : ℤ) → (x +ℤ y +ℤ z) *ℤ (k +ℤ l +ℤ m)
    ≡ (x *ℤ k +ℤ x *ℤ l +ℤ x *ℤ m) +ℤ (y *ℤ k +ℤ y *ℤ l +ℤ y *ℤ m) +ℤ (z *ℤ k +ℤ z *ℤ l +ℤ z *ℤ m)
spread x y z k l m =
    equal ((at x ⊕ at y ⊕ at z) ⊗ (at k ⊕ at l ⊕ at m))
    ((at x ⊗ at k ⊕ at x ⊗ at l ⊕ at x ⊗ at m) ⊕ (at y ⊗ at k ⊕ at y ⊗ at l ⊕ at y ⊗ at m) ⊕
    (at z ⊗ at k ⊕ at z ⊗ at l ⊕ at z ⊗ at m)) (omega arith)

-- two coordinates of each
pair : (k m l n a c b d : ℤ) → (a *ℤ k *ℤ (d *ℤ n) +ℤ c *ℤ m *ℤ (b *ℤ l)) -ℤ (b *ℤ k *ℤ (c *ℤ n) +ℤ d *ℤ m *ℤ (a *ℤ l))
    ≡ (k *ℤ n -ℤ m *ℤ l) *ℤ (a *ℤ d -ℤ c *ℤ b)
pair k m l n a c b d =
    equal ((at a ⊗ at k ⊗ (at d ⊗ at n) ⊕ at c ⊗ at m ⊗ (at b ⊗ at l)) ⊖
    (at b ⊗ at k ⊗ (at c ⊗ at n) ⊕ at d ⊗ at m ⊗ (at a ⊗ at l)))
    ((at k ⊗ at n ⊖ at m ⊗ at l) ⊗ (at a ⊗ at d ⊖ at c ⊗ at b)) (omega arith)

own : (a k b l : ℤ) → a *ℤ k *ℤ (b *ℤ l) ≡ b *ℤ k *ℤ (a *ℤ l)
own a k b l = equal (at a ⊗ at k ⊗ (at b ⊗ at l)) (at b ⊗ at k ⊗ (at a ⊗ at l)) (omega arith)

left_over : (a b c d e f g h i j k l m n o : ℤ)
    → ((a +ℤ b +ℤ c) +ℤ (d +ℤ e +ℤ f) +ℤ (g +ℤ h +ℤ i)) -ℤ ((a +ℤ j +ℤ k) +ℤ (l +ℤ e +ℤ m) +ℤ (n +ℤ o +ℤ i))
    ≡ ((f +ℤ h) -ℤ (m +ℤ o)) +ℤ ((g +ℤ c) -ℤ (n +ℤ k)) +ℤ ((b +ℤ d) -ℤ (j +ℤ l))
left_over a b c d e f g h i j k l m n o =
    equal (((at a ⊕ at b ⊕ at c) ⊕ (at d ⊕ at e ⊕ at f) ⊕ (at g ⊕ at h ⊕ at i)) ⊖
    ((at a ⊕ at j ⊕ at k) ⊕ (at l ⊕ at e ⊕ at m) ⊕ (at n ⊕ at o ⊕ at i)))
    (((at f ⊕ at h) ⊖ (at m ⊕ at o)) ⊕ ((at g ⊕ at c) ⊖ (at n ⊕ at k)) ⊕ ((at b ⊕ at d) ⊖ (at j ⊕ at l)))
    (omega arith)

regrouped : (a b c d e f g h i p q r j k l m n o x y z : ℤ) → a ≡ p → e ≡ q → i ≡ r → (f +ℤ h) -ℤ (m +ℤ o) ≡ x
    → (g +ℤ c) -ℤ (n +ℤ k) ≡ y → (b +ℤ d) -ℤ (j +ℤ l) ≡ z
    → ((a +ℤ b +ℤ c) +ℤ (d +ℤ e +ℤ f) +ℤ (g +ℤ h +ℤ i)) -ℤ ((p +ℤ j +ℤ k) +ℤ (l +ℤ q +ℤ m) +ℤ (n +ℤ o +ℤ r))
    ≡ x +ℤ y +ℤ z
regrouped a b c d e f g h i p q r j k l m n o x y z ha he hi hx hy hz =
    rw (sym ha, sym he, sym hi, sym hx, sym hy, sym hz) (left_over a b c d e f g h i j k l m n o)

pub by_normals : (k l a b : Framed) → dot_of a k *ℤ dot_of b l -ℤ dot_of b k *ℤ dot_of a l
    ≡ dot_of (normal_of k l) (normal_of a b)
by_normals k l a b =
    ap₂ (λ (x y : ℤ). x -ℤ y)
    (spread (a.w *ℤ k.w) (a.u *ℤ k.u) (a.v *ℤ k.v) (b.w *ℤ l.w) (b.u *ℤ l.u) (b.v *ℤ l.v))
    (spread (b.w *ℤ k.w) (b.u *ℤ k.u) (b.v *ℤ k.v) (a.w *ℤ l.w) (a.u *ℤ l.u) (a.v *ℤ l.v))
    ∙ regrouped _ _ _ _ _ _ _ _ _ _ _ _ _ _ _ _ _ _ _ _ _ (own a.w k.w b.w l.w) (own a.u k.u b.u l.u)
    (own a.v k.v b.v l.v) (pair k.u k.v l.u l.v a.u a.v b.u b.v) (pair k.v k.w l.v l.w a.v a.w b.v b.w)
    (pair k.w k.u l.w l.u a.w a.u b.w b.u)

-- ---- the planes through three directions
module _ (zw zu zv pw pu pv qw qu qv : ℤ) where
  abbrev scale : Expr
  scale = all_three (at zw) (at zu) (at zv) (at pw) (at pu) (at pv) (at qw) (at qu) (at qv)

  abbrev kw : Expr
  kw = minor (at zu) (at zv) (at pu) (at pv)

  abbrev ku : Expr
  ku = minor (at zv) (at zw) (at pv) (at pw)

  abbrev kv : Expr
  kv = minor (at zw) (at zu) (at pw) (at pu)

  abbrev lw : Expr
  lw = minor (at pu) (at pv) (at qu) (at qv)

  abbrev lu : Expr
  lu = minor (at pv) (at pw) (at qv) (at qw)

  abbrev lv : Expr
  lv = minor (at pw) (at pu) (at qw) (at qu)

  meet_w : value (minor ku kv lu lv) ≡ value (scale ⊗ at pw)
  meet_w = equal (minor ku kv lu lv) (scale ⊗ at pw) (omega arith)

  meet_u : value (minor kv kw lv lw) ≡ value (scale ⊗ at pu)
  meet_u = equal (minor kv kw lv lw) (scale ⊗ at pu) (omega arith)

  meet_v : value (minor kw ku lw lu) ≡ value (scale ⊗ at pv)
  meet_v = equal (minor kw ku lw lu) (scale ⊗ at pv) (omega arith)

scaled : (d pw pu pv nw nu nv : ℤ) → d *ℤ pw *ℤ nw +ℤ d *ℤ pu *ℤ nu +ℤ d *ℤ pv *ℤ nv
    ≡ d *ℤ (pw *ℤ nw +ℤ pu *ℤ nu +ℤ pv *ℤ nv)
scaled d pw pu pv nw nu nv =
    equal (at d ⊗ at pw ⊗ at nw ⊕ at d ⊗ at pu ⊗ at nu ⊕ at d ⊗ at pv ⊗ at nv)
    (at d ⊗ (at pw ⊗ at nw ⊕ at pu ⊗ at nu ⊕ at pv ⊗ at nv)) (omega arith)

along_one : (d x y t : ℤ) (p n : Framed) → x ≡ d *ℤ p.w → y ≡ d *ℤ p.u → t ≡ d *ℤ p.v
    → x *ℤ n.w +ℤ y *ℤ n.u +ℤ t *ℤ n.v ≡ d *ℤ dot_of p n
along_one d x y t p n e f g = rw (e, f, g) (scaled d p.w p.u p.v n.w n.u n.v)

-- on which side of an edge the first of three directions lies, by the distances of its ends from the planes
pub minors : (p q z a b : Framed) → triple z p q *ℤ triple p a b
    ≡ triple a z p *ℤ triple b p q -ℤ triple b z p *ℤ triple a p q
minors p q z a b =
    sym (by_normals (normal_of z p) (normal_of p q) a b
    ∙ along_one (triple z p q) _ _ _ p (normal_of a b)
    (meet_w z.w z.u z.v p.w p.u p.v q.w q.u q.v) (meet_u z.w z.u z.v p.w p.u p.v q.w q.u q.v)
    (meet_v z.w z.u z.v p.w p.u p.v q.w q.u q.v))

-- ---- two places of a row, and of a column
module _ (k s t m cw cu cv : ℤ) where
  abbrev of_row : Expr
  of_row = all_three (at cw) (at cu) (at cv) (at k) (at s) (at t) (at k) (at m) (at t)

  row_is : value of_row ≡ value ((at m ⊖ at s) ⊗ (at k ⊗ at cv ⊖ at t ⊗ at cw))
  row_is = equal of_row ((at m ⊖ at s) ⊗ (at k ⊗ at cv ⊖ at t ⊗ at cw)) (omega arith)

  abbrev of_column : Expr
  of_column = all_three (at cw) (at cu) (at cv) (at k) (at s) (at t) (at k) (at s) (at m)

  column_is : value of_column ≡ value ((at m ⊖ at t) ⊗ (at s ⊗ at cw ⊖ at k ⊗ at cu))
  column_is = equal of_column ((at m ⊖ at t) ⊗ (at s ⊗ at cw ⊖ at k ⊗ at cu)) (omega arith)

-- the place (u, v) of a face, in the frame of the face
abbrev pub at_place : ℤ → ℤ → Framed
at_place u v = record { w = whole; u = u; v = v }

pub row_plane : (s m t : ℤ) (c : Framed) → triple c (at_place s t) (at_place m t) ≡ (m -ℤ s) *ℤ above t c
row_plane s m t c = row_is whole s t m c.w c.u c.v

pub column_plane : (s t m : ℤ) (c : Framed) → triple c (at_place s t) (at_place s m) ≡ (m -ℤ t) *ℤ left_of s c
column_plane s t m c = column_is whole s t m c.w c.u c.v
