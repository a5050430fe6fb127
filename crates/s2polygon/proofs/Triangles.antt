-- An edge at a triangle: it comes over the three sides an odd number of times if just one of its ends lies inside.
use Rattle.std.proofs.Common.{◌≡◌, ◌≢◌, refl, sym, ap, ap₂, ◌∙◌, arith, ℤ, pos, ◌+ℤ◌, ◌-ℤ◌, ◌*ℤ◌, ◌≤ℤ◌, ◌<ℤ◌}
use Rattle.std.proofs.Common.{Bool, true, false, not, ◌&&◌, ◌⊎◌, inl, inr, subst}
use Rattle.std.proofs.lemmas.Int.{ints, by_lt_z}
use Rattle.std.proofs.Math.Bool.{true≢false, xor, beq}
use Rattle.s2polygon.proofs.Changes.{xor_self}
use Rattle.s2polygon.proofs.Integers.{at, ◌⊕◌, ◌⊖◌, ◌⊗◌, equal, factor_at_least, product_at_least}
use Rattle.s2polygon.proofs.Integers.{product_at_most, weaken}
use Rattle.s2polygon.proofs.Octants.{balanced, differs, over_row, over_column, over_end, quarter, by_answers}
use Rattle.s2polygon.proofs.Parity.{below_0, from_0, xor_false}
use Rattle.s2polygon.proofs.Quarters.{AreNone, IsSign, alike, unlike, balanced_is, beq_no, beq_yes, differs_is}
use Rattle.s2polygon.proofs.Quarters.{first_none}
use Rattle.s2polygon.proofs.Quarters.{none_down, none_up, other_none, swapped}
use Rattle.s2polygon.proofs.Steps.{xor_moves, xor_same}
use Rattle.s2polygon.proofs.Turned.{right, up}
use Rattle.s2polygon.proofs.Vectors.{by_normals, exchanged, minors, triple, triple_right}
use Rattle.s2polygon.proofs.Vectors.{triple_up, turned_on}
use Rattle.s2polygon.specs.Crosses.{are_of_crossing, is_at_least_0}
use Rattle.s2polygon.specs.Frames.{normal_of}
use Rattle.s2polygon.specs.Working.Rings.{IsNone, dot_of}
use Rattle.s2polygon.specs.declared.frames.Framed.{Framed}

-- ---- signs
pub sign_of : (z : ℤ) → IsSign z (is_at_least_0 z)
sign_of z = record { yes = from_0 z; no = λ e. weaken z (pos 0) (below_0 z e) }

signs : (x y : ℤ) (s t : Bool) → IsSign x s → IsSign y t → IsSign (x *ℤ y) (beq s t)
signs x y s t h k = record {
  yes = λ e. alike x y s t h k (beq_yes s t e);
  no = λ e. unlike x y s t h k (beq_no s t e);
}

signs_back : (x y : ℤ) (s t : Bool) → IsSign x s → IsSign y t → IsSign (x *ℤ y) (beq t s)
signs_back x y s t h k = record {
  yes = λ e. alike x y s t h k (sym (beq_yes t s e));
  no = λ e. unlike x y s t h k (swapped t s (beq_no t s e));
}

none_first : (x y : ℤ) → (x -ℤ y) ≤ℤ pos 0 → pos 0 ≤ℤ x → y ≤ℤ pos 0 → x ≡ pos 0
none_first x y d h k = omega (arith, ints)

none_last : (x y : ℤ) → (x -ℤ y) ≤ℤ pos 0 → pos 0 ≤ℤ x → y ≤ℤ pos 0 → y ≡ pos 0
none_last x y d h k = omega (arith, ints)

first_up : (x y : ℤ) → pos 0 ≤ℤ (x -ℤ y) → x ≤ℤ pos 0 → pos 0 ≤ℤ y → x ≡ pos 0
first_up x y d h k = omega (arith, ints)

last_up : (x y : ℤ) → pos 0 ≤ℤ (x -ℤ y) → x ≤ℤ pos 0 → pos 0 ≤ℤ y → y ≡ pos 0
last_up x y d h k = omega (arith, ints)

no_difference : (x y : ℤ) → x ≡ pos 0 → y ≡ pos 0 → x -ℤ y ≡ pos 0
no_difference x y e f = omega (arith, ints)

above_some : (c : ℤ) → pos 0 <ℤ c → c ≢ pos 0
above_some c h e = omega (arith, ints)

-- a difference of two products with signs
module _ (c n x y : ℤ) (one other m : Bool) (scale : pos 0 <ℤ c) (is : c *ℤ n ≡ x -ℤ y) (hx : IsSign x one)
    (hy : IsSign y other) (hn : IsSign n m) (some : n ≡ pos 0 → x ≡ pos 0 → y ≡ pos 0 → ⊥) where
  tied : x ≡ pos 0 → y ≡ pos 0 → ⊥
  tied e f = some (other_none c n (is ∙ no_difference x y e f) (above_some c scale)) e f

  differ : differs one other m ≡ true
  differ = differs_is one other m (λ e f. rises e f m refl) (λ e f. sinks e f m refl)
    where
      rises : one ≡ true → other ≡ false → (t : Bool) → m ≡ t → m ≡ true
      rises e f true g = g
      rises e f false g =
          let d = subst (λ (z : ℤ). z ≤ℤ pos 0) is (product_at_most c n (weaken (pos 0) c scale) (hn.no g)) in
          absurd (tied (none_first x y d (hx.yes e) (hy.no f)) (none_last x y d (hx.yes e) (hy.no f)))

      sinks : one ≡ false → other ≡ true → (t : Bool) → m ≡ t → m ≡ false
      sinks e f false g = g
      sinks e f true g =
          let d = subst (λ (z : ℤ). pos 0 ≤ℤ z) is (product_at_least c n (weaken (pos 0) c scale) (hn.yes g)) in
          absurd (tied (first_up x y d (hx.no e) (hy.yes f)) (last_up x y d (hx.no e) (hy.yes f)))

-- three products whose sum is 0, not all of them 0
module _ (x y w p q s : ℤ) (a b c t u o : Bool) (hx : IsSign x a) (hy : IsSign y b) (hw : IsSign w c)
    (hp : IsSign p t) (hq : IsSign q u) (hs : IsSign s o) (sum : p *ℤ x +ℤ q *ℤ y +ℤ s *ℤ w ≡ pos 0)
    (some : AreNone (p *ℤ x) (q *ℤ y) (s *ℤ w) → ⊥) where
  balance : balanced a b c t u o ≡ true
  balance = balanced_is a b c t u o
      (λ e f g. some (none_up (p *ℤ x) (q *ℤ y) (s *ℤ w) sum (alike p x t a hp hx e) (alike q y u b hq hy f)
      (alike s w o c hs hw g)))
      (λ e f g. some (none_down (p *ℤ x) (q *ℤ y) (s *ℤ w) sum (unlike p x t a hp hx e) (unlike q y u b hq hy f)
      (unlike s w o c hs hw g)))

middle_none : (x y z : ℤ) → x +ℤ y +ℤ z ≡ pos 0 → x ≡ pos 0 → z ≡ pos 0 → y ≡ pos 0
middle_none x y z h e f = omega (arith, ints)

none_times : (x y : ℤ) → x ≡ pos 0 → x *ℤ y ≡ pos 0
none_times x y e = rw e (zero_times y)
  where
    zero_times : (y : ℤ) → pos 0 *ℤ y ≡ pos 0
    zero_times y = omega (arith, ints)

times_none : (x y : ℤ) → y ≡ pos 0 → x *ℤ y ≡ pos 0
times_none x y e = rw e (times_zero x)
  where
    times_zero : (x : ℤ) → x *ℤ pos 0 ≡ pos 0
    times_zero x = omega (arith, ints)

-- the sums of three products, by the three differences
shared_out : (d p q s x y w : ℤ) → d *ℤ (p *ℤ x +ℤ q *ℤ y +ℤ s *ℤ w) ≡ d *ℤ p *ℤ x +ℤ d *ℤ q *ℤ y +ℤ d *ℤ s *ℤ w
shared_out d p q s x y w =
    equal (at d ⊗ (at p ⊗ at x ⊕ at q ⊗ at y ⊕ at s ⊗ at w))
    (at d ⊗ at p ⊗ at x ⊕ at d ⊗ at q ⊗ at y ⊕ at d ⊗ at s ⊗ at w) (omega arith)

module _ (xa ya wa xb yb wb : ℤ) where
  for_start : (p q s : ℤ) → s ≡ xa *ℤ yb -ℤ xb *ℤ ya → p ≡ ya *ℤ wb -ℤ yb *ℤ wa → q ≡ wa *ℤ xb -ℤ wb *ℤ xa
      → p *ℤ xa +ℤ q *ℤ ya +ℤ s *ℤ wa ≡ pos 0
  for_start p q s e f g =
      rw (e, f, g) (equal ((at ya ⊗ at wb ⊖ at yb ⊗ at wa) ⊗ at xa ⊕ (at wa ⊗ at xb ⊖ at wb ⊗ at xa) ⊗ at ya ⊕
      (at xa ⊗ at yb ⊖ at xb ⊗ at ya) ⊗ at wa) (at (pos 0)) (omega arith))

  for_end : (p q s : ℤ) → s ≡ xa *ℤ yb -ℤ xb *ℤ ya → p ≡ ya *ℤ wb -ℤ yb *ℤ wa → q ≡ wa *ℤ xb -ℤ wb *ℤ xa
      → p *ℤ xb +ℤ q *ℤ yb +ℤ s *ℤ wb ≡ pos 0
  for_end p q s e f g =
      rw (e, f, g) (equal ((at ya ⊗ at wb ⊖ at yb ⊗ at wa) ⊗ at xb ⊕ (at wa ⊗ at xb ⊖ at wb ⊗ at xa) ⊗ at yb ⊕
      (at xa ⊗ at yb ⊖ at xb ⊗ at ya) ⊗ at wb) (at (pos 0)) (omega arith))

no_sum : (d p q s xa ya wa xb yb wb : ℤ) → d ≢ pos 0 → d *ℤ s ≡ xa *ℤ yb -ℤ xb *ℤ ya → d *ℤ p ≡ ya *ℤ wb -ℤ yb *ℤ wa
    → d *ℤ q ≡ wa *ℤ xb -ℤ wb *ℤ xa → p *ℤ xa +ℤ q *ℤ ya +ℤ s *ℤ wa ≡ pos 0
no_sum d p q s xa ya wa xb yb wb h e f g =
    other_none d (p *ℤ xa +ℤ q *ℤ ya +ℤ s *ℤ wa)
    (shared_out d p q s xa ya wa ∙ for_start xa ya wa xb yb wb (d *ℤ p) (d *ℤ q) (d *ℤ s) e f g) h

no_sum_back : (d p q s xa ya wa xb yb wb : ℤ) → d ≢ pos 0 → d *ℤ s ≡ xa *ℤ yb -ℤ xb *ℤ ya
    → d *ℤ p ≡ ya *ℤ wb -ℤ yb *ℤ wa → d *ℤ q ≡ wa *ℤ xb -ℤ wb *ℤ xa → p *ℤ xb +ℤ q *ℤ yb +ℤ s *ℤ wb ≡ pos 0
no_sum_back d p q s xa ya wa xb yb wb h e f g =
    other_none d (p *ℤ xb +ℤ q *ℤ yb +ℤ s *ℤ wb)
    (shared_out d p q s xb yb wb ∙ for_end xa ya wa xb yb wb (d *ℤ p) (d *ℤ q) (d *ℤ s) e f g) h

-- ---- an edge and a triangle
-- of the edge from `a` to `b`: `z` lies in no plane that matters, and not both ends in that of `p` and `q`
pub record IsApart (p q z a b : Framed) : Type 0 where
  pub plane : triple z p q ≢ pos 0
  pub first_a : triple a p z ≢ pos 0
  pub first_b : triple b p z ≢ pos 0
  pub last_a : triple a q z ≢ pos 0
  pub last_b : triple b q z ≢ pos 0
  pub ends : triple a p q ≡ pos 0 → triple b p q ≡ pos 0 → ⊥
  pub far : triple z a b ≢ pos 0

minus_some : (z : ℤ) → z ≢ pos 0 → is_at_least_0 (pos 0 -ℤ z) ≡ not (is_at_least_0 z)
minus_some z h = by (is_at_least_0 (pos 0 -ℤ z)) (is_at_least_0 z) refl refl
  where
    by : (s t : Bool) → is_at_least_0 (pos 0 -ℤ z) ≡ s → is_at_least_0 z ≡ t → is_at_least_0 (pos 0 -ℤ z)
        ≡ not (is_at_least_0 z)
    by true false e f = e ∙ sym (ap not f)
    by false true e f = e ∙ sym (ap not f)
    by true true e f = absurd (h (omega (arith, ints)))
    by false false e f = absurd (omega (arith, ints))

some_minus : (z y : ℤ) → y ≡ pos 0 -ℤ z → z ≢ pos 0 → y ≢ pos 0
some_minus z y e h f = h (back z y e f)
  where
    back : (z y : ℤ) → y ≡ pos 0 -ℤ z → y ≡ pos 0 → z ≡ pos 0
    back z y e f = omega (arith, ints)

-- the answers `ya` and `yb` agree with the sides of the plane of `p` and `q` on which the ends lie
module _ (p q z a b : Framed) (h : IsApart p q z a b) (scale : pos 0 <ℤ triple z p q) (ya yb : Bool)
    (sya : IsSign (triple a p q) ya) (syb : IsSign (triple b p q) yb) where
  xa_some : triple a z p ≢ pos 0
  xa_some = some_minus (triple a p z) (triple a z p) (exchanged a p z) h.first_a

  xb_some : triple b z p ≢ pos 0
  xb_some = some_minus (triple b p z) (triple b z p) (exchanged b p z) h.first_b

  abbrev xa : Bool
  xa = is_at_least_0 (triple a z p)

  abbrev xb : Bool
  xb = is_at_least_0 (triple b z p)

  abbrev wa : Bool
  wa = is_at_least_0 (triple a q z)

  abbrev wb : Bool
  wb = is_at_least_0 (triple b q z)

  abbrev at_p : Bool
  at_p = is_at_least_0 (triple p a b)

  abbrev at_q : Bool
  at_q = is_at_least_0 (triple q a b)

  abbrev at_z : Bool
  at_z = is_at_least_0 (triple z a b)

  scale_some : triple z p q ≢ pos 0
  scale_some = above_some (triple z p q) scale

  -- on which side of the edge `p`, `q` and `z` lie
  side_p : triple z p q *ℤ triple p a b ≡ triple a z p *ℤ triple b p q -ℤ triple b z p *ℤ triple a p q
  side_p = minors p q z a b

  side_q : triple z p q *ℤ triple q a b ≡ triple a p q *ℤ triple b q z -ℤ triple b p q *ℤ triple a q z
  side_q = ap (λ (c : ℤ). c *ℤ triple q a b) (turned_on z p q) ∙ minors q z p a b

  side_z : triple z p q *ℤ triple z a b ≡ triple a q z *ℤ triple b z p -ℤ triple b q z *ℤ triple a z p
  side_z = ap (λ (c : ℤ). c *ℤ triple z a b) (turned_on z p q ∙ turned_on p q z) ∙ minors z p q a b

  sum_a : triple q a b *ℤ triple a z p +ℤ triple z a b *ℤ triple a p q +ℤ triple p a b *ℤ triple a q z ≡ pos 0
  sum_a = no_sum (triple z p q) (triple q a b) (triple z a b) (triple p a b) (triple a z p) (triple a p q)
      (triple a q z) (triple b z p) (triple b p q) (triple b q z) scale_some side_p side_q side_z

  sum_b : triple q a b *ℤ triple b z p +ℤ triple z a b *ℤ triple b p q +ℤ triple p a b *ℤ triple b q z ≡ pos 0
  sum_b = no_sum_back (triple z p q) (triple q a b) (triple z a b) (triple p a b) (triple a z p) (triple a p q)
      (triple a q z) (triple b z p) (triple b p q) (triple b q z) scale_some side_p side_q side_z

  -- where the plane of the edge has both `p` and `q`, it is theirs
  both_on : triple q a b ≡ pos 0 → triple p a b ≡ pos 0 → ⊥
  both_on e f =
      h.ends
      (other_none (triple z a b) (triple a p q)
      (middle_none (triple q a b *ℤ triple a z p) (triple z a b *ℤ triple a p q) (triple p a b *ℤ triple a q z) sum_a
      (none_times (triple q a b) (triple a z p) e) (none_times (triple p a b) (triple a q z) f)) h.far)
      (other_none (triple z a b) (triple b p q)
      (middle_none (triple q a b *ℤ triple b z p) (triple z a b *ℤ triple b p q) (triple p a b *ℤ triple b q z) sum_b
      (none_times (triple q a b) (triple b z p) e) (none_times (triple p a b) (triple b q z) f)) h.far)

  balance_a : balanced xa ya wa at_q at_z at_p ≡ true
  balance_a =
      balance (triple a z p) (triple a p q) (triple a q z) (triple q a b) (triple z a b) (triple p a b) xa ya wa at_q
      at_z at_p (sign_of (triple a z p)) sya (sign_of (triple a q z)) (sign_of (triple q a b)) (sign_of (triple z a b))
      (sign_of (triple p a b)) sum_a
      (λ n. both_on (first_none (triple q a b) (triple a z p) n.first xa_some)
      (first_none (triple p a b) (triple a q z) n.third h.last_a))

  balance_b : balanced xb yb wb at_q at_z at_p ≡ true
  balance_b =
      balance (triple b z p) (triple b p q) (triple b q z) (triple q a b) (triple z a b) (triple p a b) xb yb wb at_q
      at_z at_p (sign_of (triple b z p)) syb (sign_of (triple b q z)) (sign_of (triple q a b)) (sign_of (triple z a b))
      (sign_of (triple p a b)) sum_b
      (λ n. both_on (first_none (triple q a b) (triple b z p) n.first xb_some)
      (first_none (triple p a b) (triple b q z) n.third h.last_b))

  differ_p : differs (beq xa yb) (beq xb ya) at_p ≡ true
  differ_p =
      differ (triple z p q) (triple p a b) (triple a z p *ℤ triple b p q) (triple b z p *ℤ triple a p q) (beq xa yb)
      (beq xb ya) at_p scale side_p (signs (triple a z p) (triple b p q) xa yb (sign_of (triple a z p)) syb)
      (signs (triple b z p) (triple a p q) xb ya (sign_of (triple b z p)) sya) (sign_of (triple p a b))
      (λ e f g. h.ends (other_none (triple b z p) (triple a p q) g xb_some)
      (other_none (triple a z p) (triple b p q) f xa_some))

  differ_q : differs (beq ya wb) (beq wa yb) at_q ≡ true
  differ_q =
      differ (triple z p q) (triple q a b) (triple a p q *ℤ triple b q z) (triple b p q *ℤ triple a q z) (beq ya wb)
      (beq wa yb) at_q scale side_q (signs (triple a p q) (triple b q z) ya wb sya (sign_of (triple b q z)))
      (signs_back (triple b p q) (triple a q z) yb wa syb (sign_of (triple a q z))) (sign_of (triple q a b))
      (λ e f g. h.ends (first_none (triple a p q) (triple b q z) f h.last_b)
      (first_none (triple b p q) (triple a q z) g h.last_a))

  differ_z : differs (beq wa xb) (beq xa wb) at_z ≡ true
  differ_z =
      differ (triple z p q) (triple z a b) (triple a q z *ℤ triple b z p) (triple b q z *ℤ triple a z p) (beq wa xb)
      (beq xa wb) at_z scale side_z
      (signs (triple a q z) (triple b z p) wa xb (sign_of (triple a q z)) (sign_of (triple b z p)))
      (signs_back (triple b q z) (triple a z p) wb xa (sign_of (triple b q z)) (sign_of (triple a z p)))
      (sign_of (triple z a b)) (λ e f g. h.far e)

  over_sides : xor (over_row ya yb at_q at_p) (xor (over_column xa xb at_z at_p) (over_end wa wb at_q at_z))
      ≡ xor (quarter xa ya wa) (quarter xb yb wb)
  over_sides = by_answers xa ya wa xb yb wb at_p at_q at_z balance_a balance_b differ_p differ_q differ_z

-- ---- the arc from a place to a direction
-- the edge from `a` to `b` comes over the arc from `p` to `z`
unfoldable pub arc : Framed → Framed → Framed → Framed → Bool
arc p z a b = over_end (is_at_least_0 (triple a p z)) (is_at_least_0 (triple b p z)) (is_at_least_0 (triple p a b))
    (is_at_least_0 (triple z a b))

arc_turned : (x y q s : Bool) → over_column (not x) (not y) q s ≡ over_end x y s q
unfolding xor
arc_turned true true q s = refl
arc_turned false false q s = refl
arc_turned true false true true = refl
arc_turned true false true false = refl
arc_turned true false false true = refl
arc_turned true false false false = refl
arc_turned false true true true = refl
arc_turned false true true false = refl
arc_turned false true false true = refl
arc_turned false true false false = refl

-- the side from `z` to `p` is the arc from `p` to `z`
arc_back : (p z a b : Framed) → triple a p z ≢ pos 0 → triple b p z ≢ pos 0
    → over_column (is_at_least_0 (triple a z p)) (is_at_least_0 (triple b z p)) (is_at_least_0 (triple z a b))
    (is_at_least_0 (triple p a b)) ≡ arc p z a b
unfolding arc
arc_back p z a b h k =
    ap₂ (λ (x y : Bool). over_column x y (is_at_least_0 (triple z a b)) (is_at_least_0 (triple p a b)))
    (ap is_at_least_0 (exchanged a p z) ∙ minus_some (triple a p z) h)
    (ap is_at_least_0 (exchanged b p z) ∙ minus_some (triple b p z) k)
    ∙ arc_turned (is_at_least_0 (triple a p z)) (is_at_least_0 (triple b p z)) (is_at_least_0 (triple z a b))
    (is_at_least_0 (triple p a b))

crossing_on : (a b p q : Bool) → (xor a b && xor p q && beq p b) ≡ over_row a b q p
unfolding xor
crossing_on true true p q = refl
crossing_on false false p q = refl
crossing_on true false true true = refl
crossing_on true false true false = refl
crossing_on true false false true = refl
crossing_on true false false false = refl
crossing_on false true true true = refl
crossing_on false true true false = refl
crossing_on false true false true = refl
crossing_on false true false false = refl

crossing_back : (a b p q : Bool) → (xor a b && xor p q && beq p b) ≡ over_row (not a) (not b) p q
unfolding xor
crossing_back true true p q = refl
crossing_back false false p q = refl
crossing_back true false true true = refl
crossing_back true false true false = refl
crossing_back true false false true = refl
crossing_back true false false false = refl
crossing_back false true true true = refl
crossing_back false true true false = refl
crossing_back false true false true = refl
crossing_back false true false false = refl

-- ---- a piece between two places
-- the edge crosses the arc from `p` to `q`
abbrev pub over_piece : Framed → Framed → Framed → Framed → Bool
over_piece p q a b = are_of_crossing (triple a p q) (triple b p q) (triple p a b) (triple q a b)

-- the direction `c` lies in the triangle of `p`, `q` and `z`
pub within_by : Bool → Framed → Framed → Framed → Framed → Bool
within_by true p q z c = quarter (is_at_least_0 (triple c z p)) (is_at_least_0 (triple c p q))
    (is_at_least_0 (triple c q z))
within_by false p q z c = quarter (is_at_least_0 (triple c z q)) (not (is_at_least_0 (triple c p q)))
    (is_at_least_0 (triple c p z))

abbrev pub within : Framed → Framed → Framed → Framed → Bool
within p q z c = within_by (is_at_least_0 (triple z p q)) p q z c

moved_over : (r c t : Bool) → xor r c ≡ t → r ≡ xor c t
moved_over r c t e = sym (ap (xor c) (sym e ∙ xor_same r c) ∙ xor_moves c c r ∙ ap (λ (x : Bool). xor x r) (xor_self c)
    ∙ xor_false r)

sign_minus : (z y : ℤ) → y ≡ pos 0 -ℤ z → IsSign y (not (is_at_least_0 z))
sign_minus z y e = by (is_at_least_0 z) refl
  where
    low : (z y : ℤ) → y ≡ pos 0 -ℤ z → pos 0 ≤ℤ z → y ≤ℤ pos 0
    low z y e h = omega (arith, ints)

    high : (z y : ℤ) → y ≡ pos 0 -ℤ z → z <ℤ pos 0 → pos 0 ≤ℤ y
    high z y e h = omega (arith, ints)

    by : (t : Bool) → is_at_least_0 z ≡ t → IsSign y (not t)
    by true f = record { yes = λ g. absurd (true≢false (sym g)); no = λ g. low z y e (from_0 z f) }
    by false f = record { yes = λ g. high z y e (below_0 z f); no = λ g. absurd (true≢false g) }

above_least : (z : ℤ) → z ≢ pos 0 → is_at_least_0 z ≡ true → pos 0 <ℤ z
above_least z h e = by_lt_z (pos 0) z (λ (l : pos 0 <ℤ z). l) (λ (l : z ≤ℤ pos 0). absurd (h (none z (from_0 z e) l)))
  where
    none : (z : ℤ) → pos 0 ≤ℤ z → z ≤ℤ pos 0 → z ≡ pos 0
    none z k l = omega (arith, ints)

module _ (p q z a b : Framed) (h : IsApart p q z a b) where
  other_way : IsApart q p z a b
  other_way = record {
    plane = some_minus (triple z p q) (triple z q p) (exchanged z p q) h.plane;
    first_a = h.last_a;
    first_b = h.last_b;
    last_a = h.first_a;
    last_b = h.first_b;
    ends = λ e f. h.ends (back (triple a p q) (triple a q p) (exchanged a p q) e)
        (back (triple b p q) (triple b q p) (exchanged b p q) f);
    far = h.far;
  }
    where
      back : (z y : ℤ) → y ≡ pos 0 -ℤ z → y ≡ pos 0 → z ≡ pos 0
      back z y e f = omega (arith, ints)

  scale_back : is_at_least_0 (triple z p q) ≡ false → pos 0 <ℤ triple z q p
  scale_back e = up_from (triple z p q) (triple z q p) (exchanged z p q) (below_0 (triple z p q) e)
    where
      up_from : (z y : ℤ) → y ≡ pos 0 -ℤ z → z <ℤ pos 0 → pos 0 <ℤ y
      up_from z y e h = omega (arith, ints)

  some_over : over_piece p q a b ≡ xor (xor (arc p z a b) (arc q z a b)) (xor (within p q z a) (within p q z b))
  unfolding within_by arc
  some_over = by (is_at_least_0 (triple z p q)) refl
    where
      by : (t : Bool) → is_at_least_0 (triple z p q) ≡ t → over_piece p q a b
          ≡ xor (xor (arc p z a b) (arc q z a b)) (xor (within_by t p q z a) (within_by t p q z b))
      by true e =
          moved_over (over_piece p q a b) (xor (arc p z a b) (arc q z a b))
          (xor (within_by true p q z a) (within_by true p q z b))
          (ap₂ xor (crossing_on (is_at_least_0 (triple a p q)) (is_at_least_0 (triple b p q))
          (is_at_least_0 (triple p a b)) (is_at_least_0 (triple q a b)))
          (ap (λ (t : Bool). xor t (arc q z a b)) (sym (arc_back p z a b h.first_a h.first_b)))
          ∙ over_sides p q z a b h (above_least (triple z p q) h.plane e) (is_at_least_0 (triple a p q))
          (is_at_least_0 (triple b p q)) (sign_of (triple a p q)) (sign_of (triple b p q)))
      by false e =
          moved_over (over_piece p q a b) (xor (arc p z a b) (arc q z a b))
          (xor (within_by false p q z a) (within_by false p q z b))
          (ap₂ xor (crossing_back (is_at_least_0 (triple a p q)) (is_at_least_0 (triple b p q))
          (is_at_least_0 (triple p a b)) (is_at_least_0 (triple q a b)))
          (xor_same (arc p z a b) (arc q z a b)
          ∙ ap (λ (t : Bool). xor t (arc p z a b)) (sym (arc_back q z a b h.last_a h.last_b)))
          ∙ over_sides q p z a b other_way (scale_back e) (not (is_at_least_0 (triple a p q)))
          (not (is_at_least_0 (triple b p q))) (sign_minus (triple a p q) (triple a q p) (exchanged a p q))
          (sign_minus (triple b p q) (triple b q p) (exchanged b p q)))

-- ---- an edge of no length, or along one direction
like_factor : (c d x y : ℤ) → pos 0 <ℤ c → pos 0 <ℤ d → c *ℤ y ≡ d *ℤ x → pos 0 ≤ℤ x → pos 0 ≤ℤ y
like_factor c d x y hc hd e h =
    factor_at_least c y hc (subst (λ (z : ℤ). pos 0 ≤ℤ z) (sym e) (product_at_least d x (weaken (pos 0) d hd) h))

pub like_answers : (c d x y : ℤ) → pos 0 <ℤ c → pos 0 <ℤ d → c *ℤ y ≡ d *ℤ x → is_at_least_0 x ≡ is_at_least_0 y
like_answers c d x y hc hd e = by (is_at_least_0 x) (is_at_least_0 y) refl refl
  where
    by : (s t : Bool) → is_at_least_0 x ≡ s → is_at_least_0 y ≡ t → is_at_least_0 x ≡ is_at_least_0 y
    by true true f g = f ∙ sym g
    by false false f g = f ∙ sym g
    by true false f g = absurd (apart y (like_factor c d x y hc hd e (from_0 x f)) (below_0 y g))
      where
        apart : (z : ℤ) → pos 0 ≤ℤ z → z <ℤ pos 0 → ⊥
        apart z h k = omega (arith, ints)
    by false true f g = absurd (apart x (like_factor d c y x hd hc (sym e) (from_0 y g)) (below_0 x f))
      where
        apart : (z : ℤ) → pos 0 ≤ℤ z → z <ℤ pos 0 → ⊥
        apart z h k = omega (arith, ints)

-- both ends lie in one direction
pub record IsAlong (a b : Framed) : Type 0 where
  pub none : IsNone (normal_of a b)
  pub own : pos 0 <ℤ dot_of a a
  pub between : pos 0 <ℤ dot_of a b

no_crossing : (s t u v : Bool) → s ≡ t → (xor s t && xor u v && beq u t) ≡ false
no_crossing s t u v e = rw e (ap (λ (x : Bool). x && xor u v && beq u t) (xor_self t))

dot_back : (aw au av bw bu bv : ℤ) → aw *ℤ bw +ℤ au *ℤ bu +ℤ av *ℤ bv ≡ bw *ℤ aw +ℤ bu *ℤ au +ℤ bv *ℤ av
dot_back aw au av bw bu bv =
    equal (at aw ⊗ at bw ⊕ at au ⊗ at bu ⊕ at av ⊗ at bv) (at bw ⊗ at aw ⊕ at bu ⊗ at au ⊕ at bv ⊗ at av) (omega arith)

same_three : (x y w k l m : Bool) → x ≡ k → y ≡ l → w ≡ m → xor (quarter x y w) (quarter k l m) ≡ false
same_three x y w k l m e f g = rw (e, f, g) (xor_self (quarter k l m))

no_arc : (s t u v : Bool) → s ≡ t → over_end s t u v ≡ false
no_arc s t u v e = rw e (ap (λ (x : Bool). x && (beq u t && not (beq v t))) (xor_self t))

module _ (a b : Framed) (h : IsAlong a b) where
  no_normal : (m : Framed) → dot_of m (normal_of a b) ≡ pos 0
  no_normal m = three (m.w *ℤ (normal_of a b).w) (m.u *ℤ (normal_of a b).u) (m.v *ℤ (normal_of a b).v)
      (times_none m.w (normal_of a b).w h.none.w) (times_none m.u (normal_of a b).u h.none.u)
      (times_none m.v (normal_of a b).v h.none.v)
    where
      three : (x y z : ℤ) → x ≡ pos 0 → y ≡ pos 0 → z ≡ pos 0 → x +ℤ y +ℤ z ≡ pos 0
      three x y z e f g = omega (arith, ints)

  -- both ends lie on one side of each plane
  one_side : (m : Framed) → is_at_least_0 (dot_of a m) ≡ is_at_least_0 (dot_of b m)
  one_side m = like_answers (dot_of a a) (dot_of b a) (dot_of a m) (dot_of b m) h.own
      (subst (λ (z : ℤ). pos 0 <ℤ z) (dot_back a.w a.u a.v b.w b.u b.v) h.between)
      (same (dot_of a a *ℤ dot_of b m) (dot_of b a *ℤ dot_of a m) (by_normals a m a b ∙ no_normal (normal_of a m)))
    where
      same : (x y : ℤ) → x -ℤ y ≡ pos 0 → x ≡ y
      same x y e = omega (arith, ints)

  none_over : (p q z : Framed) → over_piece p q a b
      ≡ xor (xor (arc p z a b) (arc q z a b)) (xor (within p q z a) (within p q z b))
  unfolding arc within_by
  none_over p q z =
      no_crossing (is_at_least_0 (triple a p q)) (is_at_least_0 (triple b p q)) (is_at_least_0 (triple p a b))
      (is_at_least_0 (triple q a b)) (one_side (normal_of p q))
      ∙ sym (ap₂ xor (ap₂ xor
      (no_arc (is_at_least_0 (triple a p z)) (is_at_least_0 (triple b p z)) (is_at_least_0 (triple p a b))
      (is_at_least_0 (triple z a b)) (one_side (normal_of p z)))
      (no_arc (is_at_least_0 (triple a q z)) (is_at_least_0 (triple b q z)) (is_at_least_0 (triple q a b))
      (is_at_least_0 (triple z a b)) (one_side (normal_of q z))) ∙ xor_self false)
      (same_within (is_at_least_0 (triple z p q))) ∙ xor_self false)
    where
      same_within : (t : Bool) → xor (within_by t p q z a) (within_by t p q z b) ≡ false
      same_within true = same_three (is_at_least_0 (triple a z p)) (is_at_least_0 (triple a p q))
          (is_at_least_0 (triple a q z)) (is_at_least_0 (triple b z p)) (is_at_least_0 (triple b p q))
          (is_at_least_0 (triple b q z)) (one_side (normal_of z p)) (one_side (normal_of p q))
          (one_side (normal_of q z))
      same_within false = same_three (is_at_least_0 (triple a z q)) (not (is_at_least_0 (triple a p q)))
          (is_at_least_0 (triple a p z)) (is_at_least_0 (triple b z q)) (not (is_at_least_0 (triple b p q)))
          (is_at_least_0 (triple b p z)) (one_side (normal_of z q)) (ap not (one_side (normal_of p q)))
          (one_side (normal_of p z))

-- a piece is crossed as the arcs from its two ends are, up to what the edge's ends say
pub piece_over : (p q z a b : Framed) → IsApart p q z a b ⊎ IsAlong a b → over_piece p q a b
    ≡ xor (xor (arc p z a b) (arc q z a b)) (xor (within p q z a) (within p q z b))
piece_over p q z a b (inl h) = some_over p q z a b h
piece_over p q z a b (inr h) = none_over a b h p q z

-- ---- on the next face
arc_by : {x y s t k l m n : ℤ} → x ≡ k → y ≡ l → s ≡ m → t ≡ n
    → over_end (is_at_least_0 x) (is_at_least_0 y) (is_at_least_0 s) (is_at_least_0 t)
    ≡ over_end (is_at_least_0 k) (is_at_least_0 l) (is_at_least_0 m) (is_at_least_0 n)
arc_by e f g h = rw (e, f, g, h) refl

pub arc_right : (p z a b : Framed) → arc (right p) (right z) (right a) (right b) ≡ arc p z a b
unfolding arc
arc_right p z a b = arc_by (triple_right a p z) (triple_right b p z) (triple_right p a b) (triple_right z a b)

pub arc_up : (p z a b : Framed) → arc (up p) (up z) (up a) (up b) ≡ arc p z a b
unfolding arc
arc_up p z a b = arc_by (triple_up a p z) (triple_up b p z) (triple_up p a b) (triple_up z a b)
