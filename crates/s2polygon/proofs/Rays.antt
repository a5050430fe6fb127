-- An edge crosses a piece of a way where it comes over the line of the piece beyond just one of the piece's ends.
use Rattle.std.proofs.Common.{◌≡◌, refl, sym, ap, ◌∙◌, ℤ, pos, ◌-ℤ◌, ◌≤ℤ◌, ◌<ℤ◌, ◌⊎◌, inl, inr, Bool, true, false, ◌&&◌}
use Rattle.std.proofs.Common.{arith, cond, zero, suc, negsuc, ◌*ℤ◌, ◌≢◌}
use Rattle.std.proofs.lemmas.Int.{ints, by_lt_z}
use Rattle.std.proofs.Math.Bool.{xor}
use Rattle.std.specs.Prelude.{int_lt}
use Rattle.std.specs.Bool.{beq, Decides}
use Rattle.std.proofs.lemmas.Bool.Decides.{Decides-like, same_from_decides}
use Rattle.s2polygon.proofs.Integers.{at, ◌⊖◌, ◌⊗◌, equal, weaken}
use Rattle.s2polygon.proofs.Parity.{no, yes}
use Rattle.s2polygon.specs.Crosses.{is_at_least_0, are_of_crossing}

-- ---- rays
-- the edge comes over the line before the center: it turns so, where it ends on this side of the line
abbrev turns : Bool → Bool → Bool → Bool
turns ends falls rises = cond ends falls rises

abbrev ray_by : Bool → Bool → Bool → Bool → Bool → Bool
ray_by a b falls rises p = xor a b && (turns b falls rises && beq p b)

-- an edge comes over a line beyond a place of the line. `a` and `b` are its ends' distances from the line, `n` says how
-- the side of the edge changes along the line, and `p` on which side of it the place lies
abbrev pub ray : ℤ → ℤ → ℤ → ℤ → Bool
ray a b n p = ray_by (is_at_least_0 a) (is_at_least_0 b) (int_lt n (pos 0)) (int_lt (pos 0) n) (is_at_least_0 p)

crossing_by : (a b falls rises p q : Bool) → (falls ≡ false → p ≡ true → q ≡ false → ⊥)
    → (falls ≡ true → p ≡ false → q ≡ true → ⊥) → (rises ≡ false → p ≡ false → q ≡ true → ⊥)
    → (rises ≡ true → p ≡ true → q ≡ false → ⊥)
    → (xor a b && xor p q && beq p b) ≡ xor (ray_by a b falls rises p) (ray_by a b falls rises q)
unfolding xor
crossing_by true true falls rises p q c d e f = refl
crossing_by false false falls rises p q c d e f = refl
crossing_by false true true rises true true c d e f = refl
crossing_by false true false rises true true c d e f = refl
crossing_by false true true rises true false c d e f = refl
crossing_by false true false rises true false c d e f = absurd (c refl refl refl)
crossing_by false true true rises false true c d e f = absurd (d refl refl refl)
crossing_by false true false rises false true c d e f = refl
crossing_by false true true rises false false c d e f = refl
crossing_by false true false rises false false c d e f = refl
crossing_by true false falls true true true c d e f = refl
crossing_by true false falls false true true c d e f = refl
crossing_by true false falls true true false c d e f = absurd (f refl refl refl)
crossing_by true false falls false true false c d e f = refl
crossing_by true false falls true false true c d e f = refl
crossing_by true false falls false false true c d e f = absurd (e refl refl refl)
crossing_by true false falls true false false c d e f = refl
crossing_by true false falls false false false c d e f = refl

-- from the place with `p` to that with `q` the side changes as `n` says
pub record Follows (n p q : ℤ) : Type 0 where
  pub falls : n <ℤ pos 0 → q <ℤ p
  pub rises : pos 0 <ℤ n → p <ℤ q
  pub stays : n ≡ pos 0 → p ≡ q

pub crossing_is : (a b n p q : ℤ) → Follows n p q → are_of_crossing a b p q ≡ xor (ray a b n p) (ray a b n q)
crossing_is a b n p q h =
    crossing_by (is_at_least_0 a) (is_at_least_0 b) (int_lt n (pos 0)) (int_lt (pos 0) n) (is_at_least_0 p)
    (is_at_least_0 q)
    (λ c d e. by_lt_z (pos 0) n (λ (l : pos 0 <ℤ n). let k = h.rises l in omega (arith, ints))
    (λ (l : n ≤ℤ pos 0). let k = h.stays (omega (arith, ints)) in omega (arith, ints)))
    (λ c d e. let k = h.falls (omega (arith, ints)) in omega (arith, ints))
    (λ c d e. by_lt_z n (pos 0) (λ (l : n <ℤ pos 0). let k = h.falls l in omega (arith, ints))
    (λ (l : pos 0 ≤ℤ n). let k = h.stays (omega (arith, ints)) in omega (arith, ints)))
    (λ c d e. let k = h.rises (omega (arith, ints)) in omega (arith, ints))

-- ---- the same edge, turned round
-- the place lies on the edge
pub record IsOn (a b n p : ℤ) : Type 0 where
  pub none : p ≡ pos 0
  pub ends : ((a <ℤ pos 0) × (pos 0 ≤ℤ b) × (n <ℤ pos 0)) ⊎ ((pos 0 ≤ℤ a) × (b <ℤ pos 0) × (pos 0 <ℤ n))

-- just one of an edge and of the same edge, turned round, comes over the line beyond the place
abbrev pub changes : ℤ → ℤ → ℤ → ℤ → Bool
changes a b n p = xor (ray a b n p) (ray b a (pos 0 -ℤ n) (pos 0 -ℤ p))

falls_turned : (n : ℤ) → int_lt (pos 0 -ℤ n) (pos 0) ≡ int_lt (pos 0) n
falls_turned n = by (int_lt (pos 0 -ℤ n) (pos 0)) (int_lt (pos 0) n) refl refl
  where
    by : (s t : Bool) → int_lt (pos 0 -ℤ n) (pos 0) ≡ s → int_lt (pos 0) n ≡ t → int_lt (pos 0 -ℤ n) (pos 0)
        ≡ int_lt (pos 0) n
    by true true e f = e ∙ sym f
    by false false e f = e ∙ sym f
    by true false e f = absurd (omega (arith, ints))
    by false true e f = absurd (omega (arith, ints))

rises_turned : (n : ℤ) → int_lt (pos 0) (pos 0 -ℤ n) ≡ int_lt n (pos 0)
rises_turned n = by (int_lt (pos 0) (pos 0 -ℤ n)) (int_lt n (pos 0)) refl refl
  where
    by : (s t : Bool) → int_lt (pos 0) (pos 0 -ℤ n) ≡ s → int_lt n (pos 0) ≡ t → int_lt (pos 0) (pos 0 -ℤ n)
        ≡ int_lt n (pos 0)
    by true true e f = e ∙ sym f
    by false false e f = e ∙ sym f
    by true false e f = absurd (omega (arith, ints))
    by false true e f = absurd (omega (arith, ints))

pub above_0 : (z : ℤ) → pos 0 ≤ℤ z → z ≢ pos 0 → pos 0 <ℤ z
above_0 z h k = by_lt_z (pos 0) z (λ (l : pos 0 <ℤ z). l) (λ (l : z ≤ℤ pos 0). absurd (k (omega (arith, ints))))

module _ (a b n p : ℤ) where
  neither : ¬ ((a <ℤ pos 0) × (pos 0 ≤ℤ b) × (n <ℤ pos 0)) → ¬ ((pos 0 ≤ℤ a) × (b <ℤ pos 0) × (pos 0 <ℤ n))
      → ¬ (IsOn a b n p)
  neither f g h = by h.ends
    where
      by : ((a <ℤ pos 0) × (pos 0 ≤ℤ b) × (n <ℤ pos 0)) ⊎ ((pos 0 ≤ℤ a) × (b <ℤ pos 0) × (pos 0 <ℤ n)) → ⊥
      by (inl c) = f c
      by (inr c) = g c

  off : ¬ (p ≡ pos 0) → ¬ (IsOn a b n p)
  off f h = f h.none

  by_signs : (s t falls rises u v : Bool) → is_at_least_0 a ≡ s → is_at_least_0 b ≡ t → int_lt n (pos 0) ≡ falls
      → int_lt (pos 0) n ≡ rises → is_at_least_0 p ≡ u → is_at_least_0 (pos 0 -ℤ p) ≡ v
      → Decides (xor (ray_by s t falls rises u) (ray_by t s rises falls v)) (IsOn a b n p)
  unfolding xor
  by_signs true true f r u v ha hb hf hr hu hv = no
      (neither (λ c. omega (arith, ints, c.0)) (λ c. omega (arith, ints, c.1)))
  by_signs false false f r u v ha hb hf hr hu hv = no
      (neither (λ c. omega (arith, ints, c.1)) (λ c. omega (arith, ints, c.0)))
  by_signs false true true r true true ha hb hf hr hu hv = yes (record {
    none = omega (arith, ints);
    ends = inl (omega (arith, ints), omega (arith, ints), omega (arith, ints));
  })
  by_signs false true true r true false ha hb hf hr hu hv = no (off (λ e. omega (arith, ints)))
  by_signs false true true r false true ha hb hf hr hu hv = no (off (λ e. omega (arith, ints)))
  by_signs false true true r false false ha hb hf hr hu hv = absurd (omega (arith, ints))
  by_signs false true false r u v ha hb hf hr hu hv = no
      (neither (λ c. omega (arith, ints, c.2)) (λ c. omega (arith, ints, c.0)))
  by_signs true false f true true true ha hb hf hr hu hv = yes (record {
    none = omega (arith, ints);
    ends = inr (omega (arith, ints), omega (arith, ints), omega (arith, ints));
  })
  by_signs true false f true true false ha hb hf hr hu hv = no (off (λ e. omega (arith, ints)))
  by_signs true false f true false true ha hb hf hr hu hv = no (off (λ e. omega (arith, ints)))
  by_signs true false f true false false ha hb hf hr hu hv = absurd (omega (arith, ints))
  by_signs true false f false u v ha hb hf hr hu hv = no
      (neither (λ c. omega (arith, ints, c.0)) (λ c. omega (arith, ints, c.2)))

  pub changes_decides : Decides (changes a b n p) (IsOn a b n p)
  changes_decides =
      rw (falls_turned n, rises_turned n)
      (by_signs (is_at_least_0 a) (is_at_least_0 b) (int_lt n (pos 0)) (int_lt (pos 0) n) (is_at_least_0 p)
      (is_at_least_0 (pos 0 -ℤ p)) refl refl refl refl refl refl)

-- ---- a place on two lines
-- both numbers lie on one side of 0, or on two
abbrev pub AreLike : ℤ → ℤ → Type 0
AreLike n m = ((n <ℤ pos 0) × (m <ℤ pos 0)) ⊎ ((pos 0 <ℤ n) × (pos 0 <ℤ m))

abbrev pub AreUnlike : ℤ → ℤ → Type 0
AreUnlike n m = ((n <ℤ pos 0) × (pos 0 <ℤ m)) ⊎ ((pos 0 <ℤ n) × (m <ℤ pos 0))

pub below_like : (n c m a : ℤ) → n *ℤ c ≡ m *ℤ a → AreLike n m → a <ℤ pos 0 → c <ℤ pos 0
below_like n (negsuc l) m a e h k = omega (arith, ints)
below_like (negsuc i) (pos l) (negsuc j) (negsuc o) e h k = absurd (omega (arith, ints))
below_like (pos (suc i)) (pos l) (pos (suc j)) (negsuc o) e h k = absurd (omega (arith, ints))
below_like n (pos l) m (pos o) e h k = absurd (omega (arith, ints))
below_like (pos zero) (pos l) m a e (inl h) k = absurd (omega (arith, ints, h.0))
below_like (pos zero) (pos l) m a e (inr h) k = absurd (omega (arith, ints, h.0))
below_like n (pos l) (pos zero) a e (inl h) k = absurd (omega (arith, ints, h.1))
below_like n (pos l) (pos zero) a e (inr h) k = absurd (omega (arith, ints, h.1))
below_like (negsuc i) (pos l) (pos (suc j)) a e (inl h) k = absurd (omega (arith, ints, h.1))
below_like (negsuc i) (pos l) (pos (suc j)) a e (inr h) k = absurd (omega (arith, ints, h.0))
below_like (pos (suc i)) (pos l) (negsuc j) a e (inl h) k = absurd (omega (arith, ints, h.0))
below_like (pos (suc i)) (pos l) (negsuc j) a e (inr h) k = absurd (omega (arith, ints, h.1))

minus_below : (z : ℤ) → (pos 0 -ℤ z) <ℤ pos 0 → pos 0 <ℤ z
minus_below z h = omega (arith, ints)

below_minus : (z : ℤ) → pos 0 <ℤ z → (pos 0 -ℤ z) <ℤ pos 0
below_minus z h = omega (arith, ints)

-- the same products, of factors turned to the other side of 0
module _ (n c m a : ℤ) (e : n *ℤ c ≡ m *ℤ a) where
  both_minus : n *ℤ (pos 0 -ℤ c) ≡ m *ℤ (pos 0 -ℤ a)
  both_minus =
      equal (at n ⊗ (at (pos 0) ⊖ at c)) (at (pos 0) ⊖ at n ⊗ at c) (omega arith)
      ∙ ap (λ (z : ℤ). pos 0 -ℤ z) e
      ∙ equal (at (pos 0) ⊖ at m ⊗ at a) (at m ⊗ (at (pos 0) ⊖ at a)) (omega arith)

  first_minus : (pos 0 -ℤ n) *ℤ c ≡ m *ℤ (pos 0 -ℤ a)
  first_minus =
      equal ((at (pos 0) ⊖ at n) ⊗ at c) (at (pos 0) ⊖ at n ⊗ at c) (omega arith)
      ∙ ap (λ (z : ℤ). pos 0 -ℤ z) e
      ∙ equal (at (pos 0) ⊖ at m ⊗ at a) (at m ⊗ (at (pos 0) ⊖ at a)) (omega arith)

like_minus : (n m : ℤ) → AreUnlike n m → AreLike (pos 0 -ℤ n) m
like_minus n m (inl h) = inr (omega (arith, ints, h.0), h.1)
like_minus n m (inr h) = inl (omega (arith, ints, h.0), h.1)

pub above_like : (n c m a : ℤ) → n *ℤ c ≡ m *ℤ a → AreLike n m → pos 0 <ℤ a → pos 0 <ℤ c
above_like n c m a e h k = minus_below c (below_like n (pos 0 -ℤ c) m (pos 0 -ℤ a) (both_minus n c m a e) h
    (below_minus a k))

pub below_unlike : (n c m a : ℤ) → n *ℤ c ≡ m *ℤ a → AreUnlike n m → pos 0 <ℤ a → c <ℤ pos 0
below_unlike n c m a e h k = below_like (pos 0 -ℤ n) c m (pos 0 -ℤ a) (first_minus n c m a e) (like_minus n m h)
    (below_minus a k)

pub above_unlike : (n c m a : ℤ) → n *ℤ c ≡ m *ℤ a → AreUnlike n m → a <ℤ pos 0 → pos 0 <ℤ c
above_unlike n c m a e h k = above_like (pos 0 -ℤ n) c m (pos 0 -ℤ a) (first_minus n c m a e) (like_minus n m h)
    (omega (arith, ints))

-- of an edge at one place, by two lines through the place: `a` and `b` are its ends' distances from the one line, along
-- which its side changes by `n`, and `c`, `d` and `m` are those of the other
pub record AreTwoLines (a b n c d m p : ℤ) : Type 0 where
  pub start : p ≡ pos 0 → n *ℤ c ≡ m *ℤ a
  pub end : p ≡ pos 0 → n *ℤ d ≡ m *ℤ b
  pub one : a ≡ pos 0 → b ≡ pos 0 → m ≡ pos 0
  pub other : c ≡ pos 0 → d ≡ pos 0 → n ≡ pos 0
  pub first : a ≡ pos 0 → c ≡ pos 0 → ⊥
  pub last : b ≡ pos 0 → d ≡ pos 0 → ⊥

exchanged : (a b n c d m p : ℤ) → AreTwoLines a b n c d m p → AreTwoLines c d m a b n p
exchanged a b n c d m p h = record {
  start = λ e. sym (h.start e);
  end = λ e. sym (h.end e);
  one = h.other;
  other = h.one;
  first = λ e f. h.first f e;
  last = λ e f. h.last f e;
}

none_of : (n c m a : ℤ) → n *ℤ c ≡ m *ℤ a → n ≢ pos 0 → m *ℤ a ≡ pos 0 → c ≡ pos 0
none_of n (pos zero) m a e h k = refl
none_of (pos zero) c m a e h k = absurd (h refl)
none_of (pos (suc i)) (pos (suc l)) m a e h k = absurd (omega (arith, ints, e ∙ k))
none_of (pos (suc i)) (negsuc l) m a e h k = absurd (omega (arith, ints, e ∙ k))
none_of (negsuc i) (pos (suc l)) m a e h k = absurd (omega (arith, ints, e ∙ k))
none_of (negsuc i) (negsuc l) m a e h k = absurd (omega (arith, ints, e ∙ k))

product_none : (m a : ℤ) → a ≡ pos 0 → m *ℤ a ≡ pos 0
product_none m a e = ap (λ (z : ℤ). m *ℤ z) e ∙ equal (at m ⊗ at (pos 0)) (at (pos 0)) (omega arith)

none_product : (m a : ℤ) → m ≡ pos 0 → m *ℤ a ≡ pos 0
none_product m a e = ap (λ (z : ℤ). z *ℤ a) e ∙ equal (at (pos 0) ⊗ at a) (at (pos 0)) (omega arith)

module _ (a b n c d m p : ℤ) (h : AreTwoLines a b n c d m p) where
  -- the edge doesn't run along the other line
  along_neither : p ≡ pos 0 → n ≢ pos 0 → m ≢ pos 0
  along_neither e k f =
      k (h.other (none_of n c m a (h.start e) k (none_product m a f))
      (none_of n d m b (h.end e) k (none_product m b f)))

  first_some : p ≡ pos 0 → n ≢ pos 0 → a ≢ pos 0
  first_some e k f = h.first f (none_of n c m a (h.start e) k (product_none m a f))

  last_some : p ≡ pos 0 → n ≢ pos 0 → b ≢ pos 0
  last_some e k f = h.last f (none_of n d m b (h.end e) k (product_none m b f))

  on_other : IsOn a b n p → IsOn c d m p
  on_other i = record { none = i.none; ends = by i.ends }
    where
      by : ((a <ℤ pos 0) × (pos 0 ≤ℤ b) × (n <ℤ pos 0)) ⊎ ((pos 0 ≤ℤ a) × (b <ℤ pos 0) × (pos 0 <ℤ n))
          → ((c <ℤ pos 0) × (pos 0 ≤ℤ d) × (m <ℤ pos 0)) ⊎ ((pos 0 ≤ℤ c) × (d <ℤ pos 0) × (pos 0 <ℤ m))
      by (inl t) =
          let some : n ≢ pos 0 = λ e. omega (arith, ints, t.2) in
          let turn = along_neither i.none some in
          let ends = last_some i.none some in
          let beyond : pos 0 <ℤ b = above_0 b t.1 ends in
          by_lt_z m (pos 0)
          (λ (l : m <ℤ pos 0). inl (
            below_like n c m a (h.start i.none) (inl (t.2, l)) t.0,
            weaken (pos 0) d (above_like n d m b (h.end i.none) (inl (t.2, l)) beyond),
            l,
          ))
          (λ (l : pos 0 ≤ℤ m). let more = above_0 m l turn in
          inr (
            weaken (pos 0) c (above_unlike n c m a (h.start i.none) (inl (t.2, more)) t.0),
            below_unlike n d m b (h.end i.none) (inl (t.2, more)) beyond,
            more,
          ))
      by (inr t) =
          let some : n ≢ pos 0 = λ e. omega (arith, ints, t.2) in
          let turn = along_neither i.none some in
          let starts = first_some i.none some in
          let beyond : pos 0 <ℤ a = above_0 a t.0 starts in
          by_lt_z m (pos 0)
          (λ (l : m <ℤ pos 0). inl (
            below_unlike n c m a (h.start i.none) (inr (t.2, l)) beyond,
            weaken (pos 0) d (above_unlike n d m b (h.end i.none) (inr (t.2, l)) t.1),
            l,
          ))
          (λ (l : pos 0 ≤ℤ m). let more = above_0 m l turn in
          inr (
            weaken (pos 0) c (above_like n c m a (h.start i.none) (inr (t.2, more)) beyond),
            below_like n d m b (h.end i.none) (inr (t.2, more)) t.1,
            more,
          ))

pub changes_alike : (a b n c d m p : ℤ) → AreTwoLines a b n c d m p → changes a b n p ≡ changes c d m p
changes_alike a b n c d m p h =
    same_from_decides (changes a b n p) (changes c d m p) (changes_decides a b n p)
    (Decides-like (changes c d m p) (on_other c d m a b n p (exchanged a b n c d m p h)) (on_other a b n c d m p h)
    (changes_decides c d m p))
