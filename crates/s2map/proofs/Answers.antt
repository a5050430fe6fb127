-- Answers of yes and no: comparisons, and which of two is so.
use Rattle.std.proofs.Common.{◌≡◌, refl, sym, ap, ap₂, ◌∙◌, ℤ, ◌≤ℤ◌, ◌<ℤ◌, arith, int_le, int_lt}
use Rattle.std.proofs.Common.{Bool, true, false, not, ◌&&◌, ◌⊎◌, inl, inr, List, [], ◌∷◌}
use Rattle.std.proofs.lemmas.Bool.{or_parts}
use Rattle.std.proofs.lemmas.Int.{ints}
use Rattle.std.proofs.Math.Bool.{beq, xor}
use Rattle.std.specs.List.{list_any}
use Rattle.s2polygon.proofs.Changes.{xor_none}
use Rattle.s2polygon.proofs.Steps.{either_answer, xor_moves, xor_pairs}
use Rattle.s2polygon.specs.Parity.{is_odd_by}

pub le_true : (x y : ℤ) → x ≤ℤ y → int_le x y ≡ true
le_true x y h = by (int_le x y) refl
  where
    by : (t : Bool) → int_le x y ≡ t → int_le x y ≡ true
    by true e = e
    by false e = absurd (omega (arith, ints))

pub le_false : (x y : ℤ) → y <ℤ x → int_le x y ≡ false
le_false x y h = by (int_le x y) refl
  where
    by : (t : Bool) → int_le x y ≡ t → int_le x y ≡ false
    by true e = absurd (omega (arith, ints))
    by false e = e

pub lt_true : (x y : ℤ) → x <ℤ y → int_lt x y ≡ true
lt_true x y h = by (int_lt x y) refl
  where
    by : (t : Bool) → int_lt x y ≡ t → int_lt x y ≡ true
    by true e = e
    by false e = absurd (omega (arith, ints))

pub lt_false : (x y : ℤ) → y ≤ℤ x → int_lt x y ≡ false
lt_false x y h = by (int_lt x y) refl
  where
    by : (t : Bool) → int_lt x y ≡ t → int_lt x y ≡ false
    by true e = absurd (omega (arith, ints))
    by false e = e

pub le_out : (x y : ℤ) → int_le x y ≡ true → x ≤ℤ y
le_out x y e = omega (arith, ints)

pub le_not : (x y : ℤ) → int_le x y ≡ false → y <ℤ x
le_not x y e = omega (arith, ints)

pub lt_out : (x y : ℤ) → int_lt x y ≡ true → x <ℤ y
lt_out x y e = omega (arith, ints)

pub lt_not : (x y : ℤ) → int_lt x y ≡ false → y ≤ℤ x
lt_not x y e = omega (arith, ints)

-- of five, one is so
pub some_of_five : (a b c d e : Bool) → (not a && (not b && (not c && (not d && not e)))) ≡ false
    → (a ≡ true) ⊎ (b ≡ true) ⊎ (c ≡ true) ⊎ (d ≡ true) ⊎ (e ≡ true)
some_of_five true b c d e h = inl refl
some_of_five false true c d e h = inr (inl refl)
some_of_five false false true d e h = inr (inr (inl refl))
some_of_five false false false true e h = inr (inr (inr (inl refl)))
some_of_five false false false false true h = inr (inr (inr (inr refl)))
some_of_five false false false false false h = cc

-- ---- what is so of each that doesn't pass a test is so of all, if none passes
pub odd_pairs : {A : Type 0} (f g h m : A → Bool) → ((x : A) → m x ≡ false → xor (f x) (g x) ≡ h x) → (xs : List A)
    → list_any m xs ≡ false → xor (is_odd_by f xs) (is_odd_by g xs) ≡ is_odd_by h xs
unfolding xor
odd_pairs f g h m each [] none = refl
odd_pairs f g h m each (x ∷ xs) none =
    let n = or_parts (m x) (list_any m xs) none in
    xor_pairs (f x) (is_odd_by f xs) (g x) (is_odd_by g xs)
    ∙ ap₂ xor (each x n.0) (odd_pairs f g h m each xs n.1)

-- seven answers, of which code asks three, then three, then one
pub seven : (a b c d e f g p q r s t u v : Bool) → a ≡ p → b ≡ q → c ≡ r → d ≡ s → e ≡ t → f ≡ u → g ≡ v
    → not (beq (not (beq (not (beq (not (beq a b)) c)) d)) (not (beq (not (beq e f)) g)))
    ≡ xor p (xor q (xor r (xor s (xor t (xor u (xor v false))))))
seven a b c d e f g p q r s t u v ha hb hc hd he hf hg =
    either_answer (not (beq (not (beq (not (beq a b)) c)) d)) (not (beq (not (beq e f)) g))
    (xor (xor (xor p q) r) s) (xor (xor t u) v)
    (either_answer (not (beq (not (beq a b)) c)) d (xor (xor p q) r) s
    (either_answer (not (beq a b)) c (xor p q) r (either_answer a b p q ha hb) hc) hd)
    (either_answer (not (beq e f)) g (xor t u) v (either_answer e f t u he hf) hg)
    ∙ sym (xor_moves p q (xor r (xor s (xor t (xor u (xor v false)))))
    ∙ xor_moves (xor p q) r (xor s (xor t (xor u (xor v false))))
    ∙ xor_moves (xor (xor p q) r) s (xor t (xor u (xor v false)))
    ∙ ap (xor (xor (xor (xor p q) r) s)) (xor_moves t u (xor v false) ∙ ap (xor (xor t u)) (xor_none v)))
