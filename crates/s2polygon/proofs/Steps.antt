-- The answers of code on lines and steps.
use Rattle.std.proofs.Common.{◌≡◌, refl, sym, ap, ap₂, ◌∙◌, ℤ, pos, ◌≤ℤ◌, ◌<ℤ◌, inl, inr, FitsSigned, to_z, of_z}
use Rattle.std.proofs.Common.{w64, Bool, true, false, not, IsTrue, ◌↔◌, List, [], ◌∷◌, ◌++◌, ℕ, suc, ◌+◌, ◌/◌, ◌<◌}
use Rattle.std.proofs.Common.{◌==◌, ◌&&◌, min, max, length, take, get_or, arith, eqb-true}
use Rattle.std.proofs.lemmas.List.{take_more}
use Rattle.std.proofs.lemmas.Int.{ints, to_z-of_z}
use Rattle.std.proofs.lemmas.Bool.Decides.{same_from_decides}
use Rattle.std.proofs.Math.Bool.{xor, beq}
use Rattle.s2polygon.proofs.Meetings.{yes}
use Rattle.s2polygon.proofs.Parity.{are_of_crossing_decides, xor_false}
use Rattle.s2polygon.specs.Cells.{step_to}
use Rattle.s2polygon.specs.Crosses.{side, crosses_row_at, crosses_column_at, are_of_crossing, is_at_least_0}
use Rattle.s2polygon.specs.Meets.{above, left_of}
use Rattle.s2polygon.specs.Parity.{is_odd_by, is_odd_over, is_odd_along}
use Rattle.s2polygon.specs.Places.{along}
use Rattle.s2polygon.specs.Ways.{crosses, row, column, middle_of}
use Rattle.s2polygon.specs.Working.Crossed.{AreBeside, AreCrossed}
use Rattle.s2polygon.specs.Working.Descent.{crosses_step_at, places_of}
use Rattle.s2polygon.specs.Working.Sizes.{IsPlace}
use Rattle.s2polygon.specs.declared.frames.FramedEdge.{FramedEdge}

-- ---- the signs
at_least_true : (z : ℤ) → pos 0 ≤ℤ z → is_at_least_0 z ≡ true
at_least_true z h = by (is_at_least_0 z) refl
  where
    by : (t : Bool) → is_at_least_0 z ≡ t → is_at_least_0 z ≡ true
    by true e = e
    by false e = absurd (omega (arith, ints))

at_least_false : (z : ℤ) → z <ℤ pos 0 → is_at_least_0 z ≡ false
at_least_false z h = by (is_at_least_0 z) refl
  where
    by : (t : Bool) → is_at_least_0 z ≡ t → is_at_least_0 z ≡ false
    by true e = absurd (omega (arith, ints))
    by false e = e

beside_not_crossed : (a b p q : ℤ) → AreBeside a b → are_of_crossing a b p q ≡ false
unfolding xor
beside_not_crossed a b p q (inl c) = rw (at_least_true a c.0, at_least_true b c.1) refl
beside_not_crossed a b p q (inr c) = rw (at_least_false a c.0, at_least_false b c.1) refl

-- what code says of numbers that went to bits
pub beside_answer : (a b a_is b_is p q : ℤ) → a ≡ a_is → b ≡ b_is → (IsTrue true → AreBeside a b) → false
    ≡ are_of_crossing a_is b_is p q
beside_answer a b a_is b_is p q e f h = sym (beside_not_crossed a_is b_is p q (rw (e, f) at (h yes)))

pub crossed_answer : (a b p q a_is b_is p_is q_is : ℤ) (r : Bool) → a ≡ a_is → b ≡ b_is → p ≡ p_is → q ≡ q_is
    → (IsTrue r ↔ AreCrossed a b p q) → r ≡ are_of_crossing a_is b_is p_is q_is
crossed_answer a b p q a_is b_is p_is q_is r e f g h k =
    same_from_decides r (are_of_crossing a_is b_is p_is q_is) (rw (e, f, g, h) at k)
    (are_of_crossing_decides a_is b_is p_is q_is)

-- a place of a piece, which went to bits
pub passed : (z : ℤ) → FitsSigned w64 z → IsPlace z → IsPlace (to_z w64 (of_z w64 z))
passed z f p = rw (to_z-of_z w64 z f) p

pub either_answer : (r s t u : Bool) → r ≡ t → s ≡ u → not (beq r s) ≡ xor t u
unfolding xor
either_answer r s t u e f = rw (e, f) refl

-- ---- one more edge
pub xor_moves : (a b c : Bool) → xor a (xor b c) ≡ xor (xor a b) c
unfolding xor
xor_moves true true true = refl
xor_moves true true false = refl
xor_moves true false true = refl
xor_moves true false false = refl
xor_moves false true true = refl
xor_moves false true false = refl
xor_moves false false true = refl
xor_moves false false false = refl

pub xor_same : (a b : Bool) → xor a b ≡ xor b a
unfolding xor
xor_same true true = refl
xor_same true false = refl
xor_same false true = refl
xor_same false false = refl

module _ {A : Type 0} (test : A → Bool) where
  pub odd_more : (es : List A) (e : A) → is_odd_by test (es ++ (e ∷ [])) ≡ xor (is_odd_by test es) (test e)
  odd_more [] e = xor_same (test e) false
  odd_more (f ∷ es) e = ap (xor (test f)) (odd_more es e) ∙ xor_moves (test f) (is_odd_by test es) (test e)

  pub odd_next : (es : List A) (i : ℕ) (d : A) (odd r : Bool) → i < length es → odd ≡ is_odd_by test (take i es) → r
      ≡ test (get_or es i d)
      → not (beq odd r) ≡ is_odd_by test (take (i + 1) es)
  odd_next es i d odd r h e f =
      either_answer odd r (is_odd_by test (take i es)) (test (get_or es i d)) e f
      ∙ sym (ap (is_odd_by test) (take_more es i d h) ∙ odd_more (take i es) (get_or es i d))

-- ---- a step by its places says what its pieces say
pub never_of_crossing : (a b p : ℤ) → are_of_crossing a b p p ≡ false
unfolding xor
never_of_crossing a b p = by (is_at_least_0 a) (is_at_least_0 b) (is_at_least_0 p)
  where
    by : (s t u : Bool) → xor s t && xor u u && beq u t ≡ false
    by true true u = refl
    by false false u = refl
    by true false true = refl
    by true false false = refl
    by false true true = refl
    by false true false = refl

one_place : (u w : ℕ) → u ≡ w → (min u w ≡ max u w)
one_place u w e = omega arith

pub row_piece : (v u w : ℕ) (e : FramedEdge) → crosses_row_at (along v) (along (min u w)) (along (max u w)) e
    ≡ crosses (row v u w) e
row_piece v u w e = by (u == w) refl
  where
    by : (t : Bool) → (u == w) ≡ t → crosses_row_at (along v) (along (min u w)) (along (max u w)) e
        ≡ not t && crosses_row_at (along v) (along (min u w)) (along (max u w)) e
    by false is = refl
    by true is = rw (one_place u w (eqb-true u w is)) (never_of_crossing (above (along v) e.a) (above (along v) e.b)
        (side (along (max u w)) (along v) e.a e.b))

pub column_piece : (u v w : ℕ) (e : FramedEdge) → crosses_column_at (along u) (along (min v w)) (along (max v w)) e
    ≡ crosses (column u v w) e
column_piece u v w e = by (v == w) refl
  where
    by : (t : Bool) → (v == w) ≡ t → crosses_column_at (along u) (along (min v w)) (along (max v w)) e
        ≡ not t && crosses_column_at (along u) (along (min v w)) (along (max v w)) e
    by false is = refl
    by true is = rw (one_place v w (eqb-true v w is)) (never_of_crossing (left_of (along u) e.a)
        (left_of (along u) e.b) (side (along u) (along (max v w)) e.a e.b))

pub xor_pairs : (a b c d : Bool) → xor (xor a b) (xor c d) ≡ xor (xor a c) (xor b d)
unfolding xor
xor_pairs true true true d = refl
xor_pairs true true false true = refl
xor_pairs true true false false = refl
xor_pairs true false true true = refl
xor_pairs true false true false = refl
xor_pairs true false false true = refl
xor_pairs true false false false = refl
xor_pairs false true true true = refl
xor_pairs false true true false = refl
xor_pairs false true false true = refl
xor_pairs false true false false = refl
xor_pairs false false true true = refl
xor_pairs false false true false = refl
xor_pairs false false false d = refl

pub odd_of_both : {A : Type 0} (f g h : A → Bool) → ((e : A) → h e ≡ xor (f e) (g e)) → (es : List A)
    → is_odd_by h es ≡ xor (is_odd_by f es) (is_odd_by g es)
odd_of_both f g h same [] = sym (xor_false false)
odd_of_both f g h same (e ∷ es) = ap₂ xor (same e) (odd_of_both f g h same es) ∙ xor_pairs (f e) (g e)
    (is_odd_by f es) (is_odd_by g es)

xor_last : (a b : Bool) → xor a b ≡ xor a (xor b false)
unfolding xor
xor_last true true = refl
xor_last true false = refl
xor_last false true = refl
xor_last false false = refl

pub odd_as_pieces : (k i j : ℕ) (es : List FramedEdge) → is_odd_by (crosses_step_at (places_of k i j)) es
    ≡ is_odd_along (step_to k i j) es
odd_as_pieces k i j es =
    let p = row (middle_of (suc k) (j / 2)) (middle_of (suc k) (i / 2)) (middle_of k i) in
    let q = column (middle_of k i) (middle_of (suc k) (j / 2)) (middle_of k j) in
    odd_of_both (crosses p) (crosses q) (crosses_step_at (places_of k i j))
    (λ e. ap₂ xor (row_piece (middle_of (suc k) (j / 2)) (middle_of (suc k) (i / 2)) (middle_of k i) e)
    (column_piece (middle_of k i) (middle_of (suc k) (j / 2)) (middle_of k j) e)) es
    ∙ xor_last (is_odd_over p es) (is_odd_over q es)
