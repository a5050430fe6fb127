-- The ways between the middles of the faces.
use Rattle.std.proofs.Common.{◌≡◌, refl, sym, ap, ◌∙◌, ℕ, suc, ◌==◌, ◌≢◌, Bool, true}
use Rattle.std.proofs.Common.{false, not, List, eqb-true}
use Rattle.std.proofs.Math.Bool.{beq, xor}
use Rattle.s2polygon.proofs.Parity.{xor_false}
use Rattle.s2polygon.proofs.Steps.{either_answer}
use Rattle.s2polygon.specs.Faces.{crosses_border, top_of}
use Rattle.s2polygon.specs.Parity.{is_odd_by}
use Rattle.s2polygon.specs.Working.Known.{exchanged_by, parities_of}
use Rattle.s2polygon.specs.declared.directions.Edge.{Edge}
use Rattle.s2polygon.specs.declared.faces.Tops.{Tops}

pub is_zero : (n : ℕ) → n ≡ 0 → (n == 0) ≡ true
is_zero n e = rw e refl

pub is_not_zero : (n : ℕ) → n ≢ 0 → (n == 0) ≡ false
is_not_zero n h = by (n == 0) refl
  where
    by : (t : Bool) → (n == 0) ≡ t → (n == 0) ≡ false
    by true e = absurd (h (eqb-true n 0 e))
    by false e = e

-- ---- the parities of the middles
top_first : (es : List Edge) → top_of es 0 ≡ false
unfolding top_of
top_first es = refl

top_next : (es : List Edge) (f : ℕ) → top_of es (suc f) ≡ xor (top_of es f) (is_odd_by (crosses_border f) es)
unfolding top_of
top_next es f = refl

one_on : (es : List Edge) (f : ℕ) (r s : Bool) → r ≡ top_of es f → s ≡ is_odd_by (crosses_border f) es → not
    (beq r s) ≡ top_of es (suc f)
one_on es f r s p q = either_answer r s (top_of es f) (is_odd_by (crosses_border f) es) p q ∙ sym (top_next es f)

from_first : (es : List Edge) (s : Bool) → s ≡ is_odd_by (crosses_border 0) es → s ≡ top_of es 1
from_first es s q =
    q ∙ sym (top_next es 0 ∙ ap (λ (b : Bool). xor b (is_odd_by (crosses_border 0) es)) (top_first es)
    ∙ xor_false (is_odd_by (crosses_border 0) es))

pub tops_are : (es : List Edge) (a b c d e : Bool) → a ≡ is_odd_by (crosses_border 0) es → b ≡ is_odd_by
    (crosses_border 1) es
    → c ≡ is_odd_by (crosses_border 2) es → d ≡ is_odd_by (crosses_border 3) es → e ≡ is_odd_by (crosses_border 4) es
    → ◌≡◌ {A = Tops} (record {
      zero = false;
      one = a;
      two = not (beq a b);
      three = not (beq (not (beq a b)) c);
      four = not (beq (not (beq (not (beq a b)) c)) d);
      five = not (beq (not (beq (not (beq (not (beq a b)) c)) d)) e);
    }) (parities_of es)
tops_are es a b c d e p q r s t =
    let one = from_first es a p in
    let two = one_on es 1 a b one q in
    let three = one_on es 2 (not (beq a b)) c two r in
    let four = one_on es 3 (not (beq (not (beq a b)) c)) d three s in
    let five = one_on es 4 (not (beq (not (beq (not (beq a b)) c)) d)) e four t in
    let none = sym (top_first es) in
    rw (five, four, three, two, one, none) refl

pub exchanged_is : (t : Tops) (odd : Bool) → ◌≡◌ {A = Tops} (record {
  zero = not (beq t.zero odd);
  one = not (beq t.one odd);
  two = not (beq t.two odd);
  three = not (beq t.three odd);
  four = not (beq t.four odd);
  five = not (beq t.five odd);
}) (exchanged_by odd t)
exchanged_is t odd =
    let a = either_answer t.zero odd t.zero odd refl refl in
    let b = either_answer t.one odd t.one odd refl refl in
    let c = either_answer t.two odd t.two odd refl refl in
    let d = either_answer t.three odd t.three odd refl refl in
    let e = either_answer t.four odd t.four odd refl refl in
    let f = either_answer t.five odd t.five odd refl refl in
    make_same a b c d e f
  where
    make_same : {a b c d e f g h i j k l : Bool} → a ≡ g → b ≡ h → c ≡ i → d ≡ j → e ≡ k → f ≡ l
        → ◌≡◌ {A = Tops} (record { zero = a; one = b; two = c; three = d; four = e; five = f })
        (record { zero = g; one = h; two = i; three = j; four = k; five = l })
    make_same p q r s t u = rw (p, q, r, s, t, u) refl
