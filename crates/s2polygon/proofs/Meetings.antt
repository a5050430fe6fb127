-- What the tests of `meets` say.
use Rattle.std.proofs.Common.{◌≡◌, ℤ, FitsSigned, to_z, of_z, w64, ap, ap₂, ◌∙◌, Bool, true, false, IsTrue, ◌↔◌}
use Rattle.std.proofs.Common.{inl, inr, rules}
use Rattle.std.proofs.lemmas.Int.{to_z-of_z}
use mir.Syntax.{w128}
use Rattle.s2polygon.specs.Crosses.{side, side_by}
use Rattle.s2polygon.specs.Frames.{normal_of}
use Rattle.s2polygon.specs.Working.Apart.{AreBehind, AreApart, AreFacing}
use Rattle.s2polygon.specs.declared.meeting.Pair.{Pair}
use Rattle.s2polygon.specs.declared.frames.Framed.{Framed}

pub yes : IsTrue true
yes = search rules

pub no : IsTrue false → ⊥
no h = search rules

pub missed : (M : Type 0) → ¬ M → (IsTrue false ↔ M)
missed M h = (λ f. absurd (no f), λ m. absurd (h m))

pub met : (M : Type 0) → M → (IsTrue true ↔ M)
met M m = (λ t. m, λ n. yes)

pub behind_yes : (p p_is : Pair) → p ≡ p_is → (IsTrue true ↔ AreBehind p) → AreBehind p_is
behind_yes p p_is e h = rw e at (h.0 yes)

pub behind_if : (p p_is : Pair) (r : Bool) → p ≡ p_is → (IsTrue r ↔ AreBehind p) → IsTrue r → AreBehind p_is
behind_if p p_is r e h t = rw e at (h.0 t)

pub behind_no : (p p_is : Pair) → p ≡ p_is → (IsTrue false ↔ AreBehind p) → ¬ (AreBehind p_is)
behind_no p p_is e h = λ b. let k = rw e at h in no (k.1 b)

pub apart_yes : (p p_is q q_is : Pair) (t t_is : ℤ) → p ≡ p_is → q ≡ q_is → t ≡ t_is → (IsTrue true ↔ AreApart p q t)
    → AreApart p_is q_is t_is
apart_yes p p_is q q_is t t_is e f g h = rw (e, f, g) at (h.0 yes)

pub apart_no : (p p_is q q_is : Pair) (t t_is : ℤ) → p ≡ p_is → q ≡ q_is → t ≡ t_is → (IsTrue false ↔ AreApart p q t)
    → ¬ (AreApart p_is q_is t_is)
apart_no p p_is q q_is t t_is e f g h = λ b. let k = rw (e, f, g) at h in no (k.1 b)

-- the turn at a corner, whose place went to bits, by the edge's normal
pub corner_is : (u v : ℤ) (a b n : Framed) → FitsSigned w64 u → FitsSigned w64 v → n ≡ normal_of a b
    → side_by (to_z w64 (of_z w64 u)) (to_z w64 (of_z w64 v)) n ≡ side u v a b
corner_is u v a b n f g e =
    ap₂ (λ (x y : ℤ). side_by x y n) (to_z-of_z w64 u f) (to_z-of_z w64 v g) ∙ ap (side_by u v) e

-- lines that face none of the edge's ends don't keep it out
pub not_facing : (p q : Pair) (turn : ℤ) (r : Bool) → r ≡ false → (IsTrue r ↔ AreFacing p q) → ¬ (AreApart p q turn)
not_facing p q turn r e h (inl c) = no (rw e at (h.1 (inl (c.0, c.1))))
not_facing p q turn r e h (inr c) = no (rw e at (h.1 (inr (c.0, c.1))))

-- a coordinate of the normal, which went to bits
pub turn_is : (r x e : ℤ) → FitsSigned w128 r → FitsSigned w64 x → r ≡ to_z w64 (of_z w64 x) → x ≡ e
    → to_z w128 (of_z w128 r) ≡ e
turn_is r x e f g is h = to_z-of_z w128 r f ∙ is ∙ to_z-of_z w64 x g ∙ h

-- what is said of a turn that went to bits is said of the turn
pub turned_same : (p q : Pair) (turn turn_is : ℤ) (r : Bool) → turn ≡ turn_is
    → (IsTrue r ↔ AreApart p q turn) → (IsTrue r ↔ AreApart p q turn_is)
turned_same p q turn turn_is r e k = rw e at k
