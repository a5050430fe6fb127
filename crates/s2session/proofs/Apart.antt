-- A walk along two ascending lists that share no cell.
use Rattle.std.proofs.Common.{◌≡◌, ℕ, zero, suc, ◌+◌, ◌<◌, Bool, true, false, ◌||◌, eqb, List, [], ◌∷◌, length, drop}
use Rattle.std.proofs.Common.{get_or, refl, sym, ap, ◌∙◌, subst, ⊎_elim, arith, eqb-true, eq-eqb, add-one, drop-cons}
use Rattle.std.proofs.lemmas.Bool.{or_cases, or_left, or_right, false≢true}
use Rattle.std.specs.List.Sorted.{IsStrictlyIncreasing}
use Rattle.s2union.specs.Apply.{has}
use Rattle.s2union.proofs.CellLists.{IsAscending, has-below, AllAbove-trans, ascends_from}
use Rattle.s2edit.specs.Diff.{AreApart}

IsAscending-drop : (xs : List ℕ) (k : ℕ) → IsAscending xs → IsAscending (drop k xs)
IsAscending-drop xs zero a = a
IsAscending-drop [] (suc k) a = tt
IsAscending-drop (x ∷ xs) (suc k) a = IsAscending-drop xs k a.1

at_head : (xs : List ℕ) (k : ℕ) → k < length xs → drop k xs ≡ get_or xs k 0 ∷ drop (k + 1) xs
at_head xs k h = rw (add-one, drop-cons xs k 0)

-- a cell below the one at the place is not there from the place on
not_from : (xs : List ℕ) (k x : ℕ) → IsStrictlyIncreasing xs → k < length xs → x < get_or xs k 0 →
    has (drop k xs) x ≡ false
not_from xs k x a l h =
    let d : IsAscending (get_or xs k 0 ∷ drop (k + 1) xs) =
    subst IsAscending (at_head xs k l) (IsAscending-drop xs k (ascends_from xs a)) in
    ap (λ (ys : List ℕ). has ys x) (at_head xs k l)
    ∙ has-below x (get_or xs k 0 ∷ drop (k + 1) xs) (h, AllAbove-trans x (get_or xs k 0) (drop (k + 1) xs) h d.0)

-- past a cell of the first list that is below all that are left of the second
pub apart_first : (out put : List ℕ) (i j : ℕ) → IsStrictlyIncreasing put → i < length out → j < length put →
    get_or out i 0 < get_or put j 0 → AreApart (drop (i + 1) out) (drop j put) → AreApart (drop i out) (drop j put)
apart_first out put i j a l m h rest x there =
    ⊎_elim
    (λ (e : eqb (get_or out i 0) x ≡ true). subst (λ (y : ℕ). has (drop j put) y ≡ false)
    (eqb-true (get_or out i 0) x e) (not_from put j (get_or out i 0) a m h))
    (λ (e : has (drop (i + 1) out) x ≡ true). rest x e) (or_cases (eqb (get_or out i 0) x)
    (has (drop (i + 1) out) x) (sym (ap (λ (ys : List ℕ). has ys x) (at_head out i l)) ∙ there))

-- and past one of the second that is below all that are left of the first
pub apart_second : (out put : List ℕ) (i j : ℕ) → IsStrictlyIncreasing out → i < length out → j < length put →
    get_or put j 0 < get_or out i 0 → AreApart (drop i out) (drop (j + 1) put) → AreApart (drop i out) (drop j put)
apart_second out put i j a l m h rest x there =
    let none : eqb (get_or put j 0) x ≡ false =
    not_true (eqb (get_or put j 0) x) (λ e. false≢true (sym (not_from out i (get_or put j 0) a l h)
    ∙ ap (has (drop i out)) (eqb-true (get_or put j 0) x e) ∙ there)) in
    ap (λ (ys : List ℕ). has ys x) (at_head put j m) ∙ ap (λ b. b || has (drop (j + 1) put) x) none ∙ rest x there
  where
    not_true : (b : Bool) → (b ≡ true → ⊥) → b ≡ false
    not_true true n = absurd (n refl)
    not_true false n = refl

has_at : (xs : List ℕ) (k : ℕ) → k < length xs → has xs (get_or xs k 0) ≡ true
has_at [] k l = absurd (omega arith)
has_at (x ∷ xs) zero l = or_left (eqb x x) (has xs x) (eq-eqb x x refl)
has_at (x ∷ xs) (suc k) l = or_right (eqb x (get_or xs k 0)) (has xs (get_or xs k 0)) (has_at xs k (omega arith))

-- a cell of both
pub not_apart : (out put : List ℕ) (i j : ℕ) → i < length out → j < length put → get_or out i 0 ≡ get_or put j 0 →
    AreApart out put → ⊥
not_apart out put i j l m e apart =
    false≢true (sym (apart (get_or out i 0) (has_at out i l)) ∙ ap (has put) e ∙ has_at put j m)
