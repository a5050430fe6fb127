-- Steps of the walks along two ascending lists.
use Rattle.std.proofs.Common.{◌≡◌, ℕ, zero, suc, ◌+◌, ◌<◌, ◌≤◌, Bool, true, false, List, [], ◌∷◌, ◌++◌, length}
use Rattle.std.proofs.Common.{not, nat_cmp, is_lt, eqb, add-zero, refl, set}
use Rattle.std.proofs.Common.{drop, get_or, sym, ap, ◌∙◌, subst, arith, eq-eqb, append_assoc, add-one, drop-cons, ◌⊎◌}
use Rattle.std.proofs.Common.{⊎_elim, take, ◌-◌, length-drop}
use Rattle.std.proofs.lemmas.Bool.Decides.{nat_tests}
use Rattle.std.proofs.lemmas.Bool.{cond-true, cond-false, or_left, true≢false, cases_lt}
use Rattle.std.proofs.lemmas.List.Kept.{AllPairs-from_increasing}
use Rattle.std.proofs.lemmas.List.{take_all, drop_all, take_more, take_more_set, take-set, get_or-drop}
use Rattle.std.proofs.lemmas.List.{length-append, length-take-le}
use mir.Val.{bool_byte}
use Rattle.std.specs.List.Sorted.{IsStrictlyIncreasing}
use Rattle.s2union.specs.Apply.{has, cells_without}
use Rattle.s2union.proofs.CellLists.{AllAbove, IsAscending, has-below, AllAbove-trans, ascends_from}
use Rattle.s2union.proofs.MergeSteps.{cells_without-above}
use Rattle.s2edit.proofs.DiffLemmas.{cells_without-nothing}

pub IsAscending-drop : (xs : List ℕ) (k : ℕ) → IsAscending xs → IsAscending (drop k xs)
IsAscending-drop xs zero a = a
IsAscending-drop [] (suc k) a = tt
IsAscending-drop (x ∷ xs) (suc k) a = IsAscending-drop xs k a.1

pub at_head : (xs : List ℕ) (k : ℕ) → k < length xs → drop k xs ≡ get_or xs k 0 ∷ drop (k + 1) xs
at_head xs k h = rw (add-one, drop-cons xs k 0)

-- the cells after place k are above the one there
pub above_rest : (xs : List ℕ) (k : ℕ) → IsStrictlyIncreasing xs → k < length xs →
    AllAbove (get_or xs k 0) (drop (k + 1) xs)
above_rest xs k a l = let d : IsAscending (get_or xs k 0 ∷ drop (k + 1) xs) =
    subst IsAscending (at_head xs k l) (IsAscending-drop xs k (ascends_from xs a)) in d.0

-- and so is what is above one of them
pub above_all : (xs : List ℕ) (k x : ℕ) → IsStrictlyIncreasing xs → k < length xs → x < get_or xs k 0 →
    AllAbove x (drop k xs)
above_all xs k x a l h =
    subst (AllAbove x) (sym (at_head xs k l)) (
      h,
      AllAbove-trans x (get_or xs k 0) (drop (k + 1) xs) h
          (above_rest xs k a l),
    )

-- one of the others that is below the next cell says nothing of what is left
pub below_turn : (us os : List ℕ) (i j : ℕ) → IsStrictlyIncreasing us → i < length us → j < length os →
    get_or os j 0 < get_or us i 0 →
    cells_without (drop i us) (drop (j + 1) os) ≡ cells_without (drop i us) (drop j os)
below_turn us os i j a l m h =
    sym (ap (cells_without (drop i us)) (at_head os j m)
    ∙ cells_without-above (get_or os j 0) (drop i us) (drop (j + 1) os) (above_all us i (get_or os j 0) a l h))

-- a cell that both have
pub same_turn : (us os : List ℕ) (i j : ℕ) → IsStrictlyIncreasing us → i < length us → j < length os →
    get_or os j 0 ≡ get_or us i 0 →
    cells_without (drop (i + 1) us) (drop (j + 1) os) ≡ cells_without (drop i us) (drop j os)
same_turn us os i j a l m e =
    let t : has (drop j os) (get_or us i 0) ≡ true = ap (λ (xs : List ℕ). has xs (get_or us i 0)) (at_head os j m)
    ∙ or_left (eqb (get_or os j 0) (get_or us i 0)) (has (drop (j + 1) os) (get_or us i 0))
    (eq-eqb (get_or os j 0) (get_or us i 0) e) in
    let above : AllAbove (get_or os j 0) (drop (i + 1) us) =
    subst (λ (x : ℕ). AllAbove x (drop (i + 1) us)) (sym e) (above_rest us i a l) in
    sym (ap (λ (xs : List ℕ). cells_without xs (drop j os)) (at_head us i l)
    ∙ cond-true (has (drop j os) (get_or us i 0)) (cells_without (drop (i + 1) us) (drop j os))
    (get_or us i 0 ∷ cells_without (drop (i + 1) us) (drop j os)) t
    ∙ ap (cells_without (drop (i + 1) us)) (at_head os j m)
    ∙ cells_without-above (get_or os j 0) (drop (i + 1) us) (drop (j + 1) os) above)

-- a cell that the others lack
pub lacking_cell : (us os : List ℕ) (i j : ℕ) → IsStrictlyIncreasing os → i < length us → j < length os →
    get_or us i 0 < get_or os j 0 →
    cells_without (drop i us) (drop j os) ≡ get_or us i 0 ∷ cells_without (drop (i + 1) us) (drop j os)
lacking_cell us os i j a l m h =
    ap (λ (xs : List ℕ). cells_without xs (drop j os)) (at_head us i l)
    ∙ cond-false (has (drop j os) (get_or us i 0)) (cells_without (drop (i + 1) us) (drop j os))
    (get_or us i 0 ∷ cells_without (drop (i + 1) us) (drop j os))
    (has-below (get_or us i 0) (drop j os) (above_all os j (get_or us i 0) a m h))

pub push_on : (w rest left whole : List ℕ) (x : ℕ) → w ++ left ≡ whole → left ≡ x ∷ rest → (w ++ x ∷ []) ++ rest ≡ whole
push_on w rest left whole x e f = append_assoc w (x ∷ []) rest ∙ ap (λ (l : List ℕ). w ++ l) (sym f) ∙ e

pub is_below : (x y : ℕ) (p : Bool) → p ≡ is_lt (nat_cmp x y) → p ≡ true → x < y
is_below x y p e h = grind (arith, nat_tests)

pub is_not_below : (x y : ℕ) (p : Bool) → p ≡ is_lt (nat_cmp x y) → p ≡ false → y ≤ x
is_not_below x y p e h = grind (arith, nat_tests)

-- Two cells are compared: p says that the first is below, q that it is above. It is written at place n of a list.
pub written : (us os list whole : List ℕ) (i j n : ℕ) (p q : Bool) → IsStrictlyIncreasing us → IsStrictlyIncreasing os →
    i < length us → j < length os → n < length list → (p ≡ true → get_or us i 0 < get_or os j 0) →
    (p ≡ false → get_or os j 0 ≤ get_or us i 0) → (q ≡ true → get_or os j 0 < get_or us i 0) →
    (q ≡ false → get_or us i 0 ≤ get_or os j 0) →
    take n list ++ cells_without (drop i us) (drop j os) ≡ whole →
    take (n + bool_byte p) (set list n (get_or us i 0))
    ++ cells_without (drop (i + bool_byte (not q)) us) (drop (j + bool_byte (not p)) os) ≡ whole
written us os list whole i j n true true a b l m k f f' g g' e = absurd (omega (arith, f refl, g refl))
written us os list whole i j n true false a b l m k f f' g g' e =
    let x : ℕ = get_or us i 0 in
    rw (add-zero j) (
    ap (λ (xs : List ℕ). xs ++ cells_without (drop (i + 1) us) (drop j os)) (take_more_set list n x k)
    ∙ push_on (take n list) (cells_without (drop (i + 1) us) (drop j os)) (cells_without (drop i us) (drop j os)) whole
    x e (lacking_cell us os i j b l m (f refl)))
written us os list whole i j n false true a b l m k f f' g g' e =
    rw (add-zero n, add-zero i, take-set list n (get_or us i 0)) (
    ap (λ (xs : List ℕ). take n list ++ xs) (below_turn us os i j a l m (g refl)) ∙ e)
written us os list whole i j n false false a b l m k f f' g g' e =
    rw (add-zero n, take-set list n (get_or us i 0)) (
    ap (λ (xs : List ℕ). take n list ++ xs) (same_turn us os i j a l m (omega (arith, f' refl, g' refl))) ∙ e)

pub few_written : (n i : ℕ) (p q : Bool) → n ≤ i → (p ≡ true → q ≡ true → ⊥) → n + bool_byte p ≤ i + bool_byte (not q)
few_written n i true true h f = absurd (f refl refl)
few_written n i true false h f = omega (arith, h)
few_written n i false true h f = omega (arith, h)
few_written n i false false h f = omega (arith, h)

pub one_more : (i n : ℕ) (p : Bool) → i < n → i + bool_byte p ≤ n
one_more i n true h = omega (arith, h)
one_more i n false h = omega (arith, h)

-- the next cell of one list, if it is p below the next of the other, or that of the other, if it is q below
pub passed : (us vs whole : List ℕ) (i a b : ℕ) (p q : Bool) → IsStrictlyIncreasing us → IsStrictlyIncreasing vs →
    i ≤ a → a < length us → b < length vs → (p ≡ true → get_or us a 0 < get_or vs b 0) →
    (q ≡ true → get_or vs b 0 < get_or us a 0) →
    take (a - i) (drop i us) ++ cells_without (drop a us) (drop b vs) ≡ whole →
    take (a + bool_byte p - i) (drop i us)
    ++ cells_without (drop (a + bool_byte p) us) (drop (b + bool_byte q) vs) ≡ whole
passed us vs whole i a b true true up vp k l m f g e = absurd (omega (arith, f refl, g refl))
passed us vs whole i a b false false up vp k l m f g e = rw (add-zero a, add-zero b) e
passed us vs whole i a b false true up vp k l m f g e =
    rw (add-zero a) (ap (λ (xs : List ℕ). take (a - i) (drop i us) ++ xs) (below_turn us vs a b up l m (g refl)) ∙ e)
passed us vs whole i a b true false up vp k l m f g e =
    let n : a + 1 - i ≡ a - i + 1 = omega (arith, k) in
    let here : i + (a - i) ≡ a = omega (arith, k) in
    let x : take (a - i + 1) (drop i us) ≡ take (a - i) (drop i us) ++ get_or us a 0 ∷ [] =
    take_more (drop i us) (a - i) 0 (omega (arith, k, l, length-drop i us))
    ∙ ap (λ y. take (a - i) (drop i us) ++ y ∷ [])
    (get_or-drop i us (a - i) 0 ∙ ap (λ y. get_or us y 0) here) in
    rw (add-zero b) (
    ap (λ (xs : List ℕ). xs ++ cells_without (drop (a + 1) us) (drop b vs))
    (ap (λ y. take y (drop i us)) n ∙ x)
    ∙ push_on (take (a - i) (drop i us)) (cells_without (drop (a + 1) us) (drop b vs))
    (cells_without (drop a us) (drop b vs)) whole (get_or us a 0) e (lacking_cell us vs a b vp l m (f refl)))

-- where one list is at its end, all that is left of the other is lacking
pub rest_lacking : (us os : List ℕ) (i j : ℕ) → (length us ≤ i) ⊎ (length os ≤ j) →
    cells_without (drop i us) (drop j os) ≡ drop i us
rest_lacking us os i j h =
    ⊎_elim
    (λ (p : length us ≤ i). ap (λ (l : List ℕ). cells_without l (drop j os)) (drop_all i us p) ∙ sym (drop_all i us p))
    (λ (p : length os ≤ j). ap (cells_without (drop i us)) (drop_all j os p) ∙ cells_without-nothing (drop i us))
    h

pub lacking_rest : (us os found : List ℕ) (i j : ℕ) → (length us ≤ i) ⊎ (length os ≤ j) →
    found ++ cells_without (drop i us) (drop j os) ≡ cells_without us os →
    found ++ take (length us - i) (drop i us) ≡ cells_without us os
lacking_rest us os found i j h w =
    ap (λ (l : List ℕ). found ++ l) (take_all (length us - i) (drop i us) (omega (arith, length-drop i us))
    ∙ sym (rest_lacking us os i j h)) ∙ w

-- the cells before a place are below a mark, if the last of them is
below_before : (us : List ℕ) (r k mark : ℕ) → IsStrictlyIncreasing us → r ≤ length us → get_or us (r - 1) 0 < mark →
    k < r → get_or us k 0 < mark
below_before us r k mark up l h s =
    ⊎_elim (λ (before : k < r - 1).
    let b : get_or us k 0 < get_or us (r - 1) 0 =
    AllPairs-from_increasing us up k (r - 1) 0 before (omega (arith, l, s)) in
    omega (arith, b, h))
    (λ (last : r - 1 ≤ k). let e : r - 1 ≡ k = omega (arith, last, s) in subst (λ n. get_or us n 0 < mark) e h)
    (cases_lt k (r - 1))

-- Several cells of one list that are below the next one of the other.
module _ (us vs : List ℕ) (up : IsStrictlyIncreasing us) (vp : IsStrictlyIncreasing vs) (b r : ℕ) (m : b < length vs)
    (within : r ≤ length us) (last : get_or us (r - 1) 0 < get_or vs b 0) where
  leapt_from : (whole : List ℕ) (i a n : ℕ) → i ≤ a → a + n ≡ r →
      take (a - i) (drop i us) ++ cells_without (drop a us) (drop b vs) ≡ whole →
      take (r - i) (drop i us) ++ cells_without (drop r us) (drop b vs) ≡ whole
  leapt_from whole i a zero l e h =
      let here : a ≡ r = omega (arith, e) in
      subst (λ x. take (x - i) (drop i us) ++ cells_without (drop x us) (drop b vs) ≡ whole) here h
  leapt_from whole i a (suc n) l e h =
      let inside : a < r = omega (arith, e) in
      let below : get_or us a 0 < get_or vs b 0 = below_before us r a (get_or vs b 0) up within last inside in
      let next : take (a + 1 - i) (drop i us) ++ cells_without (drop (a + 1) us) (drop b vs) ≡ whole =
      subst (λ x. take (a + 1 - i) (drop i us) ++ cells_without (drop (a + 1) us) (drop x vs) ≡ whole) (add-zero b)
      (passed us vs whole i a b true false up vp l (omega (arith, within, inside)) m (λ _. below)
      (λ w. absurd (true≢false (sym w))) h) in
      leapt_from whole i (a + 1) n (omega (arith, l)) (omega (arith, e)) next

  -- they are lacking in the other
  pub leapt : (i : ℕ) → i < r →
      take (r - i) (drop i us) ++ cells_without (drop r us) (drop b vs) ≡ cells_without (drop i us) (drop b vs)
  leapt i l =
      let none : i - i ≡ 0 = omega arith in
      leapt_from (cells_without (drop i us) (drop b vs)) i i (r - i) (omega arith) (omega (arith, l))
      (ap (λ n. take n (drop i us) ++ cells_without (drop i us) (drop b vs)) none)

  -- and say nothing of the other's
  leapt_other_from : (a n : ℕ) → a + n ≡ r →
      cells_without (drop b vs) (drop r us) ≡ cells_without (drop b vs) (drop a us)
  leapt_other_from a zero e =
      let here : r ≡ a = omega (arith, e) in
      ap (λ x. cells_without (drop b vs) (drop x us)) here
  leapt_other_from a (suc n) e =
      let inside : a < r = omega (arith, e) in
      leapt_other_from (a + 1) n (omega (arith, e))
      ∙ below_turn vs us b a vp m (omega (arith, within, inside))
      (below_before us r a (get_or vs b 0) up within last inside)

  pub leapt_other : (i : ℕ) → i < r →
      take (b - b) (drop b vs) ++ cells_without (drop b vs) (drop r us) ≡ cells_without (drop b vs) (drop i us)
  leapt_other i l =
      let none : b - b ≡ 0 = omega arith in
      ap (λ n. take n (drop b vs) ++ cells_without (drop b vs) (drop r us)) none
      ∙ leapt_other_from i (r - i) (omega (arith, l))

-- how many cells were passed over as lacking
pub lost_by : (us vs : List ℕ) (i j a b : ℕ) → i ≤ a → a ≤ length us →
    take (a - i) (drop i us) ++ cells_without (drop a us) (drop b vs) ≡ cells_without (drop i us) (drop j vs) →
    (a - i) + length (cells_without (drop a us) (drop b vs)) ≡ length (cells_without (drop i us) (drop j vs))
lost_by us vs i j a b h l e =
    let n : length (take (a - i) (drop i us)) ≡ a - i =
    length-take-le (a - i) (drop i us) (omega (arith, h, l, length-drop i us)) in
    omega (arith, n, ap length e, length-append (take (a - i) (drop i us)) (cells_without (drop a us) (drop b vs)))
