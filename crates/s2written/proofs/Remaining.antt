-- Regions taken together: what remains of a list.
use Rattle.std.proofs.Common.{◌≡◌, ℕ, ◌+◌, ◌≤◌, ◌⊎◌, inl, inr, Bool, true, false, List, [], ◌∷◌, ◌++◌, All}
use Rattle.std.proofs.Common.{Contains, refl, sym, ◌∙◌, ap, arith, subst, zero, suc, ◌-◌, ◌*◌, ◌/◌, ◌^◌, ◌<◌}
use Rattle.std.proofs.Common.{get_or, length, take}
use Rattle.std.proofs.Math.Nat.{div-one}
use Rattle.std.proofs.lemmas.List.{take_more}
use Rattle.std.proofs.lemmas.List.Folds.{list_any_at}
use Rattle.s2cell.proofs.CellLemmas.{own_place}
use Rattle.s2cell.proofs.Family.{child_within}
use Rattle.s2cell.proofs.Leaves.{inside_from_within}
use Rattle.s2cell.specs.Cell.{IsCell, IsInside, child_of, face_of, level_of, place_of}
use Rattle.s2cover.specs.Coverings.{LiesOutside}
use Rattle.s2list.specs.Union.{LiesIn}
use Rattle.std.specs.List.{list_any, sum_by}
use Rattle.std.proofs.lemmas.List.Elements.{All-cons, All-head, All-nil, All-push, All-tail, Contains-append_cases}
use Rattle.std.proofs.lemmas.List.Elements.{Contains-append_right}
use Rattle.std.proofs.lemmas.List.Sums.{sum_by-cons}
use Rattle.s2written.specs.Working.Remaining.{Remain}

-- one more item, which is gone
pub remain_gone : {A B : Type 0} (Gone : A → Type 0) (Has : A → B → Type 0) (xs : List A) (ys : List B) (x : A)
    → Remain Gone Has xs ys → Gone x → Remain Gone Has (xs ++ x ∷ []) ys
remain_gone Gone Has [] [] x r g = inl (g, r)
remain_gone Gone Has [] (y ∷ ys) x r g = absurd r
remain_gone Gone Has (a ∷ xs) ys x (inl w) g = inl (w.0, remain_gone Gone Has xs ys x w.1 g)
remain_gone Gone Has (a ∷ xs) ys x (inr w) g = inr (w.0, w.1, w.2, w.3, remain_gone Gone Has xs w.1 x w.4 g)

-- one more item, of which something remains
pub remain_has : {A B : Type 0} (Gone : A → Type 0) (Has : A → B → Type 0) (xs : List A) (ys : List B) (x : A) (y : B)
    → Remain Gone Has xs ys → Has x y → Remain Gone Has (xs ++ x ∷ []) (ys ++ y ∷ [])
remain_has Gone Has [] [] x y r h = inr (y, [], refl, h, r)
remain_has Gone Has [] (z ∷ ys) x y r h = absurd r
remain_has Gone Has (a ∷ xs) ys x y (inl w) h = inl (w.0, remain_has Gone Has xs ys x y w.1 h)
remain_has Gone Has (a ∷ xs) ys x y (inr w) h =
    inr (w.0, w.1 ++ y ∷ [], ap (λ zs. zs ++ y ∷ []) w.2, w.3, remain_has Gone Has xs w.1 x y w.4 h)

-- what remains of what remained
pub remain_then : {A B C : Type 0} (Gone : A → Type 0) (Has : A → B → Type 0) (Gone2 : B → Type 0)
    (Has2 : B → C → Type 0) (Gone3 : A → Type 0) (Has3 : A → C → Type 0) → ((x : A) → Gone x → Gone3 x)
    → ((x : A) (y : B) → Has x y → Gone2 y → Gone3 x) → ((x : A) (y : B) (z : C) → Has x y → Has2 y z → Has3 x z)
    → (xs : List A) (ys : List B) (zs : List C) → Remain Gone Has xs ys → Remain Gone2 Has2 ys zs
    → Remain Gone3 Has3 xs zs
remain_then Gone Has Gone2 Has2 Gone3 Has3 f g k [] [] [] r s = s
remain_then Gone Has Gone2 Has2 Gone3 Has3 f g k [] [] (z ∷ zs) r s = absurd s
remain_then Gone Has Gone2 Has2 Gone3 Has3 f g k [] (y ∷ ys) zs r s = absurd r
remain_then Gone Has Gone2 Has2 Gone3 Has3 f g k (x ∷ xs) ys zs (inl w) s =
    inl (f x w.0, remain_then Gone Has Gone2 Has2 Gone3 Has3 f g k xs ys zs w.1 s)
remain_then Gone Has Gone2 Has2 Gone3 Has3 f g k (x ∷ xs) ys zs (inr w) s =
    elim (subst (λ us. Remain Gone2 Has2 us zs) w.2 s) [
      | inl v ↦ inl (
        g x w.0 w.3 v.0,
        remain_then Gone Has Gone2 Has2 Gone3 Has3 f g k xs w.1 zs w.4 v.1,
      )
      | inr v ↦ inr (
        v.0,
        v.1,
        v.2,
        k x w.0 v.0 w.3 v.3,
        remain_then Gone Has Gone2 Has2 Gone3 Has3 f g k xs w.1 v.1 w.4 v.4,
      )
    ]

-- a test that fails of each item that is gone, and of each of which something remains, finds none
pub remain_none : {A B : Type 0} (Gone : A → Type 0) (Has : A → B → Type 0) (Out : B → Type 0) (test : A → Bool)
    → ((x : A) → Gone x → test x ≡ false) → ((x : A) (y : B) → Has x y → Out y → test x ≡ false)
    → (xs : List A) (ys : List B) → Remain Gone Has xs ys → All Out ys → list_any test xs ≡ false
remain_none Gone Has Out test f g [] ys r all = refl
remain_none Gone Has Out test f g (x ∷ xs) ys (inl w) all =
    rw (f x w.0) (remain_none Gone Has Out test f g xs ys w.1 all)
remain_none Gone Has Out test f g (x ∷ xs) ys (inr w) all =
    let own = subst (All Out) w.2 all in
    rw (g x w.0 w.3 (All-head Out w.0 w.1 own))
    (remain_none Gone Has Out test f g xs w.1 w.4 (All-tail Out w.0 w.1 own))

-- what remains is of an item
pub record Whose {A B : Type 0} (Has : A → B → Type 0) (xs : List A) (y : B) : Type 0 where
  pub item : A
  pub one : Contains xs item
  pub has : Has item y

single : {A : Type 0} (a x : A) → Contains (a ∷ []) x → a ≡ x
single a x (zero, l, e) = e
single a x (suc k, l, e) = absurd (omega (arith, l))

pub remain_whose : {A B : Type 0} (Gone : A → Type 0) (Has : A → B → Type 0) (xs : List A) (ys : List B) (y : B)
    → Remain Gone Has xs ys → Contains ys y → Whose Has xs y
remain_whose Gone Has [] [] y r h = absurd (omega (arith, h.1))
remain_whose Gone Has [] (z ∷ ys) y r h = absurd r
remain_whose Gone Has (x ∷ xs) ys y (inl w) h =
    let own = remain_whose Gone Has xs ys y w.1 h in
    record { item = own.item; one = Contains-append_right (x ∷ []) xs own.item own.one; has = own.has }
remain_whose Gone Has (x ∷ xs) ys y (inr w) h =
    elim (Contains-append_cases (w.0 ∷ []) w.1 y (subst (λ us. Contains us y) w.2 h)) [
      | inl e ↦ record { item = x; one = (0, omega arith, refl); has = subst (Has x) (single w.0 y e) w.3 }
      | inr n ↦ (
          let own = remain_whose Gone Has xs w.1 y w.4 n in
          record { item = own.item; one = Contains-append_right (x ∷ []) xs own.item own.one; has = own.has }
          )
    ]

more : (a b c d : ℕ) → a ≤ b → d ≡ c + b → a ≤ d
more a b c d l s = omega arith

both : (a b c d e f : ℕ) → b ≡ d → c ≤ e → a ≡ b + c → f ≡ d + e → a ≤ f
both a b c d e f h l t s = omega arith

-- the works of what remains add up to no more than those of the items
pub remain_sum : {A B : Type 0} (Gone : A → Type 0) (Has : A → B → Type 0) (f : A → ℕ) (g : B → ℕ)
    → ((x : A) (y : B) → Has x y → g y ≡ f x) → (xs : List A) (ys : List B) → Remain Gone Has xs ys
    → sum_by g ys ≤ sum_by f xs
remain_sum Gone Has f g e [] [] r = omega arith
remain_sum Gone Has f g e [] (y ∷ ys) r = absurd r
remain_sum Gone Has f g e (x ∷ xs) ys (inl w) =
    let l : sum_by g ys ≤ sum_by f xs = remain_sum Gone Has f g e xs ys w.1 in
    let s : sum_by f (x ∷ xs) ≡ f x + sum_by f xs = sum_by-cons f x xs in
    more (sum_by g ys) (sum_by f xs) (f x) (sum_by f (x ∷ xs)) l s
remain_sum Gone Has f g e (x ∷ xs) ys (inr w) =
    let l : sum_by g w.1 ≤ sum_by f xs = remain_sum Gone Has f g e xs w.1 w.4 in
    let s : sum_by f (x ∷ xs) ≡ f x + sum_by f xs = sum_by-cons f x xs in
    let t : sum_by g ys ≡ g w.0 + sum_by g w.1 = ap (sum_by g) w.2 ∙ sum_by-cons g w.0 w.1 in
    both (sum_by g ys) (g w.0) (sum_by g w.1) (f x) (sum_by f xs) (sum_by f (x ∷ xs)) (e x w.0 w.3) l t s

-- what is so of each that remains
pub remain_all : {A B : Type 0} (Gone : A → Type 0) (Has : A → B → Type 0) (P : B → Type 0)
    → ((x : A) (y : B) → Has x y → P y) → (xs : List A) (ys : List B) → Remain Gone Has xs ys → All P ys
remain_all Gone Has P f [] [] r = All-nil P
remain_all Gone Has P f [] (y ∷ ys) r = absurd r
remain_all Gone Has P f (x ∷ xs) ys (inl w) = remain_all Gone Has P f xs ys w.1
remain_all Gone Has P f (x ∷ xs) ys (inr w) =
    subst (All P) (sym w.2) (All-cons P w.0 w.1 (f x w.0 w.3) (remain_all Gone Has P f xs w.1 w.4))

-- the next item of a list, of which something remains if it isn't gone
pub remain_next : {A B : Type 0} (Gone : A → Type 0) (Has : A → B → Type 0) (all : List A) (k : ℕ) (d x : A)
    (ys zs : List B) (y : B) (Out : Type 0) → k < length all → x ≡ get_or all k d → (Out → Gone x) → Has x y
    → (Out × (zs ≡ ys)) ⊎ (zs ≡ ys ++ y ∷ []) → Remain Gone Has (take k all) ys
    → Remain Gone Has (take (k + 1) all) zs
remain_next Gone Has all k d x ys zs y Out l e f h last r =
    subst (λ us. Remain Gone Has us zs) (ap (λ v. take k all ++ v ∷ []) e ∙ sym (take_more all k d l)) (by last)
  where
    by : (Out × (zs ≡ ys)) ⊎ (zs ≡ ys ++ y ∷ []) → Remain Gone Has (take k all ++ x ∷ []) zs
    by (inl w) =
        subst (Remain Gone Has (take k all ++ x ∷ [])) (sym w.1) (remain_gone Gone Has (take k all) ys x r (f w.0))
    by (inr s) =
        subst (Remain Gone Has (take k all ++ x ∷ [])) (sym s) (remain_has Gone Has (take k all) ys x y r h)

-- what is so of all items up to the next
pub all_next : {A : Type 0} (P : A → Type 0) (all : List A) (k : ℕ) (d x : A) → k < length all → x ≡ get_or all k d
    → P x → All P (take k all) → All P (take (k + 1) all)
all_next P all k d x l e h r =
    subst (All P) (ap (λ v. take k all ++ v ∷ []) e ∙ sym (take_more all k d l)) (All-push P (take k all) x r h)

-- a test that an item passes
pub any_contains : {A : Type 0} (test : A → Bool) (xs : List A) (x : A) → Contains xs x → test x ≡ true
    → list_any test xs ≡ true
any_contains test xs x h t = list_any_at test xs h.0 x h.1 (ap test h.2 ∙ t)

-- of one set and one cell, told in other words
pub outside_same : (S T : ℕ → Bool) (c d : ℕ) → S ≡ T → c ≡ d → LiesOutside S c → LiesOutside T d
outside_same S T c d e f h = subst (λ F. LiesOutside F d) e (subst (LiesOutside S) f h)

pub in_same : (S T : ℕ → Bool) (c d : ℕ) → S ≡ T → c ≡ d → LiesIn S c → LiesIn T d
in_same S T c d e f h = subst (λ F. LiesIn F d) e (subst (LiesIn S) f h)

-- a child of a cell lies in it
pub child_in : (p i d : ℕ) → IsCell p → level_of p < 30 → i < 4 → d ≡ child_of p i → IsInside d p
child_in p i d c h q e =
    subst (λ z. IsInside z p) (sym e) (inside_from_within (child_of p i) p (child_within p i c h q))

-- the cells of one face are one
pub same_face : (a b : ℕ) → IsCell a → IsCell b → level_of a ≡ 0 → level_of b ≡ 0 → face_of a ≡ face_of b → a ≡ b
unfolding face_of
same_face a b ia ib la lb f =
    let pa : face_of a ≡ place_of a = ap (λ z. place_of a / 4 ^ z) la ∙ div-one (place_of a) in
    let pb : face_of b ≡ place_of b = ap (λ z. place_of b / 4 ^ z) lb ∙ div-one (place_of b) in
    (own_place a ia).id ∙ ap (λ k. (2 * place_of a + 1) * 4 ^ (30 - k)) (la ∙ sym lb)
    ∙ ap (λ m. (2 * m + 1) * 4 ^ (30 - level_of b)) (sym pa ∙ f ∙ pb) ∙ sym (own_place b ib).id
