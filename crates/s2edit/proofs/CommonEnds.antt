-- A common beginning and a common end make no difference between two ascending lists.
use Rattle.std.proofs.Common.{◌≡◌, ℕ, ◌-◌, Bool, true, false, not, ◌||◌, ◌&&◌, eqb, List, [], ◌∷◌, ◌++◌}
use Rattle.std.proofs.Common.{length, take, drop, refl, sym, ap, ◌∙◌, subst, arith, length-drop}
use Rattle.std.proofs.Math.Bool.{or_assoc}
use Rattle.std.proofs.lemmas.Bool.{or_left, true≢false}
use Rattle.std.proofs.lemmas.Grind.{common_steps}
use Rattle.std.proofs.lemmas.List.{take_all, take-append-drop}
use Rattle.std.specs.List.Sorted.{IsStrictlyIncreasing}
use Rattle.s2union.specs.Apply.{has, cells_without}
use Rattle.s2union.proofs.CellLists.{AllAbove, IsAscending, has-below, has-cells_without, same_cells}
use Rattle.s2union.proofs.CellLists.{IsAscending-cells_without, ascends_from}

has-append : (xs ys : List ℕ) (x : ℕ) → has (xs ++ ys) x ≡ (has xs x || has ys x)
has-append [] ys x = refl
has-append (y ∷ xs) ys x = ap (λ b. eqb y x || b) (has-append xs ys x) ∙ sym (or_assoc (eqb y x) (has xs x) (has ys x))

-- a cell of an ascending list is in only one part of it
one_part : (xs ys : List ℕ) (x : ℕ) → IsAscending (xs ++ ys) → has ys x ≡ true → has xs x ≡ false
one_part [] ys x a h = refl
one_part (y ∷ xs) ys x a h =
    grind (arith, common_steps, one_part xs ys x a.1 h, has-append xs ys x, has-below y (xs ++ ys) a.0)

AllAbove-front : (x : ℕ) (xs ys : List ℕ) → AllAbove x (xs ++ ys) → AllAbove x xs
AllAbove-front x [] ys a = tt
AllAbove-front x (y ∷ xs) ys a = (a.0, AllAbove-front x xs ys a.1)

IsAscending-front : (xs ys : List ℕ) → IsAscending (xs ++ ys) → IsAscending xs
IsAscending-front [] ys a = tt
IsAscending-front (x ∷ xs) ys a = (AllAbove-front x xs ys a.0, IsAscending-front xs ys a.1)

IsAscending-back : (xs ys : List ℕ) → IsAscending (xs ++ ys) → IsAscending ys
IsAscending-back [] ys a = a
IsAscending-back (x ∷ xs) ys a = IsAscending-back xs ys a.1

-- the same front a and the same end z make no difference
passed_over : (a m n z : Bool) → (m ≡ true → a ≡ false) → (z ≡ true → m ≡ false) →
    (m && not n) ≡ ((a || (m || z)) && not (a || (n || z)))
passed_over true true n z f g = absurd (true≢false (f refl))
passed_over true false n z f g = refl
passed_over false true n true f g = absurd (true≢false (g refl))
passed_over false true true false f g = refl
passed_over false true false false f g = refl
passed_over false false true true f g = refl
passed_over false false true false f g = refl
passed_over false false false true f g = refl
passed_over false false false false f g = refl

cells_without-same_ends : (ws ms ns zs : List ℕ) → IsAscending (ws ++ (ms ++ zs)) →
    cells_without ms ns ≡ cells_without (ws ++ (ms ++ zs)) (ws ++ (ns ++ zs))
cells_without-same_ends ws ms ns zs up =
    let rest : IsAscending (ms ++ zs) = IsAscending-back ws (ms ++ zs) up in
    same_cells (cells_without ms ns) (cells_without (ws ++ (ms ++ zs)) (ws ++ (ns ++ zs)))
    (IsAscending-cells_without ms ns (IsAscending-front ms zs rest))
    (IsAscending-cells_without (ws ++ (ms ++ zs)) (ws ++ (ns ++ zs)) up)
    (λ x.
    let whole : (ls : List ℕ) → has (ws ++ (ls ++ zs)) x ≡ (has ws x || (has ls x || has zs x)) =
    λ ls. has-append ws (ls ++ zs) x ∙ ap (λ b. has ws x || b) (has-append ls zs x) in
    has-cells_without ms ns x
    ∙ passed_over (has ws x) (has ms x) (has ns x) (has zs x)
    (λ h. one_part ws (ms ++ zs) x up (has-append ms zs x ∙ or_left (has ms x) (has zs x) h))
    (λ h. one_part ms zs x rest h)
    ∙ ap (λ b. b && not (has ws x || (has ns x || has zs x))) (sym (whole ms))
    ∙ ap (λ b. has (ws ++ (ms ++ zs)) x && not b) (sym (whole ns))
    ∙ sym (has-cells_without (ws ++ (ms ++ zs)) (ws ++ (ns ++ zs)) x))

-- a list by what is passed over at its front, what is left and what is passed over at its end
parted : (us ws ms zs : List ℕ) (n m : ℕ) → ws ≡ take n us → ms ≡ take m (drop n us) → zs ≡ drop m (drop n us) →
    us ≡ ws ++ (ms ++ zs)
parted us ws ms zs n m a b z =
    sym (ap (λ (l : List ℕ). l ++ (ms ++ zs)) a ∙ ap (λ (l : List ℕ). take n us ++ (l ++ zs)) b
    ∙ ap (λ (l : List ℕ). take n us ++ (take m (drop n us) ++ l)) z
    ∙ ap (λ (l : List ℕ). take n us ++ l) (take-append-drop m (drop n us)) ∙ take-append-drop n us)

-- the rest of a list, ws a slice of it
rest_is : (us : List ℕ) (n : ℕ) → take (length us - n) (drop n us) ≡ drop n us
rest_is us n = take_all (length us - n) (drop n us) (omega (arith, length-drop n us))

pub lacking_between : (us vs us' vs' : List ℕ) (n m : ℕ) → IsStrictlyIncreasing us →
    us' ≡ take (length us - n) (drop n us) → vs' ≡ take (length vs - n) (drop n vs) →
    take n us ≡ take n vs → drop (length us' - m) us' ≡ drop (length vs' - m) vs' →
    cells_without (take (length us' - m) us') (take (length vs' - m) vs') ≡ cells_without us vs
lacking_between us vs us' vs' n m up eu ev front back =
    let fu : us' ≡ drop n us = eu ∙ rest_is us n in
    let fv : vs' ≡ drop n vs = ev ∙ rest_is vs n in
    let pu : us ≡ take n us ++ (take (length us' - m) us' ++ drop (length us' - m) us') =
    parted us (take n us) (take (length us' - m) us') (drop (length us' - m) us') n (length us' - m) refl
    (ap (take (length us' - m)) fu) (ap (drop (length us' - m)) fu) in
    let pv : vs ≡ take n us ++ (take (length vs' - m) vs' ++ drop (length us' - m) us') =
    parted vs (take n us) (take (length vs' - m) vs') (drop (length us' - m) us') n (length vs' - m) front
    (ap (take (length vs' - m)) fv) (back ∙ ap (drop (length vs' - m)) fv) in
    cells_without-same_ends (take n us) (take (length us' - m) us') (take (length vs' - m) vs')
    (drop (length us' - m) us') (subst IsAscending pu (ascends_from us up))
    ∙ ap (λ (l : List ℕ). cells_without l (take n us ++ (take (length vs' - m) vs' ++ drop (length us' - m) us')))
    (sym pu) ∙ ap (cells_without us) (sym pv)
