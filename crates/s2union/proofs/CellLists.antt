-- Ascending lists of cells as sets of cells.
use Rattle.std.proofs.Common.{◌≡◌, ℕ, ◌<◌, ◌+◌, true, false, not, ◌||◌, ◌&&◌, eqb, ltb, List, [], ◌∷◌}
use Rattle.std.proofs.Common.{get_or, zero, suc, refl, ap, ◌∙◌, subst, ⊎_elim, arith, ltb-true}
use Rattle.std.proofs.lemmas.Grind.{common_steps}
use Rattle.std.proofs.lemmas.Bool.{cond_both, cases_order}
use Rattle.std.specs.List.Sorted.{IsStrictlyIncreasing}
use Rattle.s2union.specs.Apply.{has, cells_without, insert_cell, insert_cells, applied}

-- each cell of the list is above `x`
abbrev pub AllAbove : ℕ → List ℕ → Type 0
AllAbove x [] = Unit {0}
AllAbove x (y ∷ ys) = (x < y) × AllAbove x ys

-- that a list ascends, by recursion
abbrev pub IsAscending : List ℕ → Type 0
IsAscending [] = Unit {0}
IsAscending (x ∷ xs) = AllAbove x xs × IsAscending xs

-- a cell that is below all is not there
pub has-below : (x : ℕ) (ys : List ℕ) → AllAbove x ys → has ys x ≡ false
has-below x [] a = refl
has-below x (y ∷ ys) a = grind (arith, common_steps, has-below x ys a.1)

pub AllAbove-trans : (x y : ℕ) (zs : List ℕ) → x < y → AllAbove y zs → AllAbove x zs
AllAbove-trans x y [] l a = tt
AllAbove-trans x y (z ∷ zs) l a = (omega arith, AllAbove-trans x y zs l a.1)

pub AllAbove-cells_without : (x : ℕ) (us vs : List ℕ) → AllAbove x us → AllAbove x (cells_without us vs)
AllAbove-cells_without x [] vs a = tt
AllAbove-cells_without x (u ∷ us) vs a =
    cond_both (has vs u) (cells_without us vs) (u ∷ cells_without us vs) (AllAbove x)
    (λ _. AllAbove-cells_without x us vs a.1) (λ _. (a.0, AllAbove-cells_without x us vs a.1))

pub IsAscending-cells_without : (us vs : List ℕ) → IsAscending us → IsAscending (cells_without us vs)
IsAscending-cells_without [] vs a = tt
IsAscending-cells_without (u ∷ us) vs a =
    cond_both (has vs u) (cells_without us vs) (u ∷ cells_without us vs) IsAscending
    (λ _. IsAscending-cells_without us vs a.1) (λ _.
    (AllAbove-cells_without u us vs a.0, IsAscending-cells_without us vs a.1))

pub AllAbove-insert_cell : (x y : ℕ) (us : List ℕ) → x < y → AllAbove x us → AllAbove x (insert_cell y us)
AllAbove-insert_cell x y [] l a = (l, tt)
AllAbove-insert_cell x y (u ∷ us) l a =
    cond_both (ltb y u) (y ∷ u ∷ us) (u ∷ insert_cell y us) (AllAbove x) (λ _. (l, a))
    (λ _. (a.0, AllAbove-insert_cell x y us l a.1))

pub has-cells_without : (us vs : List ℕ) (x : ℕ) → has (cells_without us vs) x ≡ (has us x && not (has vs x))
has-cells_without [] vs x = refl
has-cells_without (u ∷ us) vs x = grind (arith, common_steps, has-cells_without us vs x)

pub has-insert_cell : (y : ℕ) (us : List ℕ) (x : ℕ) → has (insert_cell y us) x ≡ (eqb y x || has us x)
has-insert_cell y [] x = refl
has-insert_cell y (u ∷ us) x = grind (arith, common_steps, has-insert_cell y us x)

pub has-insert_cells : (ys us : List ℕ) (x : ℕ) → has (insert_cells ys us) x ≡ (has ys x || has us x)
has-insert_cells [] us x = refl
has-insert_cells (y ∷ ys) us x = grind (
  arith,
  common_steps,
  has-insert_cells ys (insert_cell y us) x,
  has-insert_cell y us x,
)

pub has-applied : (out put us : List ℕ) (x : ℕ) →
    has (applied out put us) x ≡ (has put x || (has us x && not (has out x)))
has-applied out put us x = has-insert_cells put (cells_without us out) x
    ∙ ap (λ b. has put x || b) (has-cells_without us out x)

pub IsAscending-insert_cell : (y : ℕ) (us : List ℕ) → has us y ≡ false → IsAscending us → IsAscending (insert_cell y us)
IsAscending-insert_cell y [] n a = (tt, tt)
IsAscending-insert_cell y (u ∷ us) n a =
    cond_both (ltb y u) (y ∷ u ∷ us) (u ∷ insert_cell y us) IsAscending
    (λ e. ((ltb-true y u e, AllAbove-trans y u us (ltb-true y u e) a.0), a))
    (λ e. (
      AllAbove-insert_cell u y us (grind (arith, common_steps)) a.0,
      IsAscending-insert_cell y us (grind (arith, common_steps)) a.1,
    ))

pub IsAscending-insert_cells : (ys us : List ℕ) → IsAscending ys → ((x : ℕ) → has ys x ≡ true → has us x ≡ false) →
    IsAscending us → IsAscending (insert_cells ys us)
IsAscending-insert_cells [] us b n a = a
IsAscending-insert_cells (y ∷ ys) us b n a =
    IsAscending-insert_cells ys (insert_cell y us) b.1
    (λ x h. grind (arith, common_steps, has-insert_cell y us x, has-below y ys b.0, n x))
    (IsAscending-insert_cell y us (n y (grind (arith, common_steps))) a)

-- ascending lists with the same cells are equal
pub same_cells : (us vs : List ℕ) → IsAscending us → IsAscending vs → ((x : ℕ) → has us x ≡ has vs x) → us ≡ vs
same_cells [] [] a b h = refl
same_cells [] (v ∷ vs) a b h = absurd (grind (arith, common_steps, h v))
same_cells (u ∷ us) [] a b h = absurd (grind (arith, common_steps, h u))
same_cells (u ∷ us) (v ∷ vs) a b h =
    let below_u : has us u ≡ false = has-below u us a.0 in
    let below_v : has vs v ≡ false = has-below v vs b.0 in
    let heads : u ≡ v =
    ⊎_elim (λ e. e) (⊎_elim
    (λ l. absurd (grind (arith, common_steps, h u, has-below u vs (AllAbove-trans u v vs l b.0))))
    (λ l. absurd (grind (arith, common_steps, h v, has-below v us (AllAbove-trans v u us l a.0)))))
    (cases_order u v) in
    let tails : us ≡ vs = same_cells us vs a.1 b.1 (λ x. grind (arith, common_steps, h x)) in
    cc

-- what taking out and putting in leaves ascends
pub IsAscending-applied : (out put us : List ℕ) → IsAscending put → IsAscending us →
    ((x : ℕ) → has put x ≡ true → has us x ≡ false) → IsAscending (applied out put us)
IsAscending-applied out put us p a n =
    IsAscending-insert_cells put (cells_without us out) p (λ x h. has-cells_without us out x
    ∙ ap (λ b. b && not (has out x)) (n x h)) (IsAscending-cells_without us out a)

-- and by its places, as contracts say it
pub ascends_from : (us : List ℕ) → IsStrictlyIncreasing us → IsAscending us
ascends_from [] h = tt
ascends_from (u ∷ []) h = (tt, tt)
ascends_from (u ∷ v ∷ us) h =
    let l : u < v = h 0 (omega arith) in
    let rest : IsAscending (v ∷ us) =
    ascends_from (v ∷ us) (λ k within. let e : suc k + 1 ≡ suc (k + 1) = omega arith in
    subst (λ n. get_or (v ∷ us) k 0 < get_or (u ∷ v ∷ us) n 0) e (h (suc k) (omega arith))) in
    ((l, AllAbove-trans u v us l rest.0), rest)

pub increasing_from : (us : List ℕ) → IsAscending us → IsStrictlyIncreasing us
increasing_from [] a k l = absurd (omega arith)
increasing_from (u ∷ []) a k l = absurd (omega arith)
increasing_from (u ∷ v ∷ us) a zero l = a.0.0
increasing_from (u ∷ v ∷ us) a (suc k) l =
    let e : suc (k + 1) ≡ suc k + 1 = omega arith in
    subst (λ n. get_or (v ∷ us) k 0 < get_or (u ∷ v ∷ us) n 0) e (increasing_from (v ∷ us) a.1 k (omega arith))
