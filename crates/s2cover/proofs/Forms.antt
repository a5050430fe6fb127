-- The greatest cells inside a set, as the visit of a cell finds them.
use Rattle.std.proofs.Common.{◌≡◌, ℕ, suc, zero, ◌+◌, ◌-◌, ◌*◌, ◌^◌, ◌<◌, ◌≤◌, Bool, true, false, ◌&&◌, List, [], ◌∷◌}
use Rattle.std.proofs.Common.{◌++◌, length, refl, sym, ◌∙◌, ap, arith, subst, ⊎_elim, length-append}
use Rattle.std.proofs.lemmas.Bool.{cases_lt, cond-true, cond-false}
use Rattle.std.proofs.Math.Nat.{pow-suc, mul-le-mul_right}
use Rattle.s2cell.proofs.CellLemmas.{four_pos}
use Rattle.s2cover.specs.Coverings.{filled}
use Rattle.s2cover.specs.Working.Descent.{form, joined, cell_at}
use Rattle.s2cover.proofs.Runs.{filled_add, not_filled}

-- a cell inside the set
pub form_whole : (S : ℕ → Bool) (g e m : ℕ) → filled S (m * 4 ^ (g + e)) (4 ^ (g + e)) ≡ true →
    form S g e m ≡ cell_at (g + e) m ∷ []
unfolding form
form_whole S g zero m h = let e : g + 0 ≡ g = omega arith in
    rw e (cond-true (filled S (m * 4 ^ g) (4 ^ g)) (cell_at g m ∷ []) [] (rw e at h))
form_whole S g (suc e) m h = cond-true (filled S (m * 4 ^ (g + suc e)) (4 ^ (g + suc e)))
    (cell_at (g + suc e) m ∷ []) (joined (λ p. form S g e (4 * m + p)) 4) h

joined_empty : (f : ℕ → List ℕ) (n : ℕ) → ((p : ℕ) → p < n → f p ≡ []) → joined f n ≡ []
unfolding joined
joined_empty f zero h = refl
joined_empty f (suc n) h = rw (joined_empty f n (λ p l. h p (omega arith)), h n (omega arith)) refl

-- a child's leaves are leaves of the cell
pub record ChildRun (m p d : ℕ) : Type 0 where
  pub after : m * 4 ^ suc d ≤ (4 * m + p) * 4 ^ d
  pub before : (4 * m + p) * 4 ^ d + 4 ^ d ≤ m * 4 ^ suc d + 4 ^ suc d
  pub place : (4 * m + p) * 4 ^ d ≡ m * 4 ^ suc d + p * 4 ^ d

pub child_run : (m p d : ℕ) → p < 4 → ChildRun m p d
child_run m p d hp =
    let e = pow-suc 4 d in
    let a : m * 4 ^ suc d ≡ 4 * m * 4 ^ d = ap (λ z. m * z) e ∙ omega arith in
    let b : (4 * m + p) * 4 ^ d ≡ 4 * m * 4 ^ d + p * 4 ^ d = omega arith in
    let c : p * 4 ^ d ≤ 3 * 4 ^ d = mul-le-mul_right {m = p} {n = 3} (4 ^ d) (omega arith) in
    record { after = omega arith; before = omega arith; place = omega arith }

-- a cell outside the set
pub form_none : (S : ℕ → Bool) (g e m : ℕ) → ((x : ℕ) → m * 4 ^ (g + e) ≤ x → x < m * 4 ^ (g + e) + 4 ^ (g + e) →
    S x ≡ false) → form S g e m ≡ []
unfolding form
form_none S g zero m h =
    let e : g + 0 ≡ g = omega arith in
    cond-false (filled S (m * 4 ^ g) (4 ^ g)) (cell_at g m ∷ []) []
    (not_filled S (m * 4 ^ g) (4 ^ g) (four_pos g) (rw e at h))
form_none S g (suc e) m h =
    let e1 : g + suc e ≡ suc (g + e) = omega arith in
    cond-false (filled S (m * 4 ^ (g + suc e)) (4 ^ (g + suc e))) (cell_at (g + suc e) m ∷ [])
    (joined (λ p. form S g e (4 * m + p)) 4) (not_filled S (m * 4 ^ (g + suc e)) (4 ^ (g + suc e))
    (four_pos (g + suc e)) h)
    ∙ joined_empty (λ p. form S g e (4 * m + p)) 4 (λ p l. form_none S g e (4 * m + p) (λ x a b.
    let w = child_run m p (g + e) l in
    let u = w.after in
    let v = w.before in
    let h1 = rw e1 at h in
    h1 x (omega arith) (omega arith)))

-- a cell that is not inside the set, and is no cell of the grain
pub form_children : (S : ℕ → Bool) (g d m : ℕ) → g < d → filled S (m * 4 ^ d) (4 ^ d) ≡ false →
    form S g (d - g) m ≡ joined (λ p. form S g (d - 1 - g) (4 * m + p)) 4
unfolding form
form_children S g d m hg h =
    let e = d - 1 - g in
    let e1 : d - g ≡ suc e = omega arith in
    let e2 : d ≡ g + suc e = omega arith in
    let h1 : filled S (m * 4 ^ (g + suc e)) (4 ^ (g + suc e)) ≡ false =
    subst (λ (z : ℕ). filled S (m * 4 ^ z) (4 ^ z) ≡ false) e2 h in
    ap (λ z. form S g z m) e1 ∙ cond-false (filled S (m * 4 ^ (g + suc e)) (4 ^ (g + suc e)))
    (cell_at (g + suc e) m ∷ []) (joined (λ p. form S g e (4 * m + p)) 4) h1

-- the same lemmas by the depth of the cell
pub form_whole_at : (S : ℕ → Bool) (g d m : ℕ) → g ≤ d → filled S (m * 4 ^ d) (4 ^ d) ≡ true →
    form S g (d - g) m ≡ cell_at d m ∷ []
form_whole_at S g d m hg h =
    let e : g + (d - g) ≡ d = omega arith in
    rw e at (form_whole S g (d - g) m (subst (λ (z : ℕ). filled S (m * 4 ^ z) (4 ^ z) ≡ true) (sym e) h))

pub form_none_at : (S : ℕ → Bool) (g d m : ℕ) → g ≤ d →
    ((x : ℕ) → m * 4 ^ d ≤ x → x < m * 4 ^ d + 4 ^ d → S x ≡ false) → form S g (d - g) m ≡ []
form_none_at S g d m hg h =
    let e : g + (d - g) ≡ d = omega arith in
    form_none S g (d - g) m (subst (λ (z : ℕ). (x : ℕ) → m * 4 ^ z ≤ x → x < m * 4 ^ z + 4 ^ z → S x ≡ false) (sym e) h)

-- the first children of a cell are inside the set, and then one more
pub filled_more : (S : ℕ → Bool) (d m p : ℕ) → p < 4 → filled S (m * 4 ^ suc d) ((p + 1) * 4 ^ d)
    ≡ (filled S (m * 4 ^ suc d) (p * 4 ^ d) && filled S ((4 * m + p) * 4 ^ d) (4 ^ d))
filled_more S d m p hp =
    let w = child_run m p d hp in
    let e : (p + 1) * 4 ^ d ≡ p * 4 ^ d + 4 ^ d = omega arith in
    rw (e, w.place) (filled_add S (m * 4 ^ suc d) (p * 4 ^ d) (4 ^ d))

pub joined_more : (f : ℕ → List ℕ) (n : ℕ) → joined f (n + 1) ≡ joined f n ++ f n
unfolding joined
joined_more f n = let e : n + 1 ≡ suc n = omega arith in ap (joined f) e

-- fewer lists are not longer
pub joined_grows : (f : ℕ → List ℕ) (a b : ℕ) → a ≤ b → length (joined f a) ≤ length (joined f b)
unfolding joined
joined_grows f a zero h = let e : a ≡ 0 = omega arith in rw e (omega arith)
joined_grows f a (suc b) h =
    ⊎_elim
    (λ below. let k = joined_grows f a b (omega arith) in let l = length-append (joined f b) (f b) in omega arith)
    (λ last. let e : a ≡ suc b = omega arith in rw e (omega arith))
    (cases_lt a (suc b))

-- after the visits of `n` children: what the list has, and whether the cell may still be whole
pub record Visited (S : ℕ → Bool) (g d m n : ℕ) (old now : List ℕ) (old_len now_len : ℕ) (full : Bool)
    (loose max before : ℕ) : Type 0 where
  pub list : now ≡ old ++ joined (λ p. form S g (d - 1 - g) (4 * m + p)) n
  pub whole : full ≡ filled S (m * 4 ^ d) (n * 4 ^ (d - 1))
  pub tight : full ≡ true → now_len ≡ before + n
  pub room : full ≡ false → now_len ≤ max
  pub start : before ≡ old_len
  pub early : before ≤ max + loose
