-- The numbers of cells that a move takes out and puts in.
use Rattle.std.proofs.Common.{◌≡◌, ℕ, zero, suc, true, List, [], ◌∷◌, length, slice_get, slice_set, Some, refl, sym, ap}
use Rattle.std.proofs.Common.{◌∙◌, arith}
use Rattle.std.proofs.lemmas.Grind.{common_steps}
use Rattle.std.proofs.lemmas.Option.{slice_get-get_or}
use Rattle.s2list.specs.Union.{IsLocal}
use Rattle.s2union.specs.Apply.{has, cells_without}
use Rattle.s2union.proofs.Applied.{only_out, only_put}
use Rattle.s2edit.specs.History.{cells_lost, numbers}
use Rattle.s2edit.specs.Diff.{Diff}
use Rattle.s2edit.specs.Leads.{list_at}
use Rattle.s2edit.specs.Working.Chain.{list_after, table_after, FitsTable, AllWithin}
use Rattle.s2edit.proofs.Tables.{AllWithin-at}

-- a list loses nothing to itself
lost_none : (us vs : List ℕ) → ((x : ℕ) → has us x ≡ true → has vs x ≡ true) → length (cells_without us vs) ≡ 0
lost_none [] vs h = refl
lost_none (u ∷ us) vs h = grind (arith, common_steps, h u, lost_none us vs (λ x e. h x (grind (arith, common_steps))))

pub cells_lost-self : (t : List (List ℕ)) → cells_lost t t ≡ 0
cells_lost-self [] = refl
cells_lost-self (u ∷ t) = omega (arith, lost_none u u (λ x h. h), cells_lost-self t)

-- the cells lost in a move of one register
pub cells_lost-set : (t : List (List ℕ)) (r : ℕ) (u v : List ℕ) → slice_get t r ≡ Some u →
    cells_lost t (slice_set t r v) ≡ length (cells_without u v)
cells_lost-set [] r u v h = absurd (cc)
cells_lost-set (w ∷ t) zero u v h = let e : w ≡ u = cc in
    omega (arith, cells_lost-self t, ap (λ (l : List ℕ). length (cells_without l v)) e)
cells_lost-set (w ∷ t) (suc r) u v h = omega (arith, lost_none w w (λ x h. h), cells_lost-set t r u v h)

pub cells_won-set : (t : List (List ℕ)) (r : ℕ) (u v : List ℕ) → slice_get t r ≡ Some u →
    cells_lost (slice_set t r v) t ≡ length (cells_without v u)
cells_won-set [] r u v h = absurd (cc)
cells_won-set (w ∷ t) zero u v h = let e : w ≡ u = cc in
    omega (arith, cells_lost-self t, ap (λ (l : List ℕ). length (cells_without v l)) e)
cells_won-set (w ∷ t) (suc r) u v h = omega (arith, lost_none w w (λ x h. h), cells_won-set t r u v h)

pub numbers-same : (t : List (List ℕ)) → (0, 0) ≡ numbers t t
numbers-same t = ap (λ (a : ℕ). (a, 0)) (sym (cells_lost-self t))
    ∙ ap (λ (b : ℕ). (cells_lost t t, b)) (sym (cells_lost-self t))

-- the numbers of a move across a change
module _ (limit : ℕ) (t : List (List ℕ)) (d : Diff) (a : AllWithin limit t) (f : FitsTable limit t d) where
  found : slice_get t d.register ≡ Some (list_at t d.register)
  found = slice_get-get_or t d.register [] f.in_range

  here : IsLocal (list_at t d.register)
  here = (AllWithin-at limit t d.register a f.in_range).local

  pub out_lost : length d.out ≡ cells_lost t (table_after t d)
  out_lost = ap length (only_out d.out d.put (list_at t d.register) (list_after t d) here f.fits refl)
      ∙ sym (cells_lost-set t d.register (list_at t d.register) (list_after t d) found)

  pub put_won : length d.put ≡ cells_lost (table_after t d) t
  put_won = ap length (only_put d.out d.put (list_at t d.register) (list_after t d) here f.fits.local f.fits refl)
      ∙ sym (cells_won-set t d.register (list_at t d.register) (list_after t d) found)
