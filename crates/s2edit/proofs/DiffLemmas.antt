-- The change between two lists.
use Rattle.std.proofs.Common.{◌≡◌, ◌≢◌, ℕ, ◌+◌, ◌<◌, true, false, List, [], ◌∷◌, length, refl, sym, ap, ◌∙◌, subst}
use Rattle.std.proofs.Common.{arith}
use Rattle.std.proofs.lemmas.Grind.{common_steps}
use Rattle.std.proofs.lemmas.Bool.{false≢true}
use Rattle.s2list.specs.Union.{IsLocal}
use Rattle.s2union.specs.Apply.{has, cells_without, applied, Fits}
use Rattle.s2union.proofs.CellLists.{has-cells_without, has-applied}
use Rattle.s2union.proofs.Applied.{Fits-between, only_out, only_put}
use Rattle.s2edit.specs.Diff.{Diff, IsDiff, FitsList, apply, change_between}

pub IsDiff-between : (us vs : List ℕ) → IsLocal us → IsLocal vs → IsDiff (cells_without us vs) (cells_without vs us)
IsDiff-between us vs a b = record {
  out_ascends = (Fits-between us vs a b).out_ascends;
  put_ascends = (Fits-between us vs a b).put_ascends;
  apart = λ x h. grind (arith, common_steps, has-cells_without us vs x, has-cells_without vs us x);
}

pub cells_without-nothing : (us : List ℕ) → cells_without us [] ≡ us
cells_without-nothing [] = refl
cells_without-nothing (u ∷ us) = ap (λ vs. u ∷ vs) (cells_without-nothing us)

pub between-nothing : (r : ℕ) (us vs : List ℕ) → us ≡ [] → record { register = r; out = []; put = vs }
    ≡ change_between r us vs
between-nothing r us vs e =
    ap (λ (put : List ℕ). record { register = r; out = []; put = put }) (sym (cells_without-nothing vs))
    ∙ ap (between_of r vs) (sym e)
  where
    between_of : (r : ℕ) (vs us : List ℕ) → Diff
    between_of r vs us = change_between r us vs

-- the change between two lists is the only one that makes the second of the first
pub only_change : (d : Diff) (u w : List ℕ) → IsLocal u → FitsList d u → apply d u ≡ w →
    d ≡ change_between d.register u w
only_change d u w a f e =
    let b : IsLocal w = subst IsLocal e f.local in
    ap (λ (x : List ℕ). record { register = d.register; out = x; put = d.put }) (only_out d.out d.put u w a f e)
    ∙ ap (λ (x : List ℕ). record { register = d.register; out = cells_without u w; put = x })
    (only_put d.out d.put u w a b f e)

-- a change that names a cell changes the list
pub changes_list : (out put u : List ℕ) → Fits out put u → 0 < length out + length put → applied out put u ≢ u
changes_list (o ∷ os) put u f l e =
    let t : has u o ≡ true = f.out_is_there o (grind (arith, common_steps)) in
    let n : has put o ≡ true → has u o ≡ false = f.put_is_new o in
    let h : has (applied (o ∷ os) put u) o ≡ has u o = ap (λ (l : List ℕ). has l o) e in
    false≢true (grind (arith, common_steps, has-applied (o ∷ os) put u o, t, n, h))
changes_list [] (p ∷ ps) u f l e =
    let n : has u p ≡ false = f.put_is_new p (grind (arith, common_steps)) in
    let h : has (applied [] (p ∷ ps) u) p ≡ has u p = ap (λ (l : List ℕ). has l p) e in
    false≢true (grind (arith, common_steps, has-applied [] (p ∷ ps) u p, n, h))
changes_list [] [] u f l e = absurd (omega arith)

-- a change of nothing
pub nothing_applied : (out put us : List ℕ) → out ≡ [] → put ≡ [] → applied out put us ≡ us
nothing_applied out put us e f = ap (λ (l : List ℕ). applied l put us) e ∙ ap (λ (l : List ℕ). applied [] l us) f
    ∙ cells_without-nothing us
