-- The law of a change: its inverse gives the list back, and the change between two lists is the only one.
use Rattle.std.proofs.Common.{◌≡◌, ℕ, Bool, true, false, not, ◌||◌, ◌&&◌, List, refl, sym, ap, ◌∙◌, subst, arith}
use Rattle.std.proofs.lemmas.Grind.{common_steps}
use Rattle.s2list.specs.Union.{IsLocal}
use Rattle.s2union.specs.Apply.{has, cells_without, applied, Fits}
use Rattle.s2union.proofs.CellLists.{IsAscending, same_cells, has-cells_without, has-applied, IsAscending-cells_without}
use Rattle.s2union.proofs.CellLists.{IsAscending-applied, ascends_from, increasing_from}

-- the booleans behind the law
back : (o p u : Bool) → (o ≡ true → u ≡ true) → (p ≡ true → u ≡ false) → (o || ((p || (u && not o)) && not p)) ≡ u
back true p true a b = refl
back true p false a b = sym (a refl)
back false true true a b = sym (b refl)
back false true false a b = refl
back false false true a b = refl
back false false false a b = refl

gone : (p u o v : Bool) → o ≡ true → (o ≡ true → u ≡ true) → (p ≡ true → u ≡ false) → v ≡ (p || (u && not o)) →
    v ≡ false
gone p u o v h t n e = grind (arith, common_steps)

-- a local list ascends
pub local_ascends : (us : List ℕ) → IsLocal us → IsAscending us
local_ascends us l = ascends_from us l.ascending

put_is_gone : {out put us : List ℕ} → Fits out put us → (x : ℕ) → has out x ≡ true → has (applied out put us) x ≡ false
put_is_gone {out} {put} {us} f x h =
    gone (has put x) (has us x) (has out x) (has (applied out put us) x) h (f.out_is_there x) (f.put_is_new x)
    (has-applied out put us x)

-- the inverse gives the list back
pub applied-inverse : (out put us : List ℕ) → IsLocal us → Fits out put us → applied put out (applied out put us) ≡ us
applied-inverse out put us a f =
    same_cells (applied put out (applied out put us)) us (IsAscending-applied put out (applied out put us)
    (ascends_from out f.out_ascends) (local_ascends (applied out put us) f.local) (put_is_gone f)) (local_ascends us a)
    (λ x. has-applied put out (applied out put us) x ∙ ap (λ b. has out x || (b && not (has put x)))
    (has-applied out put us x) ∙ back (has out x) (has put x) (has us x) (f.out_is_there x) (f.put_is_new x))

-- and the inverse fits what the change leaves
pub Fits-inverse : (out put us : List ℕ) → IsLocal us → Fits out put us → Fits put out (applied out put us)
Fits-inverse out put us a f = record {
  out_ascends = f.put_ascends;
  put_ascends = f.out_ascends;
  out_is_there = λ x h. has-applied out put us x ∙ ap (λ b. b || (has us x && not (has out x))) h;
  put_is_new = put_is_gone f;
  local = subst IsLocal (sym (applied-inverse out put us a f)) a;
}

-- the change between two lists leads from the one to the other
pub applied-between : (us vs : List ℕ) → IsLocal us → IsLocal vs →
    applied (cells_without us vs) (cells_without vs us) us ≡ vs
applied-between us vs a b =
    same_cells (applied (cells_without us vs) (cells_without vs us) us) vs
    (IsAscending-applied (cells_without us vs) (cells_without vs us) us
    (IsAscending-cells_without vs us (local_ascends vs b)) (local_ascends us a)
    (λ x h. grind (arith, common_steps, has-cells_without vs us x))) (local_ascends vs b)
    (λ x. has-applied (cells_without us vs) (cells_without vs us) us x
    ∙ grind (arith, common_steps, has-cells_without us vs x, has-cells_without vs us x))

pub Fits-between : (us vs : List ℕ) → IsLocal us → IsLocal vs → Fits (cells_without us vs) (cells_without vs us) us
Fits-between us vs a b = record {
  out_ascends = increasing_from (cells_without us vs) (IsAscending-cells_without us vs (local_ascends us a));
  put_ascends = increasing_from (cells_without vs us) (IsAscending-cells_without vs us (local_ascends vs b));
  out_is_there = λ x h. grind (arith, common_steps, has-cells_without us vs x);
  put_is_new = λ x h. grind (arith, common_steps, has-cells_without vs us x);
  local = subst IsLocal (sym (applied-between us vs a b)) b;
}

-- and it is the only one
pub only_out : (out put us vs : List ℕ) → IsLocal us → Fits out put us → applied out put us ≡ vs →
    out ≡ cells_without us vs
only_out out put us vs a f e =
    same_cells out (cells_without us vs) (ascends_from out f.out_ascends)
    (IsAscending-cells_without us vs (local_ascends us a))
    (λ x. let h : has vs x ≡ (has put x || (has us x && not (has out x))) = ap (λ (l : List ℕ). has l x) (sym e)
    ∙ has-applied out put us x in
    grind (arith, common_steps, has-cells_without us vs x, f.out_is_there x, f.put_is_new x))

pub only_put : (out put us vs : List ℕ) → IsLocal us → IsLocal vs → Fits out put us → applied out put us ≡ vs →
    put ≡ cells_without vs us
only_put out put us vs a b f e =
    same_cells put (cells_without vs us) (ascends_from put f.put_ascends)
    (IsAscending-cells_without vs us (local_ascends vs b))
    (λ x. let h : has vs x ≡ (has put x || (has us x && not (has out x))) = ap (λ (l : List ℕ). has l x) (sym e)
    ∙ has-applied out put us x in
    grind (arith, common_steps, has-cells_without vs us x, f.out_is_there x, f.put_is_new x))
