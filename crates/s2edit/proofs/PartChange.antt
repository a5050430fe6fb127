-- The change of a part of a list, made in the whole list.
use Rattle.std.proofs.Common.{◌≡◌, ℕ, Bool, true, false, not, ◌||◌, ◌&&◌, List, [], sym, ◌∙◌, subst, inl, inr}
use Rattle.std.proofs.Common.{◌⊎◌, ⊎_elim, refl, arith}
use Rattle.std.proofs.lemmas.Grind.{common_steps}
use Rattle.std.proofs.lemmas.Bool.{false≢true}
use Rattle.s2cell.specs.Cell.{covers}
use Rattle.s2cell.proofs.Leaves.{covers_there}
use Rattle.s2list.specs.Union.{has_leaf, IsLocal}
use Rattle.s2list.proofs.Normal.{leaf_from, leaf_to, normal_from_leaves}
use Rattle.s2union.specs.Apply.{has, cells_without, applied, Fits}
use Rattle.s2union.proofs.CellLists.{has-cells_without, has-applied}
use Rattle.s2edit.specs.Diff.{Diff, change_between}
use Rattle.s2edit.specs.Working.Named.{Gives}
use Rattle.s2edit.specs.Working.Part.{IsPartNear}
use Rattle.s2edit.proofs.PartLemmas.{by_bool, has_member, member_had, one_cell}

-- two booleans that are true together
same_truth : (a b : Bool) → (a ≡ true → b ≡ true) → (b ≡ true → a ≡ true) → a ≡ b
same_truth true true f g = refl
same_truth true false f g = sym (f refl)
same_truth false true f g = g refl
same_truth false false f g = refl

-- a part of a list has leaves of the list
pub leaf_inside : (u p : List ℕ) (x : ℕ) → ((c : ℕ) → has p c ≡ true → has u c ≡ true) → has_leaf p x ≡ true →
    has_leaf u x ≡ true
leaf_inside u p x inside t =
    let d = leaf_from p x t in
    leaf_to u d.cell x (member_had u d.cell (inside d.cell (has_member p d.cell d.member)))
    (covers_there d.cell x d.low d.high)

-- what the change from the part `p` to the list `w` makes of the whole list `u`
module _ (u p w : List ℕ) (local : IsLocal u) (inside : (c : ℕ) → has p c ≡ true → has u c ≡ true) where
  of_new : (c : ℕ) → has w c ≡ true → has (applied (cells_without p w) (cells_without w p) u) c ≡ true
  of_new c e = grind (
    arith,
    common_steps,
    has-applied (cells_without p w) (cells_without w p) u c,
    has-cells_without p w c,
    has-cells_without w p c,
    inside c,
    e,
  )

  of_rest : (c : ℕ) → has u c ≡ true → has p c ≡ false →
      has (applied (cells_without p w) (cells_without w p) u) c ≡ true
  of_rest c e n = grind (
    arith,
    common_steps,
    has-applied (cells_without p w) (cells_without w p) u c,
    has-cells_without p w c,
    has-cells_without w p c,
    e,
    n,
  )

  new_or_rest : (c : ℕ) → has (applied (cells_without p w) (cells_without w p) u) c ≡ true →
      (has w c ≡ true) ⊎ ((has u c ≡ true) × (has p c ≡ false))
  new_or_rest c h = by_bool (has w c) (λ e. inl e) (λ n. inr (
    grind (
      arith,
      common_steps,
      has-applied (cells_without p w) (cells_without w p) u c,
      has-cells_without w p c,
      n,
      h,
    ),
    grind (
      arith,
      common_steps,
      has-applied (cells_without p w) (cells_without w p) u c,
      has-cells_without p w c,
      has-cells_without w p c,
      n,
      h,
    ),
  ))

  -- a cell of the list with a leaf of the part is in the part
  in_part : (c x : ℕ) → has u c ≡ true → covers c x ≡ true → has_leaf p x ≡ true → has p c ≡ true
  in_part c x h v t =
      let d = leaf_from p x t in
      let there : has p d.cell ≡ true = has_member p d.cell d.member in
      let same : c ≡ d.cell = one_cell u c d.cell x local h (inside d.cell there) v
      (covers_there d.cell x d.low d.high) in
      subst (λ (k : ℕ). has p k ≡ true) (sym same) there

  leaf_before : (x : ℕ) → has_leaf (applied (cells_without p w) (cells_without w p) u) x ≡ true →
      (has_leaf w x || (has_leaf u x && not (has_leaf p x))) ≡ true
  leaf_before x t =
      let d = leaf_from (applied (cells_without p w) (cells_without w p) u) x t in
      let v = covers_there d.cell x d.low d.high in
      ⊎_elim
      (λ (e : has w d.cell ≡ true).
      let a : has_leaf w x ≡ true = leaf_to w d.cell x (member_had w d.cell e) v in
      grind (arith, common_steps, a))
      (λ (k : (has u d.cell ≡ true) × (has p d.cell ≡ false)).
      let a : has_leaf u x ≡ true = leaf_to u d.cell x (member_had u d.cell k.0) v in
      let b : has_leaf p x ≡ false =
      by_bool (has_leaf p x) (λ s. absurd (false≢true (sym k.1 ∙ in_part d.cell x k.0 v s))) (λ e. e) in
      grind (arith, common_steps, a, b))
      (new_or_rest d.cell (has_member (applied (cells_without p w) (cells_without w p) u) d.cell d.member))

  leaf_of_new : (x : ℕ) → has_leaf w x ≡ true →
      has_leaf (applied (cells_without p w) (cells_without w p) u) x ≡ true
  leaf_of_new x t =
      let d = leaf_from w x t in
      leaf_to (applied (cells_without p w) (cells_without w p) u) d.cell x
      (member_had (applied (cells_without p w) (cells_without w p) u) d.cell
      (of_new d.cell (has_member w d.cell d.member)))
      (covers_there d.cell x d.low d.high)

  leaf_of_rest : (x : ℕ) → has_leaf u x ≡ true → has_leaf p x ≡ false →
      has_leaf (applied (cells_without p w) (cells_without w p) u) x ≡ true
  leaf_of_rest x t n =
      let d = leaf_from u x t in
      let v = covers_there d.cell x d.low d.high in
      let out : has p d.cell ≡ false = by_bool (has p d.cell)
      (λ h. absurd (false≢true (sym n ∙ leaf_to p d.cell x (member_had p d.cell h) v))) (λ e. e) in
      leaf_to (applied (cells_without p w) (cells_without w p) u) d.cell x
      (member_had (applied (cells_without p w) (cells_without w p) u) d.cell
      (of_rest d.cell (has_member u d.cell d.member) out)) v

  leaf_after : (x : ℕ) → (has_leaf w x || (has_leaf u x && not (has_leaf p x))) ≡ true →
      has_leaf (applied (cells_without p w) (cells_without w p) u) x ≡ true
  leaf_after x t = by_bool (has_leaf w x) (λ e. leaf_of_new x e)
      (λ n. leaf_of_rest x (grind (arith, common_steps, n, t)) (grind (arith, common_steps, n, t)))

  leaves_are : (x : ℕ) → has_leaf (applied (cells_without p w) (cells_without w p) u) x
      ≡ (has_leaf w x || (has_leaf u x && not (has_leaf p x)))
  leaves_are x = same_truth _ _ (leaf_before x) (leaf_after x)

  -- if it can be made there, it gives the whole list the new leaves of the part
  pub gives : (r : ℕ) (d : Diff) (S : ℕ → Bool) → d ≡ change_between r p w → Fits d.out d.put u
      → ((x : ℕ) → (has_leaf w x || (has_leaf u x && not (has_leaf p x))) ≡ S x) → Gives S r u d
  gives r d S e f leaves = subst (λ (k : Diff). Gives S r u k) (sym e) (
      let g : Fits (cells_without p w) (cells_without w p) u = subst (λ (k : Diff). Fits k.out k.put u) e f in
      record {
        register = refl;
        fits = g;
        normal = normal_from_leaves S (applied (cells_without p w) (cells_without w p) u) g.local
            (λ x. leaves_are x ∙ leaves x);
      }
      )

-- a cell of the part is in the list, if those that stay are, and the change takes the others out
pub all_inside : (u p w : List ℕ) (r : ℕ) (d : Diff) → ((c : ℕ) → has p c ≡ true → has w c ≡ true → has u c ≡ true)
    → d ≡ change_between r p w → Fits d.out d.put u → (c : ℕ) → has p c ≡ true → has u c ≡ true
all_inside u p w r d stays e f c h = by_bool (has w c) (λ t. stays c h t) (λ n.
    let g : Fits (cells_without p w) (cells_without w p) u = subst (λ (k : Diff). Fits k.out k.put u) e f in
    g.out_is_there c (grind (arith, common_steps, has-cells_without p w c, h, n)))

-- what joining a part adds to the whole list
pub adds : (u p w s : Bool) → w ≡ (p || s) → (p ≡ true → u ≡ true) → (w || (u && not p)) ≡ (u || s)
adds true true w s e f = grind (arith, common_steps, e)
adds true false w s e f = grind (arith, common_steps, e)
adds false true w s e f = absurd (false≢true (f refl))
adds false false w s e f = grind (arith, common_steps, e)

-- what putting cells in as they are adds, and what taking them out as they are takes away
pub put_alone : (u n w : List ℕ) (x : ℕ) → n ≡ [] →
    (has_leaf w x || (has_leaf u x && not (has_leaf n x))) ≡ (has_leaf u x || has_leaf w x)
put_alone u n w x e = rw e (adds (has_leaf u x) false (has_leaf w x) (has_leaf w x) refl (λ f. absurd (false≢true f)))

-- what the list has already adds nothing
pub put_already : (u n w : List ℕ) (x : ℕ) → n ≡ [] → (has_leaf w x ≡ true → has_leaf u x ≡ true) →
    (has_leaf n x || (has_leaf u x && not (has_leaf n x))) ≡ (has_leaf u x || has_leaf w x)
put_already u n w x e h = rw e (already (has_leaf u x) (has_leaf w x) h)
  where
    already : (a b : Bool) → (b ≡ true → a ≡ true) → (false || (a && not false)) ≡ (a || b)
    already true b g = refl
    already false true g = g refl
    already false false g = refl

pub taken_alone : (u n w : List ℕ) (x : ℕ) → n ≡ [] →
    (has_leaf n x || (has_leaf u x && not (has_leaf w x))) ≡ (has_leaf u x && not (has_leaf w x))
taken_alone u n w x e = rw e refl

-- what cutting a part takes out of the whole list, if what is taken out of the list lies in the part
pub takes : (u p w s : Bool) → w ≡ (p && not s) → (p ≡ true → u ≡ true) → (u ≡ true → s ≡ true → p ≡ true) →
    (w || (u && not p)) ≡ (u && not s)
takes true true w s e f h = grind (arith, common_steps, e)
takes true false w true e f h = absurd (false≢true (h refl refl))
takes true false w false e f h = grind (arith, common_steps, e)
takes false true w s e f h = absurd (false≢true (f refl))
takes false false w s e f h = grind (arith, common_steps, e)

-- a leaf of the list and of given cells is one of the part near these
pub leaf_near : (u p w : List ℕ) (x : ℕ) → IsPartNear (has w) u p → has_leaf u x ≡ true → has_leaf w x ≡ true →
    has_leaf p x ≡ true
leaf_near u p w x near t s =
    let c = leaf_from u x t in
    let d = leaf_from w x s in
    let v = covers_there c.cell x c.low c.high in
    let own = (near.watched d.cell (has_member w d.cell d.member)).own x (covers_there d.cell x d.low d.high) in
    leaf_to p c.cell x (member_had p c.cell (near.is_part.rest c.cell x (has_member u c.cell c.member) v own)) v
