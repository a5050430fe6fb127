-- No list of cells with the same leaves is shorter than a local one, nor the normal form than cells of it.
use Rattle.std.proofs.Common.{◌≡◌, ℕ, suc, zero, ◌+◌, ◌-◌, ◌<◌, ◌≤◌, refl, sym, ◌∙◌, ap, arith, subst}
use Rattle.std.proofs.Common.{Bool, true, List, [], ◌∷◌, length, get_or, All, AllPairs, Contains}
use Rattle.std.specs.List.{remove}
use Rattle.std.proofs.Math.Logic.{⊎_elim}
use Rattle.std.proofs.lemmas.Bool.{cases_order}
use Rattle.std.proofs.lemmas.List.Elements.{All-contains}
use Rattle.std.proofs.lemmas.List.Edits.{length-remove, get_or-remove_below, get_or-remove_above}
use Rattle.s2cell.specs.Cell.{IsCell, level_of, first_leaf, covers}
use Rattle.s2cell.proofs.CellLemmas.{cell_leaves}
use Rattle.s2cell.proofs.Calls.{shallow}
use Rattle.s2cell.proofs.Leaves.{Within, covers_there, inside_from_within}
use Rattle.std.proofs.lemmas.Option.{gets}
use Rattle.s2list.specs.Union.{has_leaf, IsLocal, IsShortest, IsGreatestIn, IsNormalForm}
use Rattle.s2list.specs.Packed.{EndsBefore}
use Rattle.s2list.proofs.Normal.{leaf_to, holder, family, all_held, member_greatest, greatest_apart}
use Rattle.s2list.proofs.Checking.{packed_from_local, member_at}
use Rattle.s2list.proofs.Walking.{leaf_at}
use Rattle.s2list.proofs.Picking.{Picked}

-- a cell of the list that lies inside d
pub record Hit (v : List ℕ) (d : ℕ) : Type 0 where
  pub at : ℕ
  pub below : at < length v
  pub cell : IsCell (get_or v at 0)
  pub within : Within (get_or v at 0) d

-- it is another one for a later cell, and stays where the first one goes
hit_rest : {v : List ℕ} {d e : ℕ} (h : Hit v d) → EndsBefore d e → Hit v e → Hit (remove v h.at) e
hit_rest {v} {e} h before g =
    let c = h.cell in
    let some = (cell_leaves (get_or v h.at 0) h.cell).some in
    let h_low = h.within.low in
    let h_high = h.within.high in
    let g_low = g.within.low in
    let g_high = g.within.high in
    let hb = h.below in
    let gb = g.below in
    let len : length (remove v h.at) + 1 ≡ length v = length-remove v h.at h.below in
    ⊎_elim
    (λ (same : g.at ≡ h.at). let f : first_leaf (get_or v g.at 0) ≡ first_leaf (get_or v h.at 0) = ap
    (λ k. first_leaf (get_or v k 0)) same in absurd (omega arith)) (⊎_elim
    (λ (less : g.at < h.at).
    let r : get_or v g.at 0 ≡ get_or (remove v h.at) g.at 0 = sym (get_or-remove_below v h.at 0 g.at less h.below) in
    record {
      at = g.at;
      below = omega arith;
      cell = subst IsCell r g.cell;
      within = subst (λ x. Within x e) r g.within;
    })
    (λ (more : h.at < g.at).
    let back : g.at - 1 + 1 ≡ g.at = omega arith in
    let r : get_or v g.at 0 ≡ get_or (remove v h.at) (g.at - 1) 0 = ap (λ k. get_or v k 0) (sym back)
    ∙ sym (get_or-remove_above v h.at 0 (g.at - 1) (omega arith) h.below) in
    record {
      at = g.at - 1;
      below = omega arith;
      cell = subst IsCell r g.cell;
      within = subst (λ x. Within x e) r g.within;
    }))
    (cases_order g.at h.at)

pub shorter : (u v : List ℕ) → AllPairs EndsBefore u → ((d : ℕ) → Contains u d → Hit v d) → length u ≤ length v
shorter [] v chain hit = omega arith
shorter (d ∷ u) v chain hit =
    let h = hit d (zero, omega arith, refl) in
    let len : length (remove v h.at) + 1 ≡ length v = length-remove v h.at h.below in
    let less = shorter u (remove v h.at) (λ i j x p q. chain (suc i) (suc j) x (omega arith) (omega arith))
    (λ e m. hit_rest h (let (k, l, is) = m in let b : EndsBefore d (get_or u k e) = chain zero (suc k) e (omega arith)
    (omega arith) in subst (λ x. EndsBefore d x) is b) (hit e (let (k, l, is) = m in (suc k, omega arith, is)))) in
    omega arith

-- each cell of a local list has a cell inside it in every list with the same leaves
member_hit : {u : List ℕ} (v : List ℕ) →
    IsLocal u → All IsCell v → ((x : ℕ) → has_leaf v x ≡ has_leaf u x) → (d : ℕ) → Contains u d → Hit v d
member_hit {u} v local all same d m =
    let cd : IsCell d = All-contains IsCell u d local.cells m in
    let x = first_leaf d in
    let some = (cell_leaves d cd).some in
    let here : covers d x ≡ true = covers_there d x (omega arith) (omega arith) in
    let l = leaf_at v x (same x ∙ leaf_to u d x m here) in
    let c = get_or v l.at 0 in
    let cc : IsCell c = all l.at 0 l.below in
    let low = l.low in
    let high = l.high in
    let there : covers c x ≡ true = covers_there c x low high in
    let deep = shallow c cc in
    elim (all_held (30 - level_of c) u c local.cells cc (omega arith) (λ y h. sym (same y)
    ∙ leaf_to v c y (member_at v l.at c l.below refl) h)) [
      | holder e me w ↦
          let is : e ≡ d = greatest_apart (has_leaf u) e d x (member_greatest u local e me)
          (member_greatest u local d m) (inside_from_within c e w x there) here in
          record { at = l.at; below = l.below; cell = cc; within = subst (λ y. Within c y) is w }
      | family q cq lq f ↦ absurd (local.unmerged q cq lq f)
    ]

-- a local list is shortest
pub shortest : (S : ℕ → Bool) (u : List ℕ) → IsLocal u → ((x : ℕ) → has_leaf u x ≡ S x) → IsShortest S u
shortest S u local leaves v all same = shorter u v (packed_from_local u local).chain
    (member_hit v local all (λ x. same x ∙ sym (leaves x)))

-- cells of the normal form of a set that follow each other are no more than it has
pub picked_length : (S : ℕ → Bool) (u v : List ℕ) → Picked S u → IsNormalForm S v → length u ≤ length v
picked_length S u v p n = shorter u v p.chain hit
  where
    hit : (d : ℕ) → Contains u d → Hit v d
    hit d m =
        let g : IsGreatestIn S d = All-contains (IsGreatestIn S) u d p.greatest m in
        let (k, l, is) = (n.members d).1 g in
        let same : d ≡ get_or v k 0 = grind (arith, gets) in
        record {
          at = k;
          below = l;
          cell = subst IsCell same g.cell;
          within = subst (λ c. Within c d) same (record { low = omega arith; high = omega arith });
        }
