-- Each covering has a normal form, and that of a union has no more cells than the union.
use Rattle.std.proofs.Common.{◌-◌, ◌≤◌, ℕ, Bool, true, false, List, length, refl, sym, arith}
use Rattle.std.proofs.lemmas.List.{length-map}
use Rattle.s2list.specs.Union.{IsLocal, IsNormalForm, has_leaf}
use Rattle.s2list.proofs.Checking.{packed_from_local}
use Rattle.s2list.proofs.Normal.{local_from_normal, normal_form_same}
use Rattle.s2list.proofs.Shortest.{shortest}
use Rattle.s2cover.specs.Working.Cut.{cells_cut, cut_at}
use Rattle.s2cover.specs.Cut.{cells_kept}
use Rattle.s2cover.proofs.Levelling.{begins_cut, kept_few}
use Rattle.s2cover.specs.Coverings.{outer_set, inner_set}
use Rattle.s2cover.specs.Working.Descent.{blocks, form_faces}
use Rattle.s2cover.proofs.Formed.{covering_leaves, covering_normal}
use Rattle.s2cover.proofs.OwnCells.{kept_normal, outer_cells}

pub outer_has_normal_form : (R : ℕ → Bool) (level : ℕ) → (u : List ℕ) × IsNormalForm (outer_set R level) u
outer_has_normal_form R level = (_, covering_normal true R level)

pub inner_has_normal_form : (R : ℕ → Bool) (level : ℕ) → (u : List ℕ) × IsNormalForm (inner_set R level) u
inner_has_normal_form R level = (_, covering_normal false R level)

pub outer_few : (k : ℕ) (u : List ℕ) → k ≤ 30 → IsLocal u →
    (v : List ℕ) × IsNormalForm (outer_set (has_leaf u) k) v × (length v ≤ length u)
outer_few k u h l =
    let S = outer_set (has_leaf u) k in
    let v = form_faces (blocks true (has_leaf u) (30 - k)) (30 - k) 6 in
    let n : IsNormalForm S v = covering_normal true (has_leaf u) k in
    let len = length-map u (cut_at k) in
    let few = shortest S v (local_from_normal S v n) (covering_leaves true (has_leaf u) k) (cells_cut k u)
    (begins_cut k u (packed_from_local u l)).cells (λ x. sym (outer_cells k u h l.cells x)) in
    (v, n, omega arith)

pub inner_few : (k : ℕ) (u : List ℕ) → k ≤ 30 → IsLocal u →
    (v : List ℕ) × IsNormalForm (inner_set (has_leaf u) k) v × (length v ≤ length u)
inner_few k u h l = (cells_kept k u, kept_normal k u (cells_kept k u) h l refl, kept_few k u)

-- so have the cells of a union, cut
pub cut_few : (k : ℕ) (u : List ℕ) → k ≤ 30 → IsLocal u →
    (v : List ℕ) × IsNormalForm (has_leaf (cells_cut k u)) v × (length v ≤ length u)
cut_few k u h l =
    let (v, normal, few) = outer_few k u h l in
    let same = outer_cells k u h l.cells in
    (v, normal_form_same (outer_set (has_leaf u) k) (has_leaf (cells_cut k u)) v same normal, few)
