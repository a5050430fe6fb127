use Rattle.std.proofs.Common.{◌≡◌, ◌≤◌, ◌<◌, ℕ, true, List, get_or, inl, inr, refl, sym, ◌∙◌, arith, All}
use Rattle.std.proofs.Math.Logic.{⊎_elim}
use Rattle.std.proofs.lemmas.Bool.{cases_lt}
use Rattle.std.proofs.lemmas.List.{ext_get_or, get_or-map, length-map}
use Rattle.std.proofs.lemmas.List.Elements.{All-get_or}
use Rattle.s2cell.specs.Cell.{IsCell, covers, first_leaf, level_of, parent_of}
use Rattle.s2cell.proofs.Calls.{IsCell-parent_of}
use Rattle.s2cell.proofs.CellLemmas.{cell_leaves}
use Rattle.s2cell.proofs.Family.{parent_around, parent_level}
use Rattle.s2cell.proofs.Leaves.{covers_there, inside_from_within}
use Rattle.s2list.specs.Union.{has_leaf}
use Rattle.s2list.proofs.Normal.{local_from_normal, normal_form_same, normal_from_local, one_normal_form}
use Rattle.s2list.proofs.Normal.{same_level_same}
use Rattle.s2cover.specs.Working.Cut.{cells_cut, cut_at}
use Rattle.s2cover.specs.Cut.{cells_kept}
use Rattle.s2cover.proofs.Levelling.{cut_parent, cut_same}
use Rattle.s2cover.specs.Coverings.{inner_set, outer_set}
use Rattle.s2cover.proofs.OwnCells.{kept_normal, outer_cells}
use Rattle.s2file.specs.File.{file_ids}
use Rattle.s2union_c.specs.Laws.{AreCutTo}
use Rattle.s2union_c.specs.ManyCells.{HasParent, IsValueOr}
use Rattle.s2union_c.proofs.laws.by_normalising.Goals as goal

pub returns-clause-decoded : goal.returns-clause-decoded
returns-clause-decoded c bytes xs normal = (
  λ local. one_normal_form (has_leaf (file_ids bytes)) (file_ids bytes) xs (normal_from_local (file_ids bytes) local)
      normal,
  λ new len n. one_normal_form (has_leaf (file_ids bytes)) _ xs n.normal normal,
)

own_parent : (c k : ℕ) → IsCell c → k ≤ level_of c → level_of c ≤ k → parent_of c k ≡ c
own_parent c k cell h l =
    let some = (cell_leaves c cell).some in
    let here : covers c (first_leaf c) ≡ true = covers_there c (first_leaf c) (omega arith) (omega arith) in
    let level = parent_level c k cell h in
    same_level_same (first_leaf c) (IsCell-parent_of c k (parent_of c k) cell h refl) cell (omega arith)
    (inside_from_within c (parent_of c k) (parent_around c k cell h) (first_leaf c) here) here

-- the cell, cut, is what stands at its place
cut_is : (level id entry : ℕ) → IsCell id → IsValueOr (HasParent level id) (parent_of id level) id entry
    → entry ≡ cut_at level id
cut_is level id entry cell v =
    ⊎_elim
    (λ (deep : level < level_of id). elim v [
      | inl has ↦ has.1 ∙ sym (cut_parent level id deep)
      | inr lacks ↦ absurd (lacks.0 (cell, omega arith))
    ])
    (λ (high : level_of id ≤ level). elim v [
      | inl has ↦ has.1 ∙ own_parent id level cell has.0.1 high ∙ sym (cut_same level id high)
      | inr lacks ↦ lacks.1 ∙ sym (cut_same level id high)
    ])
    (cases_lt level (level_of id))

are_cut : (level : ℕ) (ids cut : List ℕ) → All IsCell ids → AreCutTo level ids cut → cut ≡ cells_cut level ids
are_cut level ids cut all a =
    let same = a.length_is in
    let many = length-map ids (cut_at level) in
    ext_get_or 0 cut (cells_cut level ids) (omega arith)
    (λ k h. cut_is level (get_or ids k 0) (get_or cut k 0) (All-get_or IsCell ids k 0 (omega arith) all)
    (a.cells k (omega arith)) ∙ sym (get_or-map (cut_at level) ids k 0 0 (omega arith)))

pub returns-clause-outer : goal.returns-clause-outer
returns-clause-outer c level ids xs cut new len h local normal a n =
    one_normal_form (outer_set (has_leaf ids) level) _ xs
    (normal_form_same (has_leaf (cells_cut level ids)) (outer_set (has_leaf ids) level) _
    (λ x. sym (outer_cells level ids h local.cells x)) (rw (are_cut level ids cut local.cells a) at n.normal)) normal

pub returns-clause-inner : goal.returns-clause-inner
returns-clause-inner c level ids xs new len h local normal n =
    let kept = kept_normal level ids (cells_kept level ids) h local refl in
    one_normal_form (has_leaf (cells_kept level ids)) _ (cells_kept level ids) n.normal
    (normal_from_local (cells_kept level ids)
    (local_from_normal (inner_set (has_leaf ids) level) (cells_kept level ids) kept))
    ∙ one_normal_form (inner_set (has_leaf ids) level) (cells_kept level ids) xs kept normal
