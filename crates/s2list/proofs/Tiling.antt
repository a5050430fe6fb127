-- The normal form of a gap: at each leaf the largest cell that begins there and fits.
use Rattle.std.proofs.Common.{◌≡◌, ℕ, ◌+◌, ◌-◌, ◌<◌, ◌≤◌, refl, sym, ◌∙◌, ap, arith, true, false}
use Rattle.std.proofs.Common.{◌||◌, ◌&&◌, leb, ltb, List, [], ◌∷◌, ◌++◌, append_assoc, append-nil, ◌⊎◌, inl, inr}
use Rattle.std.proofs.Math.Logic.{⊎_elim}
use Rattle.std.proofs.Math.Bool.{or-false}
use Rattle.std.proofs.lemmas.Bool.{cases_order, false≢true, or_cases}
use Rattle.std.proofs.lemmas.Bool.Decides.{nat_tests}
use Rattle.std.proofs.lemmas.List.Folds.{list_any-append}
use Rattle.s2cell.specs.Cell.{IsCell, level_of, size_of, first_leaf, covers, parent_of}
use Rattle.s2cell.proofs.CellLemmas.{cell_leaves}
use Rattle.s2cell.proofs.Calls.{IsCell-parent_of}
use Rattle.s2cell.proofs.Leaves.{before, after, within, around, meeting, covers_there, covers_from}
use Rattle.s2cell.proofs.Family.{parent_around, parent_larger}
use Rattle.s2list.specs.Union.{has_leaf, between, IsGreatestIn}
use Rattle.s2list.specs.Working.Union.{EndsBy}
use Rattle.s2list.specs.Packed.{FillsGap}
use Rattle.s2list.proofs.Picking.{Picked, picked_none, picked_push, picked_normal, between_ends}

-- `list` is `old` and then the greatest cells between `lo` and `hi` that end by `first`
pub record Tiling (old list : List ℕ) (lo hi first : ℕ) : Type 0 where
  pub tiles : List ℕ
  pub is : list ≡ old ++ tiles
  pub picked : Picked (between lo hi) tiles
  pub start : lo ≤ first
  pub reach : (first ≡ lo) ⊎ (first ≤ hi)
  pub below : EndsBy tiles first
  pub leaves : (x : ℕ) → has_leaf tiles x ≡ between lo first x
  pub closed : (q : ℕ) → IsCell q → lo ≤ first_leaf q → first_leaf q + size_of q ≤ hi → first_leaf q < first →
      first_leaf q + size_of q ≤ first

pub none_between : (lo x : ℕ) → between lo lo x ≡ false
none_between lo x = grind (arith, nat_tests)

-- nothing yet
pub tiling_none : (list : List ℕ) (lo hi : ℕ) → Tiling list list lo hi lo
tiling_none list lo hi = record {
  tiles = [];
  is = sym (append-nil list);
  picked = picked_none (between lo hi);
  start = omega arith;
  reach = inl refl;
  below = λ x l. absurd (false≢true l);
  leaves = λ x. sym (none_between lo x);
  closed = λ q own low high h. absurd (omega arith);
}

longer : (lo f e x : ℕ) → lo ≤ f → f ≤ e → (between lo f x || between f e x) ≡ between lo e x
longer lo f e x a b = grind (arith, nat_tests)

-- the largest cell that begins where the others end is greatest
tile_greatest : {old list : List ℕ} {lo hi first cell : ℕ} → Tiling old list lo hi first →
    IsCell cell → first_leaf cell ≡ first → first_leaf cell + size_of cell ≤ hi → ((q : ℕ) → IsCell q →
    first_leaf q ≡ first → first_leaf q + size_of q ≤ hi → size_of q ≤ size_of cell) → IsGreatestIn (between lo hi) cell
tile_greatest {lo} {hi} {first} {cell} t c f e largest =
    let s = t.start in
    let some = (cell_leaves cell c).some in
    record {
      cell = c;
      inside = λ x h. let r = covers_from cell x h in let low = r.0 in let high = r.1 in grind (arith, nat_tests);
      greatest = λ deep lies.
          let k = level_of cell - 1 in
          let le : k ≤ level_of cell = omega arith in
          let p = parent_of cell k in
          let cp : IsCell p = IsCell-parent_of cell k p c le refl in
          let some_p = (cell_leaves p cp).some in
          let v = parent_around cell k c le in
          let vl = v.low in
          let vh = v.high in
          let g = parent_larger cell c deep in
          let low : (lo ≤ first_leaf p) × (first_leaf p < hi) =
          between_ends lo hi (first_leaf p) (lies (first_leaf p)
          (covers_there p (first_leaf p) (omega arith) (omega arith))) in
          let last : (lo ≤ first_leaf p + size_of p - 1) × (first_leaf p + size_of p - 1 < hi) =
          between_ends lo hi (first_leaf p + size_of p - 1)
          (lies (first_leaf p + size_of p - 1) (covers_there p (first_leaf p + size_of p - 1) (omega arith)
          (omega arith))) in
          let l0 = low.0 in
          let l1 = last.1 in
          ⊎_elim
          (λ (h : first_leaf p ≡ first). let w = largest p cp h (omega arith) in absurd (omega arith)) (⊎_elim
          (λ (h : first_leaf p < first). let w = t.closed p cp l0 (omega arith) h in absurd (omega arith))
          (λ (h : first < first_leaf p). absurd (omega arith)))
          (cases_order (first_leaf p) first);
    }

pub tiling_step : (old list new : List ℕ) (lo hi first cell : ℕ) → Tiling old list lo hi first → IsCell cell →
    first_leaf cell ≡ first → first_leaf cell + size_of cell ≤ hi
    → ((q : ℕ) → IsCell q → first_leaf q ≡ first → first_leaf q + size_of q ≤ hi → size_of q ≤ size_of cell)
    → new ≡ list ++ cell ∷ [] → Tiling old new lo hi (first_leaf cell + size_of cell)
tiling_step old list new lo hi first cell t c f e largest is =
    let s = t.start in
    let some = (cell_leaves cell c).some in
    let added : (x : ℕ) → has_leaf (t.tiles ++ cell ∷ []) x ≡ (has_leaf t.tiles x || covers cell x) =
    λ x. list_any-append (λ (v : ℕ). covers v x) t.tiles (cell ∷ [])
    ∙ ap (λ v. has_leaf t.tiles x || v) (or-false (covers cell x)) in
    record {
      tiles = t.tiles ++ cell ∷ [];
      is = is ∙ ap (λ v. v ++ cell ∷ []) t.is ∙ append_assoc old t.tiles (cell ∷ []);
      picked = picked_push (between lo hi) t.tiles cell first t.picked t.below (omega arith)
          (tile_greatest t c f e largest);
      start = omega arith;
      reach = inr e;
      below = λ x l. ⊎_elim
          (λ (a : has_leaf t.tiles x ≡ true). let b = t.below x a in omega arith)
          (λ (a : covers cell x ≡ true). (covers_from cell x a).1)
          (or_cases (has_leaf t.tiles x) (covers cell x) (sym (added x) ∙ l));
      leaves = λ x.
          let same : covers cell x ≡ between first (first_leaf cell + size_of cell) x =
          ap (λ v. leb v x && ltb x (first_leaf cell + size_of cell)) f in
          added x ∙ ap (λ v. v || covers cell x) (t.leaves x) ∙ ap (λ v. between lo first x || v) same
          ∙ longer lo first (first_leaf cell + size_of cell) x s (omega arith);
      closed = λ q cq low high h.
          let some_q = (cell_leaves q cq).some in
          ⊎_elim
          (λ (g : first_leaf q ≡ first). let w = largest q cq g high in omega arith) (⊎_elim
          (λ (g : first_leaf q < first). let w = t.closed q cq low high g in omega arith)
          (λ (g : first < first_leaf q). elim (meeting q cell cq c) [
            | before m ↦ absurd (omega arith)
            | after m ↦ absurd (omega arith)
            | within w ↦ w.high
            | around w ↦ let wl = w.low in absurd (omega arith)
          ]))
          (cases_order (first_leaf q) first);
    }

same_between : (lo hi f x : ℕ) → lo ≤ f → (f ≡ lo) ⊎ (f ≤ hi) → hi ≤ f → between lo f x ≡ between lo hi x
same_between lo hi f x s r h = ⊎_elim (λ (e : f ≡ lo). grind (arith, nat_tests))
    (λ (e : f ≤ hi). let g : f ≡ hi = omega arith in ap (λ v. between lo v x) g) r

pub tiling_done : (old list : List ℕ) (lo hi first : ℕ) → Tiling old list lo hi first → hi ≤ first →
    FillsGap old list lo hi
tiling_done old list lo hi first t h =
    let leaves : (x : ℕ) → has_leaf t.tiles x ≡ between lo hi x = λ x. t.leaves x
    ∙ same_between lo hi first x t.start t.reach h in
    record {
      tiles = t.tiles;
      is = t.is;
      normal = picked_normal (between lo hi) t.tiles t.picked leaves;
      leaves = leaves;
    }
