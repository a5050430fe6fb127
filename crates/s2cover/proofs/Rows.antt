-- The cells of a union cut to a level, put together row by row.
use Rattle.std.proofs.Common.{◌≡◌, ℕ, ◌+◌, ◌<◌, ◌≤◌, ◌⊎◌, inl, inr, refl, sym, ap, subst, arith}
use Rattle.std.proofs.Common.{false, List, [], length, get_or, max}
use Rattle.std.proofs.Math.Logic.{⊎_elim}
use Rattle.std.proofs.lemmas.Bool.{cases_lt}
use Rattle.std.proofs.lemmas.List.{append-nil, get_or-map}
use Rattle.s2cell.specs.Cell.{first_leaf, size_of}
use Rattle.s2cell.specs.declared.TheConstants.{LEAVES}
use Rattle.s2cell.proofs.CellLemmas.{cell_leaves}
use Rattle.s2list.specs.Union.{has_leaf, between, IsLocal}
use Rattle.s2list.specs.Output.{Fills, WritesUpTo}
use Rattle.s2list.specs.Packed.{FillsGap, FirstEndBy}
use Rattle.s2list.specs.Working.Piles.{HeapIn, Heaping}
use Rattle.s2list.proofs.Checking.{packed_from_local}
use Rattle.s2list.proofs.Heaping.{heap_done, heaping_flush, heaping_more, heaping_none, heaping_on}
use Rattle.s2list.proofs.Picking.{picked_none, picked_normal}
use Rattle.s2list.proofs.Tiling.{none_between}
use Rattle.s2list.proofs.Walking.{leaf_at, leaf_there, not_true}
use Rattle.s2list.proofs.Writing.{Counts, written_past}
use Rattle.s2cover.specs.Working.Cut.{cells_cut, cut_at}
use Rattle.s2cover.specs.Working.Rows.{HasRow}
use Rattle.s2cover.proofs.Levelling.{Begins, passed_cut}

-- ---- a row

pub row_start : (v : List ℕ) (i : ℕ) → Begins v → i < length v →
    HasRow v i (i + 1) (first_leaf (get_or v i 0)) (first_leaf (get_or v i 0) + size_of (get_or v i 0))
row_start v i b h =
    let l = cell_leaves (get_or v i 0) (b.cells i 0 h) in
    let some = l.some in
    let within = l.within in
    record {
      first = refl;
      some = omega arith;
      most = omega arith;
      leaves = λ x low high. leaf_there v i x h low high;
      ended = λ k from to.
          let e : k ≡ i = omega arith in
          let same = ap (λ j. first_leaf (get_or v j 0) + size_of (get_or v j 0)) e in
          omega arith;
    }

-- the next cell begins in the row, or at its end
pub row_more : (v : List ℕ) (i m lo hi high : ℕ) → Begins v → HasRow v i m lo hi → i ≤ m → m < length v →
    first_leaf (get_or v m 0) ≤ hi → high ≡ max hi (first_leaf (get_or v m 0) + size_of (get_or v m 0)) →
    HasRow v i (m + 1) lo high
row_more v i m lo hi high b r from h meets eh =
    let l = cell_leaves (get_or v m 0) (b.cells m 0 h) in
    let within = l.within in
    let some = r.some in
    let most = r.most in
    record {
      first = r.first;
      some = omega arith;
      most = omega arith;
      leaves = λ x low to. ⊎_elim
          (λ (a : x < hi). r.leaves x low a)
          (λ (a : hi ≤ x). leaf_there v m x h (omega arith) (omega arith))
          (cases_lt x hi);
      ended = λ k start to. ⊎_elim
          (λ (a : k < m). let e = r.ended k start a in omega arith)
          (λ (a : m ≤ k).
          let e : k ≡ m = omega arith in
          let same = ap (λ j. first_leaf (get_or v j 0) + size_of (get_or v j 0)) e in
          omega arith)
          (cases_lt k m);
    }

-- the cells of a union after the one at `m` that end by its end, cut, are passed
pub row_cut : (k : ℕ) (u : List ℕ) (i m next lo hi end : ℕ) → IsLocal u → HasRow (cells_cut k u) i (m + 1) lo hi →
    i ≤ m → next ≤ length u → end ≤ hi
    → end ≡ first_leaf (cut_at k (get_or u m 0)) + size_of (cut_at k (get_or u m 0)) → FirstEndBy u next end
    → HasRow (cells_cut k u) i next lo hi
row_cut k u i m next lo hi end local r from within by e ended = record {
  first = r.first;
  some = r.some;
  most = r.most;
  leaves = r.leaves;
  ended = λ j start to. ⊎_elim
      (λ (a : j < m + 1). r.ended j start a)
      (λ (a : m + 1 ≤ j).
      let w = passed_cut k u m j end (packed_from_local u local) (omega arith) (omega arith) e (ended j to) in
      let g = ap (λ c. first_leaf c + size_of c) (get_or-map (cut_at k) u j 0 0 (omega arith)) in
      let high = w.high in
      omega arith)
      (cases_lt j (m + 1));
}

-- ---- the rows so far

-- no leaf is put for no leaves
fills_none : (list : List ℕ) (a : ℕ) → FillsGap list list a a
fills_none list a = record {
  tiles = [];
  is = sym (append-nil list);
  normal = picked_normal (between a a) [] (picked_none (between a a)) (λ x. sym (none_between a x));
  leaves = λ x. sym (none_between a x);
}

-- the rows of the first `i` cells of `v` were written, which end before the leaf `done`, and the next cell begins there
-- or later
pub record Rows (v : List ℕ) (Holds : List ℕ → Type 0) (i : ℕ) : Type 0 where
  pub done : ℕ
  pub ended : FirstEndBy v i done
  pub start : i < length v → done ≤ first_leaf (get_or v i 0)
  pub heap : HeapIn (has_leaf v) Holds done done done

pub rows_none : (v : List ℕ) (Holds : List ℕ → Type 0) → Holds [] → Rows v Holds 0
rows_none v Holds held = record {
  done = 0;
  ended = λ k h. absurd (omega arith);
  start = λ h. omega arith;
  heap = record { list = []; held = held; heap = heaping_none (has_leaf v) };
}

-- no leaf lies between the cells that end by `lo` and the next
free : (v : List ℕ) (n lo hi x : ℕ) → Begins v → FirstEndBy v n lo → (n < length v → hi ≤ first_leaf (get_or v n 0)) →
    lo ≤ x → x < hi → has_leaf v x ≡ false
free v n lo hi x b ended next from to = not_true (has_leaf v x) (λ t.
    let l = leaf_at v x t in
    let low = l.low in
    let high = l.high in
    let below = l.below in
    ⊎_elim
    (λ (a : l.at < n). let e = ended l.at a in omega arith)
    (λ (a : n ≤ l.at).
    let o = b.order n l.at a below in
    let s = next (omega arith) in
    omega arith)
    (cases_lt l.at n))

-- the next row is written
pub row_written : {v : List ℕ} {Holds More : List ℕ → Type 0} {i : ℕ} (next lo hi : ℕ) → Begins v → Rows v Holds i →
    HasRow v i next lo hi → i < length v → (next < length v → hi < first_leaf (get_or v next 0)) →
    ((lo < hi → hi ≤ LEAVES) → (list : List ℕ) → Holds list → Fills More list lo hi) → Rows v More next
row_written {v} {Holds} {More} {i} next lo hi b s r h apart put =
    let S = has_leaf v in
    let list = s.heap.list in
    let first = r.first in
    let some = r.some in
    let low = s.start h in
    let ended : FirstEndBy v next hi = λ k to. ⊎_elim
    (λ (a : k < i). let e = s.ended k a in omega arith)
    (λ (a : i ≤ k). r.ended k a to)
    (cases_lt k i) in
    let on = heaping_on lo s.heap.heap (omega arith)
    (λ x from to. free v i s.done lo x b s.ended (λ _. omega arith) from to) in
    let here : Heaping S list lo lo lo = ⊎_elim
    (λ (a : s.done < lo). heaping_flush list on a (fills_none list s.done))
    (λ (a : lo ≤ s.done).
    let e : s.done ≡ lo = omega arith in
    subst (λ n. Heaping S list n n lo) e on)
    (cases_lt s.done lo) in
    let (longer, fills, held) = put (λ _. r.most) list s.heap.held in
    let more = heaping_on (hi + 1) (heaping_more hi here (omega arith) r.most r.leaves) (omega arith)
    (λ x from to. free v next hi (hi + 1) x b ended (λ g. let l = apart g in omega arith) from to) in
    record {
      done = hi + 1;
      ended = λ k to. let e = ended k to in omega arith;
      start = λ g. let l = apart g in omega arith;
      heap = record { list = longer; held = held; heap = heaping_flush longer more (omega arith) fills };
    }

-- all rows are written, or more cells than there may be
pub rows_done : {v : List ℕ} {Holds : List ℕ → Type 0} {i : ℕ} (n most : ℕ) → Begins v → Counts Holds n →
    Rows v Holds i → (length v ≤ i) ⊎ (most < n) → WritesUpTo most (has_leaf v) Holds n
rows_done {v} {Holds} {i} n most b counts s (inl all) =
    inl (heap_done counts s.heap
    (λ x from. free v i s.done (x + 1) x b s.ended (λ h. absurd (omega arith)) from (omega arith))
    (λ _ list held. (list, fills_none list s.done, held)))
rows_done {v} {Holds} {i} n most b counts s (inr more) = inr (
  more,
  λ u normal. written_past (has_leaf v) Holds s.heap.list u n most counts
      (record { chain = s.heap.heap.chain; greatest = s.heap.heap.greatest }) normal s.heap.held more,
)
