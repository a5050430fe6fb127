-- A run of cells that is laid down whole after a heap: it begins after the heap, and its end is a gap of the set.
use Rattle.std.proofs.Common.{◌≡◌, ℕ, zero, suc, ◌+◌, ◌-◌, ◌<◌, ◌≤◌, refl, sym, ◌∙◌, ap, arith, Bool, true}
use Rattle.std.proofs.Common.{false, ◌||◌, List, ◌++◌, length, get_or, take, drop}
use Rattle.std.proofs.Math.Logic.{⊎_elim}
use Rattle.std.proofs.lemmas.Bool.{cases_lt, false≢true, or_cases, or_from}
use Rattle.std.proofs.lemmas.List.{append-nil, get_or-drop, get_or-take, length-drop, length-take-le}
use Rattle.std.proofs.lemmas.List.Folds.{list_any-append}
use Rattle.s2cell.specs.Cell.{IsCell, first_leaf, level_of, parent_of, size_of, covers}
use Rattle.s2cell.specs.declared.TheConstants.{LEAVES}
use Rattle.s2cell.proofs.Calls.{IsCell-parent_of}
use Rattle.s2cell.proofs.CellLemmas.{cell_leaves}
use Rattle.s2cell.proofs.Family.{parent_around}
use Rattle.s2cell.proofs.Leaves.{covers_there, covers_from}
use Rattle.s2list.specs.Union.{has_leaf, IsGreatestIn, IsLocal}
use Rattle.s2list.specs.Working.Union.{EndsBy}
use Rattle.s2list.specs.Working.Piles.{HeapIn, Heaping, IsRun}
use Rattle.s2list.specs.Output.{Fills}
use Rattle.s2list.specs.Packed.{FirstEndBy, IsPacked}
use Rattle.s2list.proofs.Checking.{member_at, packed_from_local}
use Rattle.s2list.proofs.Finding.{ends_later, starts_later}
use Rattle.s2list.proofs.Heaping.{heaping_flush, heaping_on}
use Rattle.s2list.proofs.Normal.{member_greatest}
use Rattle.s2list.proofs.Picking.{Picked, picked_push}
use Rattle.s2list.proofs.Intersecting.{run_push}
use Rattle.s2list.proofs.Tiling.{none_between}
use Rattle.s2list.proofs.Walking.{gap, leaf_at, leaf_there, not_true}

-- the place of a leaf of a run in the whole list
record RunLeaf (u : List ℕ) (i stop x : ℕ) : Type 0 where
  at : ℕ
  from : i ≤ at
  to : at < stop
  low : first_leaf (get_or u at 0) ≤ x
  high : x < first_leaf (get_or u at 0) + size_of (get_or u at 0)

run_leaf : (u : List ℕ) (i n x : ℕ) → i + n ≤ length u → has_leaf (take n (drop i u)) x ≡ true → RunLeaf u i (i + n) x
run_leaf u i n x within t =
    let run = take n (drop i u) in
    let left = length-drop i u in
    let len : length run ≡ n = length-take-le n (drop i u) (omega arith) in
    let l = leaf_at run x t in
    let b = l.below in
    let e : get_or run l.at 0 ≡ get_or u (i + l.at) 0 = get_or-take n (drop i u) l.at 0 (omega arith)
    ∙ get_or-drop i u l.at 0 in
    let f = ap first_leaf e in
    let g = ap size_of e in
    let low = l.low in
    let high = l.high in
    record { at = i + l.at; from = omega arith; to = omega arith; low = omega arith; high = omega arith }

leaf_in_run : (u : List ℕ) (i n k x : ℕ) → i + n ≤ length u → i ≤ k → k < i + n → first_leaf (get_or u k 0) ≤ x →
    x < first_leaf (get_or u k 0) + size_of (get_or u k 0) → has_leaf (take n (drop i u)) x ≡ true
leaf_in_run u i n k x within from to low high =
    let run = take n (drop i u) in
    let left = length-drop i u in
    let len : length run ≡ n = length-take-le n (drop i u) (omega arith) in
    let at : i + (k - i) ≡ k = omega arith in
    let e : get_or run (k - i) 0 ≡ get_or u k 0 = get_or-take n (drop i u) (k - i) 0 (omega arith)
    ∙ get_or-drop i u (k - i) 0 ∙ ap (λ m. get_or u m 0) at in
    let f = ap first_leaf e in
    let g = ap size_of e in
    leaf_there run (k - i) x (omega arith) (omega arith) (omega arith)

-- each cell of the run is greatest in the set
run_greatest : {S : ℕ → Bool} {u list : List ℕ} {done i stop : ℕ} (start k : ℕ) → IsLocal u →
    Heaping S list start start start → IsRun S u done i stop → start ≡ first_leaf (get_or u i 0) → i ≤ k → k < stop →
    IsGreatestIn S (get_or u k 0)
run_greatest {S} {u} {list} {done} {i} {stop} start k local s r es ik h =
    let p = packed_from_local u local in
    let c = get_or u k 0 in
    let end = first_leaf (get_or u (stop - 1) 0) + size_of (get_or u (stop - 1) 0) in
    let within = r.within in
    let g = member_greatest u local c (member_at u k c (omega arith) refl) in
    let some = (cell_leaves c g.cell).some in
    let a = starts_later u i k p ik (omega arith) in
    let b = ends_later u k (stop - 1) p (omega arith) (omega arith) in
    record {
      cell = g.cell;
      inside = λ x v. let t = covers_from c x v in let t0 = t.0 in let t1 = t.1 in
          r.same x (omega arith) (omega arith) ∙ g.inside x v;
      greatest = λ deep lies.
          let up = level_of c - 1 in
          let le : up ≤ level_of c = omega arith in
          let q = parent_of c up in
          let cq : IsCell q = IsCell-parent_of c up q g.cell le refl in
          let w = parent_around c up g.cell le in
          let wl = w.low in
          let wh = w.high in
          let low : start ≤ first_leaf q =
          ⊎_elim
          (λ (m : first_leaf q < start). let e = s.edge q cq lies m in absurd (omega arith))
          (λ (m : start ≤ first_leaf q). m)
          (cases_lt (first_leaf q) start) in
          let high : first_leaf q + size_of q ≤ end =
          ⊎_elim
          (λ (m : end < first_leaf q + size_of q).
          absurd (false≢true (sym r.after ∙ lies end (covers_there q end (omega arith) m))))
          (λ (m : first_leaf q + size_of q ≤ end). m)
          (cases_lt end (first_leaf q + size_of q)) in
          g.greatest deep (λ x v.
          let t = covers_from q x v in
          let t0 = t.0 in
          let t1 = t.1 in
          sym (r.same x (omega arith) (omega arith)) ∙ lies x v);
    }

-- where the leaves of a list and a run end
run_below : (u list : List ℕ) (i n start bound : ℕ) → i + n ≤ length u → EndsBy list start → start ≤ bound
    → ((k : ℕ) → i ≤ k → k < i + n → first_leaf (get_or u k 0) + size_of (get_or u k 0) ≤ bound)
    → EndsBy (list ++ take n (drop i u)) bound
run_below u list i n start bound within below order ends x t =
    let run = take n (drop i u) in
    ⊎_elim
    (λ (a : has_leaf list x ≡ true). let b = below x a in omega arith)
    (λ (a : has_leaf run x ≡ true).
    let l = run_leaf u i n x within a in
    let high = l.high in
    let end = ends l.at l.from l.to in
    omega arith)
    (or_cases (has_leaf list x) (has_leaf run x) (sym (list_any-append (λ (c : ℕ). covers c x) list run) ∙ t))

run_picked : (S : ℕ → Bool) (u list : List ℕ) (i start n : ℕ) → IsPacked u → Picked S list → EndsBy list start
    → start ≡ first_leaf (get_or u i 0) → i + n ≤ length u
    → ((k : ℕ) → i ≤ k → k < i + n → IsGreatestIn S (get_or u k 0)) → Picked S (list ++ take n (drop i u))
run_picked S u list i start zero p picked below es within greatest = rw (append-nil list) picked
run_picked S u list i start (suc n) p picked below es within greatest =
    let before = run_picked S u list i start n p picked below es (omega arith) (λ k a h. greatest k a (omega arith)) in
    let later = starts_later u i (i + n) p (omega arith) (omega arith) in
    let ends = run_below u list i n start (first_leaf (get_or u (i + n) 0)) (omega arith) below (omega arith)
    (λ k a h. p.chain k (i + n) 0 (omega arith) (omega arith)) in
    rw (run_push u list i n (omega arith))
    (picked_push S (list ++ take n (drop i u)) (get_or u (i + n) 0) (first_leaf (get_or u (i + n) 0)) before ends
    (omega arith) (greatest (i + n) (omega arith) (omega arith)))

or_first : (s a b : Bool) → b ≡ false → s ≡ (a || false) → s ≡ ((a || b) || false)
or_first s a true e f = absurd (false≢true (sym e))
or_first s true false e f = f
or_first s false false e f = f

or_run : (s a b c : Bool) → a ≡ false → s ≡ c → (c ≡ true → b ≡ true) → (b ≡ true → c ≡ true) →
    s ≡ ((a || b) || false)
or_run s true b c e f to from = absurd (false≢true (sym e))
or_run s false true c e f to from = f ∙ from refl
or_run s false false true e f to from = absurd (false≢true (to refl))
or_run s false false false e f to from = f

-- the leaves before the end of the run
run_leaves : {S : ℕ → Bool} {u list : List ℕ} {done i stop : ℕ} (start x : ℕ) → IsLocal u →
    Heaping S list start start start → IsRun S u done i stop → start ≡ first_leaf (get_or u i 0) →
    x < first_leaf (get_or u (stop - 1) 0) + size_of (get_or u (stop - 1) 0) + 1 →
    S x ≡ ((has_leaf list x || has_leaf (take (stop - i) (drop i u)) x) || false)
run_leaves {S} {u} {list} {done} {i} {stop} start x local s r es h =
    let p = packed_from_local u local in
    let n = stop - i in
    let run = take n (drop i u) in
    let some = r.some in
    let within = r.within in
    let at : i + n ≡ stop = omega arith in
    let end = first_leaf (get_or u (stop - 1) 0) + size_of (get_or u (stop - 1) 0) in
    let above : start ≤ x → has_leaf list x ≡ false = λ a. not_true (has_leaf list x) (λ t. let b = s.below x t in
    omega arith) in
    ⊎_elim
    (λ (a : x < start).
    or_first (S x) (has_leaf list x) (has_leaf run x)
    (not_true (has_leaf run x) (λ t.
    let l = run_leaf u i n x (omega arith) t in
    let low = l.low in
    let to = l.to in
    let later = starts_later u i l.at p l.from (omega arith) in
    omega arith))
    (rw (none_between start x) at (s.leaves x a)))
    (λ (a : start ≤ x). ⊎_elim
    (λ (b : x < end).
    or_run (S x) (has_leaf list x) (has_leaf run x) (has_leaf u x) (above a) (r.same x (omega arith) b)
    (λ t.
    let l = leaf_at u x t in
    let low = l.low in
    let high = l.high in
    let below = l.below in
    let from : i ≤ l.at = ⊎_elim
    (λ (m : l.at < i). let c = p.chain l.at i 0 m (omega arith) in absurd (omega arith))
    (λ (m : i ≤ l.at). m)
    (cases_lt l.at i) in
    let to : l.at < stop = ⊎_elim
    (λ (m : l.at < stop). m)
    (λ (m : stop ≤ l.at). let c = p.chain (stop - 1) l.at 0 (omega arith) below in absurd (omega arith))
    (cases_lt l.at stop) in
    leaf_in_run u i n l.at x (omega arith) from (omega arith) low high)
    (λ t.
    let l = run_leaf u i n x (omega arith) t in
    let to = l.to in
    leaf_there u l.at x (omega arith) l.low l.high))
    (λ (b : end ≤ x).
    let is : end ≡ x = omega arith in
    rw (← is)
    (r.after ∙ sym (or_from (has_leaf list end || has_leaf run end) false
    (or_from (has_leaf list end) (has_leaf run end) (rw (← is) at (above a))
    (not_true (has_leaf run end) (λ t.
    let l = run_leaf u i n end (omega arith) t in
    let high = l.high in
    let to = l.to in
    let later = ends_later u l.at (stop - 1) p (omega arith) (omega arith) in
    omega arith))) refl)))
    (cases_lt x end))
    (cases_lt x start)

heaping_run : {S : ℕ → Bool} {u list : List ℕ} {done i stop : ℕ} (start mark : ℕ) → IsLocal u →
    Heaping S list start start start → IsRun S u done i stop → start ≡ first_leaf (get_or u i 0) →
    mark ≡ first_leaf (get_or u (stop - 1) 0) + size_of (get_or u (stop - 1) 0) + 1 →
    Heaping S (list ++ take (stop - i) (drop i u)) mark mark mark
heaping_run {S} {u} {list} {done} {i} {stop} start mark local s r es em =
    let p = packed_from_local u local in
    let n = stop - i in
    let run = take n (drop i u) in
    let some = r.some in
    let within = r.within in
    let end = first_leaf (get_or u (stop - 1) 0) + size_of (get_or u (stop - 1) 0) in
    let last = ends_later u i (stop - 1) p (omega arith) (omega arith) in
    let picked : Picked S (list ++ run) = run_picked S u list i start n p
    (record { chain = s.chain; greatest = s.greatest }) s.below es (omega arith)
    (λ k a b. run_greatest start k local s r es a (omega arith)) in
    record {
      chain = picked.chain;
      greatest = picked.greatest;
      below = run_below u list i n start mark (omega arith) s.below (omega arith)
          (λ k a b. let e = ends_later u k (stop - 1) p (omega arith) (omega arith) in omega arith);
      order = omega arith;
      reach = omega arith;
      most = λ b. absurd (omega arith);
      edge = λ q c lies a.
          ⊎_elim
          (λ (b : mark < first_leaf q + size_of q).
          absurd (false≢true (sym r.after ∙ lies end (covers_there q end (omega arith) (omega arith)))))
          (λ (b : first_leaf q + size_of q ≤ mark). b)
          (cases_lt mark (first_leaf q + size_of q));
      leaves = λ x a.
          rw (none_between mark x, list_any-append (λ (c : ℕ). covers c x) list run)
          (run_leaves start x local s r es (omega arith));
    }

-- the leaves of the heap are written, and then the run
pub heap_run : {S : ℕ → Bool} {Holds Mid More : List ℕ → Type 0} {lo hi done i stop : ℕ} {u : List ℕ} (mark : ℕ) →
    IsLocal u → HeapIn S Holds lo hi done → IsRun S u done i stop →
    mark ≡ first_leaf (get_or u (stop - 1) 0) + size_of (get_or u (stop - 1) 0) + 1 →
    ((lo < hi → hi ≤ LEAVES) → (list : List ℕ) → Holds list → Fills Mid list lo hi) →
    ((list : List ℕ) → Mid list → More (list ++ take (stop - i) (drop i u))) → HeapIn S More mark mark mark
heap_run {S} {Holds} {Mid} {More} {lo} {hi} {done} {i} {stop} {u} mark local s r em put run =
    let start = first_leaf (get_or u i 0) in
    let (longer, fills, held) = put s.heap.most s.list s.held in
    let reach = s.heap.reach in
    let apart = r.apart in
    let on = heaping_on start s.heap (omega arith) r.before in
    let flushed = heaping_flush longer on (omega arith) fills in
    record {
      list = longer ++ take (stop - i) (drop i u);
      held = run longer held;
      heap = heaping_run start mark local flushed r refl em;
    }

-- a run of `u` that ends before the leaf `mark`, up to which `v` has no leaf, in a set that is `u` where `v` has none
pub run_alone : {S : ℕ → Bool} {u : List ℕ} (v : List ℕ) {done i stop : ℕ} (mark : ℕ) → IsLocal u →
    ((x : ℕ) → has_leaf v x ≡ false → S x ≡ has_leaf u x) → FirstEndBy u i done →
    ((x : ℕ) → done ≤ x → x < mark → has_leaf v x ≡ false) → i < stop → stop ≤ length u →
    done < first_leaf (get_or u i 0) →
    (stop < length u → first_leaf (get_or u (stop - 1) 0) + size_of (get_or u (stop - 1) 0)
    < first_leaf (get_or u stop 0)) →
    first_leaf (get_or u (stop - 1) 0) + size_of (get_or u (stop - 1) 0) < mark → IsRun S u done i stop
run_alone {S} {u} v {done} {i} {stop} mark local only ended none some within apart cut before =
    let p = packed_from_local u local in
    let end = first_leaf (get_or u (stop - 1) 0) + size_of (get_or u (stop - 1) 0) in
    let last = ends_later u i (stop - 1) p (omega arith) (omega arith) in
    record {
      some = some;
      within = within;
      apart = apart;
      before = λ x a b. only x (none x a (omega arith))
          ∙ gap i done (first_leaf (get_or u i 0)) x p ended (λ _. omega arith) a b;
      same = λ x a b. only x (none x (omega arith) (omega arith));
      after = only end (none end (omega arith) before) ∙ not_true (has_leaf u end) (λ t.
          let l = leaf_at u end t in
          let low = l.low in
          let high = l.high in
          let below = l.below in
          ⊎_elim
          (λ (m : l.at < stop). let e = ends_later u l.at (stop - 1) p (omega arith) (omega arith) in omega arith)
          (λ (m : stop ≤ l.at).
          let c = cut (omega arith) in
          let e = starts_later u stop l.at p m below in
          omega arith)
          (cases_lt l.at stop));
    }

-- all cells of a run end before its end
pub ended_run : (u : List ℕ) (stop lo : ℕ) → IsLocal u → stop ≤ length u →
    first_leaf (get_or u (stop - 1) 0) + size_of (get_or u (stop - 1) 0) ≤ lo → FirstEndBy u stop lo
ended_run u stop lo local within le k h =
    let e = ends_later u k (stop - 1) (packed_from_local u local) (omega arith) (omega arith) in
    omega arith

-- a run ends after the leaves that were done
pub run_past : {S : ℕ → Bool} {u : List ℕ} {done i stop : ℕ} → IsLocal u → IsRun S u done i stop →
    done ≤ first_leaf (get_or u (stop - 1) 0) + size_of (get_or u (stop - 1) 0)
run_past {S} {u} {done} {i} {stop} local r =
    let some = r.some in
    let within = r.within in
    let apart = r.apart in
    let last = ends_later u i (stop - 1) (packed_from_local u local) (omega arith) (omega arith) in
    omega arith
