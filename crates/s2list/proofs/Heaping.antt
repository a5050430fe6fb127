-- A set of leaves that is put together from its intervals, from the first leaf to the last.
use Rattle.std.proofs.Common.{◌≡◌, ℕ, ◌+◌, ◌-◌, ◌<◌, ◌≤◌, sym, ◌∙◌, arith, Bool, true, false, ◌||◌}
use Rattle.std.proofs.Common.{refl, subst, List, []}
use Rattle.std.proofs.Math.Logic.{⊎_elim}
use Rattle.std.proofs.Math.Bool.{or-false}
use Rattle.std.proofs.lemmas.Bool.{cases_lt, false≢true, or_cases, or_right}
use Rattle.std.proofs.lemmas.Bool.Decides.{nat_tests}
use Rattle.s2cell.specs.Cell.{first_leaf, size_of}
use Rattle.s2cell.specs.declared.TheConstants.{LEAVES}
use Rattle.s2cell.proofs.Leaves.{covers_there, covers_from}
use Rattle.s2list.specs.Union.{has_leaf, between}
use Rattle.s2list.specs.Working.Union.{EndsBy}
use Rattle.s2list.specs.Working.Piles.{Brings, HeapIn, Heaping, PileIn}
use Rattle.s2list.specs.declared.pile.Pile.{Pile}
use Rattle.s2list.specs.Packed.{FillsGap}
use Rattle.s2list.specs.Output.{Fills, Writes}
use Rattle.s2list.proofs.Picking.{Picked, IsGap, picked_fill, fill_leaves, between_ends}
use Rattle.s2list.proofs.Tiling.{none_between}
use Rattle.s2list.proofs.Walking.{not_true}
use Rattle.s2list.proofs.Writing.{Counts, written_normal}

pub pile_free : (list : List ℕ) (lo hi x : ℕ) → EndsBy list lo → lo ≤ hi → hi ≤ x →
    (has_leaf list x || between lo hi x) ≡ false
pile_free list lo hi x below order h = not_true (has_leaf list x || between lo hi x) (λ t.
    ⊎_elim
    (λ (a : has_leaf list x ≡ true). let b = below x a in omega arith)
    (λ (a : between lo hi x ≡ true). let b = (between_ends lo hi x a).1 in omega arith)
    (or_cases (has_leaf list x) (between lo hi x) t))

-- no leaf comes before the first
pub heaping_none : (S : ℕ → Bool) → Heaping S [] 0 0 0
heaping_none S = record {
  chain = λ i j d h l. absurd (omega arith);
  greatest = λ k d h. absurd (omega arith);
  below = λ x h. absurd (false≢true h);
  order = omega arith;
  reach = omega arith;
  most = λ h. absurd (omega arith);
  edge = λ p c lies h. absurd (omega arith);
  leaves = λ x h. absurd (omega arith);
}

pub pile_none : {S : ℕ → Bool} (Holds : ℕ → List ℕ → Type 0) (p : Pile) → p.n ≡ 0 → p.lo ≡ 0 → p.hi ≡ 0 → Holds 0 [] →
    PileIn S Holds p 0
pile_none {S} Holds p n lo hi held = rw (n, lo, hi) (record { list = []; held = held; heap = heaping_none S })

-- the set has no leaf up to `next`
pub heaping_on : {S : ℕ → Bool} {list : List ℕ} {lo hi done : ℕ} (next : ℕ) → Heaping S list lo hi done → done ≤ next →
    ((x : ℕ) → done ≤ x → x < next → S x ≡ false) → Heaping S list lo hi next
heaping_on {S} {list} {lo} {hi} {done} next s le none =
    let order = s.order in
    let reach = s.reach in
    record {
      chain = s.chain;
      greatest = s.greatest;
      below = s.below;
      order = s.order;
      reach = omega arith;
      most = s.most;
      edge = s.edge;
      leaves = λ x h.
          ⊎_elim
          (λ (a : x < done). s.leaves x a)
          (λ (a : done ≤ x). none x a h ∙ sym (pile_free list lo hi x s.below order (omega arith)))
          (cases_lt x done);
    }

-- the set has all leaves from the end of the heap to before `end`
pub heaping_more : {S : ℕ → Bool} {list : List ℕ} {lo hi : ℕ} (end : ℕ) → Heaping S list lo hi hi → hi ≤ end →
    end ≤ LEAVES → ((x : ℕ) → hi ≤ x → x < end → S x ≡ true) → Heaping S list lo end end
heaping_more {S} {list} {lo} {hi} end s le within all =
    let order = s.order in
    record {
      chain = s.chain;
      greatest = s.greatest;
      below = s.below;
      order = omega arith;
      reach = omega arith;
      most = λ h. within;
      edge = s.edge;
      leaves = λ x h.
          ⊎_elim
          (λ (a : x < hi).
          let same : between lo hi x ≡ between lo end x = grind (arith, nat_tests) in
          rw (sym same) (s.leaves x a))
          (λ (a : hi ≤ x).
          let there : between lo end x ≡ true = grind (arith, nat_tests) in
          all x a h ∙ sym (or_right (has_leaf list x) (between lo end x) there))
          (cases_lt x hi);
    }

-- the leaves of a heap after its list are a gap
heaping_gap : {S : ℕ → Bool} {list : List ℕ} {lo hi done : ℕ} → Heaping S list lo hi done → S hi ≡ false → IsGap S lo hi
heaping_gap {S} {list} {lo} {hi} {done} s none = record {
  inside = λ x b.
      let r = (between_ends lo hi x b).1 in
      let reach = s.reach in
      s.leaves x (omega arith) ∙ or_right (has_leaf list x) (between lo hi x) b;
  closed = λ p x cp lies hx b.
      let r = between_ends lo hi x b in
      let r0 = r.0 in
      let r1 = r.1 in
      let ends = covers_from p x hx in
      let e0 = ends.0 in
      let e1 = ends.1 in
      let low : lo ≤ first_leaf p =
      ⊎_elim
      (λ (a : first_leaf p < lo). let e = s.edge p cp lies a in absurd (omega arith))
      (λ (a : lo ≤ first_leaf p). a)
      (cases_lt (first_leaf p) lo) in
      let high : first_leaf p + size_of p ≤ hi =
      ⊎_elim
      (λ (a : hi < first_leaf p + size_of p).
      absurd (false≢true (sym none ∙ lies hi (covers_there p hi (omega arith) (omega arith)))))
      (λ (a : first_leaf p + size_of p ≤ hi). a)
      (cases_lt hi (first_leaf p + size_of p)) in
      λ y v. let q = covers_from p y v in let q0 = q.0 in let q1 = q.1 in grind (arith, nat_tests);
}

-- the leaves of a heap are written, if there is one more leaf that is done
pub heaping_flush : {S : ℕ → Bool} {list : List ℕ} {lo hi done : ℕ} (new : List ℕ) → Heaping S list lo hi done →
    hi < done → FillsGap list new lo hi → Heaping S new done done done
heaping_flush {S} {list} {lo} {hi} {done} new s h f =
    let order = s.order in
    let free = λ (x : ℕ) (a : hi ≤ x). pile_free list lo hi x s.below order a in
    let filled = fill_leaves list new lo hi f in
    let none : S hi ≡ false = s.leaves hi h ∙ free hi (omega arith) in
    let picked : Picked S new = picked_fill S list new lo hi (record { chain = s.chain; greatest = s.greatest }) s.below
    (λ _. heaping_gap s none) f in
    record {
      chain = picked.chain;
      greatest = picked.greatest;
      below = λ x t.
          ⊎_elim
          (λ (a : x < done). a)
          (λ (a : done ≤ x). absurd (false≢true (sym (free x (omega arith)) ∙ (sym (filled x) ∙ t))))
          (cases_lt x done);
      order = omega arith;
      reach = omega arith;
      most = λ b. absurd (omega arith);
      edge = λ p c lies a.
          ⊎_elim
          (λ (b : done < first_leaf p + size_of p).
          let last : S (done - 1) ≡ false = s.leaves (done - 1) (omega arith) ∙ free (done - 1) (omega arith) in
          absurd (false≢true (sym last ∙ lies (done - 1) (covers_there p (done - 1) (omega arith) (omega arith)))))
          (λ (b : first_leaf p + size_of p ≤ done). b)
          (cases_lt done (first_leaf p + size_of p));
      leaves = λ x a. s.leaves x a ∙ sym (filled x) ∙ sym (or-false (has_leaf new x))
          ∙ sym (rw (none_between done x) refl);
    }

-- ---- with its list written

pub heap_on : {S : ℕ → Bool} {Holds : List ℕ → Type 0} {lo hi done : ℕ} (next : ℕ) → HeapIn S Holds lo hi done →
    done ≤ next → ((x : ℕ) → done ≤ x → x < next → S x ≡ false) → HeapIn S Holds lo hi next
heap_on next s le none = record { list = s.list; held = s.held; heap = heaping_on next s.heap le none }

-- an interval that begins at the end of the heap
pub heap_more : {S : ℕ → Bool} {Holds : List ℕ → Type 0} {lo hi done from to next : ℕ} → HeapIn S Holds lo hi done →
    Brings S done from to next → from < to → from ≤ hi → HeapIn S Holds lo to next
heap_more {S} {Holds} {lo} {hi} {done} {from} {to} {next} s b some a =
    let reach = s.heap.reach in
    let order = b.order in
    let same : done ≡ hi = omega arith in
    let here = subst (λ d. Heaping S s.list lo hi d) same s.heap in
    heap_on next
    (record {
      list = s.list;
      held = s.held;
      heap = heaping_more to here (omega arith) (b.most some) (λ x c d. b.taken x (omega arith) d);
    })
    (b.reach some) (λ x c d. b.after x (omega arith) c d)

-- an interval that begins after it, before which its leaves are written
pub heap_apart : {S : ℕ → Bool} {Holds More : List ℕ → Type 0} {lo hi done from to next : ℕ} →
    HeapIn S Holds lo hi done → Brings S done from to next → from < to → hi < from →
    ((lo < hi → hi ≤ LEAVES) → (list : List ℕ) → Holds list → Fills More list lo hi) → HeapIn S More from to next
heap_apart {S} {Holds} {More} {lo} {hi} {done} {from} {to} {next} s b some a put =
    let (longer, fills, held) = put s.heap.most s.list s.held in
    let to_end = b.reach some in
    let here = heaping_on from s.heap b.order (λ x c d. b.before x c (omega arith) d) in
    heap_on next
    (record {
      list = longer;
      held = held;
      heap = heaping_more to (heaping_flush longer here a fills) (omega arith) (b.most some) b.taken;
    })
    (b.reach some) (λ x c d. b.after x (omega arith) c d)

-- no interval
pub heap_less : {S : ℕ → Bool} {Holds : List ℕ → Type 0} {lo hi done from to next : ℕ} → HeapIn S Holds lo hi done →
    Brings S done from to next → to ≤ from → HeapIn S Holds lo hi next
heap_less {from} {next} s b none =
    heap_on next s b.on
    (λ x c d. ⊎_elim
    (λ (e : x < from). b.before x c d e)
    (λ (e : from ≤ x). b.after x e (omega arith) d)
    (cases_lt x from))

-- the set has no leaf that isn't done: the leaves of the heap are written
pub heap_done : {S : ℕ → Bool} {Holds More : List ℕ → Type 0} {lo hi done n : ℕ} → Counts More n →
    HeapIn S Holds lo hi done → ((x : ℕ) → done ≤ x → S x ≡ false) →
    ((lo < hi → hi ≤ LEAVES) → (list : List ℕ) → Holds list → Fills More list lo hi) → Writes S More n
heap_done {S} {Holds} {More} {lo} {hi} {done} {n} counts s none put =
    let (longer, fills, held) = put s.heap.most s.list s.held in
    let reach = s.heap.reach in
    let order = s.heap.order in
    let next = heaping_on (done + 1) s.heap (omega arith) (λ x a b. none x a) in
    let flushed = heaping_flush longer next (omega arith) fills in
    written_normal S More longer n counts (record { chain = flushed.chain; greatest = flushed.greatest })
    (λ x. ⊎_elim
    (λ (a : x < done + 1).
    sym (flushed.leaves x a ∙ rw (none_between (done + 1) x) refl ∙ or-false (has_leaf longer x)))
    (λ (a : done + 1 ≤ x).
    fill_leaves s.list longer lo hi fills x ∙ pile_free s.list lo hi x s.heap.below order (omega arith)
    ∙ sym (none x (omega arith)))
    (cases_lt x (done + 1)))
    held
