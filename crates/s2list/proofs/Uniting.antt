-- The leaves of two lists of cells, put together on a walk along both.
use Rattle.std.proofs.Common.{◌≡◌, ℕ, ◌+◌, ◌-◌, ◌<◌, ◌≤◌, ◌∙◌, ap, subst, arith, Bool, false, ◌||◌}
use Rattle.std.proofs.Common.{max, List, [], length, get_or}
use Rattle.std.proofs.Math.Logic.{⊎_elim}
use Rattle.std.proofs.Math.Bool.{or-false}
use Rattle.std.proofs.lemmas.Bool.{cases_lt, or_from, or_left}
use Rattle.s2cell.specs.Cell.{first_leaf, size_of}
use Rattle.s2cell.specs.declared.TheConstants.{LEAVES}
use Rattle.s2cell.proofs.CellLemmas.{cell_leaves}
use Rattle.s2list.specs.Union.{IsLocal, has_leaf}
use Rattle.s2list.specs.Sets.{union_of}
use Rattle.s2list.specs.Output.{Fills, Writes}
use Rattle.s2list.specs.Working.Piles.{Along, Brings, HeapIn, IsRun, PileIn}
use Rattle.s2list.specs.declared.pile.Pile.{Pile}
use Rattle.s2list.proofs.Checking.{packed_from_local}
use Rattle.s2list.proofs.Heaping.{heap_done, heap_less, heap_more, pile_none}
use Rattle.s2list.proofs.Laying.{ended_run, run_alone, run_past}
use Rattle.s2list.proofs.Walking.{ended_later, ended_more, gap, leaf_there}
use Rattle.s2list.proofs.Writing.{Counts}

-- ---- of any set

pub along_none : {S : ℕ → Bool} {xs ys : List ℕ} (Holds : ℕ → List ℕ → Type 0) (p : Pile) → p.n ≡ 0 → p.lo ≡ 0 →
    p.hi ≡ 0 → Holds 0 [] → Along S Holds xs ys 0 0 p 0
along_none Holds p n lo hi held = record {
  ended_x = λ k h. absurd (omega arith);
  ended_y = λ k h. absurd (omega arith);
  heap = pile_none Holds p n lo hi held;
}

pub along_swap : {S : ℕ → Bool} {Holds : ℕ → List ℕ → Type 0} {xs ys : List ℕ} {i j done : ℕ} {p : Pile} →
    Along S Holds xs ys i j p done → Along S Holds ys xs j i p done
along_swap s = record { ended_x = s.ended_y; ended_y = s.ended_x; heap = s.heap }

-- a run of cells of `xs` before the leaf `mark`, up to which `ys` has no leaf. Where `ys` has none, the set is `xs`
pub along_run : {S : ℕ → Bool} {Holds More : ℕ → List ℕ → Type 0} {xs ys : List ℕ} {i j stop done : ℕ} {p : Pile}
    (mark : ℕ) (q : Pile) → IsLocal xs → ((x : ℕ) → has_leaf ys x ≡ false → S x ≡ has_leaf xs x) →
    Along S Holds xs ys i j p done → ((x : ℕ) → done ≤ x → x < mark → has_leaf ys x ≡ false) → i < stop →
    stop ≤ length xs → done < first_leaf (get_or xs i 0) →
    (stop < length xs → first_leaf (get_or xs (stop - 1) 0) + size_of (get_or xs (stop - 1) 0)
    < first_leaf (get_or xs stop 0)) →
    first_leaf (get_or xs (stop - 1) 0) + size_of (get_or xs (stop - 1) 0) < mark →
    q.hi ≡ first_leaf (get_or xs (stop - 1) 0) + size_of (get_or xs (stop - 1) 0) + 1 →
    (IsRun S xs done i stop → PileIn S Holds p done → PileIn S More q q.hi) → Along S More xs ys stop j q q.hi
along_run {xs = xs} {ys} {j = j} {stop} {done} mark q local only s none some within apart cut before ee laid =
    let r = run_alone ys mark local only s.ended_x none some within apart cut before in
    let past = run_past local r in
    record {
      ended_x = ended_run xs stop q.hi local within (omega arith);
      ended_y = ended_later ys j done q.hi s.ended_y (omega arith);
      heap = laid r s.heap;
    }

-- both lists are at their ends
pub along_done : {S : ℕ → Bool} {Holds : ℕ → List ℕ → Type 0} {More : List ℕ → Type 0} {xs ys : List ℕ}
    {i j n done : ℕ} {p : Pile} → IsLocal xs → IsLocal ys → Along S Holds xs ys i j p done → length xs ≤ i →
    length ys ≤ j → ((x : ℕ) → has_leaf xs x ≡ false → has_leaf ys x ≡ false → S x ≡ false) → Counts More n →
    ((p.lo < p.hi → p.hi ≤ LEAVES) → (list : List ℕ) → Holds p.n list → Fills More list p.lo p.hi) → Writes S More n
along_done {i = i} {j} {done = done} lx ly s in_x in_y within counts put =
    heap_done counts s.heap
    (λ x h. within x
    (gap i done (x + 1) x (packed_from_local _ lx) s.ended_x (λ l. absurd (omega arith)) h (omega arith))
    (gap j done (x + 1) x (packed_from_local _ ly) s.ended_y (λ l. absurd (omega arith)) h (omega arith)))
    put

-- ---- of the leaves of either list

-- where `ys` has no leaf, the set is that of `xs`
pub no_other : {S : ℕ → Bool} (xs ys : List ℕ) → ((x : ℕ) → S x ≡ union_of (has_leaf xs) (has_leaf ys) x) →
    (x : ℕ) → has_leaf ys x ≡ false → S x ≡ has_leaf xs x
no_other xs ys same x none = same x ∙ ap (λ v. has_leaf xs x || v) none ∙ or-false (has_leaf xs x)

-- the next cell of `xs`, which begins before that of `ys`, brings its leaves
pub next_brings : {S : ℕ → Bool} {Holds : ℕ → List ℕ → Type 0} {xs ys : List ℕ} {i j : ℕ} {p : Pile} (from next : ℕ) →
    IsLocal xs → IsLocal ys → ((x : ℕ) → S x ≡ union_of (has_leaf xs) (has_leaf ys) x) →
    Along S Holds xs ys i j p p.hi → i < length xs →
    (j < length ys → first_leaf (get_or xs i 0) ≤ first_leaf (get_or ys j 0)) →
    from ≡ max p.hi (first_leaf (get_or xs i 0)) →
    next ≡ max p.hi (first_leaf (get_or xs i 0) + size_of (get_or xs i 0)) →
    Brings S p.hi from (first_leaf (get_or xs i 0) + size_of (get_or xs i 0)) next
next_brings {S} {Holds} {xs} {ys} {i} {j} {p} from next lx ly same s h before ef en =
    let l = cell_leaves (get_or xs i 0) (lx.cells i 0 h) in
    let some = l.some in
    let within = l.within in
    record {
      order = omega arith;
      on = omega arith;
      reach = λ _. omega arith;
      most = λ _. omega arith;
      before = λ x a b c. same x ∙ or_from (has_leaf xs x) (has_leaf ys x)
          (gap i p.hi (first_leaf (get_or xs i 0)) x (packed_from_local xs lx) s.ended_x (λ _. omega arith) a
          (omega arith))
          (gap j p.hi (first_leaf (get_or xs i 0)) x (packed_from_local ys ly) s.ended_y before a (omega arith));
      taken = λ x a b. same x ∙ or_left (has_leaf xs x) (has_leaf ys x)
          (leaf_there xs i x h (omega arith) (omega arith));
      after = λ x a b c. absurd (omega arith);
    }

-- if it begins in the pile or at its end, the pile ends with it or where it did
pub along_within : {S : ℕ → Bool} {Holds : ℕ → List ℕ → Type 0} {xs ys : List ℕ} {i j : ℕ} {p : Pile} (end : ℕ) →
    IsLocal xs → IsLocal ys → ((x : ℕ) → S x ≡ union_of (has_leaf xs) (has_leaf ys) x) →
    Along S Holds xs ys i j p p.hi → i < length xs →
    (j < length ys → first_leaf (get_or xs i 0) ≤ first_leaf (get_or ys j 0)) → first_leaf (get_or xs i 0) ≤ p.hi →
    end ≡ max p.hi (first_leaf (get_or xs i 0) + size_of (get_or xs i 0)) → HeapIn S (Holds p.n) p.lo end end
along_within {S} {Holds} {xs} {ys} {i} {j} {p} end lx ly same s h before meets ee =
    let b = next_brings p.hi end lx ly same s h before (omega arith) ee in
    ⊎_elim
    (λ (a : p.hi < first_leaf (get_or xs i 0) + size_of (get_or xs i 0)).
    let is : first_leaf (get_or xs i 0) + size_of (get_or xs i 0) ≡ end = omega arith in
    subst (λ n. HeapIn S (Holds p.n) p.lo n end) is (heap_more s.heap b a (omega arith)))
    (λ (a : first_leaf (get_or xs i 0) + size_of (get_or xs i 0) ≤ p.hi).
    let is : p.hi ≡ end = omega arith in
    subst (λ n. HeapIn S (Holds p.n) p.lo n end) is (heap_less s.heap b a))
    (cases_lt p.hi (first_leaf (get_or xs i 0) + size_of (get_or xs i 0)))

-- the cell is passed
pub along_more : {S : ℕ → Bool} {Holds More : ℕ → List ℕ → Type 0} {xs ys : List ℕ} {i j : ℕ} {p : Pile} (q : Pile) →
    Along S Holds xs ys i j p p.hi → q.hi ≡ max p.hi (first_leaf (get_or xs i 0) + size_of (get_or xs i 0)) →
    PileIn S More q q.hi → Along S More xs ys (i + 1) j q q.hi
along_more {xs = xs} {ys} {i} {j} {p} q s ee heap = record {
  ended_x = ended_more xs i p.hi q.hi s.ended_x (omega arith) (omega arith);
  ended_y = ended_later ys j p.hi q.hi s.ended_y (omega arith);
  heap = heap;
}
