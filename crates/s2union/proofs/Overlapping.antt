-- The run of a list's cells that share a leaf with a cell.
use Rattle.std.proofs.Common.{◌≡◌, ℕ, ◌+◌, ◌-◌, ◌<◌, ◌≤◌, true, false, sym, ◌∙◌, ap, arith, List, length}
use Rattle.std.proofs.Common.{get_or, take, drop, All}
use Rattle.std.proofs.Math.Logic.{⊎_elim}
use Rattle.std.proofs.lemmas.Bool.{cases_Bool, both_ways}
use Rattle.std.proofs.lemmas.Option.{gets}
use Rattle.std.proofs.lemmas.List.{get_or-drop, length-drop, length-take-le, get_or-take}
use Rattle.s2cell.specs.Cell.{IsCell, covers}
use Rattle.s2cell.proofs.Leaves.{covers_there}
use Rattle.s2list.specs.Union.{has_leaf, ShareSome}
use Rattle.s2list.specs.Search.{IsRunAt}
use Rattle.s2list.proofs.Walking.{leaf_at, leaf_there, not_true}

abbrev pub run : List ℕ → ℕ → ℕ → List ℕ
run u start end = take (end - start) (drop start u)

run_len : (u : List ℕ) (start end : ℕ) → end ≤ length u → length (run u start end) ≡ end - start
run_len u start end h = let d = length-drop start u in length-take-le (end - start) (drop start u) (omega arith)

run_at : (u : List ℕ) (start end k d : ℕ) → k < end - start → get_or (run u start end) k d ≡ get_or u (start + k) d
run_at u start end k d h = get_or-take (end - start) (drop start u) k d h ∙ get_or-drop start u k d

-- the run, by its own length
pub run_itself : (u : List ℕ) (c start count end : ℕ) → IsRunAt u c start count → end ≡ start + count →
    (first : ℕ) × IsRunAt u c first (length (run u start end))
    × (run u start end ≡ take (length (run u start end)) (drop first u))
run_itself u c start count end r e =
    let w = r.within in
    let len : length (run u start end) ≡ end - start = run_len u start end (omega arith) in
    let same : length (run u start end) ≡ count = omega arith in
    (start, rw same r, sym (ap (λ n. take n (drop start u)) len))

pub run_cells : (u : List ℕ) (start end : ℕ) → All IsCell u → end ≤ length u → All IsCell (run u start end)
run_cells u start end cells h k d l =
    let len = run_len u start end h in
    rw (run_at u start end k d (omega arith)) (cells (start + k) d (omega arith))

pub run_shares : (u : List ℕ) (c start count end : ℕ) →
    IsRunAt u c start count → end ≡ start + count → All (λ x. ShareSome (covers x) (covers c)) (run u start end)
run_shares u c start count end r e k d l =
    let w = r.within in
    let len = run_len u start end (omega arith) in
    let at = start + k in
    let is : get_or (run u start end) k d ≡ get_or u at 0 = run_at u start end k d (omega arith)
    ∙ grind (arith, gets) in
    let (x, a, b) = (r.members at (omega arith)).0 (omega arith, omega arith) in
    rw is (x, b, a)

pub run_leaves : (u : List ℕ) (c start count end : ℕ) → IsRunAt u c start count →
    end ≡ start + count → (x : ℕ) → covers c x ≡ true → has_leaf (run u start end) x ≡ has_leaf u x
run_leaves u c start count end r z x h =
    let w = r.within in
    let len = run_len u start end (omega arith) in
    ⊎_elim
    (λ (t : has_leaf u x ≡ true).
    let l = leaf_at u x t in
    let in_run = (r.members l.at l.below).1 (x, h, covers_there (get_or u l.at 0) x l.low l.high) in
    let after = in_run.0 in
    let before = in_run.1 in
    let k = l.at - start in
    let same : start + k ≡ l.at = omega arith in
    let e : get_or (run u start end) k 0 ≡ get_or u l.at 0 = run_at u start end k 0 (omega arith)
    ∙ ap (λ i. get_or u i 0) same in
    leaf_there (run u start end) k x (omega arith) (rw e l.low) (rw e l.high) ∙ sym t)
    (λ (f : has_leaf u x ≡ false). not_true (has_leaf (run u start end) x) (λ t.
    let l = leaf_at (run u start end) x t in
    let in_run = l.below in
    let e : get_or (run u start end) l.at 0 ≡ get_or u (start + l.at) 0 = run_at u start end l.at 0 (omega arith) in
    let there = leaf_there u (start + l.at) x (omega arith) (rw e at l.low) (rw e at l.high) in
    both_ways (has_leaf u x) f there) ∙ sym f)
    (cases_Bool (has_leaf u x))
