-- The run of a union's cells that share a leaf with a cell.
use Rattle.std.proofs.Common.{◌≡◌, ℕ, ◌+◌, ◌-◌, ◌<◌, ◌≤◌, ◌⊎◌, inl, inr, arith, List, length, get_or, max}
use Rattle.std.proofs.Math.Logic.{⊎_elim}
use Rattle.std.proofs.lemmas.Bool.{cases_lt}
use Rattle.s2cell.specs.Cell.{IsCell, covers, first_leaf, size_of}
use Rattle.s2cell.proofs.CellLemmas.{cell_leaves}
use Rattle.s2cell.proofs.Leaves.{covers_there, covers_from}
use Rattle.s2list.specs.Union.{ShareSome}
use Rattle.s2list.specs.Packed.{FirstEndBy, EndsBefore, IsPacked}
use Rattle.s2list.proofs.Finding.{ends_later}
use Rattle.s2list.specs.Search.{IsRunAt}

-- the cells from the first that ends after `lo` to the last that begins before `hi`
pub record Between (u : List ℕ) (lo hi start end : ℕ) : Type 0 where
  pub within : end ≤ length u
  pub ended : FirstEndBy u start lo
  pub next : start < length u → lo < first_leaf (get_or u start 0) + size_of (get_or u start 0)
  pub begun : (k : ℕ) → k < end → first_leaf (get_or u k 0) < hi
  pub rest : (k : ℕ) → end ≤ k → k < length u → hi ≤ first_leaf (get_or u k 0)

pub in_order : {u : List ℕ} {lo hi start end : ℕ} →
    IsPacked u → start ≤ length u → lo < hi → Between u lo hi start end → start ≤ end
in_order {u} {start} {end} p w h b =
    ⊎_elim
    (λ (l : end < start).
    let s = (cell_leaves (get_or u end 0) (p.cells end 0 (omega arith))).some in
    let a = b.ended end l in
    let r = b.rest end (omega arith) (omega arith) in
    absurd (omega arith))
    (λ (l : start ≤ end). l)
    (cases_lt end start)

pub run_at : {u : List ℕ} {c start end : ℕ} (count : ℕ) → IsPacked u → IsCell c → start ≤ length u →
    count ≡ end - start → Between u (first_leaf c) (first_leaf c + size_of c) start end → IsRunAt u c start count
run_at {u} {c} {start} {end} count p own w e b =
    let some = (cell_leaves c own).some in
    let o : start ≤ end = in_order p w (omega arith) b in
    let bw = b.within in
    record {
      within = omega arith;
      members = λ k l. (
        λ h. shares u c start end k p own l b h.0 (let g = h.1 in omega arith),
        λ s. found u c start end count k p o e l b s,
      );
    }
  where
    shares : (u : List ℕ) (c start end k : ℕ) → IsPacked u → IsCell c → k < length u
        → Between u (first_leaf c) (first_leaf c + size_of c) start end
        → start ≤ k → k < end → ShareSome (covers c) (covers (get_or u k 0))
    shares u c start end k p own l b h g =
        let some = (cell_leaves c own).some in
        let sk = (cell_leaves (get_or u k 0) (p.cells k 0 l)).some in
        let later = ends_later u start k p h l in
        let n = b.next (omega arith) in
        let begun = b.begun k g in
        let x = max (first_leaf c) (first_leaf (get_or u k 0)) in
        (x, covers_there c x (omega arith) (omega arith), covers_there (get_or u k 0) x (omega arith) (omega arith))

    found : (u : List ℕ) (c start end count k : ℕ) → IsPacked u → start ≤ end → count ≡ end - start → k < length u
        → Between u (first_leaf c) (first_leaf c + size_of c) start end
        → ShareSome (covers c) (covers (get_or u k 0)) → (start ≤ k) × (k < start + count)
    found u c start end count k p o e l b (x, v, t) =
        let r = covers_from c x v in
        let s = covers_from (get_or u k 0) x t in
        let r0 = r.0 in
        let r1 = r.1 in
        let s0 = s.0 in
        let s1 = s.1 in (
          ⊎_elim (λ (g : k < start). let a = b.ended k g in absurd (omega arith)) (λ (g : start ≤ k). g)
              (cases_lt k start),
          ⊎_elim (λ (g : k < end). omega arith) (λ (g : end ≤ k). let a = b.rest k g l in absurd (omega arith))
              (cases_lt k end),
        )

-- where the cells that begin before `hi` end, from how many end by it
pub between_from : {u : List ℕ} (lo hi start ended end : ℕ) → IsPacked u → ended ≤ length u →
    FirstEndBy u start lo → (start < length u → lo < first_leaf (get_or u start 0) + size_of (get_or u start 0)) →
    FirstEndBy u ended hi → (ended < length u → hi < first_leaf (get_or u ended 0) + size_of (get_or u ended 0)) →
    ((ended < length u) × (first_leaf (get_or u ended 0) < hi) × (end ≡ ended + 1))
    ⊎ (((ended < length u) → hi ≤ first_leaf (get_or u ended 0)) × (end ≡ ended)) → Between u lo hi start end
between_from {u} lo hi start ended end p w before next ends later (inl (l, f, e)) =
    record {
      within = omega arith;
      ended = before;
      next = next;
      begun = λ k h. ⊎_elim
          (λ (g : k < ended). let s = (cell_leaves (get_or u k 0) (p.cells k 0 (omega arith))).some in
          let a = ends k g in omega arith)
          (λ (g : ended ≤ k). let i : k ≡ ended = omega arith in rw i f)
          (cases_lt k ended);
      rest = λ k h g.
          let c : EndsBefore (get_or u ended 0) (get_or u k 0) = p.chain ended k 0 (omega arith) g in
          let n = later l in
          omega arith;
    }
between_from {u} lo hi start ended end p w before next ends later (inr (f, e)) =
    record {
      within = omega arith;
      ended = before;
      next = next;
      begun = λ k h. let s = (cell_leaves (get_or u k 0) (p.cells k 0 (omega arith))).some in let a =
          ends k (omega arith) in omega arith;
      rest = λ k h g. ⊎_elim
          (λ (i : ended < k).
          let c : EndsBefore (get_or u ended 0) (get_or u k 0) = p.chain ended k 0 i g in
          let n = later (omega arith) in
          omega arith)
          (λ (i : k ≤ ended). let j : k ≡ ended = omega arith in rw j (f (omega arith)))
          (cases_lt ended k);
    }
