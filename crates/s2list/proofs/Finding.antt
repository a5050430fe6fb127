-- The place of a leaf among cells in order, and what a local list holds.
use Rattle.std.proofs.Common.{◌≡◌, ℕ, ◌+◌, ◌-◌, ◌/◌, ◌<◌, ◌≤◌, sym, ◌∙◌, ap, arith, List, length, get_or, All, max}
use Rattle.std.proofs.Math.Logic.{⊎_elim}
use Rattle.std.proofs.lemmas.Bool.{cases_lt, false≢true}
use Rattle.s2cell.specs.Cell.{IsCell, level_of, size_of, first_leaf, covers, IsInside}
use Rattle.s2cell.proofs.CellLemmas.{cell_leaves}
use Rattle.s2cell.proofs.Leaves.{Within, covers_there, covers_from}
use Rattle.s2list.specs.Union.{has_leaf, IsLocal, IsWithin, ShareSome}
use Rattle.std.specs.List.Sorted.{IsStrictlyIncreasing}
use Rattle.s2list.specs.Packed.{IsPacked, FirstEndBy, EndsAfter}
use Rattle.s2list.specs.Search.{Brackets}
use Rattle.s2list.proofs.Galloping.{rises}
use Rattle.s2list.proofs.Normal.{holder, family, all_held, leaf_to}
use Rattle.s2list.proofs.PackedLocal.{place, local_from_packed}
use Rattle.s2list.proofs.Checking.{packed_from_local, member_at}
use Rattle.s2list.proofs.Walking.{leaf_there, gap}

-- cells end later than those before them
pub ends_later : (u : List ℕ) (j k : ℕ) → IsPacked u → j ≤ k → k < length u →
    first_leaf (get_or u j 0) + size_of (get_or u j 0) ≤ first_leaf (get_or u k 0) + size_of (get_or u k 0)
ends_later u j k p h l =
    ⊎_elim
    (λ (a : j < k). let c : first_leaf (get_or u j 0) + size_of (get_or u j 0)
    ≤ first_leaf (get_or u k 0) = p.chain j k 0 a l in omega arith)
    (λ (a : k ≤ j). let e : j ≡ k = omega arith in
    let f = ap (λ i. first_leaf (get_or u i 0) + size_of (get_or u i 0)) e in omega arith)
    (cases_lt j k)

-- cells begin later than those before them
pub starts_later : (u : List ℕ) (j k : ℕ) → IsPacked u → j ≤ k → k < length u →
    first_leaf (get_or u j 0) ≤ first_leaf (get_or u k 0)
starts_later u j k p h l =
    ⊎_elim
    (λ (a : j < k). let c : first_leaf (get_or u j 0) + size_of (get_or u j 0)
    ≤ first_leaf (get_or u k 0) = p.chain j k 0 a l in omega arith)
    (λ (a : k ≤ j). let e : j ≡ k = omega arith in let f = ap (λ i. first_leaf (get_or u i 0)) e in omega arith)
    (cases_lt j k)

-- a cell ends by a leaf, and so do those before it
pub ended_to : (u : List ℕ) (i lo : ℕ) → IsPacked u → i < length u →
    first_leaf (get_or u i 0) + size_of (get_or u i 0) ≤ lo → FirstEndBy u (i + 1) lo
ended_to u i lo packed h le k l = let e = ends_later u k i packed (omega arith) h in omega arith

-- where the first number isn't below a mark, none is
pub none_below : {u : List ℕ} (mark : ℕ) → IsStrictlyIncreasing u → ((0 < length u) × (get_or u 0 0 < mark) → ⊥) →
    Brackets u mark 0 0
none_below {u} mark up none = record {
  order = omega arith;
  within = omega arith;
  below = λ k h. absurd (omega arith);
  rest = λ k a b. ⊎_elim
      (λ (l : get_or u 0 0 < mark). absurd (none (omega arith, l)))
      (λ (l : mark ≤ get_or u 0 0). let c = rises u 0 k up a b in omega arith)
      (cases_lt (get_or u 0 0) mark);
}

-- the cells that end by half of a mark are below it, and of the others only the first may be
pub bracketed : {u : List ℕ} (mark at : ℕ) {next : ℕ} → IsPacked u → at ≤ length u → FirstEndBy u at (mark / 2) →
    EndsAfter u at (mark / 2) → at ≤ next → next ≤ at + 1 → next ≤ length u → (at < next → get_or u at 0 < mark) →
    (next ≤ at → at < length u → get_or u at 0 < mark → ⊥) → Brackets u mark next next
bracketed {u} mark at {next} p in_u ended after from to within below above = record {
  order = omega arith;
  within = within;
  below = λ k h.
      let m = (cell_leaves (get_or u k 0) (p.cells k 0 (omega arith))).middle in
      let s = (cell_leaves (get_or u k 0) (p.cells k 0 (omega arith))).some in
      ⊎_elim
      (λ (a : k < at). let e = ended k a in omega arith)
      (λ (a : at ≤ k). let e : k ≡ at = omega arith in rw e (below (omega arith)))
      (cases_lt k at);
  rest = λ k a b.
      let m = (cell_leaves (get_or u k 0) (p.cells k 0 b)).middle in
      ⊎_elim
      (λ (h : at < k).
      let c : first_leaf (get_or u at 0) + size_of (get_or u at 0) ≤ first_leaf (get_or u k 0) = p.chain at k 0 h b in
      let e = after (omega arith) in
      omega arith)
      (λ (h : k ≤ at). let e : k ≡ at = omega arith in ⊎_elim
      (λ (l : get_or u at 0 < mark). absurd (above (omega arith) (omega arith) l))
      (λ (l : mark ≤ get_or u at 0). rw e l)
      (cases_lt (get_or u at 0) mark))
      (cases_lt at k);
}

pub ascends : (u : List ℕ) → IsPacked u → IsStrictlyIncreasing u
ascends u p = (local_from_packed u p).ascending

-- ---- what a local list holds

pub record HeldAt (u : List ℕ) (i c : ℕ) : Type 0 where
  pub there : i < length u
  pub within : Within c (get_or u i 0)

pub held_at : (u : List ℕ) (i c : ℕ) → IsLocal u → IsCell c → FirstEndBy u i (first_leaf c) → (i < length u →
    first_leaf c < first_leaf (get_or u i 0) + size_of (get_or u i 0)) → IsWithin (covers c) (has_leaf u) → HeldAt u i c
held_at u i c local cc ended next lies =
    let lc = cell_leaves c cc in
    let sc = lc.some in
    let level = lc.shallow in
    let packed = packed_from_local u local in
    elim (all_held (30 - level_of c) u c local.cells cc (omega arith) lies) [
      | family q cq lq all ↦ absurd (local.unmerged q cq lq all)
      | holder d m w ↦
          let p = place u d m in
          let e = p.is in
          let ef = ap first_leaf e in
          let es = ap size_of e in
          let wl = w.low in
          let wh = w.high in
          let b = p.below in
          ⊎_elim
          (λ (g : p.at < i). let x = ended p.at g in absurd (omega arith))
          (λ (g : i ≤ p.at). ⊎_elim
          (λ (h : i < p.at).
          let x : first_leaf (get_or u i 0) + size_of (get_or u i 0) ≤ first_leaf (get_or u p.at 0) =
          packed.chain i p.at 0 h b in
          let y = next (omega arith) in
          absurd (omega arith))
          (λ (h : p.at ≤ i).
          let s : p.at ≡ i = omega arith in
          record { there = omega arith; within = (rw s at (rw (← e) at w)) })
          (cases_lt i p.at))
          (cases_lt p.at i)
    ]

pub within_from_place : (u : List ℕ) (i c x : ℕ) → i < length u → get_or u i 0 ≡ x → IsInside c x →
    IsWithin (covers c) (has_leaf u)
within_from_place u i c x h e inside y v = leaf_to u x y (member_at u i x h e) (inside y v)

pub shared_at : (u : List ℕ) (i c : ℕ) → All IsCell u → IsCell c → i < length u →
    first_leaf c < first_leaf (get_or u i 0) + size_of (get_or u i 0) →
    first_leaf (get_or u i 0) < first_leaf c + size_of c → ShareSome (covers c) (has_leaf u)
shared_at u i c cells cc h a b =
    let sc = (cell_leaves c cc).some in
    let su = (cell_leaves (get_or u i 0) (cells i 0 h)).some in
    let x = max (first_leaf c) (first_leaf (get_or u i 0)) in
    (x, covers_there c x (omega arith) (omega arith), leaf_there u i x h (omega arith) (omega arith))

pub shared_none : (u : List ℕ) (i c : ℕ) → IsLocal u → FirstEndBy u i (first_leaf c) →
    (i < length u → first_leaf c + size_of c ≤ first_leaf (get_or u i 0)) → ShareSome (covers c) (has_leaf u) → ⊥
shared_none u i c local ended next (x, v, l) =
    let r = covers_from c x v in
    false≢true
    (sym (gap i (first_leaf c) (first_leaf c + size_of c) x (packed_from_local u local) ended next r.0 r.1) ∙ l)
