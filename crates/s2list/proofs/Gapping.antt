-- What the gap in which the number of a cell lies says about the leaves of a union.
use Rattle.std.proofs.Common.{◌≡◌, ℕ, ◌+◌, ◌-◌, ◌*◌, ◌/◌, ◌^◌, ◌<◌, ◌≤◌, ◌↔◌, ◌⊎◌, inl, inr, refl, arith}
use Rattle.std.proofs.Common.{IsTrue, ◌||◌, nat_lt, List, length, get_or, ap, false}
use Rattle.std.proofs.Math.Logic.{⊎_elim}
use Rattle.std.proofs.lemmas.Bool.{cases_lt, false≢true}
use Rattle.std.proofs.lemmas.Bool.Decides.{nat_tests}
use Rattle.s2cell.specs.Cell.{IsCell, covers, first_leaf, level_of, size_of}
use Rattle.s2cell.proofs.CellLemmas.{cell_leaves}
use Rattle.s2cell.proofs.Leaves.{contains_test, contains_test_back, covers_from, inside_from_within}
use Rattle.s2list.specs.Union.{IsLocal, IsWithin, ShareSome, has_leaf}
use Rattle.s2list.specs.Packed.{FirstEndBy, IsPacked}
use Rattle.s2list.specs.Search.{Brackets}
use Rattle.s2list.specs.Gaps.{IsGap}
use Rattle.s2list.specs.declared.gap.Gap.{Gap}
use Rattle.s2list.proofs.Checking.{packed_from_local}
use Rattle.s2list.proofs.Finding.{ascends, ends_later, shared_at, starts_later, within_from_place}
use Rattle.s2list.proofs.Galloping.{rises}
use Rattle.s2list.proofs.Normal.{all_held, family, holder}
use Rattle.s2list.proofs.PackedLocal.{place}
use Rattle.s2list.proofs.Walking.{leaf_at}

-- one of two tests
pub either_test : (a b c d : ℕ) → IsTrue (nat_lt a b || nat_lt c d) ↔ ((a < b) ⊎ (c < d))
either_test a b c d = (
  λ e. ⊎_elim
      (λ (h : a < b). inl h)
      (λ (h : b ≤ a). ⊎_elim
      (λ (g : c < d). inr g)
      (λ (g : d ≤ c).
      let first : nat_lt a b ≡ false = grind (arith, nat_tests) in
      let second : nat_lt c d ≡ false = grind (arith, nat_tests) in
      absurd (false≢true (rw (first, second) at e)))
      (cases_lt c d))
      (cases_lt a b),
  λ s. ⊎_elim (λ (h : a < b). grind (arith, nat_tests)) (λ (h : c < d). grind (arith, nat_tests)) s,
)

-- a number above the one before a gap and at most the one after it lies in it
pub lies_there : (u : List ℕ) (g : Gap) (x : ℕ) → IsGap u g → IsPacked u → g.below < x → x ≤ g.ahead →
    Brackets u x g.at g.at
lies_there u g x gap p above within = record {
  order = omega arith;
  within = gap.within;
  below = λ k h.
      let w = gap.within in
      let e = gap.below (omega arith) in
      let r = rises u k (g.at - 1) (ascends u p) (omega arith) (omega arith) in
      omega arith;
  rest = λ k h l.
      let e = gap.ahead (omega arith) in
      let r = rises u g.at k (ascends u p) h l in
      omega arith;
}

-- the cells before a gap end by the middle of a number that is above the gap
pub ended_before_gap : (u : List ℕ) (g : Gap) (x : ℕ) → IsGap u g → IsPacked u → g.ahead < x → x < 2 ^ 64 →
    FirstEndBy u g.at (x / 2)
ended_before_gap u g x gap p above small k h =
    ⊎_elim
    (λ (some : g.at < length u).
    let e = gap.ahead some in
    let c : first_leaf (get_or u k 0) + size_of (get_or u k 0) ≤ first_leaf (get_or u g.at 0) =
    p.chain k g.at 0 h some in
    let m = (cell_leaves (get_or u g.at 0) (p.cells g.at 0 some)).middle in
    omega arith)
    (λ (none : length u ≤ g.at). let e = gap.no_ahead none in absurd (omega arith))
    (cases_lt g.at (length u))

-- the union has all leaves of the cell if the cell before the gap or the one after it has
pub held_by_gap : (u : List ℕ) (g : Gap) (x : ℕ) → IsGap u g → IsLocal u → IsCell x → Brackets u x g.at g.at →
    ((x < g.held) ⊎ (g.next < x)) ↔ IsWithin (covers x) (has_leaf u)
held_by_gap u g x gap local own b =
    let p = packed_from_local u local in
    let w = gap.within in
    let bound = (cell_leaves x own).within in
    let middle = (cell_leaves x own).middle in (
      λ s. ⊎_elim
          (λ (h : x < g.held). ⊎_elim
          (λ (some : 0 < g.at).
          let y = get_or u (g.at - 1) 0 in
          let cell : IsCell y = p.cells (g.at - 1) 0 (omega arith) in
          let m = (cell_leaves y cell).middle in
          let e = gap.held some cell in
          let below = b.below (g.at - 1) (omega arith) in
          within_from_place u (g.at - 1) x y (omega arith) refl
          (inside_from_within x y (contains_test cell own (omega arith) (omega arith))))
          (λ (none : g.at ≤ 0). let e = gap.no_held (omega arith) in absurd (omega arith))
          (cases_lt 0 g.at))
          (λ (h : g.next < x). ⊎_elim
          (λ (some : g.at < length u).
          let y = get_or u g.at 0 in
          let cell : IsCell y = p.cells g.at 0 some in
          let m = (cell_leaves y cell).middle in
          let size = (cell_leaves y cell).some in
          let e = gap.next some cell in
          let above = b.rest g.at (omega arith) some in
          within_from_place u g.at x y some refl
          (inside_from_within x y (contains_test cell own (omega arith) (omega arith))))
          (λ (none : length u ≤ g.at). let e = gap.no_next none in absurd (omega arith))
          (cases_lt g.at (length u)))
          s,
      λ lies.
          let level = (cell_leaves x own).shallow in
          elim (all_held (30 - level_of x) u x local.cells own (omega arith) lies) [
            | family q cq lq all ↦ absurd (local.unmerged q cq lq all)
            | holder d m within ↦
                let t = place u d m in
                let e = t.is in
                let there = t.below in
                let first : first_leaf (get_or u t.at 0) ≡ first_leaf d = ap first_leaf e in
                let size : size_of (get_or u t.at 0) ≡ size_of d = ap size_of e in
                let test = contains_test_back own within in
                let low = test.0 in
                let high = test.1 in
                ⊎_elim
                (λ (before : t.at < g.at). inl (⊎_elim
                (λ (far : t.at < g.at - 1).
                let c : first_leaf (get_or u t.at 0) + size_of (get_or u t.at 0)
                ≤ first_leaf (get_or u (g.at - 1) 0) = p.chain t.at (g.at - 1) 0 far (omega arith) in
                let m = (cell_leaves (get_or u (g.at - 1) 0) (p.cells (g.at - 1) 0 (omega arith))).middle in
                let below = b.below (g.at - 1) (omega arith) in
                absurd (omega arith))
                (λ (near : g.at - 1 ≤ t.at).
                let same : g.at - 1 ≡ t.at = omega arith in
                let held = gap.held (omega arith) (p.cells (g.at - 1) 0 (omega arith)) in
                let held_at : g.held ≡ 2 * (first_leaf (get_or u t.at 0) + size_of (get_or u t.at 0)) =
                rw same at held in
                omega arith)
                (cases_lt t.at (g.at - 1))))
                (λ (after : g.at ≤ t.at). inr (⊎_elim
                (λ (far : g.at < t.at).
                let c : first_leaf (get_or u g.at 0) + size_of (get_or u g.at 0) ≤ first_leaf (get_or u t.at 0) =
                p.chain g.at t.at 0 far there in
                let m = (cell_leaves (get_or u g.at 0) (p.cells g.at 0 (omega arith))).middle in
                let above = b.rest g.at (omega arith) (omega arith) in
                absurd (omega arith))
                (λ (near : t.at ≤ g.at).
                let same : g.at ≡ t.at = omega arith in
                let next = gap.next (omega arith) (p.cells g.at 0 (omega arith)) in
                let next_at : g.next ≡ 2 * first_leaf (get_or u t.at 0) = rw same at next in
                omega arith)
                (cases_lt g.at t.at)))
                (cases_lt t.at g.at)
          ],
    )

-- and a leaf of it if the cell before the gap ends after its first leaf, or the one after begins before its last
pub met_by_gap : (u : List ℕ) (g : Gap) (x : ℕ) → IsGap u g → IsLocal u → IsCell x → Brackets u x g.at g.at →
    ((first_leaf x < g.held / 2) ⊎ (g.next / 2 < first_leaf x + size_of x)) ↔ ShareSome (covers x) (has_leaf u)
met_by_gap u g x gap local own b =
    let p = packed_from_local u local in
    let w = gap.within in
    let bound = (cell_leaves x own).within in
    let middle = (cell_leaves x own).middle in
    let size = (cell_leaves x own).some in (
      λ s. ⊎_elim
          (λ (h : first_leaf x < g.held / 2). ⊎_elim
          (λ (some : 0 < g.at).
          let cell : IsCell (get_or u (g.at - 1) 0) = p.cells (g.at - 1) 0 (omega arith) in
          let m = (cell_leaves (get_or u (g.at - 1) 0) cell).middle in
          let e = gap.held some cell in
          let below = b.below (g.at - 1) (omega arith) in
          shared_at u (g.at - 1) x local.cells own (omega arith) (omega arith) (omega arith))
          (λ (none : g.at ≤ 0). let e = gap.no_held (omega arith) in absurd (omega arith))
          (cases_lt 0 g.at))
          (λ (h : g.next / 2 < first_leaf x + size_of x). ⊎_elim
          (λ (some : g.at < length u).
          let cell : IsCell (get_or u g.at 0) = p.cells g.at 0 some in
          let m = (cell_leaves (get_or u g.at 0) cell).middle in
          let e = gap.next some cell in
          let above = b.rest g.at (omega arith) some in
          shared_at u g.at x local.cells own some (omega arith) (omega arith))
          (λ (none : length u ≤ g.at). let e = gap.no_next none in absurd (omega arith))
          (cases_lt g.at (length u)))
          s,
      λ (z, v, l).
          let r = covers_from x z v in
          let low = r.0 in
          let high = r.1 in
          let t = leaf_at u z l in
          let there = t.below in
          let t_low = t.low in
          let t_high = t.high in
          ⊎_elim
          (λ (before : t.at < g.at).
          let e = gap.held (omega arith) (p.cells (g.at - 1) 0 (omega arith)) in
          let later = ends_later u t.at (g.at - 1) p (omega arith) (omega arith) in
          inl (omega arith))
          (λ (after : g.at ≤ t.at).
          let e = gap.next (omega arith) (p.cells g.at 0 (omega arith)) in
          let later = starts_later u g.at t.at p after there in
          inr (omega arith))
          (cases_lt t.at g.at),
    )
