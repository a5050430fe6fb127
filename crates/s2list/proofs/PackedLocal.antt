-- A packed list is local.
use Rattle.std.proofs.Common.{◌≡◌, ℕ, ◌+◌, ◌*◌, ◌<◌, ◌≤◌, sym, ◌∙◌, ap, arith, List, length, get_or, Contains}
use Rattle.std.proofs.Math.Logic.{⊎_elim}
use Rattle.std.proofs.lemmas.Bool.{cases_lt, cases_order}
use Rattle.std.proofs.lemmas.Option.{gets}
use Rattle.s2cell.specs.Cell.{IsCell, level_of, size_of, first_leaf, child_of}
use Rattle.s2cell.proofs.CellLemmas.{cell_leaves}
use Rattle.s2cell.proofs.Calls.{child_leaves}
use Rattle.s2cell.proofs.Leaves.{covers_from}
use Rattle.s2list.specs.Union.{IsLocal}
use Rattle.s2list.specs.Packed.{IsPacked}

-- a member by its place
pub record Place (u : List ℕ) (c : ℕ) : Type 0 where
  pub at : ℕ
  pub below : at < length u
  pub is : get_or u at 0 ≡ c

pub place : (u : List ℕ) (c : ℕ) → Contains u c → Place u c
place u c (k, l, e) = record { at = k; below = l; is = grind (arith, gets) }

-- where b begins at a's end, b stands next to a
next_place : {u : List ℕ} (i j a b : ℕ) → IsPacked u → i < length u →
    j < length u → get_or u i 0 ≡ a → get_or u j 0 ≡ b → first_leaf b ≡ first_leaf a + size_of a → j ≡ i + 1
next_place {u} i j a b p li lj ei ej e =
    let sa : 0 < size_of (get_or u i 0) = (cell_leaves (get_or u i 0) (p.cells i 0 li)).some in
    let sb : 0 < size_of (get_or u j 0) = (cell_leaves (get_or u j 0) (p.cells j 0 lj)).some in
    let fa : first_leaf (get_or u i 0) ≡ first_leaf a = ap first_leaf ei in
    let fb : first_leaf (get_or u j 0) ≡ first_leaf b = ap first_leaf ej in
    let ta : size_of (get_or u i 0) ≡ size_of a = ap size_of ei in
    let tb : size_of (get_or u j 0) ≡ size_of b = ap size_of ej in
    ⊎_elim
    (λ (h : i ≡ j). let same : first_leaf
    (get_or u i 0) ≡ first_leaf (get_or u j 0) = ap (λ k. first_leaf (get_or u k 0)) h in absurd (omega arith)) (⊎_elim
    (λ (h : i < j). ⊎_elim
    (λ (m : i + 1 < j).
    let x : first_leaf (get_or u i 0) + size_of (get_or u i 0) ≤ first_leaf (get_or u (i + 1) 0) =
    p.chain i (i + 1) 0 (omega arith) (omega arith) in
    let y : first_leaf (get_or u (i + 1) 0) + size_of (get_or u (i + 1) 0) ≤ first_leaf (get_or u j 0) =
    p.chain (i + 1) j 0 m lj in
    let sm : 0 < size_of (get_or u (i + 1) 0) =
    (cell_leaves (get_or u (i + 1) 0) (p.cells (i + 1) 0 (omega arith))).some in
    absurd (omega arith))
    (λ (m : j ≤ i + 1). omega arith)
    (cases_lt (i + 1) j))
    (λ (h : j < i).
    let x : first_leaf (get_or u j 0) + size_of (get_or u j 0) ≤ first_leaf (get_or u i 0) = p.chain j i 0 h li in
    absurd (omega arith)))
    (cases_order i j)

children_next : {p : ℕ} (i : ℕ) → IsCell p →
    level_of p < 30 → i + 1 < 4 → first_leaf (child_of p (i + 1)) ≡ first_leaf (child_of p i) + size_of (child_of p i)
children_next {p} i c h q =
    let a = child_leaves p i c h (omega arith) in
    let b = child_leaves p (i + 1) c h q in
    let sa = a.size in
    let sb = b.size in
    let fa = a.first in
    let fb = b.first in
    let same : size_of (child_of p (i + 1)) ≡ size_of (child_of p i) = omega arith in
    let fc : first_leaf (child_of p (i + 1)) ≡ first_leaf p + (i + 1) * size_of (child_of p i) = fb
    ∙ ap (λ s. first_leaf p + (i + 1) * s) same in
    omega arith

packed_unmerged : {u : List ℕ} →
    IsPacked u → (p : ℕ) → IsCell p → level_of p < 30 → ((i : ℕ) → i < 4 → Contains u (child_of p i)) → ⊥
packed_unmerged {u} k p c h all =
    let a = place u (child_of p 0) (all 0 (omega arith)) in
    let b = place u (child_of p 1) (all 1 (omega arith)) in
    let d = place u (child_of p 2) (all 2 (omega arith)) in
    let e = place u (child_of p 3) (all 3 (omega arith)) in
    let n0 : b.at ≡ a.at + 1 = next_place
    a.at b.at (child_of p 0) (child_of p 1) k a.below b.below a.is b.is (children_next 0 c h (omega arith)) in
    let n1 : d.at ≡ b.at + 1 = next_place
    b.at d.at (child_of p 1) (child_of p 2) k b.below d.below b.is d.is (children_next 1 c h (omega arith)) in
    let n2 : e.at ≡ d.at + 1 = next_place
    d.at e.at (child_of p 2) (child_of p 3) k d.below e.below d.is e.is (children_next 2 c h (omega arith)) in
    let m1 : d.at ≡ a.at + 2 = omega arith in
    let m2 : e.at ≡ a.at + 3 = omega arith in
    let le : e.at < length u = e.below in
    k.unmerged a.at p (omega arith) (record {
      cell = c;
      inner = h;
      zero = a.is;
      one = ap (λ i. get_or u i 0) (sym n0) ∙ b.is;
      two = ap (λ i. get_or u i 0) (sym m1) ∙ d.is;
      three = ap (λ i. get_or u i 0) (sym m2) ∙ e.is;
    })

pub local_from_packed : (u : List ℕ) → IsPacked u → IsLocal u
local_from_packed u p = record {
  cells = p.cells;
  ascending = λ k h.
      let x : first_leaf (get_or u k 0) + size_of (get_or u k 0) ≤ first_leaf (get_or u (k + 1) 0) =
      p.chain k (k + 1) 0 (omega arith) h in
      let a = cell_leaves (get_or u k 0) (p.cells k 0 (omega arith)) in
      let b = cell_leaves (get_or u (k + 1) 0) (p.cells (k + 1) 0 h) in
      let am = a.middle in
      let bm = b.middle in
      let s = a.some in
      omega arith;
  apart = λ i j d h l x ca cb.
      let r = covers_from (get_or u i d) x ca in
      let s = covers_from (get_or u j d) x cb in
      let c : first_leaf (get_or u i d) + size_of (get_or u i d) ≤ first_leaf (get_or u j d) = p.chain i j d h l in
      let r1 = r.1 in
      let s0 = s.0 in
      absurd (omega arith);
  unmerged = packed_unmerged p;
}
