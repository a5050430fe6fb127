-- A cell that is added, and the cells that it completes with its siblings in a list.
use Rattle.std.proofs.Common.{◌≡◌, ℕ, ◌+◌, ◌-◌, ◌*◌, ◌/◌, ◌<◌, ◌≤◌, true, List, length, get_or}
use Rattle.std.proofs.Common.{refl, sym, ap, ◌∙◌, subst, inl, inr, ◌⊎◌, arith}
use Rattle.std.proofs.Math.Logic.{⊎_elim}
use Rattle.std.proofs.Math.Nat.{mul-le-mul_right}
use Rattle.std.proofs.lemmas.Bool.{cases_lt, cases_order}
use Rattle.std.proofs.lemmas.Grind.{common_steps, get_or_default_zero}
use Rattle.s2cell.specs.Cell.{IsCell, level_of, first_leaf, size_of, covers, child_of, IsInside}
use Rattle.s2cell.proofs.CellLemmas.{cell_leaves}
use Rattle.s2cell.proofs.Calls.{IsCell-child_of, child_leaves, shallow, IsCell-parent_of}
use Rattle.s2cell.proofs.Family.{level_of_child, parent_level, parent_around}
use Rattle.s2cell.proofs.Leaves.{inside_from_within}
use Rattle.s2list.specs.Packed.{IsPlace, IsPacked, FirstEndBy, EndsAfter}
use Rattle.s2list.specs.Union.{has_leaf, IsLocal}
use Rattle.s2list.proofs.Checking.{packed_from_local}
use Rattle.s2list.proofs.Normal.{leaf_to, same_level_same, child_of_leaf}
use Rattle.s2list.proofs.PackedLocal.{place}
use Rattle.s2union.specs.Apply.{has}
use Rattle.s2edit.specs.declared.splice.Run.{Run}
use Rattle.s2edit.specs.Working.Splice.{IsRun, Siblings, Completes, above, child_start}
use Rattle.s2edit.proofs.PartLemmas.{has_member, member_had, leaf_there}
use Rattle.s2edit.proofs.Watching.{place_is}

-- ---- the children of a cell, by where they begin

module _ (p k : ℕ) (g : IsCell p) (d : level_of p < 30) (l : k < 4) where
  quarter : size_of (child_of p k) ≡ size_of p / 4
  quarter = let s = (child_leaves p k g d l).size in omega (arith, s)

  pub child_begins : first_leaf (child_of p k) ≡ child_start p k
  child_begins =
      let f = (child_leaves p k g d l).first in
      let m : k * size_of (child_of p k) ≡ k * (size_of p / 4) = ap (λ (s : ℕ). k * s) quarter in
      omega (arith, f, m)

  pub child_ends : first_leaf (child_of p k) + size_of (child_of p k) ≡ child_start p (k + 1)
  child_ends = omega (arith, child_begins, quarter)

pub all_begin : (p : ℕ) → child_start p 0 ≡ first_leaf p
all_begin p = omega arith

pub all_end : (p : ℕ) → IsCell p → level_of p < 30 → child_start p 4 ≡ first_leaf p + size_of p
all_end p g d = let s = (child_leaves p 0 g d (omega arith)).size in omega (arith, s)

-- ---- the children beside each other in a list

module _ (u : List ℕ) (p k at : ℕ) (local : IsLocal u) (g : IsCell p) (d : level_of p < 30) (l : k < 4) where
  -- the child before a place
  pub one_down : IsPlace u (child_start p (k + 1)) (at + 1) → get_or u at 0 ≡ child_of p k →
      IsPlace u (child_start p k) at
  one_down q e =
      let there : at < length u = omega (arith, q.within) in
      let f : first_leaf (get_or u at 0) ≡ child_start p k = ap first_leaf e ∙ child_begins p k g d l in
      record {
        within = omega (arith, there);
        ended = λ j m. let c = (packed_from_local u local).chain j at 0 m there in omega (arith, c, f);
        next = λ m. let some = (cell_leaves (get_or u at 0) (local.cells at 0 there)).some in omega (arith, some, f);
      }

  pub is_before : IsPlace u (child_start p (k + 1)) at → has u (child_of p k) ≡ true →
      (0 < at) × (get_or u (at - 1) 0 ≡ child_of p k)
  is_before q h =
      let here = place u (child_of p k) (member_had u (child_of p k) h) in
      let ends : first_leaf (get_or u here.at 0) + size_of (get_or u here.at 0) ≡ child_start p (k + 1) =
      ap (λ (c : ℕ). first_leaf c + size_of c) here.is ∙ child_ends p k g d l in
      let chain = (packed_from_local u local).chain in
      ⊎_elim
      (λ (a : here.at < at). ⊎_elim
      (λ (b : here.at < at - 1).
      let low : at - 1 < length u = omega (arith, b, q.within) in
      let c = chain here.at (at - 1) 0 b low in
      let z = q.ended (at - 1) (omega (arith, b)) in
      let some = (cell_leaves (get_or u (at - 1) 0) (local.cells (at - 1) 0 low)).some in
      absurd (omega (arith, c, z, some, ends)))
      (λ (b : at - 1 ≤ here.at).
      let e : at - 1 ≡ here.at = omega (arith, a, b) in
      (omega (arith, a), ap (λ (j : ℕ). get_or u j 0) e ∙ here.is))
      (cases_lt here.at (at - 1)))
      (λ (a : at ≤ here.at).
      let n = q.next (omega (arith, a, here.below)) in
      absurd (⊎_elim
      (λ (b : at < here.at).
      let c = chain at here.at 0 b here.below in
      let some = (cell_leaves (get_or u here.at 0) (local.cells here.at 0 here.below)).some in
      omega (arith, c, n, some, ends))
      (λ (b : here.at ≤ at).
      let e : at ≡ here.at = omega (arith, a, b) in
      omega (arith, n, ends, ap (λ (j : ℕ). first_leaf (get_or u j 0) + size_of (get_or u j 0)) e))
      (cases_lt at here.at)))
      (cases_lt here.at at)

  -- the child at a place
  pub one_up : IsPlace u (child_start p k) at → at < length u → get_or u at 0 ≡ child_of p k →
      IsPlace u (child_start p (k + 1)) (at + 1)
  one_up q there e =
      let ends : first_leaf (get_or u at 0) + size_of (get_or u at 0) ≡ child_start p (k + 1) =
      ap (λ (c : ℕ). first_leaf c + size_of c) e ∙ child_ends p k g d l in
      let chain = (packed_from_local u local).chain in
      record {
        within = omega (arith, there);
        ended = λ j m. ⊎_elim
            (λ (b : j < at).
            let c = chain j at 0 b there in
            omega (arith, c, ends))
            (λ (b : at ≤ j).
            let f : j ≡ at = omega (arith, m, b) in
            omega (arith, ends, ap (λ (i : ℕ). first_leaf (get_or u i 0) + size_of (get_or u i 0)) f))
            (cases_lt j at);
        next = λ m.
            let c = chain at (at + 1) 0 (omega arith) m in
            let some = (cell_leaves (get_or u (at + 1) 0) (local.cells (at + 1) 0 m)).some in
            omega (arith, c, some, ends);
      }

  pub is_next : IsPlace u (child_start p k) at → has u (child_of p k) ≡ true →
      (at < length u) × (get_or u at 0 ≡ child_of p k)
  is_next q h = place_is u (child_of p k) (first_leaf (child_of p k)) at local
      (subst (λ (x : ℕ). IsPlace u x at) (sym (child_begins p k g d l)) q) h
      (leaf_there (child_of p k) (IsCell-child_of p k (child_of p k) g d l refl))

-- what is at an index of a list is in it
pub at_had : (u : List ℕ) (at c : ℕ) → at < length u → get_or u at 0 ≡ c → has u c ≡ true
at_had u at c l e = has_member u c (at, l, get_or_default_zero u at c l ∙ e)

-- ---- the parent of a run's cell

module _ (c : ℕ) (g : IsCell c) (deep : 0 < level_of c) where
  level_up : level_of c - 1 ≤ level_of c
  level_up = omega arith

  pub above_cell : IsCell (above c)
  above_cell = IsCell-parent_of c (level_of c - 1) (above c) g level_up refl

  pub above_level : level_of (above c) ≡ level_of c - 1
  above_level = parent_level c (level_of c - 1) g level_up

  pub above_shallow : level_of (above c) < 30
  above_shallow = omega (arith, above_level, shallow c g, deep)

  pub above_holds : IsInside c (above c)
  above_holds = inside_from_within c (above c) (parent_around c (level_of c - 1) g level_up)

  -- the cell is a child of its parent
  pub own_child : (i : ℕ) × (i < 4) × (child_of (above c) i ≡ c)
  own_child =
      let v = leaf_there c g in
      let (i, l, w) = child_of_leaf (first_leaf c) above_cell above_shallow (above_holds (first_leaf c) v) in
      let k = IsCell-child_of (above c) i (child_of (above c) i) above_cell above_shallow l refl in (
        i,
        l,
        same_level_same (first_leaf c) k g
            (omega (arith, level_of_child (above c) i above_cell above_shallow l, above_level, deep)) w v,
      )

  -- its leaves are those of the cell and of its siblings
  pub completes_up : (u : List ℕ) (a : ℕ) → Siblings u c → Completes u a c → Completes u a (above c)
  completes_up u a s done = record {
    holds = λ x v. above_holds x (done.holds x v);
    leaves = λ x v.
        let (i, l, w) = child_of_leaf x above_cell above_shallow v in
        ⊎_elim
        (λ (e : child_of (above c) i ≡ c). done.leaves x (subst (λ (k : ℕ). covers k x ≡ true) e w))
        (λ (h : has u (child_of (above c) i) ≡ true).
        let t : has_leaf u x ≡ true = leaf_to u (child_of (above c) i) x (member_had u (child_of (above c) i) h) w in
        grind (arith, common_steps, t))
        (s.all i l);
  }

pub completes_own : (u : List ℕ) (c : ℕ) → Completes u c c
completes_own u c = record { holds = λ x v. v; leaves = λ x v. grind (arith, common_steps, v) }

-- the run in the parent
pub run_up : (u : List ℕ) (r s : Run) → IsRun u r → 0 < level_of r.cell → s.cell ≡ above r.cell →
    IsPlace u (first_leaf (above r.cell)) s.from → IsPlace u (first_leaf (above r.cell) + size_of (above r.cell)) s.to →
    IsRun u s
run_up u r s run deep e first last = record {
  is_cell = subst IsCell (sym e) (above_cell r.cell run.is_cell deep);
  first = subst (λ (k : ℕ). IsPlace u (first_leaf k) s.from) (sym e) first;
  last = subst (λ (k : ℕ). IsPlace u (first_leaf k + size_of k) s.to) (sym e) last;
  unheld = λ d h w. run.unheld d h (λ x v. w x (subst (λ (k : ℕ). covers k x ≡ true) (sym e)
      (above_holds r.cell run.is_cell deep x v)));
}

-- where the cells of the list in a cell end that none of them holds
pub run_found : (u : List ℕ) (c from to lo : ℕ) → IsLocal u → IsCell c → lo ≡ first_leaf c + size_of c →
    IsPlace u (first_leaf c) from → to ≤ length u → (IsPacked u → FirstEndBy u from lo → FirstEndBy u to lo) →
    (IsPacked u → FirstEndBy u from lo → EndsAfter u to lo) →
    ((from < length u) × IsInside c (get_or u from 0) → ⊥) → IsRun u (record { cell = c; from = from; to = to })
run_found u c from to lo local g e first within ended next unheld =
    let some = (cell_leaves c g).some in
    let packed = packed_from_local u local in
    let before : FirstEndBy u from lo = λ j l. let b = first.ended j l in omega (arith, b, e, some) in
    record {
      is_cell = g;
      first = first;
      last = subst (λ (x : ℕ). IsPlace u x to) e (record {
        within = within;
        ended = ended packed before;
        next = next packed before;
      });
      unheld = λ d h i.
          let p = place_is u d (first_leaf c) from local first h (i (first_leaf c) (leaf_there c g)) in
          unheld (p.0, subst (λ (k : ℕ). IsInside c k) (sym p.1) i);
    }

-- the siblings of a cell, from those before it and those after it
pub siblings_from : (u : List ℕ) (c p i : ℕ) → 0 < level_of c → p ≡ above c → child_of p i ≡ c →
    ((j : ℕ) → j < i → has u (child_of p j) ≡ true) → ((j : ℕ) → i < j → j < 4 → has u (child_of p j) ≡ true) →
    Siblings u c
siblings_from u c p i deep e own low high = record {
  deep = deep;
  all = subst (λ (q : ℕ). (j : ℕ) → j < 4 → (child_of q j ≡ c) ⊎ (has u (child_of q j) ≡ true)) e
      (λ j l. ⊎_elim
      (λ (m : j < i). inr (low j m))
      (λ (m : i ≤ j). ⊎_elim
      (λ (n : i < j). inr (high j n l))
      (λ (n : j ≤ i). let f : i ≡ j = omega (arith, m, n) in inl (sym (ap (child_of p) f) ∙ own))
      (cases_lt i j))
      (cases_lt j i));
}

-- of four children with one name, two are one
pub other_child : (p i j : ℕ) → IsCell p → level_of p < 30 → i < 4 → j < 4 → child_of p i ≡ child_of p j → i ≡ j
other_child p i j g d l m e =
    let a = child_begins p i g d l in
    let b = child_begins p j g d m in
    let s = quarter p i g d l in
    let some = (cell_leaves (child_of p i) (IsCell-child_of p i (child_of p i) g d l refl)).some in
    let q = size_of p / 4 in
    ⊎_elim (λ (k : i ≡ j). k) (⊎_elim
    (λ (k : i < j).
    let more : (i + 1) * q ≤ j * q = mul-le-mul_right q (omega (arith, k)) in
    absurd (omega (arith, a, b, ap first_leaf e, s, some, more)))
    (λ (k : j < i).
    let more : (j + 1) * q ≤ i * q = mul-le-mul_right q (omega (arith, k)) in
    absurd (omega (arith, a, b, ap first_leaf e, s, some, more))))
    (cases_order i j)

-- a sibling is in the list if all siblings are
pub sibling_had : (u : List ℕ) (c p i j : ℕ) → IsCell c → Siblings u c → p ≡ above c → i < 4 → child_of p i ≡ c →
    j < 4 → (i ≡ j → ⊥) → has u (child_of p j) ≡ true
sibling_had u c p i j g s e l own m other =
    let k : IsCell p = subst IsCell (sym e) (above_cell c g s.deep) in
    let d : level_of p < 30 = omega (arith, ap level_of e, above_shallow c g s.deep) in
    ⊎_elim
    (λ (f : child_of (above c) j ≡ c). absurd (other (other_child p i j k d l m
    (own ∙ sym (ap (λ (q : ℕ). child_of q j) e ∙ f)))))
    (λ (h : has u (child_of (above c) j) ≡ true). subst (λ (q : ℕ). has u (child_of q j) ≡ true) (sym e) h)
    (s.all j m)
