-- Regions that know of each cell how it lies, and how near coverings of them come.
use Rattle.std.proofs.Common.{◌≡◌, ℕ, ◌+◌, ◌*◌, ◌^◌, ◌<◌, ◌≤◌, ◌⊎◌, inl, inr, ⊎_elim, Bool, true, false, List, []}
use Rattle.std.proofs.Common.{◌∷◌, ◌++◌, All, AllPairs, Contains, map, length, refl, sym, ◌∙◌, ap, arith, subst}
use Rattle.std.proofs.Common.{append-nil}
use Rattle.std.specs.List.{sum_by}
use Rattle.std.proofs.lemmas.Bool.{both_ways, true_from_ne_false}
use Rattle.std.proofs.lemmas.List.Elements.{All-contains, All-head, All-map, All-tail, All-weaker}
use Rattle.std.proofs.lemmas.List.Sums.{sum_by-cons}
use Rattle.s2cell.proofs.CellLemmas.{cell_leaves}
use Rattle.s2cell.proofs.Family.{deeper_inside}
use Rattle.s2cell.proofs.Leaves.{covers_from, inside_from_within}
use Rattle.s2cell.proofs.Squares.{first_leaf_covered}
use Rattle.s2cell.specs.Cell.{IsCell, IsInside, covers, first_leaf, level_of, place_of}
use Rattle.s2cell.specs.declared.TheConstants.{LEAVES}
use Rattle.s2list.specs.Union.{LiesIn, ShareNone, ShareSome, has_leaf}
use Rattle.s2cover.proofs.Coverings.{inner_in, inner_of, touched_some}
use Rattle.s2cover.proofs.Runs.{touched_none}
use Rattle.s2cover.proofs.Splittings.{cells_of_form}
use Rattle.s2cover.proofs.Visits.{covers_at, leaf_at}
use Rattle.s2cover.specs.Coverings.{EachShares, LiesOutside, inner_set, touched}
use Rattle.s2cover.specs.Near.{Crosses, IsLargest, IsMuchAbove, IsNearInner, IsNearOuter, IsOver, TakeMore}
use Rattle.s2cover.specs.Near.{looked_into, work_allowed}
use Rattle.s2cover.specs.Rough.{AreCrossing, ComesNearInner, ComesNearOuter, EachLeaf, IsCrossing, IsLeft}
use Rattle.s2cover.specs.Rough.{IsMuchCrossing, IsSplit, TakeMoreWork, Worked}
use Rattle.s2cover.specs.Working.Descent.{depth_of}

-- a cell that doesn't lie outside shares a leaf
some_leaf : (S : ℕ → Bool) (c : ℕ) → (LiesOutside S c → ⊥) → ShareSome (covers c) S
some_leaf S c h =
    let lo = place_of c * 4 ^ depth_of c in
    let n = 4 ^ depth_of c in
    let t : touched S lo n ≡ true = true_from_ne_false (touched S lo n)
    (λ f. h (λ x w. let l = leaf_at c x w in touched_none S lo n f x l.0 l.1)) in
    let w = touched_some S lo n t in
    (w.leaf, covers_at c w.leaf w.after w.before, w.holds)

-- a cell that lies neither outside nor inside
pub crosses_from : (o i o2 i2 : ℕ → Bool) (c d : ℕ) → IsCell c → c ≡ d → o2 ≡ o → i2 ≡ i → (LiesOutside o2 d → ⊥) →
    (LiesIn i2 d → ⊥) → Crosses o i d
crosses_from o i o2 i2 c d ic e eo ei h n =
    let shares = some_leaf o2 d h in
    record {
      cell = subst IsCell e ic;
      shares = subst (ShareSome (covers d)) eo shares;
      crosses = λ l. n (subst (λ S. LiesIn S d) (sym ei) l);
    }

-- a cell with a leaf of the inner cells of a level above lies inside
block_inside : (i : ℕ → Bool) {k : ℕ} (c x : ℕ) → inner_set i k x ≡ true → IsCell c → level_of c ≡ k →
    covers c x ≡ true → LiesIn i c
block_inside i {k} c x t ic lv v =
    let deep = (cell_leaves c ic).shallow in
    let r = inner_in i k x (omega arith) t in
    let a = covers_from c x v in
    let b = covers_from r.0 x r.3 in
    let l = r.2 in
    let w = deeper_inside c r.0 x ic r.1 (omega arith) a.0 a.1 b.0 b.1 in
    λ y z. r.4 y (inside_from_within c r.0 w y z)

sum_worked : (w : ℕ → ℕ) (u : List Worked) → All (λ (c : Worked). c.work ≡ w c.cell) u →
    sum_by w (map (λ c. c.cell) u) ≡ sum_by (λ c. c.work) u
sum_worked w [] all = refl
sum_worked w (c ∷ u) all =
    let a = sum_by-cons w c.cell (map (λ c. c.cell) u) in
    let b = sum_by-cons (λ c. c.work) c u in
    let d = All-head (λ c. c.work ≡ w c.cell) c u all in
    let e = sum_worked w u (All-tail (λ c. c.work ≡ w c.cell) c u all) in
    omega arith

module _ (o i : ℕ → Bool) (w : ℕ → ℕ) where
  abbrev pub Out : ℕ → Type 0
  Out x = (o x ≡ false) × (i x ≡ false)

  abbrev pub In : ℕ → Type 0
  In x = (o x ≡ true) × (i x ≡ true)

  abbrev pub Cross : ℕ → ℕ → Type 0
  Cross c n = Crosses o i c × (n ≡ w c)

  crossing_of : {c : ℕ} → IsCrossing Cross c → Crosses o i c
  crossing_of (ic, n, (x, e)) = x

  largest_of : (c : ℕ) → AreCrossing Cross c → IsLargest i c
  largest_of c around d idd l into lies = (crossing_of (around d idd l into)).crosses lies

  not_out : {c : ℕ} → Crosses o i c → EachLeaf Out c → ⊥
  not_out x out = let s = x.shares in both_ways (o s.0) (out s.0 s.1).0 s.2

  gone_none : (gone : List ℕ) → All (λ c. IsCrossing Cross c × EachLeaf Out c) gone → gone ≡ []
  gone_none [] all = refl
  gone_none (c ∷ gone) all = absurd (by (All-head (λ c. IsCrossing Cross c × EachLeaf Out c) c gone all))
    where
      by : IsCrossing Cross c × EachLeaf Out c → ⊥
      by (own, out) = not_out (crossing_of own) out

  shares_of : (c : ℕ) → IsCell c × (EachLeaf In c ⊎ IsCrossing Cross c) → ShareSome (covers c) o
  shares_of c (ic, inl lies) =
      (first_leaf c, first_leaf_covered c ic, (lies (first_leaf c) (first_leaf_covered c ic)).0)
  shares_of c (ic, inr own) = (crossing_of own).shares

  more_of : {n : ℕ} (P : ℕ → ℕ → Type 0) (Q : ℕ → Type 0) → ((c m : ℕ) → IsCell c → P c m → Q c × (m ≡ w c)) →
      TakeMoreWork P n → TakeMore Q w n
  more_of {n} P Q to t =
      let both : All (λ c. Q c.cell × (c.work ≡ w c.cell)) t.cells = All-weaker (λ c. IsCell c.cell × P c.cell c.work)
      (λ c. Q c.cell × (c.work ≡ w c.cell)) (λ c y. to c.cell c.work y.0 y.1) t.cells t.are in
      let same = sum_worked w t.cells (All-weaker (λ c. Q c.cell × (c.work ≡ w c.cell)) (λ c. c.work ≡ w c.cell)
      (λ c y. y.1) t.cells both) in
      let more = t.more in
      record {
        cells = map (λ c. c.cell) t.cells;
        once = t.once;
        are = All-map Q (λ c. c.cell) t.cells
            (All-weaker (λ c. Q c.cell × (c.work ≡ w c.cell)) (λ c. Q c.cell) (λ c y. y.0) t.cells both);
        more = omega arith;
      }

  over_of : (v : List ℕ) (c m : ℕ) → IsCell c → Cross c m × IsSplit Out v c → IsOver v c × (m ≡ w c)
  over_of v c m ic ((x, e), split) =
      let s = x.shares in
      ⊎_elim
      (λ (out : Out s.0). absurd (both_ways (o s.0) out.0 s.2))
      (λ (y : (d : ℕ) × Contains v d × (covers d s.0 ≡ true) × IsInside d c). ((ic, y.0, y.1, y.3), e))
      (split s.0 s.1)

  pub exact_outer : {size deepest most : ℕ} (u : List ℕ) → ComesNearOuter Out In Cross size deepest most u →
      IsNearOuter o i w size deepest most u
  exact_outer {size} {deepest} {most} u f =
      let none = gone_none f.gone f.gone_are in
      let len = ap length none in
      record {
        cells = f.cells;
        made = record {
          leaves = f.leaves;
          apart = subst (AllPairs ShareNone) (ap (λ v. f.cells ++ v) none ∙ append-nil f.cells) f.apart;
          largest = All-weaker (AreCrossing Cross) (IsLargest i) largest_of f.cells f.around;
        };
        shares = All-weaker (λ c. IsCell c × (EachLeaf In c ⊎ IsCrossing Cross c)) (λ c. ShareSome (covers c) o)
            shares_of f.cells f.are;
        near = ⊎_elim
            (λ (y : All (λ c. (level_of c ≡ deepest) ⊎ EachLeaf In c) f.cells). inl (All-weaker
            (λ c. (level_of c ≡ deepest) ⊎ EachLeaf In c) (λ c. (level_of c ≡ deepest) ⊎ LiesIn i c)
            (λ c. ⊎_elim inl (λ (z : EachLeaf In c). inr (λ x v. (z x v).1))) f.cells y))
            (λ (y : (most ≤ (length f.cells + length f.gone) + 2)
            ⊎ TakeMoreWork (λ c n. Cross c n × IsSplit Out f.cells c) (work_allowed size most)). inr (⊎_elim
            (λ (z : most ≤ (length f.cells + length f.gone) + 2). inl (omega arith))
            (λ (z : TakeMoreWork (λ c n. Cross c n × IsSplit Out f.cells c) (work_allowed size most)).
            inr (more_of (λ c n. Cross c n × IsSplit Out f.cells c) (IsOver f.cells) (over_of f.cells) z)) y)) f.near;
      }

  pub exact_shares : {size deepest most : ℕ} (u : List ℕ) → ComesNearOuter Out In Cross size deepest most u →
      EachShares o u
  exact_shares u f =
      let Is = λ (c : ℕ). IsCell c × (EachLeaf In c ⊎ IsCrossing Cross c) in
      cells_of_form (λ c. ShareSome (covers c) o) u f.cells (All-weaker Is IsCell (λ c y. y.0) f.cells f.are) f.normal
      (λ c part.
      let s = shares_of part.part (All-contains Is f.cells part.part f.are part.member) in
      (s.0, inside_from_within part.part c part.within s.0 s.1, s.2))

  above_of : (k c m : ℕ) → IsCell c → Cross c m × (level_of c < k) → (Crosses o i c × (level_of c < k)) × (m ≡ w c)
  above_of k c m ic ((x, e), l) = ((x, l), e)

  much_of : {many allowed k : ℕ} → IsMuchCrossing Cross many allowed k → IsMuchAbove o i w many allowed k
  much_of {many} {allowed} {k} (inl (j, l, t)) = inl (
    j,
    l,
    record {
      cells = t.cells;
      once = t.once;
      are = All-weaker (λ c. IsCrossing Cross c × (level_of c ≡ j)) (λ c. Crosses o i c × (level_of c ≡ j))
          (at_level j) t.cells t.are;
      more = t.more;
    },
  )
    where
      at_level : (j c : ℕ) → IsCrossing Cross c × (level_of c ≡ j) → Crosses o i c × (level_of c ≡ j)
      at_level j c (own, lv) = (crossing_of own, lv)
  much_of {many} {allowed} {k} (inr t) =
      inr (more_of (λ c n. Cross c n × (level_of c < k)) (λ c. Crosses o i c × (level_of c < k)) (above_of k) t)

  not_left : (k x : ℕ) → inner_set i k x ≡ true → IsLeft Out Cross k x → ⊥
  not_left k x t (inl out) = both_ways (i x) out.1 (inner_of i k x t)
  not_left k x t (inr (c, lv, v, own)) = (crossing_of own).crosses (block_inside i c x t (crossing_of own).cell lv v)

  pub exact_inner : {size deepest most : ℕ} (u : List ℕ) → ComesNearInner Out Cross size deepest most u →
      IsNearInner o i w size deepest most u
  exact_inner {size} {deepest} {most} u f = record {
    cells = f.cells;
    made = record {
      leaves = f.leaves;
      apart = f.apart;
      largest = All-weaker (AreCrossing Cross) (IsLargest i) largest_of f.cells f.around;
    };
    near = ⊎_elim inl
        (λ (h : (k : ℕ) → k ≤ deepest →
        ((x : ℕ) → x < LEAVES → (has_leaf u x ≡ true) ⊎ IsLeft Out Cross k x)
        ⊎ IsMuchCrossing Cross (looked_into most) (work_allowed size most) k). inr (λ k l. ⊎_elim
        (λ (y : (x : ℕ) → x < LEAVES → (has_leaf u x ≡ true) ⊎ IsLeft Out Cross k x). inl (λ x b t. ⊎_elim
        (λ (z : has_leaf u x ≡ true). z) (λ (z : IsLeft Out Cross k x). absurd (not_left k x t z)) (y x b)))
        (λ (y : IsMuchCrossing Cross (looked_into most) (work_allowed size most) k). inr (much_of y)) (h k l))) f.near;
  }
