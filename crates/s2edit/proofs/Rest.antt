-- The leaves of a cell without one inside it: two gaps, each filled with the largest cells that fit.
use Rattle.std.proofs.Common.{◌≡◌, ℕ, Bool, ◌+◌, ◌-◌, ◌^◌, ◌<◌, ◌≤◌, true, false, not, ◌||◌, ◌&&◌, List, [], ◌∷◌}
use Rattle.std.proofs.Common.{refl, sym, ap, ◌∙◌, subst, arith}
use Rattle.std.proofs.Math.Logic.{⊎_elim}
use Rattle.std.proofs.Math.Bool.{or-false}
use Rattle.std.proofs.lemmas.Bool.{cases_lt, false≢true}
use Rattle.std.proofs.lemmas.Bool.Decides.{nat_tests}
use Rattle.s2cell.specs.Cell.{IsCell, first_leaf, size_of, covers, IsInside}
use Rattle.s2cell.proofs.CellLemmas.{cell_leaves}
use Rattle.s2cell.proofs.Leaves.{Within, within_from_inside, covers_from, covers_there}
use Rattle.s2list.specs.Union.{has_leaf, between, IsLocal}
use Rattle.s2list.specs.Sets.{difference_of}
use Rattle.s2list.specs.Packed.{FillsGap}
use Rattle.s2list.proofs.Checking.{packed_from_local}
use Rattle.s2list.proofs.Picking.{IsGap, between_ends, fill_leaves, picked_none, picked_fill, picked_local}
use Rattle.s2list.proofs.Writing.{few_cells}
use Rattle.s2union.specs.Grown.{IsGrown}

-- leaves of a set next to each other, if those beside them are not in the set
gap : (S : ℕ → Bool) (lo hi : ℕ) → ((x : ℕ) → between lo hi x ≡ true → S x ≡ true)
    → (0 < lo → S (lo - 1) ≡ true → ⊥) → (S hi ≡ true → ⊥) → IsGap S lo hi
gap S lo hi all before after = record {
  inside = all;
  closed = λ p x cp lies v b.
      let (pf, pe) = covers_from p x v in
      let (bl, bh) = between_ends lo hi x b in
      let low : lo ≤ first_leaf p = ⊎_elim
      (λ (l : first_leaf p < lo).
      absurd (before (omega arith) (lies (lo - 1) (covers_there p (lo - 1) (omega arith) (omega arith)))))
      (λ (l : lo ≤ first_leaf p). l)
      (cases_lt (first_leaf p) lo) in
      let high : first_leaf p + size_of p ≤ hi = ⊎_elim
      (λ (l : hi < first_leaf p + size_of p).
      absurd (after (lies hi (covers_there p hi (omega arith) (omega arith)))))
      (λ (l : first_leaf p + size_of p ≤ hi). l)
      (cases_lt hi (first_leaf p + size_of p)) in
      λ y u. let (yf, ye) = covers_from p y u in grind (arith, nat_tests);
}

-- the leaves of `h` without those of `c`
abbrev rest : ℕ → ℕ → ℕ → Bool
rest h c = difference_of (has_leaf (h ∷ [])) (has_leaf (c ∷ []))

module _ (h c : ℕ) (cc : IsCell c) (inside : IsInside c h) where
  within : Within c h
  within = within_from_inside c h cc inside

  left : (x : ℕ) → rest h c x ≡ (covers h x && not (covers c x))
  left x = rw (or-false (covers h x), or-false (covers c x)) refl

  gone : (x : ℕ) → (covers h x && not (covers c x)) ≡ false → rest h c x ≡ true → ⊥
  gone x e t = false≢true (sym (left x ∙ e) ∙ t)

  front : IsGap (rest h c) (first_leaf h) (first_leaf c)
  front =
      let wh = within.high in
      let some = (cell_leaves c cc).some in
      gap (rest h c) (first_leaf h) (first_leaf c) (λ x b. left x ∙ grind (arith, nat_tests, b))
      (λ l t. gone (first_leaf h - 1) (grind (arith, nat_tests)) t)
      (λ t. gone (first_leaf c) (grind (arith, nat_tests)) t)

  back : IsGap (rest h c) (first_leaf c + size_of c) (first_leaf h + size_of h)
  back =
      let wl = within.low in
      let some = (cell_leaves c cc).some in
      gap (rest h c) (first_leaf c + size_of c) (first_leaf h + size_of h)
      (λ x b. left x ∙ grind (arith, nat_tests, b))
      (λ l t. gone (first_leaf c + size_of c - 1) (grind (arith, nat_tests)) t)
      (λ t. gone (first_leaf h + size_of h) (grind (arith, nat_tests)) t)

  -- both gaps are filled in a list that grows
  module _ {items : List ℕ} {most n a b d e : ℕ} (ends : (a ≡ first_leaf h) × (b ≡ first_leaf c)
      × (d ≡ first_leaf c + size_of c) × (e ≡ first_leaf h + size_of h)) (one both : List ℕ) (f : FillsGap [] one a b)
      (g : FillsGap one both d e) (grown : IsGrown both (2 ^ 64 - 1) most items n) where
    before : FillsGap [] one (first_leaf h) (first_leaf c)
    before = rw (← ends.0, ← ends.1) f

    after : FillsGap one both (first_leaf c + size_of c) (first_leaf h + size_of h)
    after = rw (← ends.2, ← ends.3) g

    both_leaves : (x : ℕ) → has_leaf both x ≡ (has_leaf (h ∷ []) x && not (has_leaf (c ∷ []) x))
    both_leaves x =
        let wl = within.low in
        let wh = within.high in
        fill_leaves one both (first_leaf c + size_of c) (first_leaf h + size_of h) after x
        ∙ ap (λ v. v || between (first_leaf c + size_of c) (first_leaf h + size_of h) x)
        (fill_leaves [] one (first_leaf h) (first_leaf c) before x) ∙ grind (arith, nat_tests) ∙ sym (left x)

    both_local : IsLocal both
    both_local =
        let some = (cell_leaves c cc).some in
        picked_local (rest h c) both (picked_fill (rest h c) one both (first_leaf c + size_of c)
        (first_leaf h + size_of h) (picked_fill (rest h c) [] one (first_leaf h) (first_leaf c)
        (picked_none (rest h c)) (λ x t. absurd (false≢true t)) (λ _. front) before)
        (λ x t.
        let e = (between_ends (first_leaf h) (first_leaf c) x
        (sym (fill_leaves [] one (first_leaf h) (first_leaf c) before x) ∙ t)).1 in
        omega arith)
        (λ _. back) after) both_leaves

    -- no list of cells is too long to be written
    all : items ≡ both
    all =
        let few = few_cells both (packed_from_local both both_local) in
        let same = grown.same_most in
        grown.front (omega arith)

    pub rest_leaves : (x : ℕ) → has_leaf items x ≡ ((covers h x || false) && not (covers c x || false))
    rest_leaves x = ap (λ (l : List ℕ). has_leaf l x) all ∙ both_leaves x

    pub rest_local : IsLocal items
    rest_local = subst IsLocal (sym all) both_local
