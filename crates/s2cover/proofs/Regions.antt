-- Unions as regions.
use Rattle.std.proofs.Common.{◌≡◌, ℕ, Bool, true, false, ◌&&◌, List, All, arith, sym, ◌∙◌, ap}
use Rattle.s2cell.specs.Cell.{IsCell, covers}
use Rattle.s2cell.proofs.Leaves.{covers_there, covers_from, inside_from_within, meeting, before, after, within, around}
use Rattle.std.proofs.lemmas.List.Elements.{All-contains}
use Rattle.s2list.specs.Union.{has_leaf, IsWithin, ShareSome}
use Rattle.s2list.proofs.Normal.{leaf_from, leaf_to}

-- if the set doesn't hold the whole cell, the cells that share a leaf with it lie inside it
pub run_inside : (u run : List ℕ) {c : ℕ} (x : ℕ) → IsCell c →
    ((y : ℕ) → covers c y ≡ true → has_leaf run y ≡ has_leaf u y) → All (λ d. ShareSome (covers d) (covers c)) run →
    All IsCell run → (IsWithin (covers c) (has_leaf u) → ⊥) → has_leaf run x ≡ true → covers c x ≡ true
run_inside u run {c} x i same sharing cells part h =
    let l = leaf_from run x h in
    let d = l.cell in
    let cd : IsCell d = All-contains IsCell run d cells l.member in
    let s = All-contains (λ z. ShareSome (covers z) (covers c)) run d sharing l.member in
    let a = covers_from d s.0 s.1 in
    let b = covers_from c s.0 s.2 in
    let a0 = a.0 in let a1 = a.1 in let b0 = b.0 in let b1 = b.1 in
    elim (meeting d c cd i) [
      | before w ↦ absurd (omega arith)
      | after w ↦ absurd (omega arith)
      | within w ↦ inside_from_within d c w x (covers_there d x l.low l.high)
      | around w ↦ absurd (part (λ y v. sym (same y v) ∙ leaf_to run d y l.member (inside_from_within c d w y v)))
    ]

-- a cell that crosses the rectangle, and whose leaves in the union are not all outside it
pub across : (u : List ℕ) (S : ℕ → Bool) (run : List ℕ) (c : ℕ) → IsCell c →
    ((y : ℕ) → covers c y ≡ true → has_leaf run y ≡ has_leaf u y) → All (λ d. ShareSome (covers d) (covers c)) run →
    All IsCell run → (IsWithin (covers c) (has_leaf u) → ⊥) → (((x : ℕ) → has_leaf run x ≡ true → S x ≡ false) → ⊥) →
    ((x : ℕ) → covers c x ≡ true → (has_leaf u x && S x) ≡ false) → ⊥
across u S run c i same sharing cells part meets h =
    meets (λ x v.
    let inside = run_inside u run x i same sharing cells part v in
    sym (ap (λ b. b && S x) (sym (same x inside) ∙ v)) ∙ h x inside)
