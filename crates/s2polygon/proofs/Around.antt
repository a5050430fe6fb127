-- What a covering says of each leaf.
use Rattle.std.proofs.Common.{◌≡◌, refl, sym, ◌∙◌, ℕ, ◌*◌, ◌-◌, ◌/◌, ◌^◌, ◌<◌, ◌≤◌, arith, Bool, true, ◌↔◌, List}
use Rattle.std.proofs.lemmas.Nat.{div_below}
use Rattle.s2cell.specs.Cell.{IsCellAt, id_at}
use Rattle.s2cell.specs.declared.TheConstants.{LEAVES}
use Rattle.s2cell.proofs.CellLemmas.{four_pos, level_of_cell, all_leaves}
use Rattle.s2cell.proofs.Squares.{covers_block}
use Rattle.s2list.specs.Union.{has_leaf}
use Rattle.s2cover.specs.Coverings.{HasLeavesOf, IsInInner, IsInOuter, inner_set, outer_set}

-- each leaf that the outer set has to have lies in a cell of the level that has one
pub none_missed : (R : ℕ → Bool) (k : ℕ) (u : List ℕ) → k ≤ 30
    → ((R : ℕ → Bool) (k x : ℕ) → k ≤ 30 → (outer_set R k x ≡ true) ↔ IsInOuter R k x)
    → HasLeavesOf (outer_set R k) u → (x : ℕ) → x < LEAVES → R x ≡ true → has_leaf u x ≡ true
none_missed R k u h law has x l r =
    let m = x / 4 ^ (30 - k) in
    let a = all_leaves k h in
    let at : IsCellAt k m (id_at k m) =
    record { level = h; place = div_below x (4 ^ (30 - k)) (6 * 4 ^ k) (four_pos (30 - k)) (omega arith); id = refl } in
    let v = covers_block (id_at k m) k m x at refl in
    has x ∙ (law R k x h).1 (id_at k m, (k, m, at), level_of_cell k m (id_at k m) at, v, (x, v, r))

-- each leaf of the inner set is one that it may have
pub none_foreign : (R : ℕ → Bool) (k : ℕ) (u : List ℕ) → k ≤ 30
    → ((R : ℕ → Bool) (k x : ℕ) → k ≤ 30 → (inner_set R k x ≡ true) ↔ IsInInner R k x)
    → HasLeavesOf (inner_set R k) u → (x : ℕ) → has_leaf u x ≡ true → R x ≡ true
none_foreign R k u h law has x held =
    let (c, i, lv, v, lies) = (law R k x h).0 (sym (has x) ∙ held) in
    lies x v
