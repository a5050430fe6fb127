-- The covering sets, by cells.
use Rattle.std.proofs.Common.{◌≡◌, ℕ, suc, zero, ◌+◌, ◌-◌, ◌*◌, ◌/◌, ◌^◌, ◌<◌, ◌≤◌, Bool, true}
use Rattle.std.proofs.Common.{false, ◌||◌, nat_lt, refl, sym, ◌∙◌, ap, arith, ⊎_elim}
use Rattle.std.proofs.lemmas.Bool.{ltb-true, lt-ltb, and_parts, and_from, cases_Bool, both_ways, true_from_ne_false}
use Rattle.std.proofs.lemmas.Nat.{div_below, div-add-mod', mod_below}
use Rattle.s2cell.specs.Cell.{IsCell, IsCellAt, level_of, place_of, covers, id_at}
use Rattle.s2cell.proofs.CellLemmas.{four_pos, cell_leaves, level_of_cell, own_place, all_leaves}
use Rattle.s2cell.proofs.Leaves.{covers_from}
use Rattle.s2cell.proofs.Squares.{covered_block, covers_block}
use Rattle.s2cover.specs.Coverings.{filled, touched, outer_set, inner_set, IsInOuter, IsInInner}
use Rattle.s2cell.specs.declared.TheConstants.{LEAVES}
use Rattle.s2cover.proofs.Runs.{filled_each, filled_from, touched_none, block_here}

-- a leaf where a run touches the set
pub record Touch (S : ℕ → Bool) (lo n : ℕ) : Type 0 where
  pub leaf : ℕ
  pub after : lo ≤ leaf
  pub before : leaf < lo + n
  pub holds : S leaf ≡ true

or_left : (a b : Bool) → b ≡ false → (a || b) ≡ true → a ≡ true
or_left true b e h = refl
or_left false b e h = absurd (both_ways b e h)

pub touched_some : (S : ℕ → Bool) (lo n : ℕ) → touched S lo n ≡ true → Touch S lo n
unfolding touched
touched_some S lo zero h = absurd (both_ways false refl h)
touched_some S lo (suc n) h =
    ⊎_elim
    (λ (t : S (lo + n) ≡ true). record { leaf = lo + n; after = omega arith; before = omega arith; holds = t })
    (λ (f : S (lo + n) ≡ false).
    let rest : touched S lo n ≡ true = or_left (touched S lo n) (S (lo + n)) f h in
    let w = touched_some S lo n rest in
    let a = w.after in
    let b = w.before in
    record { leaf = w.leaf; after = a; before = omega arith; holds = w.holds })
    (cases_Bool (S (lo + n)))

-- the cell of level `k` around a leaf
pub around_leaf : (k x : ℕ) → k ≤ 30 → x < LEAVES → IsCellAt k (x / 4 ^ (30 - k)) (id_at k (x / 4 ^ (30 - k)))
around_leaf k x h l =
    let a = all_leaves k h in
    record { level = h; place = div_below x (4 ^ (30 - k)) (6 * 4 ^ k) (four_pos (30 - k)) (omega arith); id = refl }

pub leaf_limit : {c : ℕ} (x : ℕ) → IsCell c → covers c x ≡ true → x < LEAVES
leaf_limit {c} x i v = let w = (cell_leaves c i).within in let r = covers_from c x v in let b = r.1 in omega arith

own_block : (k x : ℕ) → (x / 4 ^ (30 - k) * 4 ^ (30 - k) ≤ x) × (x < x / 4 ^ (30 - k) * 4 ^ (30 - k) + 4 ^ (30 - k))
own_block k x = let s = div-add-mod' x (4 ^ (30 - k)) in let r = mod_below x (4 ^ (30 - k)) (four_pos (30 - k)) in
    (omega arith, omega arith)

pub outer_in : (R : ℕ → Bool) (k x : ℕ) → k ≤ 30 → outer_set R k x ≡ true → IsInOuter R k x
unfolding outer_set
outer_in R k x h t =
    let both = and_parts (nat_lt x LEAVES) (touched R (x / 4 ^ (30 - k) * 4 ^ (30 - k)) (4 ^ (30 - k))) t in
    let m = x / 4 ^ (30 - k) in
    let at = around_leaf k x h (ltb-true x LEAVES both.0) in
    let c = id_at k m in
    let w = touched_some R (m * 4 ^ (30 - k)) (4 ^ (30 - k)) both.1 in (
      c,
      (k, m, at),
      level_of_cell k m c at,
      covers_block c k m x at refl,
      (w.leaf, covers_block c k m w.leaf at (block_here w.leaf m (30 - k) w.after w.before), w.holds),
    )

pub outer_from : (R : ℕ → Bool) (k x : ℕ) → IsInOuter R k x → outer_set R k x ≡ true
unfolding outer_set
outer_from R k x (c, i, lv, v, (y, w, r)) =
    let l = lt-ltb x LEAVES (leaf_limit x i v) in
    let o = own_place c i in
    let bx = covered_block c (level_of c) (place_of c) x o v in
    let by = covered_block c (level_of c) (place_of c) y o w in
    let same : y / 4 ^ (30 - k) ≡ x / 4 ^ (30 - k) = ap (λ z. y / 4 ^ (30 - z)) (sym lv) ∙ by ∙ sym bx
    ∙ ap (λ z. x / 4 ^ (30 - z)) lv in
    let own = own_block k y in
    let eq : y / 4 ^ (30 - k) * 4 ^ (30 - k) ≡ x / 4 ^ (30 - k) * 4 ^ (30 - k) = ap (λ z. z * 4 ^ (30 - k)) same in
    let o0 = own.0 in
    let o1 = own.1 in
    and_from (nat_lt x LEAVES) (touched R (x / 4 ^ (30 - k) * 4 ^ (30 - k)) (4 ^ (30 - k))) l
    (true_from_ne_false (touched R (x / 4 ^ (30 - k) * 4 ^ (30 - k)) (4 ^ (30 - k))) (λ f. both_ways
    (R y) (touched_none R (x / 4 ^ (30 - k) * 4 ^ (30 - k)) (4 ^ (30 - k)) f y (omega arith) (omega arith)) r))

pub inner_in : (R : ℕ → Bool) (k x : ℕ) → k ≤ 30 → inner_set R k x ≡ true → IsInInner R k x
unfolding inner_set
inner_in R k x h t =
    let both = and_parts (nat_lt x LEAVES) (filled R (x / 4 ^ (30 - k) * 4 ^ (30 - k)) (4 ^ (30 - k))) t in
    let m = x / 4 ^ (30 - k) in
    let at = around_leaf k x h (ltb-true x LEAVES both.0) in
    let c = id_at k m in (
      c,
      (k, m, at),
      level_of_cell k m c at,
      covers_block c k m x at refl,
      λ y v.
          let own = own_block k y in
          let eq : y / 4 ^ (30 - k) * 4 ^ (30 - k) ≡ m * 4 ^ (30 - k) =
          ap (λ z. z * 4 ^ (30 - k)) (covered_block c k m y at v) in
          let o0 = own.0 in
          let o1 = own.1 in
          filled_each R (m * 4 ^ (30 - k)) (4 ^ (30 - k)) both.1 y (omega arith) (omega arith),
    )

-- a leaf of an inner cell is in the set
pub inner_of : (R : ℕ → Bool) (k x : ℕ) → inner_set R k x ≡ true → R x ≡ true
unfolding inner_set
inner_of R k x t =
    let both = and_parts (nat_lt x LEAVES) (filled R (x / 4 ^ (30 - k) * 4 ^ (30 - k)) (4 ^ (30 - k))) t in
    let own = own_block k x in
    filled_each R (x / 4 ^ (30 - k) * 4 ^ (30 - k)) (4 ^ (30 - k)) both.1 x own.0 own.1

pub inner_from : (R : ℕ → Bool) (k x : ℕ) → IsInInner R k x → inner_set R k x ≡ true
unfolding inner_set
inner_from R k x (c, i, lv, v, inside) =
    let l = lt-ltb x LEAVES (leaf_limit x i v) in
    let o = own_place c i in
    let bx = ap (λ z. x / 4 ^ (30 - z)) (sym lv) ∙ covered_block c (level_of c) (place_of c) x o v in
    and_from (nat_lt x LEAVES) (filled R (x / 4 ^ (30 - k) * 4 ^ (30 - k)) (4 ^ (30 - k))) l
    (filled_from R (x / 4 ^ (30 - k) * 4 ^ (30 - k)) (4 ^ (30 - k)) (λ y a b. inside y (covers_block c
    (level_of c) (place_of c) y o (ap (λ z. y / 4 ^ (30 - z)) lv ∙ block_here y (x / 4 ^ (30 - k)) (30 - k) a b ∙ bx))))
