-- The cells that have the corners of a rectangle, and all between.
use Rattle.std.proofs.Common.{◌≡◌, ℕ, ◌-◌, ◌*◌, ◌/◌, ◌^◌, ◌<◌, ◌≤◌, max, true, [], ◌∷◌, refl, sym, ◌∙◌, ap}
use Rattle.std.proofs.Common.{arith, lit<, subst, ⊎_elim, suc, false, ◌||◌}
use Rattle.std.specs.Int.Count.{count_leading_zeros}
use Rattle.std.proofs.Math.Nat.{pow-le-pow_right, pow-suc}
use Rattle.std.proofs.lemmas.Bool.{cases_lt, or_left, or_right}
use Rattle.std.proofs.lemmas.Nat.{leading_length, pow_pos}
use Rattle.s2cell.specs.Cell.{IsCell, level_of, place_of, first_leaf, covers, parent_of}
use Rattle.s2cell.specs.Curve.{IsPlaceOf, i_of, j_of}
use Rattle.s2cell.proofs.Calls.{IsCell-parent_of}
use Rattle.s2cell.proofs.CellLemmas.{own_place}
use Rattle.s2cell.proofs.Family.{parent_around, parent_level}
use Rattle.s2cell.proofs.Leaves.{inside_from_within}
use Rattle.s2cell.proofs.Squares.{covered_block, covers_block, first_leaf_covered}
use Rattle.s2cell.specs.Rectangles.{Rect, rect_set}
use Rattle.s2cell.proofs.Rectangles.{in_rect_from}
use Rattle.s2list.specs.Union.{has_leaf}
use Rattle.s2cover.specs.Working.Around.{CoversSquare}
use Rattle.s2cover.proofs.Squares.{block_leaf, one_end}

-- the level whose cells are at least as wide as some steps are long, by the zeros before their number
pub record FitsSteps (steps zeros : ℕ) : Type 0 where
  pub least : 2 ≤ zeros
  pub most : zeros ≤ 32
  pub wide : steps < 2 ^ (30 - (zeros - 2))
  pub deepest : zeros - 2 < 30 → 2 ^ (29 - (zeros - 2)) ≤ steps

pub fits_steps : (steps zeros : ℕ) → steps < 2 ^ 30 → zeros ≡ count_leading_zeros 32 steps → FitsSteps steps zeros
fits_steps steps zeros h e =
    let (m, all, below, above) = leading_length 32 steps (omega arith) in
    let few : m ≤ 30 = ⊎_elim
    (λ (l : 30 < m).
    let p : 2 ^ 31 ≤ 2 ^ m = pow-le-pow_right {n = 2} (lit< tt) {i = 31} {j = m} (omega arith) in
    absurd (omega arith))
    (λ (l : m ≤ 30). l)
    (cases_lt 30 m) in
    let same : m ≡ 30 - (zeros - 2) = omega arith in
    record {
      least = omega arith;
      most = omega arith;
      wide = subst (λ z. steps < 2 ^ z) same below;
      deepest = λ l.
          let k = 29 - (zeros - 2) in
          let next : m ≡ suc k = omega arith in
          let half : 2 ^ m ≡ 2 ^ k * 2 = ap (λ z. 2 ^ z) next ∙ pow-suc 2 k in
          omega arith;
    }

-- the cell of a level that has the leaf at a place has all leaves of the square of the grid there
pub corner_covers : {leaf c face i j : ℕ} (k : ℕ) → IsCell leaf → k ≤ level_of leaf → k ≤ 30 → c ≡ parent_of leaf k →
    i < 2 ^ 30 → j < 2 ^ 30 → ((n : ℕ) → IsPlaceOf n face i j → n ≡ first_leaf leaf) → CoversSquare c face (30 - k) i j
corner_covers {leaf} {c} {face} {i} {j} k own le h is hi hj only x on along across =
    let g = 30 - k in
    let b = block_leaf g x i j (omega arith) hi hj (sym along) (sym across) in
    let same : b.leaf ≡ first_leaf leaf = only b.leaf (subst (λ f. IsPlaceOf b.leaf f i j) on b.place) in
    let p = parent_of leaf k in
    let ip : IsCell p = IsCell-parent_of leaf k p own le refl in
    let lp : level_of p ≡ k = parent_level leaf k own le in
    let there = inside_from_within leaf p (parent_around leaf k own le) (first_leaf leaf)
    (first_leaf_covered leaf own) in
    let at : first_leaf leaf / 4 ^ (30 - level_of p) ≡ place_of p =
    covered_block p (level_of p) (place_of p) (first_leaf leaf) (own_place p ip) there in
    let block : x / 4 ^ g ≡ first_leaf leaf / 4 ^ g = sym b.block ∙ ap (λ y. y / 4 ^ g) same in
    subst (λ d. covers d x ≡ true) (sym is)
    (covers_block p (level_of p) (place_of p) x (own_place p ip)
    (ap (λ z. x / 4 ^ (30 - z)) lp ∙ block ∙ ap (λ z. first_leaf leaf / 4 ^ (30 - z)) (sym lp) ∙ at))

-- the squares at the corners of a rectangle have all of it, if they are at least as wide as it is long
pub four_around : (r : Rect) (a b c d g : ℕ) → max (r.i1 - r.i0) (r.j1 - r.j0) < 2 ^ g →
    CoversSquare a r.face g r.i0 r.j0 → CoversSquare b r.face g r.i0 r.j1 → CoversSquare c r.face g r.i1 r.j0 →
    CoversSquare d r.face g r.i1 r.j1 → (x : ℕ) → rect_set r x ≡ true → has_leaf (a ∷ b ∷ c ∷ d ∷ []) x ≡ true
four_around r a b c d g wide at_a at_b at_c at_d x t =
    let w = in_rect_from r x t in
    let s = pow_pos g in
    let i = one_end r.i0 r.i1 (i_of x) (2 ^ g) s w.along.0 w.along.1 (omega arith) in
    let j = one_end r.j0 r.j1 (j_of x) (2 ^ g) s w.across.0 w.across.1 (omega arith) in
    let last = covers d x in
    let third = covers c x || (last || false) in
    let second = covers b x || third in
    ⊎_elim
    (λ (p : i_of x / 2 ^ g ≡ r.i0 / 2 ^ g). ⊎_elim
    (λ (q : j_of x / 2 ^ g ≡ r.j0 / 2 ^ g). or_left (covers a x) second (at_a x w.on p q))
    (λ (q : j_of x / 2 ^ g ≡ r.j1 / 2 ^ g). or_right (covers a x) second
    (or_left (covers b x) third (at_b x w.on p q)))
    j)
    (λ (p : i_of x / 2 ^ g ≡ r.i1 / 2 ^ g). ⊎_elim
    (λ (q : j_of x / 2 ^ g ≡ r.j0 / 2 ^ g). or_right (covers a x) second
    (or_right (covers b x) third (or_left (covers c x) (last || false) (at_c x w.on p q))))
    (λ (q : j_of x / 2 ^ g ≡ r.j1 / 2 ^ g). or_right (covers a x) second
    (or_right (covers b x) third (or_right (covers c x) (last || false) (or_left last false (at_d x w.on p q)))))
    j)
    i
