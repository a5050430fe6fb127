-- The cells beside a cell along the curve.
use Rattle.std.proofs.Common.{◌≡◌, ℕ, ◌+◌, ◌-◌, ◌*◌, ◌^◌, ◌<◌, ◌≤◌, sym, ◌∙◌, ap, arith}
use Rattle.std.proofs.Math.Logic.{⊎_elim}
use Rattle.std.proofs.Math.Nat.{lt_of_mul-lt-mul_right, mul-le-mul_right}
use Rattle.std.proofs.lemmas.Bool.{cases_lt}
use Rattle.s2cell.specs.Cell.{IsCell, IsCellAt, level_of, place_of, size_of}
use Rattle.s2cell.specs.Neighbours.{IsNext, IsFirst, IsLast}
use Rattle.s2cell.proofs.CellLemmas.{own_place, all_leaves, level_of_cell, place_of_cell, four_pos}
use Rattle.s2cell.proofs.Calls.{size_at}

-- two lowest bits up is one place further
pub next_cell : {n : ℕ} (s : ℕ) → IsCell n → s ≡ size_of n → n + 2 * s < 6 * 2 ^ 61 → IsNext n (n + 2 * s)
next_cell {n} s c e h =
    let o = own_place n c in
    let k = level_of n in
    let m = place_of n in
    let t = 4 ^ (30 - k) in
    let whole = all_leaves k o.level in
    let is = o.id in
    let size : s ≡ t = e ∙ size_at n c in
    let id : n + 2 * s ≡ (2 * (m + 1) + 1) * t = omega arith in
    let below : (2 * (m + 1) + 1) * t < (12 * 4 ^ k) * t = omega arith in
    let small : 2 * (m + 1) + 1 < 12 * 4 ^ k = lt_of_mul-lt-mul_right t below in
    let i : IsCellAt k (m + 1) (n + 2 * s) = record { level = o.level; place = omega arith; id = id } in
    record {
      cell = (k, m + 1, i);
      level = level_of_cell k (m + 1) (n + 2 * s) i;
      place = place_of_cell k (m + 1) (n + 2 * s) i;
    }

pub last_cell : {n : ℕ} (s : ℕ) → IsCell n → s ≡ size_of n → 6 * 2 ^ 61 ≤ n + 2 * s → IsLast n
last_cell {n} s c e h =
    let o = own_place n c in
    let k = level_of n in
    let m = place_of n in
    let t = 4 ^ (30 - k) in
    let whole = all_leaves k o.level in
    let is = o.id in
    let size : s ≡ t = e ∙ size_at n c in
    let some = four_pos (30 - k) in
    let low = o.place in
    ⊎_elim
    (λ (l : m + 1 < 6 * 4 ^ k).
    let m2 : (2 * (m + 1) + 2) * t ≤ (12 * 4 ^ k) * t = mul-le-mul_right t (omega arith) in
    absurd (omega arith))
    (λ (l : 6 * 4 ^ k ≤ m + 1). omega arith)
    (cases_lt (m + 1) (6 * 4 ^ k))

two_more : (r t : ℕ) → (2 * r + 1 + 2) * t ≡ (2 * r + 1) * t + 2 * t
two_more r t = omega arith

-- two lowest bits down is one place back
pub cell_before : {n : ℕ} (s : ℕ) → IsCell n → s ≡ size_of n → 2 * s < n → IsCell (n - 2 * s) × IsNext (n - 2 * s) n
cell_before {n} s c e h =
    let o = own_place n c in
    let k = level_of n in
    let m = place_of n in
    let t = 4 ^ (30 - k) in
    let is = o.id in
    let size : s ≡ t = e ∙ size_at n c in
    let more : 2 * t < (2 * m + 1) * t = omega arith in
    let some : 2 < 2 * m + 1 = lt_of_mul-lt-mul_right t more in
    let up : 2 * m + 1 ≡ 2 * (m - 1) + 1 + 2 = omega arith in
    let split : (2 * m + 1) * t ≡ (2 * (m - 1) + 1) * t + 2 * t = ap (λ z. z * t) up ∙ two_more (m - 1) t in
    let low = o.place in
    let i : IsCellAt k (m - 1) (n - 2 * s) = record { level = o.level; place = omega arith; id = omega arith } in
    let l = level_of_cell k (m - 1) (n - 2 * s) i in
    let p = place_of_cell k (m - 1) (n - 2 * s) i in
    ((k, m - 1, i), record { cell = c; level = sym l; place = omega arith })

pub first_cell : {n : ℕ} (s : ℕ) → IsCell n → s ≡ size_of n → n ≤ 2 * s → IsFirst n
first_cell {n} s c e h =
    let o = own_place n c in
    let k = level_of n in
    let m = place_of n in
    let t = 4 ^ (30 - k) in
    let is = o.id in
    let size : s ≡ t = e ∙ size_at n c in
    let some = four_pos (30 - k) in
    ⊎_elim
    (λ (l : 0 < m). let m2 : 3 * t ≤ (2 * m + 1) * t = mul-le-mul_right t (omega arith) in absurd (omega arith))
    (λ (l : m ≤ 0). omega arith)
    (cases_lt 0 m)
