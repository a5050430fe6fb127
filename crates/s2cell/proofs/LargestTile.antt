-- The cell that tiles a run of leaves is the largest that begins there and fits.
use Rattle.std.proofs.Common.{◌≡◌, ℕ, suc, ◌+◌, ◌-◌, ◌*◌, ◌/◌, ◌%◌, ◌^◌, ◌<◌, ◌≤◌, sym, ◌∙◌, ap, arith, lit<, min}
use Rattle.std.specs.Int.Count.{count_trailing_zeros, count_leading_zeros, trailing_of_zero}
use Rattle.std.proofs.Math.Nat.{pow-le-pow_right, lt_of_mul-lt-mul_right}
use Rattle.std.proofs.Math.Logic.{⊎_elim}
use Rattle.std.proofs.lemmas.Bool.{cases_lt}
use Rattle.std.proofs.lemmas.Nat.{pow-add, pow_pos, one_shl, leading_top}
use Rattle.s2cell.specs.Cell.{IsCell, level_of, place_of, size_of, first_leaf}
use Rattle.s2cell.specs.declared.TheConstants.{LEAVES}
use Rattle.s2cell.proofs.Lowest.{four_pow, odd_part}
use Rattle.s2cell.proofs.CellLemmas.{own_place, cell_leaves, size_of_cell, first_leaf_of_cell}
use Rattle.s2cell.proofs.Tiles.{tile_of}

-- a multiple of a power of four ends in that many zeros
trailing_of_multiple : (n m a : ℕ) → n < 2 ^ 64 → a ≤ 30 → n ≡ m * 4 ^ a → 2 * a ≤ count_trailing_zeros 64 n
trailing_of_multiple n m a fits small e =
    ⊎_elim
    (λ (some : 0 < n).
    let o = odd_part 64 n some fits in
    let z = count_trailing_zeros 64 n in
    ⊎_elim
    (λ (h : z < 2 * a).
    let split : 2 * a ≡ (2 * a - z - 1) + (1 + z) = omega arith in
    let c = 2 ^ (2 * a - z - 1) in
    let pw : 4 ^ a ≡ c * (2 * 2 ^ z) = four_pow a ∙ ap (λ x. 2 ^ x) split ∙ pow-add 2 (2 * a - z - 1) (1 + z)
    ∙ ap (λ x. c * x) (pow-add 2 1 z) in
    let even : n ≡ (2 * (m * c)) * 2 ^ z = (let f : n ≡ m * (c * (2 * 2 ^ z)) = rw pw at e in omega arith) in
    let odd = o.1 in
    let up : 2 * o.0 + 1 < 2 * (m * c) + 1 = lt_of_mul-lt-mul_right (2 ^ z) (let pos : 0 < 2 ^ z = pow_pos z in
    omega arith) in
    let down : 2 * (m * c) < 2 * o.0 + 1 + 1 = lt_of_mul-lt-mul_right (2 ^ z) (let pos : 0 < 2 ^ z = pow_pos z in
    omega arith) in
    absurd (omega arith))
    (λ (h : 2 * a ≤ z). h)
    (cases_lt z (2 * a)))
    (λ (none : n ≤ 0).
    let is : n ≡ 0 = omega arith in
    let z : count_trailing_zeros 64 n ≡ 64 = ap (λ x. count_trailing_zeros 64 x) is ∙ trailing_of_zero 64 in
    omega arith)
    (cases_lt 0 n)

-- a number that holds a power of four has that few zeros in front
leading_of_large : (n a : ℕ) → 0 < n → n < 2 ^ 64 → 4 ^ a ≤ n → 2 * a ≤ 63 - count_leading_zeros 64 n
leading_of_large n a some fits h =
    let l = leading_top 64 n some fits in
    let j = l.0 in
    let sum = l.1 in
    let top = l.3 in
    let pw = four_pow a in
    ⊎_elim
    (λ (g : j < 2 * a).
    let m : 2 ^ suc j ≤ 2 ^ (2 * a) = pow-le-pow_right {n = 2} (lit< tt) {i = suc j} {j = 2 * a} (omega arith) in
    absurd (omega arith))
    (λ (g : 2 * a ≤ j). omega arith)
    (cases_lt j (2 * a))

pub largest_tile : (first end steps n : ℕ) {q : ℕ} → first < end → end ≤ LEAVES → steps ≡ min
    (min (count_trailing_zeros 64 first / 2) ((63 - count_leading_zeros 64 (end - first)) / 2)) 30 → n ≡ 2 * first + 1 *
    2 ^ (2 * steps) % 2 ^ 64 → IsCell q → first_leaf q ≡ first → first_leaf q + size_of q ≤ end → size_of q ≤ size_of n
largest_tile first end steps n {q} some within es en cq fq eq =
    let t = tile_of first end steps n some within (omega arith) (omega arith) (omega arith) en in
    let m = (cell_leaves n t.cell).middle in
    let f = t.first in
    let pw : 1 * 2 ^ (2 * steps) % 2 ^ 64 ≡ 4 ^ steps = one_shl (2 * steps) 64 (omega arith) ∙ sym (four_pow steps) in
    let size : size_of n ≡ 4 ^ steps = omega arith in
    let o = own_place q cq in
    let a = 30 - level_of q in
    let sq : size_of q ≡ 4 ^ a = size_of_cell (level_of q) (place_of q) q o in
    let lq : first ≡ place_of q * 4 ^ a = sym fq ∙ first_leaf_of_cell (level_of q) (place_of q) q o in
    let tz : 2 * a ≤ count_trailing_zeros 64 first =
    trailing_of_multiple first (place_of q) a (omega arith) (omega arith) lq in
    let lz : 2 * a ≤ 63 - count_leading_zeros 64 (end - first) =
    leading_of_large (end - first) a (omega arith) (omega arith) (omega arith) in
    let r : 4 ^ a ≤ 4 ^ steps = pow-le-pow_right {n = 4} (lit< tt) {i = a} {j = steps} (omega arith) in
    omega arith
