-- The places of bits at which the marker of a cell can stand, which is its lowest.
use Rattle.std.proofs.Common.{◌≡◌, ℕ, zero, suc, ◌+◌, ◌-◌, ◌*◌, ◌/◌, ◌%◌, ◌^◌, ◌<◌, ◌≤◌, refl, sym, ◌∙◌, ap, arith}
use Rattle.std.proofs.Common.{bit_and}
use Rattle.std.proofs.Math.Logic.{⊎_elim}
use Rattle.std.proofs.Math.Nat.{pow-le-pow_right}
use Rattle.std.proofs.lemmas.Bool.{cases_lt}
use Rattle.std.specs.Int.Bits.{and_zero_l}
use Rattle.std.specs.Int.Count.{count_trailing_zeros}
use Rattle.std.proofs.lemmas.Nat.{and_comm, pow_pos}
use Rattle.std.proofs.lemmas.Nat.Bits.{and_pow, bit_at-suc, bit_at-zero, bit_at_lowest}
use Rattle.s2cell.specs.Cell.{IsCell, level_of}
use Rattle.s2cell.proofs.Calls.{size_at, size_bits}
use Rattle.s2cell.proofs.CellLemmas.{cell_from_test}
use Rattle.s2cell.proofs.Lowest.{four_pow, lowest_bit, odd_part}

-- the bit of `n` at the place `i`
abbrev bit : ℕ → ℕ → ℕ
bit n i = n / 2 ^ i % 2

-- ones at the first `n` even places
ones : ℕ → ℕ
ones zero = 0
ones (suc n) = 4 * ones n + 1

ones_none : ones 0 ≡ 0
unfolding ones
ones_none = refl

ones_more : (n : ℕ) → ones (suc n) ≡ 4 * ones n + 1
unfolding ones
ones_more n = refl

markers : ones 31 ≡ 0x1555_5555_5555_5555
unfolding ones
markers = refl

quarter : (n : ℕ) → ones (suc n) / 2 / 2 ≡ ones n
quarter n = let e = ones_more n in omega arith

bit_is : (n t : ℕ) → t < 2 * n → t % 2 ≡ 0 → bit (ones n) t ≡ 1
bit_is zero t h e = absurd (omega arith)
bit_is (suc n) zero h e =
    let u = ones_more n in
    let l : bit (ones (suc n)) 0 ≡ ones (suc n) % 2 = bit_at_lowest (ones (suc n)) in
    l ∙ omega arith
bit_is (suc n) (suc zero) h e = absurd (omega arith)
bit_is (suc n) (suc (suc t)) h e =
    bit_at-suc (ones (suc n)) (suc t) ∙ bit_at-suc (ones (suc n) / 2) t ∙ ap (λ x. bit x t) (quarter n)
    ∙ bit_is n t (omega arith) (omega arith)

bit_not : (n t : ℕ) → (t < 2 * n → t % 2 ≡ 0 → ⊥) → bit (ones n) t ≡ 0
bit_not zero t other = rw ones_none (bit_at-zero t)
bit_not (suc n) zero other = absurd (other (omega arith) (omega arith))
bit_not (suc n) (suc zero) other =
    let u = ones_more n in
    let l : bit (ones (suc n) / 2) 0 ≡ ones (suc n) / 2 % 2 = bit_at_lowest (ones (suc n) / 2) in
    bit_at-suc (ones (suc n)) 0 ∙ l ∙ omega arith
bit_not (suc n) (suc (suc t)) other =
    bit_at-suc (ones (suc n)) (suc t) ∙ bit_at-suc (ones (suc n) / 2) t ∙ ap (λ x. bit x t) (quarter n)
    ∙ bit_not n t (λ h e. other (omega arith) (omega arith))

-- a power of two shares its bit with the markers, or none
pow_marked : (t : ℕ) → bit_and (2 ^ t) 0x1555_5555_5555_5555 ≡ bit (ones 31) t * 2 ^ t
pow_marked t = rw (← markers) (and_comm (2 ^ t) (ones 31) ∙ and_pow (ones 31) t)

-- the lowest bit of a cell is a marker
pub cell_marked : {n : ℕ} (m : ℕ) →
    IsCell n → m < 2 ^ 64 → (m + n) % 2 ^ 64 ≡ 0 → bit_and (bit_and n m) 0x1555_5555_5555_5555 ≡ 0 → ⊥
cell_marked {n} m own h e none =
    let z = 30 - level_of n in
    let low : bit_and n m ≡ 2 ^ (2 * z) = size_bits n m own h e ∙ size_at n own ∙ four_pow z in
    let one : bit (ones 31) (2 * z) ≡ 1 = bit_is 31 (2 * z) (omega arith) (omega arith) in
    let all : bit_and (2 ^ (2 * z)) 0x1555_5555_5555_5555 ≡ bit (ones 31) (2 * z) * 2 ^ (2 * z) = pow_marked (2 * z) in
    let same : bit_and (2 ^ (2 * z)) 0x1555_5555_5555_5555 ≡ 0 = rw low at none in
    let some = pow_pos (2 * z) in
    let less : 1 * 2 ^ (2 * z) ≡ 0 = rw one at (sym all ∙ same) in
    absurd (omega arith)

-- a number of a face whose lowest bit is a marker is a cell
pub marked_cell : (n m : ℕ) → n < 6 * 2 ^ 61 → m < 2 ^ 64 → (m + n) % 2 ^ 64 ≡ 0
    → (bit_and (bit_and n m) 0x1555_5555_5555_5555 ≡ 0 → ⊥) → IsCell n
marked_cell n m face h e some =
    ⊎_elim
    (λ (pos : 0 < n).
    let t = count_trailing_zeros 64 n in
    let r = odd_part 64 n pos (omega arith) in
    let is : n ≡ (2 * r.0 + 1) * 2 ^ t = r.1 in
    let deep : t < 64 =
    ⊎_elim
    (λ (l : t < 64). l)
    (λ (l : 64 ≤ t).
    let p : 2 ^ 64 ≤ 2 ^ t = pow-le-pow_right {n = 2} (omega arith) {i = 64} {j = t} l in
    absurd (omega arith))
    (cases_lt t 64) in
    let low : bit_and n m ≡ 2 ^ t = lowest_bit n m r.0 t is deep (omega arith) (omega arith) in
    let none : bit (ones 31) t ≡ 0 → ⊥ = λ z.
    let q : bit (ones 31) t * 2 ^ t ≡ 0 * 2 ^ t = ap (λ x. x * 2 ^ t) z in
    some (rw low (pow_marked t ∙ omega arith)) in
    let found : (t < 2 * 31) × (t % 2 ≡ 0) =
    ⊎_elim
    (λ (l : t < 2 * 31). ⊎_elim
    (λ (o : t % 2 < 1). (l, omega arith))
    (λ (o : 1 ≤ t % 2). absurd (none (bit_not 31 t (λ _ z. absurd (omega arith))))) (cases_lt (t % 2) 1))
    (λ (l : 2 * 31 ≤ t). absurd (none (bit_not 31 t (λ z _. absurd (omega arith)))))
    (cases_lt t (2 * 31)) in
    let l = found.0 in
    let z = found.1 in
    cell_from_test n (omega arith) (omega arith) found.1 (omega arith))
    (λ (none : n ≤ 0).
    let e0 : n ≡ 0 = omega arith in
    absurd (some (rw (e0, and_zero_l m) (and_zero_l 0x1555_5555_5555_5555))))
    (cases_lt 0 n)
