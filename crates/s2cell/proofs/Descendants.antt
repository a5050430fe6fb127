-- The cells of a level in a cell: their identifiers and their leaves.
use Rattle.std.proofs.Common.{◌≡◌, ℕ, ◌+◌, ◌-◌, ◌*◌, ◌%◌, ◌^◌, ◌<◌, ◌≤◌, refl, sym, ◌∙◌, ap, arith}
use Rattle.std.proofs.Math.Nat.{mul-le-mul_right}
use Rattle.std.proofs.lemmas.Nat.{pow-add, one_shl}
use Rattle.s2cell.specs.Cell.{IsCellAt, IsCell, level_of, place_of, size_of, first_leaf}
use Rattle.s2cell.specs.Descendant.{descendant_of}
use Rattle.s2cell.proofs.Lowest.{four_pow}
use Rattle.s2cell.proofs.CellLemmas.{own_place, cell_leaves, size_of_cell, first_leaf_of_cell, level_of_cell, four_pos}
use Rattle.s2cell.proofs.Calls.{fits_u64}

-- what holds of the descendant with the number `i` at level `k`
pub record Descendant (n k i : ℕ) : Type 0 where
  pub at : IsCellAt k (place_of n * 4 ^ (k - level_of n) + i) (descendant_of n k i)
  pub level : level_of (descendant_of n k i) ≡ k
  pub size : size_of (descendant_of n k i) ≡ 4 ^ (30 - k)
  pub first : first_leaf (descendant_of n k i) ≡ first_leaf n + i * 4 ^ (30 - k)
  pub whole : size_of n ≡ 4 ^ (k - level_of n) * 4 ^ (30 - k)

pub descendant_at : {n : ℕ} (k i : ℕ) → IsCell n → level_of n ≤ k →
    k ≤ 30 → i < 4 ^ (k - level_of n) → IsCellAt k (place_of n * 4 ^ (k - level_of n) + i) (descendant_of n k i)
unfolding descendant_of
descendant_at {n} k i c h t q =
    let o = own_place n c in
    let d = 4 ^ (k - level_of n) in
    let e : k ≡ level_of n + (k - level_of n) = omega arith in
    let pw : 4 ^ k ≡ 4 ^ level_of n * d = ap (λ x. 4 ^ x) e ∙ pow-add 4 (level_of n) (k - level_of n) in
    let p = o.place in
    let m : (place_of n + 1) * d ≤ (6 * 4 ^ level_of n) * d = mul-le-mul_right d (omega arith) in
    record { level = t; place = omega arith; id = refl }

pub descendant : (n k i : ℕ) → IsCell n → level_of n ≤ k → k ≤ 30 → i < 4 ^ (k - level_of n) → Descendant n k i
descendant n k i c h t q =
    let o = own_place n c in
    let d = 4 ^ (k - level_of n) in
    let s = 4 ^ (30 - k) in
    let a = descendant_at k i c h t q in
    let e : 30 - level_of n ≡ (k - level_of n) + (30 - k) = omega arith in
    let pw : 4 ^ (30 - level_of n) ≡ d * s = ap (λ x. 4 ^ x) e ∙ pow-add 4 (k - level_of n) (30 - k) in
    let sn : size_of n ≡ d * s = size_of_cell (level_of n) (place_of n) n o ∙ pw in
    let fn : first_leaf n ≡ place_of n * (d * s) = first_leaf_of_cell (level_of n) (place_of n) n o
    ∙ ap (λ x. place_of n * x) pw in
    let fd : first_leaf (descendant_of n k i) ≡ (place_of n * d + i) * s = first_leaf_of_cell k _ _ a in
    record {
      at = a;
      level = level_of_cell k _ _ a;
      size = size_of_cell k _ _ a;
      first = omega arith;
      whole = sn;
    }

-- its identifier, as it is computed
pub descendant_bits : {n : ℕ} (k i b s : ℕ) → IsCell n → level_of n ≤ k → k ≤ 30 → i < 4 ^ (k - level_of n) →
    s ≡ size_of n → b ≡ 1 * 2 ^ (2 * (30 - k)) % 2 ^ 64 → n - s + (2 * i + 1) * b ≡ descendant_of n k i
descendant_bits {n} k i b s c h t q es eb =
    let d = descendant n k i c h t q in
    let is : b ≡ 4 ^ (30 - k) = eb ∙ one_shl (2 * (30 - k)) 64 (omega arith) ∙ sym (four_pow (30 - k)) in
    let l = cell_leaves n c in
    let ml = l.middle in
    let m = cell_leaves (descendant_of n k i) (k, _, d.at) in
    let mm = m.middle in
    let f = d.first in
    let z = d.size in
    rw is (omega arith)

pub IsCell-descendant_of : (n k i m : ℕ) → IsCell n → level_of n ≤ k → k ≤ 30 → i < 4 ^ (k - level_of n) →
    m ≡ descendant_of n k i → IsCell m
IsCell-descendant_of n k i m c h t q e = (k, place_of n * 4 ^ (k - level_of n) + i, rw e (descendant_at k i c h t q))

-- where it is computed nothing exceeds 64 bits
pub record DescendantFits (n k i b s : ℕ) : Type 0 where
  pub product : (2 * i + 1) * b < 2 ^ 64
  pub sum : n - s + (2 * i + 1) * b < 2 ^ 64
  pub twice : 2 * i + 1 < 2 ^ 64

pub descendant_fits : {n : ℕ} (k i b s : ℕ) → IsCell n → level_of n ≤ k →
    k ≤ 30 → i < 4 ^ (k - level_of n) → s ≡ size_of n → b ≡ 1 * 2 ^ (2 * (30 - k)) % 2 ^ 64 → DescendantFits n k i b s
descendant_fits {n} k i b s c h t q es eb =
    let e = descendant_bits k i b s c h t q es eb in
    let f = fits_u64 (descendant_of n k i) (IsCell-descendant_of n k i _ c h t q refl) in
    let is : b ≡ 4 ^ (30 - k) = eb ∙ one_shl (2 * (30 - k)) 64 (omega arith) ∙ sym (four_pow (30 - k)) in
    let pos : 0 < b = rw is (four_pos (30 - k)) in
    let m : 1 * (2 * i + 1) ≤ b * (2 * i + 1) = mul-le-mul_right (2 * i + 1) pos in
    record { product = omega arith; sum = omega arith; twice = omega arith }
