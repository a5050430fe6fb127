-- What makes a list of numbers a union, cell by cell.
use Rattle.std.proofs.Common.{◌≡◌, ℕ, ◌+◌, ◌-◌, ◌*◌, ◌^◌, ◌<◌, ◌≤◌, refl, ◌∙◌, ap, arith, List, [], ◌∷◌, ◌++◌}
use Rattle.std.proofs.Common.{length, get_or, take, All, bit_xor}
use Rattle.std.specs.Int.Bits.{xor_self, xor_zero_l}
use Rattle.std.proofs.lemmas.Nat.{pow_pos, xor_block}
use Rattle.std.proofs.lemmas.Option.{gets}
use Rattle.std.proofs.lemmas.List.{take_more, get_or-take, length-take-le}
use Rattle.s2cell.specs.Cell.{IsCell, level_of, place_of, child_of, size_of}
use Rattle.s2cell.proofs.Calls.{IsCell-child_of, IsCellAt-child_of}
use Rattle.s2cell.proofs.CellLemmas.{cell_leaves, size_of_cell}
use Rattle.s2cell.proofs.Lowest.{four_pow}
use Rattle.s2list.specs.Packed.{EndsBefore, IsFamily, IsPacked}
use Rattle.s2list.proofs.Checking.{fits}

-- a cell that comes after packed cells, and is not the last of four children
pub packed_more : (u : List ℕ) (k : ℕ) → k < length u → IsPacked (take k u) →
    IsCell (get_or u k 0) → (0 < k → EndsBefore (get_or u (k - 1) 0) (get_or u k 0)) → ((3 ≤ k) × (p : ℕ) × IsFamily
    (get_or u (k - 3) 0) (get_or u (k - 2) 0) (get_or u (k - 1) 0) (get_or u k 0) p → ⊥) → IsPacked (take (k + 1) u)
packed_more u k h packed own follows none =
    let len : length (take k u) ≡ k = length-take-le k u (omega arith) in
    let more : take (k + 1) u ≡ take k u ++ get_or u k 0 ∷ [] = take_more u k 0 h in
    let p : IsPacked (take k u ++ get_or u k 0 ∷ []) =
    fits (take k u) (get_or u k 0) packed own
    (λ s.
    let at : get_or (take k u) (length (take k u) - 1) 0 ≡ get_or u (k - 1) 0 =
    ap (λ n. get_or (take k u) (n - 1) 0) len ∙ get_or-take k u (k - 1) 0 (omega arith) in
    let f = follows (omega arith) in
    rw at f)
    (λ less p e f.
    let three : 3 ≤ k = omega arith in
    let a : get_or (take k u) less 0 ≡ get_or u (k - 3) 0 =
    ap (λ n. get_or (take k u) n 0) (less_is less k (e ∙ len)) ∙ get_or-take k u (k - 3) 0 (omega arith) in
    let b : get_or (take k u) (less + 1) 0 ≡ get_or u (k - 2) 0 =
    ap (λ n. get_or (take k u) n 0) (less_two less k (e ∙ len)) ∙ get_or-take k u (k - 2) 0 (omega arith) in
    let c : get_or (take k u) (less + 2) 0 ≡ get_or u (k - 1) 0 =
    ap (λ n. get_or (take k u) n 0) (less_one less k (e ∙ len)) ∙ get_or-take k u (k - 1) 0 (omega arith) in
    none (three, p, rw (a, b, c) at f)) in
    rw more p
  where
    less_is : (less k : ℕ) → less + 3 ≡ k → less ≡ k - 3
    less_is less k e = omega arith

    less_two : (less k : ℕ) → less + 3 ≡ k → less + 1 ≡ k - 2
    less_two less k e = omega arith

    less_one : (less k : ℕ) → less + 3 ≡ k → less + 2 ≡ k - 1
    less_one less k e = omega arith

-- of packed cells each comes after the one before it
pub follows_from : (u : List ℕ) (k : ℕ) → k < length u → IsPacked (take (k + 1) u) → 0 < k →
    EndsBefore (get_or u (k - 1) 0) (get_or u k 0)
follows_from u k h packed some =
    let len : length (take (k + 1) u) ≡ k + 1 = length-take-le (k + 1) u (omega arith) in
    let a : get_or (take (k + 1) u) (k - 1) 0 ≡ get_or u (k - 1) 0 = get_or-take (k + 1) u (k - 1) 0 (omega arith) in
    let b : get_or (take (k + 1) u) k 0 ≡ get_or u k 0 = get_or-take (k + 1) u k 0 (omega arith) in
    let c : EndsBefore (get_or (take (k + 1) u) (k - 1) 0) (get_or (take (k + 1) u) k 0) =
    packed.chain (k - 1) k 0 (omega arith) (omega arith) in
    rw (a, b) at c

-- and is that of a cell
pub cell_from : (u : List ℕ) (k : ℕ) → k < length u → IsPacked (take (k + 1) u) → IsCell (get_or u k 0)
cell_from u k h packed =
    let len : length (take (k + 1) u) ≡ k + 1 = length-take-le (k + 1) u (omega arith) in
    let b : get_or (take (k + 1) u) k 0 ≡ get_or u k 0 = get_or-take (k + 1) u k 0 (omega arith) in
    rw b at (packed.cells k 0 (omega arith))

-- no cell has the identifier 0
no_cell : IsCell 0 → ⊥
no_cell own =
    let l = cell_leaves 0 own in
    let m = l.middle in
    let s = l.some in
    absurd (omega arith)

-- so it is no child
pub no_family_from_zero : {a b c d p : ℕ} → a ≡ 0 → IsFamily a b c d p → ⊥
no_family_from_zero {a} {p} e f = no_cell (rw e at (IsCell-child_of p 0 a f.cell f.inner (omega arith) f.zero))

-- the exclusive-or of the first three of four children is the fourth
pub family_xor : {a b c d p : ℕ} → IsFamily a b c d p → bit_xor (bit_xor a b) c ≡ d
family_xor {a} {b} {c} {d} {p} f =
    let m = place_of p in
    let z = 30 - (level_of p + 1) in
    let s = 2 ^ (2 * z) in
    let w : 4 ^ z ≡ s = four_pow z in
    let eight : 2 ^ 3 ≡ 8 = refl in
    let ia : child_of p 0 ≡ (2 * (4 * m + 0) + 1) * s =
    rw w at (IsCellAt-child_of p 0 f.cell f.inner (omega arith)).id in
    let ib : child_of p 1 ≡ (2 * (4 * m + 1) + 1) * s =
    rw w at (IsCellAt-child_of p 1 f.cell f.inner (omega arith)).id in
    let ic : child_of p 2 ≡ (2 * (4 * m + 2) + 1) * s =
    rw w at (IsCellAt-child_of p 2 f.cell f.inner (omega arith)).id in
    let id : child_of p 3 ≡ (2 * (4 * m + 3) + 1) * s =
    rw w at (IsCellAt-child_of p 3 f.cell f.inner (omega arith)).id in
    let za = f.zero in
    let zb = f.one in
    let zc = f.two in
    let zd = f.three in
    let ea : a ≡ (m * 2 ^ 3 + 1) * s + 0 = omega arith in
    let eb : b ≡ (m * 2 ^ 3 + 3) * s + 0 = omega arith in
    let ec : c ≡ (m * 2 ^ 3 + 5) * s + 0 = omega arith in
    let ed : d ≡ (m * 2 ^ 3 + 7) * s + 0 = omega arith in
    let two : bit_xor (m * 2 ^ 3 + 1) (m * 2 ^ 3 + 3) ≡ 0 * 2 ^ 3 + 2 =
    xor_block 3 m m 1 3 (omega arith) (omega arith) ∙ ap (λ x. x * 2 ^ 3 + 2) (xor_self m) in
    let three : bit_xor (0 * 2 ^ 3 + 2) (m * 2 ^ 3 + 5) ≡ m * 2 ^ 3 + 7 =
    xor_block 3 0 m 2 5 (omega arith) (omega arith) ∙ ap (λ x. x * 2 ^ 3 + 7) (xor_zero_l m) in
    let ab : bit_xor a b ≡ (0 * 2 ^ 3 + 2) * s + 0 =
    rw (ea, eb) (xor_block (2 * z) (m * 2 ^ 3 + 1) (m * 2 ^ 3 + 3) 0 0 (pow_pos (2 * z)) (pow_pos (2 * z))
    ∙ ap (λ x. x * s + 0) two) in
    rw (ab, ec, ed) (xor_block (2 * z) (0 * 2 ^ 3 + 2) (m * 2 ^ 3 + 5) 0 0 (pow_pos (2 * z)) (pow_pos (2 * z))
    ∙ ap (λ x. x * s + 0) three)

-- and the first and the fourth differ in the two bits of the child
pub family_ends : {a b c d p : ℕ} → IsFamily a b c d p → bit_xor a d ≡ 6 * size_of d
family_ends {a} {b} {c} {d} {p} f =
    let m = place_of p in
    let z = 30 - (level_of p + 1) in
    let s = 2 ^ (2 * z) in
    let w : 4 ^ z ≡ s = four_pow z in
    let eight : 2 ^ 3 ≡ 8 = refl in
    let first = IsCellAt-child_of p 0 f.cell f.inner (omega arith) in
    let last = IsCellAt-child_of p 3 f.cell f.inner (omega arith) in
    let ia : child_of p 0 ≡ (2 * (4 * m + 0) + 1) * s = rw w at first.id in
    let id : child_of p 3 ≡ (2 * (4 * m + 3) + 1) * s = rw w at last.id in
    let size : size_of (child_of p 3) ≡ s = size_of_cell (level_of p + 1) (4 * m + 3) (child_of p 3) last ∙ w in
    let za = f.zero in
    let zd = f.three in
    let ea : a ≡ (m * 2 ^ 3 + 1) * s + 0 = omega arith in
    let ed : d ≡ (m * 2 ^ 3 + 7) * s + 0 = omega arith in
    let six : bit_xor (m * 2 ^ 3 + 1) (m * 2 ^ 3 + 7) ≡ 0 * 2 ^ 3 + 6 =
    xor_block 3 m m 1 7 (omega arith) (omega arith) ∙ ap (λ x. x * 2 ^ 3 + 6) (xor_self m) in
    let own : size_of d ≡ s = ap size_of zd ∙ size in
    rw own (rw (ea, ed) (xor_block (2 * z) (m * 2 ^ 3 + 1) (m * 2 ^ 3 + 7) 0 0 (pow_pos (2 * z)) (pow_pos (2 * z))
    ∙ ap (λ x. x * s + 0) six ∙ omega arith))

-- and no four in a row are the children of a cell
pub no_family : (u : List ℕ) (k : ℕ) {p : ℕ} → k < length u → IsPacked (take (k + 1) u) →
    3 ≤ k → IsFamily (get_or u (k - 3) 0) (get_or u (k - 2) 0) (get_or u (k - 1) 0) (get_or u k 0) p → ⊥
no_family u k {p} h packed three f =
    let len : length (take (k + 1) u) ≡ k + 1 = length-take-le (k + 1) u (omega arith) in
    let e : (k - 3) + 1 ≡ k - 2 = omega arith in
    let g : (k - 3) + 2 ≡ k - 1 = omega arith in
    let i : (k - 3) + 3 ≡ k = omega arith in
    let a : get_or (take (k + 1) u) (k - 3) 0 ≡ get_or u (k - 3) 0 = get_or-take (k + 1) u (k - 3) 0 (omega arith) in
    let b : get_or (take (k + 1) u) ((k - 3) + 1) 0 ≡ get_or u (k - 2) 0 =
    ap (λ n. get_or (take (k + 1) u) n 0) e ∙ get_or-take (k + 1) u (k - 2) 0 (omega arith) in
    let c : get_or (take (k + 1) u) ((k - 3) + 2) 0 ≡ get_or u (k - 1) 0 =
    ap (λ n. get_or (take (k + 1) u) n 0) g ∙ get_or-take (k + 1) u (k - 1) 0 (omega arith) in
    let d : get_or (take (k + 1) u) ((k - 3) + 3) 0 ≡ get_or u k 0 =
    ap (λ n. get_or (take (k + 1) u) n 0) i ∙ get_or-take (k + 1) u k 0 (omega arith) in
    packed.unmerged (k - 3) p (omega arith) (rw (a, b, c, d) f)

-- numbers that are cells at each place are all cells
pub cells_from_places : (u : List ℕ) → ((j : ℕ) → j < length u → IsCell (get_or u j 0)) → All IsCell u
cells_from_places u h i d l = let e : get_or u i d ≡ get_or u i 0 = grind (arith, gets) in rw e (h i l)
