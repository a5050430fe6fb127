-- The cell of the greatest level that contains two cells, by the highest bit in which they differ.
use Rattle.std.proofs.Common.{◌≡◌, ℕ, suc, ◌+◌, ◌-◌, ◌*◌, ◌/◌, ◌%◌, ◌^◌, ◌<◌, ◌≤◌, refl, sym}
use Rattle.std.proofs.Common.{◌∙◌, ap, arith, lit<, bit_xor, max}
use Rattle.std.proofs.Math.Logic.{⊎_elim}
use Rattle.std.proofs.Math.Nat.{pow-suc, pow-le-pow_right, div-eq_of_lt-le, mul-le-mul_right}
use Rattle.std.specs.Int.Bits.{xor_self}
use Rattle.std.specs.Int.Count.{count_leading_zeros}
use Rattle.std.proofs.lemmas.Bool.{cases_lt}
use Rattle.std.proofs.lemmas.Nat.{pow_pos, and_le_l, and_le_r, xor_block, xor_lt, mod_below, div-add-mod', leading_top}
use lib.Bits.{xor_add_and}
use Rattle.s2cell.specs.Cell.{IsCell, level_of, place_of, size_of, first_leaf, parent_of, face_of}
use Rattle.s2cell.specs.Neighbours.{IsCommonAncestor}
use Rattle.s2cell.proofs.Lowest.{four_pow}
use Rattle.s2cell.proofs.CellLemmas.{own_place, cell_leaves, first_leaf_of_cell}
use Rattle.s2cell.proofs.Calls.{size_at, shallow, IsCell-parent_of, face_bits}
use Rattle.s2cell.proofs.Leaves.{Within, inside_from_within, within_from_inside}
use Rattle.s2cell.proofs.Family.{parent_around, parent_level}

-- ---- bits

same_of_xor : (a b : ℕ) → bit_xor a b ≡ 0 → a ≡ b
same_of_xor a b e =
    let s = xor_add_and a b in
    let l = and_le_l a b in
    let r = and_le_r a b in
    omega arith

xor_parts : (a b e : ℕ) → bit_xor a b ≡ bit_xor (a / 2 ^ e) (b / 2 ^ e) * 2 ^ e + bit_xor (a % 2 ^ e) (b % 2 ^ e)
xor_parts a b e =
    let p = pow_pos e in
    ap (λ z. bit_xor z b) (sym (div-add-mod' a (2 ^ e)))
    ∙ ap (λ z. bit_xor (a / 2 ^ e * 2 ^ e + a % 2 ^ e) z) (sym (div-add-mod' b (2 ^ e)))
    ∙ xor_block e (a / 2 ^ e) (b / 2 ^ e) (a % 2 ^ e) (b % 2 ^ e) (mod_below a (2 ^ e) p) (mod_below b (2 ^ e) p)

-- two numbers differ in no bit from e on exactly if they have the same quotient
same_above : (a b e : ℕ) → bit_xor a b < 2 ^ e → a / 2 ^ e ≡ b / 2 ^ e
same_above a b e h =
    let parts = xor_parts a b e in
    let q = bit_xor (a / 2 ^ e) (b / 2 ^ e) in
    same_of_xor (a / 2 ^ e) (b / 2 ^ e) (⊎_elim
    (λ (l : 0 < q). absurd (let m : 1 * 2 ^ e ≤ q * 2 ^ e = mul-le-mul_right (2 ^ e) l in omega arith))
    (λ (l : q ≤ 0). omega arith) (cases_lt 0 q))

differ_below : (a b e : ℕ) → a / 2 ^ e ≡ b / 2 ^ e → bit_xor a b < 2 ^ e
differ_below a b e h =
    let p = pow_pos e in
    let zero_above : bit_xor (a / 2 ^ e) (b / 2 ^ e) * 2 ^ e ≡ 0 * 2 ^ e =
    ap (λ z. z * 2 ^ e) (ap (λ z. bit_xor z (b / 2 ^ e)) h ∙ xor_self (b / 2 ^ e)) in
    let parts = xor_parts a b e in
    let low = xor_lt e (a % 2 ^ e) (b % 2 ^ e) (mod_below a (2 ^ e) p) (mod_below b (2 ^ e) p) in
    omega arith

power_less : (h e : ℕ) → 2 ^ h < 2 ^ e → h < e
power_less h e l =
    ⊎_elim
    (λ (s : h < e). s)
    (λ (s : e ≤ h). let m : 2 ^ e ≤ 2 ^ h = pow-le-pow_right {n = 2} (lit< tt) {i = e} {j = h} s in
    absurd (omega arith))
    (cases_lt h e)

-- ---- what a cell around another has in common with it

-- the bits of an identifier above the marker of a level
abbrev above : ℕ → ℕ
above l = 2 * (30 - l) + 1

above_size : {d : ℕ} → IsCell d → 2 ^ above (level_of d) ≡ 2 * size_of d
above_size {d} c =
    let s = size_at d c in
    let f = four_pow (30 - level_of d) in
    let e : above (level_of d) ≡ suc (2 * (30 - level_of d)) = omega arith in
    rw (e, pow-suc 2 (2 * (30 - level_of d)), ← f, ← s) (omega arith)

-- a cell inside d has d's place in its upper bits
place_above : {a d : ℕ} → IsCell a → IsCell d → Within a d → a / 2 ^ above (level_of d) ≡ place_of d
place_above {a} {d} ca cd w =
    let la = cell_leaves a ca in
    let mid = la.middle in
    let some = la.some in
    let lo = w.low in
    let hi = w.high in
    let s = size_of d in
    let f : first_leaf d ≡ place_of d * s = first_leaf_of_cell (level_of d) (place_of d) d (own_place d cd)
    ∙ ap (λ z. place_of d * z) (sym (size_at d cd)) in
    rw (above_size cd) (div-eq_of_lt-le {k = place_of d} (2 * s) (omega arith) (omega arith))

size_below : {a d : ℕ} → IsCell a → IsCell d → Within a d → size_of a < 2 ^ above (level_of d)
size_below {d} ca cd w =
    let e = above_size cd in
    let lo = w.low in
    let hi = w.high in
    let some = (cell_leaves d cd).some in
    omega arith

level_at_most : {a : ℕ} (l : ℕ) → IsCell a → l ≤ 30 → size_of a < 2 ^ above l → l ≤ level_of a
level_at_most {a} l c h s =
    let e = size_at a c in
    let f = four_pow (30 - level_of a) in
    let p : 2 * (30 - level_of a) < above l = power_less (2 * (30 - level_of a)) (above l) (omega arith) in
    omega arith

same_cell : {c d : ℕ} → IsCell c → IsCell d → level_of c ≡ level_of d → place_of c ≡ place_of d → c ≡ d
same_cell {c} {d} cc cd l p = (own_place c cc).id ∙ rw (l, p) (sym (own_place d cd).id)

-- the parents of two cells at a level are the same if the cells differ only below its marker
same_parent : {a b : ℕ} (l : ℕ) →
    IsCell a → IsCell b → l ≤ level_of a → l ≤ level_of b → bit_xor a b < 2 ^ above l → parent_of a l ≡ parent_of b l
same_parent {a} {b} l ca cb ha hb x =
    let pa = IsCell-parent_of a l (parent_of a l) ca ha refl in
    let pb = IsCell-parent_of b l (parent_of b l) cb hb refl in
    let la = parent_level a l ca ha in
    let lb = parent_level b l cb hb in
    let qa : a / 2 ^ above l ≡ place_of (parent_of a l) =
    rw la at (place_above ca pa (parent_around a l ca ha)) in
    let qb : b / 2 ^ above l ≡ place_of (parent_of b l) =
    rw lb at (place_above cb pb (parent_around b l cb hb)) in
    same_cell pa pb (la ∙ sym lb) (sym qa ∙ same_above a b (above l) x ∙ qb)

-- ---- what the call computes

-- the highest bit of what two cells differ in and of their markers
pub record IsHighest (a b h : ℕ) : Type 0 where
  pub bits : bit_xor a b < 2 ^ suc h
  pub first : size_of a < 2 ^ suc h
  pub second : size_of b < 2 ^ suc h
  pub reached : (e : ℕ) → bit_xor a b < 2 ^ e → size_of a < 2 ^ e → size_of b < 2 ^ e → h < e

pub highest : {a : ℕ} (b sa sb x m : ℕ) → IsCell a → sa ≡ size_of a → sb ≡ size_of b →
    x ≡ max (bit_xor a b) sa → m ≡ max x sb → m < 2 ^ 64 → IsHighest a b (63 - count_leading_zeros 64 m)
highest {a} b sa sb x m ca ea eb ex em hm =
    let some = (cell_leaves a ca).some in
    let t = leading_top 64 m (omega arith) hm in
    let e : 63 - count_leading_zeros 64 m ≡ t.0 = (let z = t.1 in omega arith) in
    let low = t.2 in
    let high = t.3 in
    rw e (record {
      bits = omega arith;
      first = omega arith;
      second = omega arith;
      reached = λ z p q r. power_less t.0 z (omega arith);
    })

pub other_faces : {a b h : ℕ} → IsCell a → IsCell b → IsHighest a b h → 60 < h → face_of a ≡ face_of b → ⊥
other_faces {a} {b} ca cb top l e =
    let sa = size_at a ca in
    let fa = face_bits ca in
    let fb = face_bits cb in
    let qa : 4 ^ (30 - level_of a) ≤ 4 ^ 30 = pow-le-pow_right {n = 4} (lit< tt) {i = 30 - level_of a} {j = 30}
    (omega arith) in
    let qb : 4 ^ (30 - level_of b) ≤ 4 ^ 30 = pow-le-pow_right {n = 4} (lit< tt) {i = 30 - level_of b} {j = 30}
    (omega arith) in
    let sb = size_at b cb in
    let r = top.reached 61 (differ_below a b 61 (fa ∙ e ∙ sym fb)) (omega arith) (omega arith) in
    omega arith

pub same_face : {a b h : ℕ} → IsCell a → IsCell b → IsHighest a b h → h ≤ 60 → face_of a ≡ face_of b
same_face {a} {b} {h} ca cb top l =
    let p : 2 ^ suc h ≤ 2 ^ 61 = pow-le-pow_right {n = 2} (lit< tt) {i = suc h} {j = 61} (omega arith) in
    let x = top.bits in
    sym (face_bits ca) ∙ same_above a b 61 (omega arith) ∙ face_bits cb

-- the level whose marker is at the highest bit or just above it
abbrev level_at : ℕ → ℕ
level_at h = (60 - h) / 2

above_highest : (h : ℕ) → h ≤ 60 → 2 ^ suc h ≤ 2 ^ above (level_at h)
above_highest h l = pow-le-pow_right {n = 2} (lit< tt) {i = suc h} {j = above (level_at h)} (omega arith)

pub ancestor_level : {a b h : ℕ} → IsCell a → IsHighest a b h → h ≤ 60 → level_at h ≤ level_of a
ancestor_level {a} {h} ca top l =
    let p = above_highest h l in
    let s = top.first in
    level_at_most (level_at h) ca (omega arith) (omega arith)

pub common_ancestor_is : {a b h : ℕ} →
    IsCell a → IsCell b → IsHighest a b h → h ≤ 60 → IsCommonAncestor a b (parent_of a (level_at h))
common_ancestor_is {a} {b} {h} ca cb top l =
    let k = level_at h in
    let p = above_highest h l in
    let x = top.bits in
    let sb = top.second in
    let ha = ancestor_level ca top l in
    let hb : k ≤ level_of b = level_at_most k cb (omega arith) (omega arith) in
    let same = same_parent k ca cb ha hb (omega arith) in
    record {
      cell = IsCell-parent_of a k (parent_of a k) ca ha refl;
      first = inside_from_within a (parent_of a k) (parent_around a k ca ha);
      second = inside_from_within b (parent_of a k) (rw same (parent_around b k cb hb));
      greatest = λ d cd ia ib.
          let wa = within_from_inside a d ca ia in
          let wb = within_from_inside b d cb ib in
          let e = above (level_of d) in
          let one : a / 2 ^ e ≡ b / 2 ^ e = place_above ca cd wa ∙ sym (place_above cb cd wb) in
          let r : h < e = top.reached e (differ_below a b e one) (size_below ca cd wa) (size_below cb cd wb) in
          let lk = parent_level a k ca ha in
          let sh = shallow d cd in
          omega arith;
    }
