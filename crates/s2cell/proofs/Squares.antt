-- The square of a cell: the places of its leaves on its face.
use Rattle.std.proofs.Common.{◌≡◌, ℕ, ◌+◌, ◌-◌, ◌*◌, ◌/◌, ◌%◌, ◌^◌, ◌<◌, ◌≤◌, refl, sym}
use Rattle.std.proofs.Common.{◌∙◌, ap, arith, subst, bit_and, true}
use Rattle.std.proofs.Math.Nat.{div-eq_of_lt-le, mul-le-mul_right}
use Rattle.std.proofs.lemmas.Nat.{pow_pos, pow-add, pow_below, one_shl, div-mul-add, mod-mul-add, mod_below}
use Rattle.std.proofs.lemmas.Nat.{div-add-mod'}
use Rattle.std.proofs.lemmas.Nat.Bits.{and_high_mask}
use Rattle.s2cell.specs.Cell.{IsCell, IsCellAt, level_of, place_of, face_of, first_leaf, covers}
use Rattle.s2cell.specs.Curve.{At, IsPlaceOf, AreNeighbours, i_within, j_within}
use Rattle.s2cell.specs.Square.{InSquare, IsSquareOf}
use Rattle.s2cell.specs.declared.TheConstants.{LEAVES}
use Rattle.s2cell.proofs.CellLemmas.{four_pos, own_place, cell_leaves, first_leaf_of_cell, size_of_cell, level_of_cell}
use Rattle.s2cell.proofs.CellLemmas.{all_leaves}
use Rattle.s2cell.proofs.Calls.{leaf_cell}
use Rattle.s2cell.proofs.Leaves.{covers_there, covers_from}
use Rattle.s2cell.proofs.Levels.{at_bounds, at_above, parts}
use Rattle.s2cell.proofs.Places.{same_place, same_leaf, same_parts, at_within, leaf_exists}
use Rattle.s2cell.proofs.Steps.{next_to}

-- ---- the leaves of a cell, counted from the first leaf of its face

-- the leaf `n` of the cell at the place `m` of level `k`
record IsLeafOf (k m n : ℕ) : Type 0 where
  face : n / 4 ^ 30 ≡ m / 4 ^ k
  within : n % 4 ^ 30 / 4 ^ (30 - k) ≡ m % 4 ^ k

leaf_below : (k m n : ℕ) → k ≤ 30 → n / 4 ^ (30 - k) ≡ m → IsLeafOf k m n
leaf_below k m n hk e =
    let p = parts n (4 ^ k) (4 ^ (30 - k)) (four_pos k) (four_pos (30 - k)) in
    let w = all_leaves k hk in
    record {
      face = ap (λ z. n / z) (sym w) ∙ p.whole ∙ ap (λ z. z / 4 ^ k) e;
      within = ap (λ z. n % z / 4 ^ (30 - k)) (sym w) ∙ p.middle ∙ ap (λ z. z % 4 ^ k) e;
    }

leaf_above : {k m n : ℕ} → k ≤ 30 → IsLeafOf k m n → n / 4 ^ (30 - k) ≡ m
leaf_above {k} {m} {n} hk l =
    let p = parts n (4 ^ k) (4 ^ (30 - k)) (four_pos k) (four_pos (30 - k)) in
    let w = all_leaves k hk in
    same_parts (n / 4 ^ (30 - k))
    m (4 ^ k) (sym p.whole ∙ ap (λ z. n / z) w ∙ l.face) (sym p.middle ∙ ap (λ z. n % z / 4 ^ (30 - k)) w ∙ l.within)

-- a number in a block of s, found by its quotient
pub in_block : (x i s : ℕ) → x / s ≡ i → 0 < s → (i * s ≤ x) × (x < i * s + s)
in_block x i s e hs =
    let a = div-add-mod' x s in
    let b = mod_below x s hs in
    let c : x / s * s ≡ i * s = ap (λ z. z * s) e in
    (omega arith, omega arith)

pub block_of : (x i s : ℕ) → i * s ≤ x → x < i * s + s → x / s ≡ i
block_of x i s low high = div-eq_of_lt-le {k = i} s low (omega arith)

pub covered_block : (c k m n : ℕ) → IsCellAt k m c → covers c n ≡ true → n / 4 ^ (30 - k) ≡ m
covered_block c k m n i h =
    let r = covers_from c n h in
    let f = first_leaf_of_cell k m c i in
    let s = size_of_cell k m c i in
    block_of n m (4 ^ (30 - k)) (omega arith) (omega arith)

pub covers_block : (c k m n : ℕ) → IsCellAt k m c → n / 4 ^ (30 - k) ≡ m → covers c n ≡ true
covers_block c k m n i e =
    let b = in_block n m (4 ^ (30 - k)) e (four_pos (30 - k)) in
    let f = first_leaf_of_cell k m c i in
    let s = size_of_cell k m c i in
    covers_there c n (omega arith) (omega arith)

-- ---- the square of a cell

mul-add-le : (x w s : ℕ) → x < w → x * s + s ≤ w * s
mul-add-le x w s h = let a = mul-le-mul_right {m = x + 1} {n = w} s (omega arith) in omega arith

-- the cell is at x, y among the squares of its level
pub square_from_place : (c x y : ℕ) → IsCell c → At (level_of c) (face_of c % 2) (place_of c % 4 ^ level_of c) x y
    → IsSquareOf c (face_of c) (x * 2 ^ (30 - level_of c)) (y * 2 ^ (30 - level_of c)) (2 ^ (30 - level_of c))
unfolding face_of
square_from_place c x y ic way =
    let own = own_place c ic in
    let k = level_of c in
    let m = place_of c in
    let b = 30 - k in
    let f = m / 4 ^ k in
    let o = f % 2 in
    let ho : o < 4 = omega arith in
    let hk = own.level in
    let ek : 30 ≡ k + b = omega arith in
    let hs = pow_pos b in
    let w = at_bounds k o (m % 4 ^ k) x y way in
    let all : 2 ^ k * 2 ^ b ≡ 2 ^ 30 = sym (pow-add 2 k b) ∙ ap (λ z. 2 ^ z) (sym ek) in
    let fx : x * 2 ^ b + 2 ^ b ≤ 2 ^ k * 2 ^ b = mul-add-le x (2 ^ k) (2 ^ b) w.first in
    let fy : y * 2 ^ b + 2 ^ b ≤ 2 ^ k * 2 ^ b = mul-add-le y (2 ^ k) (2 ^ b) w.second in
    record {
      face_is = refl;
      size_is = refl;
      fits = (omega arith, omega arith);
      leaves = λ n h.
          let l = leaf_below k m n hk (covered_block c k m n own h) in
          let low : n % 4 ^ 30 < 4 ^ 30 = omega arith in
          let there = at_within 30 o (n % 4 ^ 30) ho low in
          let u = i_within 30 o (n % 4 ^ 30) in
          let v = j_within 30 o (n % 4 ^ 30) in
          let up = at_above k b o (n % 4 ^ 30) u v (subst (λ (z : ℕ). At z o (n % 4 ^ 30) u v) ek there) in
          let same = same_place k o (m % 4 ^ k) (u / 2 ^ b) (v / 2 ^ b) x y
          (subst (λ (z : ℕ). At k o z (u / 2 ^ b) (v / 2 ^ b)) l.within up) way in (
            u,
            v,
            record { face_is = sym l.face; at = there },
            record { first = in_block u x (2 ^ b) same.0 hs; second = in_block v y (2 ^ b) same.1 hs },
          );
      places = λ u v h.
          let a = h.first.1 in
          let d = h.second.1 in
          let there = leaf_exists 30 o u v ho (omega arith) (omega arith) in
          let n = there.0 in
          let low : n < 4 ^ 30 = (at_bounds 30 o n u v there.1).leaf in
          let eu : u / 2 ^ b ≡ x = block_of u x (2 ^ b) h.first.0 h.first.1 in
          let ev : v / 2 ^ b ≡ y = block_of v y (2 ^ b) h.second.0 h.second.1 in
          let up = at_above k b o n u v (subst (λ (z : ℕ). At z o n u v) ek there.1) in
          let same = same_leaf k o (n / 4 ^ b) (m % 4 ^ k) x y ho (rw (eu, ev) at up) way in
          let whole : (f * 4 ^ 30 + n) / 4 ^ 30 ≡ f = div-mul-add f (4 ^ 30) n low in
          let rest : (f * 4 ^ 30 + n) % 4 ^ 30 ≡ n = mod-mul-add f (4 ^ 30) n low in
          let l : IsLeafOf k m (f * 4 ^ 30 + n) = record { face = whole; within = ap (λ z. z / 4 ^ b) rest ∙ same } in (
            f * 4 ^ 30 + n,
            covers_block c k m (f * 4 ^ 30 + n) own (leaf_above hk l),
            record { face_is = sym whole; at = rw rest there.1 },
          );
    }

-- ---- a leaf has one place, and a place one leaf

pub one_place : (n f x y g u v : ℕ) → IsPlaceOf n f x y → IsPlaceOf n g u v → (f ≡ g) × (x ≡ u) × (y ≡ v)
one_place n f x y g u v a b =
    let e : f ≡ g = a.face_is ∙ sym b.face_is in
    let s = same_place 30 (f % 2) (n % 4 ^ 30) x y u v a.at
    (subst (λ (z : ℕ). At 30 (z % 2) (n % 4 ^ 30) u v) (sym e) b.at) in
    (e, s.0, s.1)

pub one_leaf : (n m f x y : ℕ) → IsPlaceOf n f x y → IsPlaceOf m f x y → n ≡ m
one_leaf n m f x y a b =
    same_parts n m (4 ^ 30) (sym a.face_is ∙ b.face_is)
    (same_leaf 30 (f % 2) (n % 4 ^ 30) (m % 4 ^ 30) x y (omega arith) a.at b.at)

-- ---- a cell has one square

least : {c f i j s g u v t : ℕ} → IsCell c → IsSquareOf c f i j s → IsSquareOf c g u v t → (u ≤ i) × (v ≤ j)
least {c} {f} {i} {j} {g} ic a b =
    let hs = pow_pos (30 - level_of c) in
    let es = a.size_is in
    let leaf = a.places i j (record { first = (omega arith, omega arith); second = (omega arith, omega arith) }) in
    let there = b.leaves leaf.0 leaf.1 in
    let same = one_place leaf.0 f i j g there.0 there.1 leaf.2 there.2 in
    let x = there.3.first.0 in
    let y = there.3.second.0 in
    let ex = same.1 in
    let ey = same.2 in
    (omega arith, omega arith)

pub record SameSquare (f i j s g u v t : ℕ) : Type 0 where
  pub face : f ≡ g
  pub first : i ≡ u
  pub second : j ≡ v
  pub size : s ≡ t

pub one_square : (c f i j s g u v t : ℕ) → IsCell c → IsSquareOf c f i j s → IsSquareOf c g u v t →
    SameSquare f i j s g u v t
one_square c f i j s g u v t ic a b =
    let l = least ic a b in
    let m = least ic b a in
    let l0 = l.0 in
    let l1 = l.1 in
    let m0 = m.0 in
    let m1 = m.1 in
    record {
      face = a.face_is ∙ sym b.face_is;
      first = omega arith;
      second = omega arith;
      size = a.size_is ∙ sym b.size_is;
    }

-- a leaf of the face lies in the cell exactly if its place lies in the square
pub place_in_square : {c f i j s n x y : ℕ} →
    IsSquareOf c f i j s → IsPlaceOf n f x y → covers c n ≡ true → InSquare i j s x y
place_in_square {f} {n} {x} {y} q p h =
    let there = q.leaves n h in
    let same = one_place n f x y f there.0 there.1 p there.2 in
    rw (same.1, same.2) there.3

pub leaf_in_cell : {c f i j s n x y : ℕ} →
    IsSquareOf c f i j s → IsPlaceOf n f x y → InSquare i j s x y → covers c n ≡ true
leaf_in_cell {f} {n} {x} {y} q p h =
    let there = q.places x y h in
    rw (one_leaf n there.0 f x y p there.2) there.1

-- ---- what the calls compute

-- the leaf with a number
pub record IsLeafNumbered (x id : ℕ) : Type 0 where
  pub cell : IsCell id
  pub level : level_of id ≡ 30
  pub first : first_leaf id ≡ x

pub leaf_numbered : (x id : ℕ) → x < LEAVES → id ≡ 2 * x + 1 → IsLeafNumbered x id
leaf_numbered x id h e =
    let i : IsCellAt 30 x id = rw e (leaf_cell x h) in
    record { cell = (30, x, i); level = level_of_cell 30 x id i; first = first_leaf_of_cell 30 x id i ∙ omega arith }

-- the leaf `n` of the face `f`
pub place_of_leaf : (f n i j : ℕ) → At 30 (f % 2) n i j → IsPlaceOf (4 ^ 30 * f + n) f i j
place_of_leaf f n i j at =
    let low = (at_bounds 30 (f % 2) n i j at).leaf in
    let whole : (4 ^ 30 * f + n) / 4 ^ 30 ≡ f = omega arith in
    let rest : (4 ^ 30 * f + n) % 4 ^ 30 ≡ n = omega arith in
    record { face_is = sym whole; at = rw rest at }

-- a cell has a leaf
pub first_leaf_covered : (c : ℕ) → IsCell c → covers c (first_leaf c) ≡ true
first_leaf_covered c ic = let s = (cell_leaves c ic).some in covers_there c (first_leaf c) (omega arith) (omega arith)

-- from the place of the cell's first leaf
pub square_from_leaf : {c : ℕ} (x y : ℕ) → IsCell c → At 30 (face_of c % 2) (first_leaf c % 4 ^ 30) x y →
    IsSquareOf c (face_of c) (x / 2 ^ (30 - level_of c) * 2 ^ (30 - level_of c))
    (y / 2 ^ (30 - level_of c) * 2 ^ (30 - level_of c)) (2 ^ (30 - level_of c))
square_from_leaf {c} x y ic at =
    let own = own_place c ic in
    let k = level_of c in
    let b = 30 - k in
    let hk = own.level in
    let ek : 30 ≡ k + b = omega arith in
    let l = leaf_below k (place_of c) (first_leaf c) hk
    (covered_block c k (place_of c) (first_leaf c) own (first_leaf_covered c ic)) in
    let up = at_above k b (face_of c % 2) (first_leaf c % 4 ^ 30) x y
    (subst (λ (z : ℕ). At z (face_of c % 2) (first_leaf c % 4 ^ 30) x y) ek at) in
    square_from_place c (x / 2 ^ b) (y / 2 ^ b) ic (rw l.within at up)

-- the lowest bits of a coordinate cleared
pub cleared : (x b size neg : ℕ) → b ≤ 30 → x < 2 ^ 30 → size ≡ 2 ^ b → neg < 2 ^ 32 → (neg + size) % 2 ^ 32 ≡ 0 →
    bit_and x neg ≡ x / 2 ^ b * 2 ^ b
cleared x b size neg hb hx es hn e =
    let p = pow_pos b in
    let small : 2 ^ b < 2 ^ 32 = pow_below b 32 (omega arith) in
    let en : neg ≡ 2 ^ 32 - 2 ^ b = omega arith in
    rw en (and_high_mask 32 b (omega arith) x (omega arith))

pub square_of_leaf : {c f i j s : ℕ} →
    IsCell c → IsSquareOf c f i j s → level_of c ≡ 30 → IsPlaceOf (first_leaf c) f i j × (s ≡ 1)
square_of_leaf {c} {i} {j} {s} ic q e =
    let one : s ≡ 1 = q.size_is ∙ ap (λ z. 2 ^ (30 - z)) e in
    let there = q.leaves (first_leaf c) (first_leaf_covered c ic) in
    let x = there.3.first in
    let y = there.3.second in
    let ex : there.0 ≡ i = omega arith in
    let ey : there.1 ≡ j = omega arith in
    (rw (ex, ey) at there.2, one)

-- the next leaf of the face lies beside a leaf
pub next_beside : (n f x y u v : ℕ) → IsPlaceOf n f x y → IsPlaceOf (n + 1) f u v → AreNeighbours x y u v
next_beside n f x y u v a b =
    let fa = a.face_is in
    let fb = b.face_is in
    let e : (n + 1) % 4 ^ 30 ≡ n % 4 ^ 30 + 1 = omega arith in
    next_to 30 (f % 2) (n % 4 ^ 30) x y u v (omega arith) a.at (rw e at b.at)

-- the square by the calls' results: the face, the first leaf's place and the masks
pub square_computed : {c : ℕ} (f n k x y e g : ℕ) → IsCell c → f ≡ face_of c →
    n ≡ first_leaf c → k ≡ level_of c → k ≤ 30 → At 30 (f % 2) (n % 4 ^ 30) x y → x < 2 ^ 30 → y < 2 ^ 30 → e < 2 ^ 32 →
    (e + 1 * 2 ^ (30 - k) % 2 ^ 32) % 2 ^ 32 ≡ 0 → g < 2 ^ 32 → (g + 1 * 2 ^ (30 - k) % 2 ^ 32) % 2 ^ 32 ≡ 0 →
    IsSquareOf c f (bit_and x e) (bit_and y g) (1 * 2 ^ (30 - k) % 2 ^ 32)
square_computed {c} f n k x y e g ic ef en ek hk at hx hy he me hg mg =
    let b = 30 - k in
    let s : 1 * 2 ^ b % 2 ^ 32 ≡ 2 ^ b = one_shl b 32 (omega arith) in
    let ex = cleared x b (1 * 2 ^ b % 2 ^ 32) e (omega arith) hx s he me in
    let ey = cleared y b (1 * 2 ^ b % 2 ^ 32) g (omega arith) hy s hg mg in
    rw (s, ex, ey, ef, ek) (square_from_leaf x y ic (rw (ef, en) at at))
