-- The numbers of a cell along the rows and the columns of its face, and the places of its leaves.
use Rattle.std.proofs.Common.{◌≡◌, sym, ap, ◌∙◌, ℕ, suc, ◌+◌, ◌-◌, ◌*◌, ◌/◌, ◌%◌, ◌^◌, ◌≤◌, ◌<◌, arith, true}
use Rattle.std.proofs.Common.{pow_pos, pow-add, pow-suc, lt_of_mul-lt-mul_right}
use Rattle.std.proofs.Math.Nat.{mul-div_cancel}
use Rattle.std.proofs.lemmas.Nat.{mod_below}
use Rattle.s2cell.specs.Cell.{IsCell, level_of, place_of, face_of, child_of, covers}
use Rattle.s2cell.specs.Curve.{i_of, j_of, i_within, j_within, quadrant}
use Rattle.s2cell.specs.Square.{IsSquareOf, IsPlacedCell, orientation_of}
use Rattle.s2cell.specs.declared.placed.PlacedCell.{PlacedCell}
use Rattle.s2cell.proofs.Calls.{face_bits}
use Rattle.s2cell.proofs.CellLemmas.{face_of_cell, four_pos, own_place}
use Rattle.s2cell.proofs.Places.{at_within, place_is}
use Rattle.s2cell.proofs.Quadrants.{quadrant_below}
use Rattle.s2cell.proofs.Quarters.{orientation_small, square_of_child}
use Rattle.s2cell.proofs.Squares.{block_of, in_block as block_in, one_place, one_square}
use Rattle.s2cell.proofs.Squares.{square_from_place}

-- a square whose sides are whole numbers of its size from the face's corner
pub record IsOnGrid (k i j size : ℕ) : Type 0 where
  pub most : k ≤ 30
  pub size_is : size ≡ 2 ^ k
  pub column : i ≡ i / size * size
  pub row : j ≡ j / size * size
  pub column_within : i / size < 2 ^ (30 - k)
  pub row_within : j / size < 2 ^ (30 - k)

on_grid : (k i j size x y : ℕ) → k ≤ 30 → size ≡ 2 ^ k → i ≡ x * 2 ^ k → j ≡ y * 2 ^ k → i + size ≤ 2 ^ 30
    → j + size ≤ 2 ^ 30
    → IsOnGrid k i j size
on_grid k i j size x y h s e f fi fj =
    let p = pow_pos k in
    let whole : 2 ^ (30 - k) * 2 ^ k ≡ 2 ^ 30 =
    sym (pow-add 2 (30 - k) k) ∙ ap (λ (t : ℕ). 2 ^ t) (let q : 30 - k + k ≡ 30 = omega arith in q) in
    let u : i / size ≡ x = ap (λ (t : ℕ). i / t) s ∙ ap (λ (t : ℕ). t / 2 ^ k) e ∙ mul-div_cancel x p in
    let v : j / size ≡ y = ap (λ (t : ℕ). j / t) s ∙ ap (λ (t : ℕ). t / 2 ^ k) f ∙ mul-div_cancel y p in
    let x_within : x < 2 ^ (30 - k) = lt_of_mul-lt-mul_right (2 ^ k) (omega (arith, whole, e, s, p, fi)) in
    let y_within : y < 2 ^ (30 - k) = lt_of_mul-lt-mul_right (2 ^ k) (omega (arith, whole, f, s, p, fj)) in
    record {
      most = h;
      size_is = s;
      column = e ∙ sym (ap (λ (t : ℕ). t * size) u ∙ ap (λ (t : ℕ). x * t) s);
      row = f ∙ sym (ap (λ (t : ℕ). t * size) v ∙ ap (λ (t : ℕ). y * t) s);
      column_within = rw u x_within;
      row_within = rw v y_within;
    }

pub size_some : {k i j size : ℕ} → IsOnGrid k i j size → 0 < size
size_some {k} g = let e = g.size_is in rw e (pow_pos k)

pub cell_on_grid : {c face i j size : ℕ} → IsCell c → IsSquareOf c face i j size → IsOnGrid (30 - level_of c) i j size
cell_on_grid {c} {face} {i} {j} {size} ic sq =
    let k = level_of c in
    let x = i_within k (face_of c % 2) (place_of c % 4 ^ k) in
    let y = j_within k (face_of c % 2) (place_of c % 4 ^ k) in
    let there = at_within k (face_of c % 2) (place_of c % 4 ^ k) (omega arith)
    (mod_below (place_of c) (4 ^ k) (four_pos k)) in
    let own = one_square c face i j size (face_of c) (x * 2 ^ (30 - k)) (y * 2 ^ (30 - k)) (2 ^ (30 - k)) ic sq
    (square_from_place c x y ic there) in
    on_grid (30 - k) i j size x y (omega arith) own.size own.first own.second sq.fits.0 sq.fits.1

pub face_within : {c face i j size : ℕ} → IsCell c → IsSquareOf c face i j size → face < 6
face_within {c} ic sq = let is = sq.face_is in rw (is, ← face_bits ic) (face_of_cell c ic)

pub level_within : (c : ℕ) → IsCell c → 30 - level_of c + level_of c ≡ 30
level_within c ic = let h = (own_place c ic).level in omega arith

-- ---- a child
-- the numbers of a child, from those of its parent
pub record IsQuarterOf (k i j size x y half : ℕ) : Type 0 where
  pub column : x / half / 2 ≡ i / size
  pub row : y / half / 2 ≡ j / size

halved_index : (i size q x half : ℕ) → 0 < half → size ≡ half * 2 → i ≡ i / size * size → q < 2 → x ≡ i + q * half
    → x / half / 2 ≡ i / size
halved_index i size q x half p s e hq f =
    let g : x ≡ (2 * (i / size) + q) * half = omega (arith, e, f, s, ap (λ (t : ℕ). i / size * t) s) in
    let h : x / half ≡ 2 * (i / size) + q = ap (λ (t : ℕ). t / half) g ∙ mul-div_cancel (2 * (i / size) + q) p in
    rw h (omega arith)

pub child_of_grid : {placed child : PlacedCell} (p : ℕ) → IsPlacedCell placed → IsPlacedCell child
    → level_of placed.cell < 30 → p < 4
    → child.cell ≡ child_of placed.cell p → level_of child.cell ≡ level_of placed.cell + 1
    → (child.square.face ≡ placed.square.face)
    × IsQuarterOf (30 - level_of placed.cell) placed.square.i placed.square.j placed.square.size child.square.i
    child.square.j child.square.size
child_of_grid {placed} {child} p h g deep hp is level =
    let q = quadrant (orientation_of placed.cell) p in
    let below = quadrant_below (orientation_of placed.cell) p (orientation_small placed.cell) hp in
    let made = square_of_child placed.cell p placed.square.face placed.square.i placed.square.j placed.square.size
    h.cell deep hp h.square in
    let own = rw (sym is) at made in
    let same = one_square child.cell child.square.face child.square.i child.square.j child.square.size
    placed.square.face
    (placed.square.i + q / 2 * (placed.square.size / 2)) (placed.square.j + q % 2 * (placed.square.size / 2))
    (placed.square.size / 2) g.cell g.square own in
    let grid = cell_on_grid h.cell h.square in
    let half = cell_on_grid g.cell g.square in
    let pos = pow_pos (30 - level_of child.cell) in
    let one : 30 - level_of placed.cell ≡ suc (30 - level_of child.cell) = omega arith in
    let two : placed.square.size ≡ child.square.size * 2 =
    grid.size_is ∙ ap (λ (t : ℕ). 2 ^ t) one ∙ pow-suc 2 (30 - level_of child.cell) ∙ ap (λ (t : ℕ). t * 2)
    (sym half.size_is) in
    let halves : placed.square.size / 2 ≡ child.square.size = omega arith in
    let some : 0 < child.square.size = rw half.size_is pos in (
      same.face,
      record {
        column = halved_index placed.square.i placed.square.size
            (q / 2) child.square.i child.square.size some two grid.column
            (omega arith) (same.first ∙ ap (λ (t : ℕ). placed.square.i + q / 2 * t) halves);
        row = halved_index placed.square.j placed.square.size (q % 2) child.square.j child.square.size some two grid.row
            (omega arith) (same.second ∙ ap (λ (t : ℕ). placed.square.j + q % 2 * t) halves);
      },
    )

-- ---- leaves
-- the leaf `n` of a cell has its place in the cell's square
pub record IsLeafAt (face k i j size n : ℕ) : Type 0 where
  pub face_is : n / 4 ^ 30 ≡ face
  pub column : i_of n / 2 ^ k ≡ i / size
  pub row : j_of n / 2 ^ k ≡ j / size

index_in : (k i size x : ℕ) → size ≡ 2 ^ k → i ≡ i / size * size → i ≤ x → x < i + size → x / 2 ^ k ≡ i / size
index_in k i size x s e h l =
    block_of x (i / size) (2 ^ k) (omega (arith, e, s, ap (λ (t : ℕ). i / size * t) s))
    (omega (arith, e, s, ap (λ (t : ℕ). i / size * t) s))

pub leaf_at : {c face i j size : ℕ} (n : ℕ) → IsCell c → IsSquareOf c face i j size → covers c n ≡ true
    → IsLeafAt face (30 - level_of c) i j size n
leaf_at {c} {face} {i} {j} {size} n ic sq h =
    let grid = cell_on_grid ic sq in
    let there = sq.leaves n h in
    let same = one_place n (n / 4 ^ 30) (i_of n) (j_of n) face there.0 there.1 (place_is n) there.2 in
    let inside = there.3 in
    record {
      face_is = same.0;
      column = rw same.1 (index_in (30 - level_of c) i size there.0 grid.size_is grid.column inside.first.0
          inside.first.1);
      row = rw same.2 (index_in (30 - level_of c) j size there.1 grid.size_is grid.row inside.second.0 inside.second.1);
    }

-- the leaf of a cell at a place
pub record LeafOf (c face x y : ℕ) : Type 0 where
  pub leaf : ℕ
  pub covered : covers c leaf ≡ true
  pub face_is : leaf / 4 ^ 30 ≡ face
  pub column : i_of leaf ≡ x
  pub row : j_of leaf ≡ y

index_out : (k i size x : ℕ) → size ≡ 2 ^ k → i ≡ i / size * size → x / 2 ^ k ≡ i / size → (i ≤ x) × (x < i + size)
index_out k i size x s e h =
    let p = pow_pos k in
    let b = block_in x (i / size) (2 ^ k) h p in
    (omega (arith, e, s, b.0, ap (λ (t : ℕ). i / size * t) s), omega (arith, e, s, b.1, ap (λ (t : ℕ). i / size * t) s))

pub leaf_of : {c face i j size : ℕ} (x y : ℕ) → IsCell c → IsSquareOf c face i j size
    → x / 2 ^ (30 - level_of c) ≡ i / size → y / 2 ^ (30 - level_of c) ≡ j / size → LeafOf c face x y
leaf_of {c} {face} {i} {j} {size} x y ic sq e f =
    let grid = cell_on_grid ic sq in
    let leaf = sq.places x y (record {
      first = index_out (30 - level_of c) i size x grid.size_is grid.column e;
      second = index_out (30 - level_of c) j size y grid.size_is grid.row f;
    }) in
    let same = one_place leaf.0 (leaf.0 / 4 ^ 30) (i_of leaf.0) (j_of leaf.0) face x y (place_is leaf.0) leaf.2 in
    record { leaf = leaf.0; covered = leaf.1; face_is = same.0; column = same.1; row = same.2 }
