-- The rectangle of a cell, from its square.
use Rattle.std.proofs.Common.{◌≡◌, ℕ, ◌+◌, ◌-◌, ◌*◌, ◌/◌, ◌%◌, ◌^◌, ◌<◌, ◌≤◌, refl, ◌∙◌, ap, arith}
use Rattle.std.proofs.Math.Logic.{⊎_elim}
use Rattle.std.proofs.lemmas.Bool.{cases_lt}
use Rattle.std.proofs.lemmas.Nat.{pow-add, mod_below, div_below}
use Rattle.s2cell.specs.Cell.{IsCell, IsCellAt, level_of, place_of, face_of, parent_of}
use Rattle.s2cell.specs.Curve.{i_within, j_within}
use Rattle.s2cell.specs.Square.{IsSquareOf}
use Rattle.s2cell.proofs.CellLemmas.{own_place, four_pos, level_of_cell}
use Rattle.s2cell.proofs.Calls.{IsCellAt-parent_of}
use Rattle.s2cell.proofs.Places.{at_within}
use Rattle.s2cell.proofs.Squares.{square_from_place, one_square}
use Rattle.s2draw.specs.Rectangles.{IsRectangleOf, side_of, left_of, top_of, seen}

-- the coordinates of a cell among the squares of its level
abbrev pub across : ℕ → ℕ
across c = i_within (level_of c) (face_of c % 2) (place_of c % 4 ^ level_of c)

abbrev pub along : ℕ → ℕ
along c = j_within (level_of c) (face_of c % 2) (place_of c % 4 ^ level_of c)

-- the square of a cell, by them
pub grid_square : {c : ℕ} → IsCell c → IsSquareOf c (face_of c) (across c * 2 ^ (30 - level_of c))
    (along c * 2 ^ (30 - level_of c)) (2 ^ (30 - level_of c))
grid_square {c} ic =
    let k = level_of c in
    square_from_place c (across c) (along c) ic (at_within k (face_of c % 2) (place_of c % 4 ^ k) (omega arith)
    (mod_below (place_of c) (4 ^ k) (four_pos k)))

pub face_small : {c : ℕ} → IsCell c → face_of c < 6
unfolding face_of
face_small {c} ic = let own = own_place c ic in
    div_below (place_of c) (4 ^ level_of c) 6 (four_pos (level_of c)) own.place

-- the leaves along a cell's side are those of its units
side_leaves : (k : ℕ) → k ≤ 9 → 2 ^ (30 - k) ≡ 1048576 * 2 ^ (10 - k)
side_leaves k h = let e : 30 - k ≡ 20 + (10 - k) = omega arith in ap (λ z. 2 ^ z) e ∙ pow-add 2 20 (10 - k)

-- the square, in units of 2^20 leaves
pub record Units (c f i j s : ℕ) : Type 0 where
  pub face : f ≡ face_of c
  pub low_face : f < 6
  pub side : s ≡ 1048576 * side_of c
  pub first : i ≡ 1048576 * (side_of c * across c)
  pub second : j ≡ 1048576 * (side_of c * along c)
  pub within : side_of c * across c + side_of c ≤ 1024
  pub below : side_of c * along c + side_of c ≤ 1024

pub units : {c f i j s : ℕ} → IsCell c → level_of c ≤ 9 → IsSquareOf c f i j s → Units c f i j s
units {c} {f} {i} {j} {s} ic h q =
    let k = level_of c in
    let g = grid_square ic in
    let same = one_square c f i j s (face_of c) (across c * 2 ^ (30 - k)) (along c * 2 ^ (30 - k)) (2 ^ (30 - k))
    ic q g in
    let e = side_leaves k h in
    let ef = same.face in
    let low = face_small ic in
    let ri : i ≡ across c * (1048576 * side_of c) = rw e at same.first in
    let rj : j ≡ along c * (1048576 * side_of c) = rw e at same.second in
    let ei : i ≡ 1048576 * (side_of c * across c) = omega arith in
    let ej : j ≡ 1048576 * (side_of c * along c) = omega arith in
    let es : s ≡ 1048576 * side_of c = same.size ∙ e in
    let fx = q.fits.0 in
    let fy = q.fits.1 in
    record {
      face = ef;
      low_face = omega arith;
      side = es;
      first = ei;
      second = ej;
      within = omega arith;
      below = omega arith;
    }

-- what is computed of the square, by its face `n`
pub record Computed (c n i j s : ℕ) : Type 0 where
  pub rows : n / 2 ≤ 3
  pub fits : (j + s) / 1048576 ≤ 1024 * (3 - n / 2)
  pub left : 1024 * ((n + 1) / 2) + i / 1048576 ≡ left_of c
  pub top : 1024 * (3 - n / 2) - (j + s) / 1048576 ≡ top_of c
  pub side : s / 1048576 ≡ side_of c
  pub within : (1024 * ((n + 1) / 2) + i / 1048576 ≤ 4096) × (1024 * (3 - n / 2) - (j + s) / 1048576 ≤ 3072)
      × (s / 1048576 ≤ 1024)

pub computed : {c f n i j s : ℕ} →
    IsCellAt (level_of c) (place_of c) c → level_of c ≤ 9 → IsSquareOf c f i j s → n ≡ f → Computed c n i j s
computed {c} {f} {n} {i} {j} {s} own h q en =
    let u = units (level_of c, place_of c, own) h q in
    let low = u.low_face in
    let ef : n ≡ face_of c = en ∙ u.face in
    let w = u.within in
    let b = u.below in
    let ei : i / 1048576 ≡ side_of c * across c = let e = u.first in omega arith in
    let es : s / 1048576 ≡ side_of c = let e = u.side in omega arith in
    let ej : (j + s) / 1048576 ≡ side_of c * (along c + 1) = let e = u.second in let e2 = u.side in omega arith in
    record {
      rows = omega arith;
      fits = omega arith;
      left = rw (ei, ef) refl;
      top = rw (ej, ef) refl;
      side = es;
      within = (omega arith, omega arith, omega arith);
    }

-- a cell's rectangle is exactly its square
pub exact : {c : ℕ} → IsCell c → level_of c ≤ 9 → IsRectangleOf c (left_of c) (top_of c) (side_of c)
exact {c} ic h =
    let g = grid_square ic in
    let u = units ic h g in
    let e1 = u.side in
    let e2 = u.first in
    let e3 = u.second in
    let low = u.low_face in
    let b = u.below in
    record {
      face = face_of c;
      i = across c * 2 ^ (30 - level_of c);
      j = along c * 2 ^ (30 - level_of c);
      size = 2 ^ (30 - level_of c);
      square = g;
      left_is = omega arith;
      top_is = omega arith;
      side_is = omega arith;
    }

pub IsCell-seen : {c : ℕ} → IsCell c → IsCell (seen c) × (level_of (seen c) ≤ 9)
IsCell-seen {c} ic =
    ⊎_elim
    (λ deep. let p = IsCellAt-parent_of c 9 ic (omega arith) in
    let e : seen c ≡ parent_of c 9 = search (arith, deep) in
    rw e ((9, place_of c / 4 ^ (level_of c - 9), p), omega (arith, level_of_cell 9 _ (parent_of c 9) p)))
    (λ low. let e : seen c ≡ c = search (arith, low) in rw e (ic, low))
    (cases_lt 9 (level_of c))
