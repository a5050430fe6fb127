-- The squares of cells on the unfolded faces.
use Rattle.std.proofs.Common.{◌≡◌, ℕ, ◌+◌, ◌-◌, ◌*◌, ◌/◌, ◌^◌, ◌≤◌, refl, ◌∙◌, ap, sym, arith}
use Rattle.std.proofs.Math.Logic.{⊎_elim}
use Rattle.std.proofs.Math.Nat.{mul_comm, mul-sub}
use Rattle.std.proofs.lemmas.Bool.{cases_lt}
use Rattle.std.proofs.lemmas.Nat.{pow-add, shl-shr}
use Rattle.s2cell.specs.Cell.{IsCell, IsCellAt, level_of, place_of, face_of, parent_of}
use Rattle.s2cell.specs.Square.{IsSquareOf}
use Rattle.s2cell.proofs.CellLemmas.{level_of_cell}
use Rattle.s2cell.proofs.Calls.{IsCellAt-parent_of}
use Rattle.s2cell.proofs.Squares.{one_square}
use Rattle.s2draw.specs.declared.zoom.Part.{Part}
use Rattle.s2draw.specs.Rectangles.{column, row}
use Rattle.s2draw.specs.Zoom.{i_of, j_of, size_of, seen_at, IsPart, IsShownExactly}
use Rattle.s2draw.proofs.Shapes.{across, along, grid_square, face_small}

-- what is computed of the square of a cell, by its face `n`, its coordinates `a` and `b`, and its side `d`
pub record Boxed (c n a b d : ℕ) : Type 0 where
  pub rows : n / 2 ≤ 3
  pub first : b ≤ 1073741824 * (3 - n / 2)
  pub second : d ≤ 1073741824 * (3 - n / 2) - b
  pub face : n ≡ face_of c
  pub i_is : a ≡ i_of c
  pub j_is : b ≡ j_of c
  pub size_is : d ≡ size_of c
  pub within : (1073741824 * ((n + 1) / 2) + a + d ≤ 4294967296) × (1073741824 * (3 - n / 2) - b ≤ 4294967296)

pub boxed : {c f i j s n a b d : ℕ} → IsCellAt (level_of c) (place_of c) c → IsSquareOf c f i j s → n ≡ f → a ≡ i →
    b ≡ j → d ≡ s → Boxed c n a b d
boxed {c} {f} {i} {j} {s} {n} {a} {b} {d} own q en ea eb ed =
    let ic : IsCell c = (level_of c, place_of c, own) in
    let k = level_of c in
    let same = one_square c f i j s (face_of c) (across c * 2 ^ (30 - k)) (along c * 2 ^ (30 - k)) (2 ^ (30 - k))
    ic q (grid_square ic) in
    let ef : n ≡ face_of c = en ∙ same.face in
    let low = face_small ic in
    let fx = q.fits.0 in
    let fy = q.fits.1 in
    record {
      rows = omega arith;
      first = omega arith;
      second = omega arith;
      face = ef;
      i_is = ea ∙ same.first;
      j_is = eb ∙ same.second;
      size_is = ed ∙ same.size;
      within = (omega arith, omega arith);
    }

pub IsCell-seen_at : (d : ℕ) {c : ℕ} → d ≤ 30 → IsCell c → IsCell (seen_at d c) × (level_of (seen_at d c) ≤ d)
IsCell-seen_at d {c} low ic =
    ⊎_elim
    (λ deep. let p = IsCellAt-parent_of c d ic (omega arith) in
    let e : seen_at d c ≡ parent_of c d = search (arith, deep) in
    rw e ((d, place_of c / 4 ^ (level_of c - d), p), omega (arith, level_of_cell d _ (parent_of c d) p)))
    (λ shallow. let e : seen_at d c ≡ c = search (arith, shallow) in rw e (ic, shallow))
    (cases_lt d (level_of c))

-- what has whole units is not changed by counting them
whole : {x : ℕ} (q k : ℕ) → x ≡ q * 2 ^ k → x / 2 ^ k * 2 ^ k ≡ x
whole q k e = rw e (ap (λ z. z * 2 ^ k) (shl-shr q k))

-- products of units, and their differences
across_units : (n m u w col : ℕ) → n * u * col + w * (m * u) ≡ (n * col + w * m) * u
across_units n m u w col = omega arith

add-units : (a b u : ℕ) → (a + b) * u ≡ a * u + b * u
add-units a b u = omega arith

take_units : (a b u : ℕ) → a * u - b * u ≡ (a - b) * u
take_units a b u = sym (mul_comm (a - b) u ∙ mul-sub u a b ∙ rw (mul_comm u a, mul_comm u b) refl)

down_units : (n m u y t : ℕ) → n * u * t - y * (m * u) ≡ (n * t - y * m) * u
down_units n m u y t =
    let e : n * u * t ≡ n * t * u = omega arith in
    let g : y * (m * u) ≡ y * m * u = omega arith in
    rw (e, g) (take_units (n * t) (y * m) u)

-- a cell that is not deeper has whole units on all sides
pub exact_in : (p : Part) {c : ℕ} → IsPart p → IsCell c → level_of c ≤ p.deepest → IsShownExactly p c
exact_in p {c} part ic h =
    let l = level_of c in
    let d = p.deepest in
    let k = 30 - d in
    let low = part.0 in
    let m = 2 ^ (d - l) in
    let n = 2 ^ d in
    let u = 2 ^ k in
    let s = size_of c in
    let es : s ≡ m * u = let e : 30 - l ≡ (d - l) + k = omega arith in ap (λ z. 2 ^ z) e ∙ pow-add 2 (d - l) k in
    let ef : 2 ^ 30 ≡ n * u = let e : 30 ≡ d + k = omega arith in ap (λ z. 2 ^ z) e ∙ pow-add 2 d k in
    let x = column (face_of c) in
    let t = 3 - row (face_of c) in
    let w = across c in
    let y = along c in
    let left = ap (λ z. z * x + w * s) ef ∙ ap (λ z. n * u * x + w * z) es ∙ across_units n m u w x in
    let right = ap (λ z. z + s) left ∙ ap (λ z. (n * x + w * m) * u + z) es ∙ sym (add-units (n * x + w * m) m u) in
    let bottom = ap (λ z. z * t - y * s) ef ∙ ap (λ z. n * u * t - y * z) es ∙ down_units n m u y t in
    let top = ap (λ z. z - s) bottom ∙ ap (λ z. (n * t - y * m) * u - z) es ∙ take_units (n * t - y * m) m u in
    record {
      face = face_of c;
      i = i_of c;
      j = j_of c;
      size = size_of c;
      square = grid_square ic;
      box_is = refl;
      left_is = rw (part.1) (whole (n * x + w * m) k left);
      top_is = rw (part.1) (whole (n * t - y * m - m) k top);
      right_is = rw (part.1) (whole (n * x + w * m + m) k right);
      bottom_is = rw (part.1) (whole (n * t - y * m) k bottom);
    }
