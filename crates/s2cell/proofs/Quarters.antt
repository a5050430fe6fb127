-- The squares of a cell's children: the quarters of its own, in the order that its orientation gives.
use Rattle.std.proofs.Common.{◌≡◌, ℕ, ◌+◌, ◌-◌, ◌*◌, ◌/◌, ◌%◌, ◌^◌, ◌<◌, refl, sym, ◌∙◌, ap, arith, subst, bit_xor}
use Rattle.std.proofs.Math.Nat.{div-one}
use Rattle.std.proofs.lemmas.Nat.{pow-add, mod_below}
use Rattle.s2cell.specs.Cell.{IsCell, IsCellAt, level_of, place_of, face_of, child_of}
use Rattle.s2cell.specs.Curve.{At, orientation_after, quadrant, turn, i_within, j_within}
use Rattle.s2cell.specs.Working.Entries.{IsPlaceEntry, held}
use Rattle.s2cell.specs.Square.{IsSquareOf, IsPlaced, orientation_of}
use Rattle.s2cell.proofs.CellLemmas.{four_pos, level_of_cell, place_of_cell}
use Rattle.s2cell.proofs.Calls.{IsCellAt-child_of, IsCell-child_of}
use Rattle.s2cell.proofs.Quadrants.{quadrant_below}
use Rattle.s2cell.proofs.Levels.{orientation_below, blocks}
use Rattle.s2cell.proofs.Places.{at_within}
use Rattle.s2cell.proofs.Walk.{Way, way_one, way_join}
use Rattle.s2cell.proofs.Squares.{square_from_place, one_square}

within_face : (c : ℕ) → place_of c % 4 ^ level_of c < 4 ^ level_of c
within_face c = mod_below (place_of c) (4 ^ level_of c) (four_pos (level_of c))

pub orientation_small : (c : ℕ) → orientation_of c < 4
unfolding orientation_of
orientation_small c = orientation_below (level_of c) (face_of c % 2) (place_of c % 4 ^ level_of c) (omega arith)
    (within_face c)

-- how a child stands in its face
pub record IsChildOf (c p d : ℕ) : Type 0 where
  pub level : level_of d ≡ level_of c + 1
  pub place : place_of d ≡ 4 * place_of c + p
  pub face : face_of d ≡ face_of c
  pub within : place_of d % 4 ^ level_of d ≡ place_of c % 4 ^ level_of c * 4 + p

pub child_stands : {c : ℕ} (p : ℕ) → IsCell c → level_of c < 30 → p < 4 → IsChildOf c p (child_of c p)
unfolding face_of
child_stands {c} p ic h hp =
    let i = IsCellAt-child_of c p ic h hp in
    let d = child_of c p in
    let k = level_of c in
    let m = place_of c in
    let l : level_of d ≡ k + 1 = level_of_cell (k + 1) (4 * m + p) d i in
    let e : place_of d ≡ 4 * m + p = place_of_cell (k + 1) (4 * m + p) d i in
    let four : 4 ^ (k + 1) ≡ 4 ^ k * 4 = pow-add 4 k 1 in
    let b = blocks m p (4 ^ k) 4 (four_pos k) hp in
    let em : place_of d ≡ m * 4 + p = omega arith in
    record {
      level = l;
      place = e;
      face = ap (λ z. place_of d / 4 ^ z) l ∙ ap (λ z. z / 4 ^ (k + 1)) em ∙ ap (λ z. (m * 4 + p) / z) four ∙ b.whole;
      within = ap (λ z. place_of d % 4 ^ z) l ∙ ap (λ z. z % 4 ^ (k + 1)) em ∙ ap (λ z. (m * 4 + p) % z) four ∙ b.rest;
    }

-- the way from the face to a cell
cell_way : (c x y : ℕ) → At (level_of c) (face_of c % 2) (place_of c % 4 ^ level_of c) x y →
    Way (level_of c) (face_of c % 2) (place_of c % 4 ^ level_of c) x y (orientation_of c)
unfolding orientation_of
cell_way c x y at = record {
  at = at;
  orientation = refl;
  below = orientation_below (level_of c) (face_of c % 2) (place_of c % 4 ^ level_of c) (omega arith) (within_face c);
}

child_way : {c : ℕ} (p x y : ℕ) → IsCell c → level_of c < 30 → p < 4 → At (level_of c) (face_of c % 2) (place_of
    c % 4 ^ level_of c) x y → Way (level_of (child_of c p)) (face_of (child_of c p) % 2) (place_of (child_of c p) %
    4 ^ level_of (child_of c p)) (2 * x + quadrant (orientation_of c) p / 2) (2 * y + quadrant (orientation_of c) p % 2)
    (bit_xor (orientation_of c) (turn p))
child_way {c} p x y ic h hp at =
    let o = orientation_of c in
    let q = quadrant o p in
    let ho = orientation_small c in
    let hq = quadrant_below o p ho hp in
    let s = child_stands p ic h hp in
    let one = way_one o p (q / 2) (q % 2) (bit_xor o (turn p)) ho hp (omega arith) (omega arith) (omega arith) refl in
    let both = way_join (cell_way c x y at) one in
    let ex : x * 2 ^ 1 + q / 2 ≡ 2 * x + q / 2 = omega arith in
    let ey : y * 2 ^ 1 + q % 2 ≡ 2 * y + q % 2 = omega arith in
    let en : place_of c % 4 ^ level_of c * 4 ^ 1 + p ≡ place_of (child_of c p) % 4 ^ level_of (child_of c p) =
    sym s.within in
    let both2 = rw (ex, ey, en) at both in
    subst (λ z. Way z (face_of (child_of c p) % 2) (place_of (child_of c p) % 4 ^ level_of (child_of c p))
    (2 * x + q / 2) (2 * y + q % 2) (bit_xor o (turn p))) (sym s.level)
    (subst (λ z. Way (level_of c + 1) (z % 2) (place_of (child_of c p) % 4 ^ level_of (child_of c p))
    (2 * x + q / 2) (2 * y + q % 2) (bit_xor o (turn p))) (sym s.face) both2)

-- the curve enters a child at the cell's orientation, turned by the child's digit
pub orientation_of_child : (c p : ℕ) → IsCell c → level_of c < 30 → p < 4 →
    orientation_of (child_of c p) ≡ bit_xor (orientation_of c) (turn p)
unfolding orientation_of
orientation_of_child c p ic h hp =
    sym (child_way p _ _ ic h
    hp (at_within (level_of c) (face_of c % 2) (place_of c % 4 ^ level_of c) (omega arith) (within_face c))).orientation

-- a child's square is the quadrant of the cell's that its digit picks
pub square_of_child : (c p face i j size : ℕ) → IsCell c → level_of c < 30 → p < 4 → IsSquareOf c face i j size
    → IsSquareOf (child_of c p) face (i + quadrant (orientation_of c) p / 2 * (size / 2))
    (j + quadrant (orientation_of c) p % 2 * (size / 2)) (size / 2)
square_of_child c p face i j size ic h hp sq =
    let k = level_of c in
    let q = quadrant (orientation_of c) p in
    let x = i_within k (face_of c % 2) (place_of c % 4 ^ k) in
    let y = j_within k (face_of c % 2) (place_of c % 4 ^ k) in
    let there = at_within k (face_of c % 2) (place_of c % 4 ^ k) (omega arith) (within_face c) in
    let own = one_square c face i j size (face_of c) (x * 2 ^ (30 - k)) (y * 2 ^ (30 - k)) (2 ^ (30 - k)) ic sq
    (square_from_place c x y ic there) in
    let s = child_stands p ic h hp in
    let lower : 30 - (k + 1) + 1 ≡ 30 - k = omega arith in
    let two : 2 ^ (30 - k) ≡ 2 ^ (30 - (k + 1)) * 2 = ap (λ z. 2 ^ z) (sym lower) ∙ pow-add 2 (30 - (k + 1)) 1 in
    let half = 2 ^ (30 - (k + 1)) in
    let eh : size / 2 ≡ half = (let e = own.size in omega arith) in
    let fi = own.first in
    let fj = own.second in
    let big_x : x * 2 ^ (30 - k) ≡ x * (half * 2) = ap (λ z. x * z) two in
    let big_y : y * 2 ^ (30 - k) ≡ y * (half * 2) = ap (λ z. y * z) two in
    let ei : (2 * x + q / 2) * half ≡ i + q / 2 * half = omega arith in
    let ej : (2 * y + q % 2) * half ≡ j + q % 2 * half = omega arith in
    let made = square_from_place (child_of c p) (2 * x + q / 2) (2 * y + q % 2)
    (IsCell-child_of c p (child_of c p) ic h hp refl) (child_way p x y ic h hp there).at in
    let made2 = rw (s.level, ei, ej, s.face) at made in
    rw (eh, own.face) made2

-- ---- faces

pub orientation_of_face : (c : ℕ) → level_of c ≡ 0 → orientation_of c ≡ face_of c % 2
unfolding orientation_of orientation_after
orientation_of_face c e = rw e refl

pub square_of_face : {c : ℕ} → IsCell c → level_of c ≡ 0 → IsSquareOf c (face_of c) 0 0 (2 ^ 30)
unfolding At
square_of_face {c} ic e =
    let way : At 0 (face_of c % 2) (place_of c % 4 ^ 0) 0 0 = (omega arith, refl, refl) in
    let at : At (level_of c) (face_of c % 2) (place_of c % 4 ^ level_of c) 0 0 = rw e way in
    rw e at (square_from_place c 0 0 ic at)

-- the cell of a face
pub record IsFaceCell (f id : ℕ) : Type 0 where
  pub cell : IsCell id
  pub level : level_of id ≡ 0
  pub face : face_of id ≡ f

pub face_cell : (f id : ℕ) → f < 6 → id ≡ (2 * f + 1) * 4 ^ 30 → IsFaceCell f id
unfolding face_of
face_cell f id h e =
    let i : IsCellAt 0 f id = record { level = omega arith; place = omega arith; id = e } in
    let l = level_of_cell 0 f id i in
    let p = place_of_cell 0 f id i in
    record { cell = (0, f, i); level = l; face = ap (λ z. z / 4 ^ level_of id) p ∙ ap (λ z. f / 4 ^ z) l ∙ div-one f }

-- ---- placed cells

pub placed_face : {f id : ℕ} (o : ℕ) → IsFaceCell f id → o ≡ f % 2 → IsPlaced id f 0 0 (2 ^ 30) o
placed_face {id} o c e = record {
  cell = c.cell;
  square = rw c.face at (square_of_face c.cell c.level);
  orientation_is = e ∙ ap (λ z. z % 2) (sym c.face) ∙ sym (orientation_of_face id c.level);
}

pub placed_orientation : {c face i j size o : ℕ} → IsPlaced c face i j size o → o < 4
placed_orientation {c} p = subst (λ z. z < 4) (sym p.orientation_is) (orientation_small c)

-- what an entry says of one level
record OneLevel (o p e : ℕ) : Type 0 where
  pub picked : held e ≡ quadrant o p
  pub turned : e % 256 / 16 ≡ bit_xor o (turn p)

one_level : {o p e : ℕ} → IsPlaceEntry 1 o p e → OneLevel o p e
unfolding At orientation_after
one_level {o} {p} {e} entry =
    let (hn, hx, hy, q, rest) = entry.place in
    let own = div-one p in
    let next : e % 256 ≡ 16 * bit_xor o (turn p) = entry.next ∙ ap (λ z. 16 * bit_xor o (turn z)) own in
    let at : 2 * (held e / 2 / 1) + held e % 2 / 1 ≡ quadrant o p = q ∙ ap (quadrant o) own in
    record { picked = omega arith; turned = omega arith }

-- by an entry of the table of one level
pub placed_child : {c face i j size o : ℕ} (p d s : ℕ) {t e : ℕ} (q u : ℕ) → IsPlaced c face i j size o →
    level_of c < 30 → p < 4 → d ≡ child_of c p → s ≡ o → t ≡ p → IsPlaceEntry 1 (16 * s / 16) t e →
    q ≡ held e → u ≡ e % 256 / 16 → IsPlaced d face (i + size / 2 * (q / 2)) (j + size / 2 * (q % 2)) (size / 2) u
placed_child {c} {face} {i} {j} {size} {o} p d s {e} q u w h hp ed es et entry eq eu =
    let own = orientation_of c in
    let shift : 16 * s / 16 ≡ o = omega arith in
    let one = one_level (rw (shift, et) at entry) in
    let turned : u ≡ orientation_of d = eu ∙ one.turned ∙ ap (λ z. bit_xor z (turn p)) w.orientation_is
    ∙ sym (orientation_of_child c p w.cell h hp) ∙ ap orientation_of (sym ed) in
    let picked : q ≡ quadrant own p = eq ∙ one.picked ∙ ap (λ z. quadrant z p) w.orientation_is in
    let first : i + size / 2 * (q / 2) ≡ i + quadrant own p / 2 * (size / 2) =
    ap (λ z. i + size / 2 * (z / 2)) picked ∙ omega arith in
    let second : j + size / 2 * (q % 2) ≡ j + quadrant own p % 2 * (size / 2) =
    ap (λ z. j + size / 2 * (z % 2)) picked ∙ omega arith in
    record {
      cell = IsCell-child_of c p d w.cell h hp ed;
      square = rw (ed, first, second) (square_of_child c p face i j size w.cell h hp w.square);
      orientation_is = turned;
    }
