-- What is known of a cell of a polygon, and of its children.
use Rattle.std.proofs.Common.{◌≡◌, sym, ap, ◌∙◌, ℕ, suc, ◌+◌, ◌-◌, ◌/◌, ◌^◌, ◌<◌, arith, length, filter, All}
use Rattle.std.specs.Prelude.{get_or}
use Rattle.std.proofs.lemmas.List.{length-map}
use Rattle.s2cell.specs.Cell.{IsCell, level_of, child_of, face_of, first_leaf}
use Rattle.s2cell.specs.Curve.{i_of}
use Rattle.s2cell.proofs.Squares.{first_leaf_covered}
use Rattle.s2cell.specs.Square.{IsPlacedCell, IsSquareOf}
use Rattle.s2cell.specs.declared.placed.PlacedCell.{PlacedCell}
use Rattle.s2polygon.proofs.Indexes.{cell_on_grid, child_of_grid, leaf_at, level_within}
use Rattle.s2polygon.specs.Cells.{square_of, widened}
use Rattle.s2polygon.specs.Counts.{edges_met}
use Rattle.s2polygon.specs.Faces.{edges_on}
use Rattle.s2polygon.specs.Tests.{meets_square}
use Rattle.s2polygon.specs.Leaves.{Region}
use Rattle.s2polygon.specs.Descents.{IsKnown, IsRight, face_list, near_of, no_edge, top_in}
use Rattle.s2polygon.specs.declared.descent.Known.{Known}

abbrev pub IsKnownOf : Region → PlacedCell → Known → Type 0
IsKnownOf r placed known = IsKnown r placed.cell placed.square.face placed.square.i placed.square.j
    placed.square.size known

module _ (r : Region) (placed child : PlacedCell) (p : ℕ) (h : IsPlacedCell placed) (g : IsPlacedCell child)
    (deep : level_of placed.cell < 30)
    (digit : p < 4) (is : child.cell ≡ child_of placed.cell p)
    (level : level_of child.cell ≡ level_of placed.cell + 1) where
  one_up : 30 - level_of placed.cell ≡ suc (30 - level_of child.cell)
  one_up = omega arith

  pub parent_right : (known : Known) → IsKnownOf r placed known
      → IsRight r.margin (top_in r placed.square.face) (edges_on placed.square.face r.edges) (level_of placed.cell)
      (suc (30 - level_of child.cell)) (child.square.i / child.square.size / 2)
      (child.square.j / child.square.size / 2) (near_of (face_list r placed.square.face) known)
  parent_right known k =
      let q = child_of_grid p h g deep digit is level in
      let u = q.1.column in
      let v = q.1.row in
      let up = sym one_up in
      rw (up, u, v) k.right

  pub child_known : (found : Known)
      → IsRight r.margin (top_in r placed.square.face) (edges_on placed.square.face r.edges)
      (suc (level_of placed.cell))
      (30 - level_of child.cell) (child.square.i / child.square.size) (child.square.j / child.square.size)
      (near_of (face_list r placed.square.face) found)
      → All (λ n. n < length (face_list r placed.square.face)) found.edges.items → IsKnownOf r child found
  child_known found right within =
      let q = child_of_grid p h g deep digit is level in
      let face = sym q.0 in
      let down : suc (level_of placed.cell) ≡ level_of child.cell = omega arith in
      record {
        cell = g.cell;
        square = g.square;
        right = rw (face, down) at right;
        within = rw face at within;
      }

pub face_known : (r : Region) (placed : PlacedCell) (f : ℕ) (found : Known) → IsPlacedCell placed
    → level_of placed.cell ≡ 0
    → face_of placed.cell ≡ f
    → IsRight r.margin (top_in r f) (edges_on f r.edges) 0 30 0 0 (near_of (face_list r f) found)
    → All (λ n. n < length (face_list r f)) found.edges.items
    → IsKnownOf r placed found
face_known r placed f found h top face right within =
    let grid = cell_on_grid h.cell h.square in
    let whole : 30 - (30 - level_of placed.cell) ≡ 0 = omega arith in
    let one = ap (λ (t : ℕ). 2 ^ t) whole in
    let u : 0 ≡ placed.square.i / placed.square.size = (let l = grid.column_within in omega arith) in
    let v : 0 ≡ placed.square.j / placed.square.size = (let l = grid.row_within in omega arith) in
    let side : f ≡ placed.square.face = sym (h.square.face_is ∙ face) in
    let none : 0 ≡ level_of placed.cell = sym top in
    let all : 30 ≡ 30 - level_of placed.cell = omega arith in
    record {
      cell = h.cell;
      square = h.square;
      right = at_cell side none all u v;
      within = rw side at within;
    }
  where
    at_cell : {g n k x y : ℕ} → f ≡ g → 0 ≡ n → 30 ≡ k → 0 ≡ x → 0 ≡ y → IsRight r.margin (top_in r g)
        (edges_on g r.edges) n k x y (near_of (face_list r g) found)
    at_cell {g} {n} {k} {x} {y} a b c d e =
        let b1 = sym b in
        let c1 = sym c in
        let d1 = sym d in
        let e1 = sym e in
        let a1 = sym a in
        rw (a1, b1, c1, d1, e1) right

-- what a walk down to a cell found of it
pub cell_known : (r : Region) (c face i j size : ℕ) (found : Known) (k : ℕ) → IsCell c → IsSquareOf c face i j size
    → k ≡ 30 - level_of c
    → IsRight r.margin (top_in r face) (edges_on face r.edges) (30 - k) k (i / 2 ^ k) (j / 2 ^ k)
    (near_of (face_list r face) found)
    → All (λ n. n < length (face_list r face)) found.edges.items
    → IsKnown r c face i j size found
cell_known r c face i j size found k ic sq is right within =
    let side = sym (cell_on_grid ic sq).size_is in
    let depth : 30 - (30 - level_of c) ≡ level_of c = (let d = level_within c ic in omega arith) in
    record {
      cell = ic;
      square = sq;
      right = rw (is, depth, side) at right;
      within = within;
    }

-- the edges of its list are those that meet it
pub known_met : (r : Region) (c face i j size : ℕ) (known : Known) → IsKnown r c face i j size known
    → length known.edges.items ≡ edges_met r c
known_met r c face i j size known k =
    let d = 30 - level_of c in
    let x = first_leaf c in
    let at = leaf_at x k.cell k.square (first_leaf_covered c k.cell) in
    sym (length-map known.edges.items (λ n. get_or (face_list r face) n no_edge)) ∙ ap length k.right.met
    ∙ ap (λ (f : ℕ). length (filter (meets_square (widened r.margin (square_of d (i / size) (j / size))))
    (edges_on f r.edges))) (sym at.face_is)
    ∙ ap (λ (u : ℕ). length (filter (meets_square (widened r.margin (square_of d u (j / size))))
    (edges_on (x / 4 ^ 30) r.edges))) (sym at.column)
    ∙ ap (λ (v : ℕ). length (filter (meets_square (widened r.margin (square_of d (i_of x / 2 ^ d) v)))
    (edges_on (x / 4 ^ 30) r.edges))) (sym at.row)
