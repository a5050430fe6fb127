-- Pictures of the part of the unfolded faces in which lists of cells lie, as the bytes of an SVG image. Lengths are in
-- leaves, or in units of the picture, measured from the left and the top of the unfolded faces.
use Rattle.std.specs.Prelude.{◌≡◌, ◌≤◌, ℕ, zero, suc, ◌+◌, ◌-◌, ◌*◌, ◌/◌, ◌%◌, ◌^◌, min, max, ◌&&◌, cond, ◌==◌}
use Rattle.std.specs.Prelude.{nat_le, nat_lt, if◌then◌else◌, List, [], ◌∷◌, ◌++◌, length, codes, decimal, flat_map}
use Rattle.std.specs.Prelude.{map}
use Rattle.std.specs.List.{dedup}
use Rattle.s2cell.specs.Cell.{level_of, place_of, face_of, parent_of}
use Rattle.s2cell.specs.Curve.{i_within, j_within}
use Rattle.s2cell.specs.Square.{IsSquareOf}
use Rattle.s2draw.specs.declared.fixed.TheConstants.{STYLE, COLORS}
use Rattle.s2draw.specs.declared.zoom.Bounds.{Bounds}
use Rattle.s2draw.specs.declared.zoom.Part.{Part}
use Rattle.s2draw.specs.Rectangles.{column, row}
use Rattle.s2draw.specs.Overlay.{Layer, legend}

-- the bounds end where the unfolded faces do, or before: four faces to the right and four down
abbrev pub IsOnFaces : Bounds → Type 0
IsOnFaces b = (b.right ≤ 2 ^ 32) × (b.bottom ≤ 2 ^ 32)

-- the bounds of no cell
abbrev pub nowhere : Bounds
nowhere = record { left = 2 ^ 32; top = 2 ^ 32; right = 0; bottom = 0 }

-- the least bounds that have both
abbrev pub grown : Bounds → Bounds → Bounds
grown a b = record {
  left = min a.left b.left;
  top = min a.top b.top;
  right = max a.right b.right;
  bottom = max a.bottom b.bottom;
}

-- the side of a cell
abbrev pub size_of : ℕ → ℕ
size_of c = 2 ^ (30 - level_of c)

-- the least coordinate i of a cell's leaves on its face
abbrev pub i_of : ℕ → ℕ
i_of c = i_within (level_of c) (face_of c % 2) (place_of c % 4 ^ level_of c) * size_of c

-- the least coordinate j of a cell's leaves on its face
abbrev pub j_of : ℕ → ℕ
j_of c = j_within (level_of c) (face_of c % 2) (place_of c % 4 ^ level_of c) * size_of c

-- the square with this side, at these least coordinates of a face, on the unfolded faces: i grows to the right and j
-- upward
abbrev pub box_at : ℕ → ℕ → ℕ → ℕ → Bounds
box_at face i j size = record {
  left = 2 ^ 30 * column face + i;
  top = 2 ^ 30 * (3 - row face) - j - size;
  right = 2 ^ 30 * column face + i + size;
  bottom = 2 ^ 30 * (3 - row face) - j;
}

-- the square of a cell on the unfolded faces
abbrev pub box_of : ℕ → Bounds
box_of c = box_at (face_of c) (i_of c) (j_of c) (size_of c)

-- the square of a face
abbrev pub face_box : ℕ → Bounds
face_box face = box_at face 0 0 (2 ^ 30)

-- the least bounds that have these and the squares of all cells
abbrev pub all_grown : Bounds → List ℕ → Bounds
all_grown b [] = b
all_grown b (c ∷ cells) = all_grown (grown b (box_of c)) cells

-- the bounds; all faces if they have nothing
abbrev pub or_all_faces : Bounds → Bounds
or_all_faces b = if nat_lt b.left b.right && nat_lt b.top b.bottom then b
    else (record { left = 0; top = 0; right = 2 ^ 32; bottom = 3 * 2 ^ 30 })

-- the longer side of the bounds
abbrev pub longer_side : Bounds → ℕ
longer_side b = max (b.right - b.left) (b.bottom - b.top)

-- the bounds with a sixteenth of their longer side around them, but nothing left of the faces or above them
abbrev pub with_margin : Bounds → Bounds
with_margin b = record {
  left = b.left - longer_side b / 16;
  top = b.top - longer_side b / 16;
  right = b.right + longer_side b / 16;
  bottom = b.bottom + longer_side b / 16;
}

-- the deepest level down to `depth` of which fewer than 2048 cells lie along a side that has this many at that level
abbrev pub depth_from : ℕ → ℕ → ℕ
depth_from zero side = zero
depth_from (suc depth) side = if nat_le 2048 side then depth_from depth (side / 2) else suc depth

-- the side of a cell of this level
abbrev pub unit_at : ℕ → ℕ
unit_at depth = 2 ^ (30 - depth)

-- the part with these bounds, in leaves, whose unit is the side of a cell of this level
abbrev pub part_at : ℕ → Bounds → Part
part_at depth b = record {
  deepest = depth;
  unit = unit_at depth;
  bounds = record {
    left = b.left / unit_at depth;
    top = b.top / unit_at depth;
    right = b.right / unit_at depth + 1;
    bottom = b.bottom / unit_at depth + 1;
  };
}

-- the part with these bounds, in leaves: its longer side has fewer than 2048 units, and more
abbrev pub part_of : Bounds → Part
part_of b = part_at (depth_from 30 (longer_side b)) b

-- the part of the faces in which cells with these bounds lie, with a margin; all of them if there is no cell
abbrev pub part_around : Bounds → Part
part_around b = part_of (with_margin (or_all_faces b))

-- the unit of the part is the side of a cell of its deepest level
abbrev pub IsPart : Part → Type 0
IsPart p = (p.deepest ≤ 30) × (p.unit ≡ unit_at p.deepest)

-- what the part has of a rectangle that is given in leaves: in units, from the part's own left and top
abbrev pub clipped : Part → Bounds → Bounds
clipped p b = record {
  left = b.left / p.unit - p.bounds.left;
  top = b.top / p.unit - p.bounds.top;
  right = min (b.right / p.unit) p.bounds.right - p.bounds.left;
  bottom = min (b.bottom / p.unit) p.bounds.bottom - p.bounds.top;
}

-- the cell, or its ancestor of this level if it is deeper
abbrev pub seen_at : ℕ → ℕ → ℕ
seen_at depth c = cond (nat_le (level_of c) depth) c (parent_of c depth)

-- the cells that are drawn for a list: each cell as it is seen, and equal ones in a row once
abbrev pub shown : ℕ → List ℕ → List ℕ
shown depth cells = dedup (λ a b. a == b) (map (seen_at depth) cells)

-- the cell has whole units on all sides: so its rectangle in a picture of the part is exactly what that has of its
-- square
pub record IsShownExactly (p : Part) (c : ℕ) : Type 0 where
  pub face : ℕ
  pub i : ℕ
  pub j : ℕ
  pub size : ℕ
  pub square : IsSquareOf c face i j size
  pub box_is : box_of c ≡ box_at face i j size
  pub left_is : (box_of c).left / p.unit * p.unit ≡ (box_of c).left
  pub top_is : (box_of c).top / p.unit * p.unit ≡ (box_of c).top
  pub right_is : (box_of c).right / p.unit * p.unit ≡ (box_of c).right
  pub bottom_is : (box_of c).bottom / p.unit * p.unit ≡ (box_of c).bottom

-- the outline of a rectangle, as a piece of a path
unfoldable pub sides : Bounds → List ℕ
sides b =
    codes "M" ++ decimal b.left ++ codes "," ++ decimal b.top ++ codes "h" ++ decimal (b.right - b.left)
    ++ codes "v" ++ decimal (b.bottom - b.top) ++ codes "h-" ++ decimal (b.right - b.left) ++ codes "z"

-- the outline of a rectangle, if it has something
unfoldable pub outline_of : Bounds → List ℕ
unfolding sides
outline_of b = cond (nat_lt b.left b.right && nat_lt b.top b.bottom) (sides b) []

-- what the part has of a cell, as a piece of a path
abbrev pub piece : Part → ℕ → List ℕ
piece p c = outline_of (clipped p (box_of c))

-- what the part has of the cells, as one path
unfoldable pub pieces : Part → List ℕ → List ℕ
pieces p cells = codes "<path d='" ++ flat_map (piece p) cells ++ codes "'/>\n"

-- what the part has of a face, as a piece of a path
abbrev pub face_piece : Part → ℕ → List ℕ
face_piece p face = outline_of (clipped p (face_box face))

-- what the part has of the faces, as one path
unfoldable pub face_pieces : Part → List ℕ
face_pieces p =
    codes "<path style='fill-opacity:1;stroke:#4b5563' vector-effect='non-scaling-stroke' d='" ++ face_piece p 0
    ++ face_piece p 1 ++ face_piece p 2 ++ face_piece p 3 ++ face_piece p 4 ++ face_piece p 5 ++ codes "'/>\n"

-- the beginning of the window in which the part is seen
unfoldable pub window : Part → List ℕ
window p =
    codes "<svg x='0' y='320' width='4096' height='2720' viewBox='0 0 " ++ decimal (p.bounds.right - p.bounds.left)
    ++ codes " " ++ decimal (p.bounds.bottom - p.bounds.top) ++ codes "'>\n"

-- all that is drawn of the list with this index, in the color of the index: the colors follow one another, and after
-- the last comes the first
unfoldable pub zoom_layer : Part → ℕ → Layer → List ℕ
unfolding pieces window legend
zoom_layer p k l =
    codes "<g class='c" ++ decimal (k % 8) ++ codes "'>\n" ++ window p ++ pieces p (shown p.deepest l.cells)
    ++ codes "</svg>\n" ++ legend 0 (3104 + 96 * k) l ++ codes "</g>\n"

-- the lists, one over another, counted from `k`
abbrev pub zoom_layers_from : Part → ℕ → List Layer → List ℕ
zoom_layers_from p k [] = []
zoom_layers_from p k (l ∷ ls) = zoom_layer p k l ++ zoom_layers_from p (k + 1) ls

-- the size of the picture: each list makes it longer
unfoldable pub zoom_size : ℕ → List ℕ
zoom_size n =
    codes "<svg xmlns='http://www.w3.org/2000/svg' width='1072' height='" ++ decimal (824 + 24 * n)
    ++ codes "' viewBox='-96 -112 4288 " ++ decimal (3296 + 96 * n) ++ codes "'>\n"

-- what becomes of cells below the deepest level
unfoldable pub depth_line : ℕ → List ℕ
depth_line depth =
    codes "<text x='0' y='272'>Cells deeper than level " ++ decimal depth ++ codes " are drawn as cells of level "
    ++ decimal depth ++ codes ".</text>\n"

-- what comes before the lists: the size, and what the part has of the faces
unfoldable pub zoom_head : Part → ℕ → List ℕ
unfolding zoom_size depth_line window face_pieces
zoom_head p n = zoom_size n ++ STYLE.now ++ COLORS.now ++ depth_line p.deepest ++ codes "<g class='face'>\n" ++ window p
    ++ face_pieces p ++ codes "</svg>\n</g>\n"

-- what comes after the lists
unfoldable pub zoom_foot : List ℕ
zoom_foot = codes "</svg>\n"

-- the least bounds of the cells of all lists, and of these bounds
abbrev pub bounds_from : Bounds → List Layer → Bounds
bounds_from b [] = b
bounds_from b (l ∷ ls) = bounds_from (all_grown b l.cells) ls

-- the picture of the part in which the lists of cells lie, each list drawn over those before it
unfoldable pub zoomed : List Layer → List ℕ
unfolding zoom_head zoom_layer zoom_foot
zoomed ls = zoom_head (part_around (bounds_from nowhere ls)) (length ls)
    ++ zoom_layers_from (part_around (bounds_from nowhere ls)) 0 ls ++ zoom_foot
