-- Pictures of cells, as the bytes of an SVG image.
use Rattle.std.specs.Prelude.{ℕ, zero, suc, ◌+◌, ◌/◌, Bool, cond, not, List, [], ◌++◌, length, codes, decimal, flat_map}
use Rattle.std.specs.Prelude.{count_by}
use Rattle.s2cell.specs.Cell.{level_of}
use Rattle.s2draw.specs.declared.fixed.TheConstants.{HEAD, STYLE, LEVELS, FACES, FOOT}
use Rattle.s2draw.specs.Rectangles.{can_be_seen, drawn, left_of, top_of, side_of}

-- the element for a cell: its level and its rectangle
unfoldable pub rectangle : ℕ → List ℕ
rectangle c =
    codes "<rect class='l" ++ decimal (level_of c) ++ codes "' x='" ++ decimal (left_of c) ++ codes "' y='"
    ++ decimal (top_of c)
    ++ codes "' width='" ++ decimal (side_of c) ++ codes "' height='" ++ decimal (side_of c) ++ codes "'/>\n"

-- the middle of the rectangle of a cell, as a point of the line
unfoldable pub middle : ℕ → List ℕ
middle c = decimal (left_of c + side_of c / 2) ++ codes "," ++ decimal (top_of c + side_of c / 2) ++ codes " "

-- the note that says how many cells are too small to be seen
unfoldable pub small_line : ℕ → List ℕ
small_line n =
    codes "<text x='0' y='272'>" ++ decimal n ++ codes " deeper than level 9, drawn as cells of level 9</text>\n"

-- the note on `n` cells that are too small to be seen, or nothing if `n` is 0
unfoldable pub small_note : ℕ → List ℕ
unfolding small_line
small_note zero = []
small_note (suc n) = small_line (suc n)

-- the notes: how many cells there are, and how many are too small
unfoldable pub note : List ℕ → List ℕ
unfolding small_note
note cells =
    codes "<text x='0' y='176'>cells: " ++ decimal (length cells) ++ codes "</text>\n"
    ++ small_note (count_by (λ c. not (can_be_seen c)) cells)

-- the line that joins the middles of the cells, in their order
unfoldable pub line : List ℕ → List ℕ
unfolding middle
line cells = codes "<polyline class='curve' points='" ++ flat_map middle cells ++ codes "'/>\n"

-- the rectangles of the cells
unfoldable pub rectangles : List ℕ → List ℕ
unfolding rectangle
rectangles cells = codes "<g id='cells'>\n" ++ flat_map rectangle cells ++ codes "</g>\n"

-- what comes before the notes
unfoldable pub head : List ℕ
head = HEAD.now ++ STYLE.now ++ LEVELS.now ++ FACES.now

-- the picture of a list of cells, with the line if `curve`
unfoldable pub picture : Bool → List ℕ → List ℕ
unfolding head note line rectangles
picture curve cells = head ++ note cells ++ rectangles (drawn cells) ++ cond curve (line (drawn cells)) []
    ++ FOOT.now
