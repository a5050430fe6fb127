-- Pictures of several lists of cells, each in a color of its own, as the bytes of an SVG image.
use Rattle.std.specs.Prelude.{ℕ, ◌+◌, ◌-◌, ◌*◌, ◌%◌, Bool, ◌&&◌, cond, ◌==◌, nat_le, if◌then◌else◌, List, [], ◌∷◌, ◌++◌}
use Rattle.std.specs.Prelude.{length, codes, decimal, flat_map}
use Rattle.s2draw.specs.declared.fixed.TheConstants.{STYLE, COLORS, DEEPER, FACES, FOOT}
use Rattle.s2draw.specs.Rectangles.{drawn, left_of, top_of, side_of}
use Rattle.s2draw.specs.Picture.{line}

-- a list of cells, and its name in the legend
pub record Layer : Type 0 where
  pub name : List ℕ
  pub cells : List ℕ

-- how a byte of a name is shown: the three that mean something in XML by XML's names for them, and a byte that is not
-- printable ASCII as a question mark
abbrev pub escaped_byte : ℕ → List ℕ
escaped_byte b =
    if b == 38 then codes "&amp;" else if b == 60 then codes "&lt;" else if b == 62 then codes "&gt;"
    else if nat_le 32 b && nat_le b 126 then b ∷ [] else 63 ∷ []

-- the rectangle of a cell, as a piece of a path
unfoldable pub outline : ℕ → List ℕ
outline c =
    codes "M" ++ decimal (left_of c) ++ codes "," ++ decimal (top_of c) ++ codes "h" ++ decimal (side_of c)
    ++ codes "v" ++ decimal (side_of c) ++ codes "h-" ++ decimal (side_of c) ++ codes "z"

-- the rectangles of the cells, as one path
unfoldable pub outlines : List ℕ → List ℕ
unfolding outline
outlines cells = codes "<path d='" ++ flat_map outline cells ++ codes "'/>\n"

-- the legend of a list at this place: a square in its color, its name, and how many cells it has
unfoldable pub legend : ℕ → ℕ → Layer → List ℕ
legend left top l =
    codes "<rect x='" ++ decimal left ++ codes "' y='" ++ decimal top ++ codes "' width='64' height='64'/><text x='"
    ++ decimal (left + 96) ++ codes "' y='" ++ decimal (top + 56) ++ codes "'>" ++ flat_map escaped_byte l.name
    ++ codes ": " ++ decimal (length l.cells) ++ codes " cells</text>\n"

-- all that is drawn of the list with this index, in the color of the index: the colors follow one another, and after
-- the last comes the first
unfoldable pub layer : Bool → ℕ → Layer → List ℕ
unfolding outlines line legend
layer curve k l =
    codes "<g class='c" ++ decimal (k % 8) ++ codes "'>\n" ++ outlines (drawn l.cells)
    ++ cond curve (line (drawn l.cells)) [] ++ legend 2144 (2240 + 96 * k) l
    ++ codes "</g>\n"

-- the lists, one over another, counted from `k`
abbrev pub layers_from : Bool → ℕ → List Layer → List ℕ
layers_from curve k [] = []
layers_from curve k (l ∷ ls) = layer curve k l ++ layers_from curve (k + 1) ls

-- what comes before the lists: the legend has room for 9, and each one more makes the image longer
unfoldable pub overlay_head : ℕ → List ℕ
overlay_head n =
    codes "<svg xmlns='http://www.w3.org/2000/svg' width='1072' height='" ++ decimal (824 + 24 * (n - 9))
    ++ codes "' viewBox='-96 -112 4288 " ++ decimal (3296 + 96 * (n - 9)) ++ codes "'>\n" ++ STYLE.now ++ COLORS.now
    ++ DEEPER.now ++ FACES.now

-- what comes after the lists: the edges of the faces
unfoldable pub overlay_foot : List ℕ
overlay_foot = FOOT.now

-- the picture of several lists of cells, each drawn over those before it, with the line through each if `curve`
unfoldable pub overlay : Bool → List Layer → List ℕ
unfolding overlay_head layer overlay_foot
overlay curve ls = overlay_head (length ls) ++ layers_from curve 0 ls ++ overlay_foot
