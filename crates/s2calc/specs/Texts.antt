-- The texts of answers.
use Rattle.std.specs.Prelude.{ℕ, ◌+◌, ◌-◌, List, [], ◌∷◌, ◌++◌, codes, decimal, flat_map}
use Rattle.s2cell.specs.Cell.{level_of, face_of, first_leaf, size_of}
use Rattle.s2cell.specs.Token.{token_of}
use Rattle.s2cell.specs.Debug.{debug_of}

-- what is known of a cell
unfoldable pub cell_line : ℕ → List ℕ
cell_line n =
    codes "cell " ++ token_of n ++ codes " " ++ debug_of n ++ codes " level " ++ decimal (level_of n)
    ++ codes " face " ++ decimal (face_of n) ++ codes " leaves " ++ decimal (first_leaf n) ++ codes " "
    ++ decimal (first_leaf n + size_of n - 1) ++ 10 ∷ []

-- a square, by its face, its least coordinates and its side
unfoldable pub square_line : ℕ → ℕ → ℕ → ℕ → List ℕ
square_line face i j size = codes "face " ++ decimal face ++ codes " i " ++ decimal i ++ codes " j " ++ decimal j
    ++ codes " size " ++ decimal size ++ 10 ∷ []

-- the numbers of cells taken out and put in
unfoldable pub ok_line : ℕ → ℕ → List ℕ
ok_line out put = codes "ok " ++ decimal out ++ codes " " ++ decimal put ++ 10 ∷ []

-- the numbers of cells and of leaves of a register
unfoldable pub count_line : ℕ → ℕ → List ℕ
count_line cells leaves = codes "cells " ++ decimal cells ++ codes " leaves " ++ decimal leaves ++ 10 ∷ []

-- how many times undo and redo can be done
unfoldable pub history_line : ℕ → ℕ → List ℕ
history_line undos redos = codes "undo " ++ decimal undos ++ codes " redo " ++ decimal redos ++ 10 ∷ []

-- the answer yes
unfoldable pub yes_line : List ℕ
yes_line = codes "yes" ++ 10 ∷ []

-- the answer no
unfoldable pub no_line : List ℕ
no_line = codes "no" ++ 10 ∷ []

-- the answer to a command that is done, if there are no numbers to report
unfoldable pub done_line : List ℕ
done_line = codes "ok" ++ 10 ∷ []

-- the last line of a listing
unfoldable pub end_line : List ℕ
end_line = codes "end" ++ 10 ∷ []

-- the line of a cell in a listing
abbrev pub token_line : ℕ → List ℕ
token_line n = token_of n ++ 10 ∷ []

-- the tokens of cells, one a line, and then `end`
unfoldable pub listing : List ℕ → List ℕ
unfolding end_line
listing cells = flat_map token_line cells ++ end_line
