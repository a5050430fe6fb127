-- The commands whose names are like a word that names none.
use Rattle.std.specs.Prelude.{ℕ, suc, Bool, ◌&&◌, ◌||◌, List, [], ◌∷◌, ◌++◌, ◌==◌, nat_le, if◌then◌else◌}
use Rattle.std.specs.Prelude.{length, slice_index, drop, filter, codes}
use Rattle.std.specs.Str.{bytes_eq}
use Rattle.s2script.specs.Words.{words}

-- the names of the commands, in the order of the help
unfoldable pub names : List (List ℕ)
names = words (codes "add remove keep union subtract intersect copy clear range outer inner outerof innerof show count "
    ++ codes "denorm has touches covers meets cell at square load save undo redo history dump restore")

-- how many bytes both begin with
abbrev pub shared : List ℕ → List ℕ → ℕ
shared [] ys = 0
shared (x ∷ xs) [] = 0
shared (x ∷ xs) (y ∷ ys) = if x == y then suc (shared xs ys) else 0

-- whether the first two bytes of one are those of the other, exchanged, and the others are equal
abbrev pub are_exchanged : List ℕ → List ℕ → Bool
are_exchanged xs ys = nat_le 2 (length xs) && (nat_le 2 (length ys)
    && ((slice_index xs 0 == slice_index ys 1) && ((slice_index xs 1 == slice_index ys 0)
    && bytes_eq (drop 2 xs) (drop 2 ys))))

-- whether one edit of the first bytes leads from one to the other: a byte is left out, put in or replaced, or two are
-- exchanged
abbrev pub is_edited : List ℕ → List ℕ → Bool
is_edited xs ys = bytes_eq (drop 1 xs) ys || (bytes_eq xs (drop 1 ys)
    || (bytes_eq (drop 1 xs) (drop 1 ys) || are_exchanged xs ys))

-- whether a word is like a name: one begins with the other, or one edit leads from one to the other, after the bytes
-- that both begin with
abbrev pub is_like : List ℕ → List ℕ → Bool
is_like word name = (shared word name == length word) || ((shared word name == length name)
    || is_edited (drop (shared word name) word) (drop (shared word name) name))

-- the commands whose names a word is like
abbrev pub commands_like : List ℕ → List (List ℕ)
commands_like word = filter (is_like word) names
