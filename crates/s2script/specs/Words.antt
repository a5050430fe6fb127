-- The words of a line.
use Rattle.std.specs.Prelude.{ℕ, Bool, false, ◌||◌, List, [], ◌∷◌, ◌==◌}
use Rattle.std.specs.Io.BufRead.{strip_last}
use Rattle.s2cell.specs.Words.{words_between}

-- a space or a tab
abbrev pub is_blank : ℕ → Bool
is_blank b = (b == 32) || (b == 9)

-- the words of a line: what spaces and tabs separate
abbrev pub words : List ℕ → List (List ℕ)
words bytes = words_between is_blank bytes

-- the line without one CR at its end
abbrev pub without_cr : List ℕ → List ℕ
without_cr bytes = strip_last 13 bytes

-- whether the first byte of the line is `#`
abbrev pub is_comment : List ℕ → Bool
is_comment [] = false
is_comment (b ∷ bs) = b == 35
