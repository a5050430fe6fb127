-- What is printed for a line that does not fit.
use Rattle.std.specs.Prelude.{ℕ, ◌+◌, Bool, cond, List, [], ◌∷◌, ◌++◌, slice_index, take, codes, decimal, flat_map}
use Rattle.std.specs.Prelude.{encode_utf8_all}
use Rattle.std.specs.Prelude.{Option, Some, None}
use Rattle.std.specs.Char.Escape.{escape_ascii}
use Rattle.std.specs.Str.{bytes_eq}
use Rattle.s2cell.specs.Token.{token_of}
use Rattle.s2script.specs.declared.misfit.Wanted.{Wanted}
use Rattle.s2script.specs.declared.misfit.Wanted.TheVariants.{CommandName, EndOfLine, Register, Cell, RangeEnd, Level}
use Rattle.s2script.specs.declared.misfit.Wanted.TheVariants.{Modulus, Face, Coordinate, FileName}
use Rattle.s2script.specs.FileName.{unfit_index}
use Rattle.s2script.specs.Named.{decimal_cell}
use Rattle.s2script.specs.Similar.{commands_like}
use Rattle.s2script.specs.declared.misfit.Misfit.{Misfit}
use Rattle.s2script.specs.declared.misfit.Misfit.TheVariants.{LongLine, Missing, Unfit}
use Rattle.s2script.specs.declared.limits.TheConstants.{GREATEST_FACE, GREATEST_LEVEL, GREATEST_MODULUS}
use Rattle.s2script.specs.declared.limits.TheConstants.{GREATEST_COORDINATE, LONGEST_LINE, LONGEST_NAME}

-- a byte as Rust's `escape_ascii` writes it: as it is, or escaped if it is a quote or a backslash or does not print
abbrev pub shown_byte : ℕ → List ℕ
shown_byte b = encode_utf8_all (escape_ascii b)

-- a word between quotes
abbrev pub word_text : List ℕ → List ℕ
word_text word = codes "'" ++ flat_map shown_byte word ++ codes "'"

-- a number of some kind, with its least and greatest value
abbrev pub ranged : List ℕ → ℕ → ℕ → List ℕ
ranged what least most = what ++ codes " (" ++ decimal least ++ codes " to " ++ decimal most ++ codes ")"

-- what is wanted in the place of a word
abbrev pub wanted_text : Wanted → List ℕ
wanted_text CommandName = codes "a command"
wanted_text EndOfLine = codes "the end of the line"
wanted_text Register = codes "a register (a to z)"
wanted_text Cell = codes "a cell (a token or a debug text)"
wanted_text RangeEnd = codes "a second cell"
wanted_text Level = ranged (codes "a level") 0 GREATEST_LEVEL
wanted_text Modulus = ranged (codes "a modulus") 1 GREATEST_MODULUS
wanted_text Face = ranged (codes "a face") 0 GREATEST_FACE
wanted_text (Coordinate least) = ranged (codes "a coordinate") least GREATEST_COORDINATE
wanted_text FileName = codes "a file name (1 to " ++ decimal LONGEST_NAME
    ++ codes " letters, digits, '.', '_' or '-'; it must not begin with '.' or '-'; --dir names the folder)"

-- the byte of a word at this index, if there is one: its place, counted from 1, and the byte
abbrev pub byte_text : List ℕ → Option ℕ → List ℕ
byte_text word None = []
byte_text word (Some at) = codes ": byte " ++ decimal (at + 1) ++ codes " is '" ++ shown_byte (slice_index word at)
    ++ codes "'"

-- another command that may be meant
abbrev pub other_text : List ℕ → List ℕ
other_text name = codes ", " ++ word_text name

-- the question whether one of these commands is meant, if there is one
abbrev pub question_text : List (List ℕ) → List ℕ
question_text [] = []
question_text (name ∷ names) =
    codes "; did you mean " ++ word_text name ++ flat_map other_text names ++ codes "?"

-- whether a word begins with a byte order mark, as some editors put it before the first line of a text
abbrev pub has_mark : List ℕ → Bool
has_mark word = bytes_eq (take 3 word) (239 ∷ 187 ∷ 191 ∷ [])

-- what is said about a word that names no command: that a byte order mark has to go; or the commands that may be meant
abbrev pub command_hint : List ℕ → List ℕ
command_hint word = cond (has_mark word)
    (codes "; it begins with a byte order mark: save the script without that")
    (question_text (commands_like word))

-- that a word is the identifier of this cell, if there is one
abbrev pub identifier_text : Option ℕ → List ℕ
identifier_text None = []
identifier_text (Some n) = codes "; in decimal it is the identifier of the cell " ++ token_of n

-- What is said about a word that is not what is wanted: of one that names no command, also what may be wrong with it;
-- of one that names no cell, the cell whose identifier it has in decimal; of one that is no file name, its first byte
-- that doesn't fit.
abbrev pub unfit_text : List ℕ → Wanted → List ℕ
unfit_text word CommandName =
    word_text word ++ codes " is not " ++ wanted_text CommandName ++ command_hint word
unfit_text word EndOfLine = word_text word ++ codes " is a word too many"
unfit_text word Cell =
    word_text word ++ codes " is not " ++ wanted_text Cell ++ identifier_text (decimal_cell word)
unfit_text word RangeEnd = codes "the second cell " ++ word_text word ++ codes " ends before the first begins"
unfit_text word FileName =
    word_text word ++ codes " is not " ++ wanted_text FileName ++ byte_text word (unfit_index word)
unfit_text word wanted = word_text word ++ codes " is not " ++ wanted_text wanted

-- the text that tells where a line does not fit
abbrev pub misfit_text : Misfit → List ℕ
misfit_text LongLine =
    codes "the line has more than " ++ decimal LONGEST_LINE ++ codes " bytes: write several shorter lines"
misfit_text (Missing wanted) = wanted_text wanted ++ codes " is missing"
misfit_text (Unfit word wanted) = unfit_text word wanted
