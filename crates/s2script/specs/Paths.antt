-- Words that are no names of files, and may be paths.
use Rattle.std.specs.Prelude.{ℕ, suc, Bool, ◌&&◌, List, [], ◌∷◌, ◌++◌, ◌==◌, nat_lt, if◌then◌else◌, cond}
use Rattle.std.specs.Prelude.{length, take, drop, codes, flat_map, Option, Some, None}
use Rattle.s2script.specs.declared.misfit.Wanted.TheVariants.{FileName}
use Rattle.s2script.specs.FileName.{is_name}
use Rattle.s2script.specs.MisfitTexts.{shown_byte, unfit_text}

-- how many bytes come before the last part of a path, of which `at` are before these and `found` are known to
abbrev pub folder_from : ℕ → ℕ → List ℕ → ℕ
folder_from at found [] = found
folder_from at found (b ∷ bs) = folder_from (suc at) (if b == 47 then suc at else found) bs

-- how many bytes of a path name the folder: those up to its last slash, and the slash
abbrev pub folder_length : List ℕ → ℕ
folder_length word = folder_from 0 0 word

-- the word, if it is not a name
abbrev pub misnamed_word : List ℕ → Option (List ℕ)
misnamed_word word = if is_name word then None else Some word

-- whether a word with this folder and this last part is the path of a file
abbrev pub is_path : List ℕ → List ℕ → Bool
is_path folder name = nat_lt 0 (length folder) && is_name name

-- the words that name a folder and a file in it
abbrev pub instead : List ℕ → List ℕ → List ℕ
instead folder name =
    codes "; write --dir '" ++ flat_map shown_byte folder ++ codes "' " ++ flat_map shown_byte name

-- what to write in place of a word with this folder and this last part, if it is a path
abbrev pub advice : List ℕ → List ℕ → List ℕ
advice folder name = cond (is_path folder name) (instead folder name) []

-- why a word is not a name
unfoldable pub reason_text : List ℕ → List ℕ
reason_text word = unfit_text word FileName

-- what is said of a word that is not a name: why, and what to write in place of it if it is a path
unfoldable pub misnamed_text : List ℕ → List ℕ
unfolding reason_text
misnamed_text word = reason_text word ++ advice (take (folder_length word) word) (drop (folder_length word) word)
