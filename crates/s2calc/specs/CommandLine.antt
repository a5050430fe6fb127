-- What the words of the command line ask for, in the forms that README and the help show.
use Rattle.std.specs.Prelude.{◌≡◌, ◌≤◌, ◌==◌, ◌++◌, ◌||◌, ℕ, Bool, true, false, not, List, [], ◌∷◌, Result, Ok, Err}
use Rattle.std.specs.Prelude.{cond, codes, string_bytes, length}
use Rattle.std.specs.List.{list_any}
use Rattle.std.specs.Str.{bytes_eq}
use Rattle.std.specs.Str.Parse.{IsNumeral, digits_value, without_leading_plus}
use Rattle.s2edit.specs.declared.TheConstants.{MOST_REGISTER, MOST_STATES}
use Rattle.s2calc.specs.declared.task.Job.{Job}
use Rattle.s2calc.specs.declared.task.Job.TheVariants.{Run, Cell, Check}
use Rattle.s2calc.specs.declared.task.Stop.{Stop}
use Rattle.s2calc.specs.declared.task.Stop.TheVariants.{Memory as NoMemory}

-- what an option sets: the limit, the depth or the folder
pub data Setting : Type 0 where
  OfCells : Setting
  OfStates : Setting
  OfFolder : Setting

-- what an option without a value asks for
pub data Wish : Type 0 where
  ToExplain : Wish
  ToPrompt : Wish
  ToStop : Wish

-- an option among the words: its value is the next word, or follows an equals sign, or there is none
pub data Choice : Type 0 where
  Apart : Setting → List ℕ → Choice
  Joined : Setting → List ℕ → Choice
  Alone : Wish → Choice

-- the name of an option
abbrev pub setting_name : Setting → List ℕ
setting_name OfCells = codes "limit"
setting_name OfStates = codes "depth"
setting_name OfFolder = codes "dir"

-- the name of an option without a value
abbrev pub wish_name : Wish → List ℕ
wish_name ToExplain = codes "explain"
wish_name ToPrompt = codes "prompt"
wish_name ToStop = codes "stop"

-- the name that an option has among the words
abbrev pub choice_name : Choice → List ℕ
choice_name (Apart setting value) = setting_name setting
choice_name (Joined setting value) = setting_name setting
choice_name (Alone wish) = wish_name wish

-- the words of an option
abbrev pub choice_words : Choice → List (List ℕ)
choice_words (Apart setting value) = (codes "--" ++ setting_name setting) ∷ value ∷ []
choice_words (Joined setting value) = (codes "--" ++ (setting_name setting ++ (codes "=" ++ value))) ∷ []
choice_words (Alone wish) = (codes "--" ++ wish_name wish) ∷ []

-- the words of options, in their order
abbrev pub words_of_choices : List Choice → List (List ℕ)
words_of_choices [] = []
words_of_choices (choice ∷ rest) = choice_words choice ++ words_of_choices rest

-- the word does not begin with a hyphen (45)
abbrev pub has_no_hyphen : List ℕ → Bool
has_no_hyphen [] = true
has_no_hyphen (byte ∷ bytes) = not (byte == 45)

-- the number that a word is in decimal digits, before which a plus may stand
abbrev pub number_read : List ℕ → ℕ
number_read word = digits_value 10 (without_leading_plus word)

-- the word is a number from 1 to `most`
abbrev pub IsNumberTo : ℕ → List ℕ → Type 0
IsNumberTo most word =
    IsNumeral 10 (without_leading_plus word) × (1 ≤ number_read word) × (number_read word ≤ most)

-- the word may be the option's value
abbrev pub IsValueOf : Setting → List ℕ → Type 0
IsValueOf OfCells word = IsNumberTo MOST_REGISTER word
IsValueOf OfStates word = IsNumberTo MOST_STATES word
IsValueOf OfFolder word = 1 ≤ length word

-- the option may stand so: a value that is a word of its own does not begin with a hyphen
abbrev pub IsWellFormed : Choice → Type 0
IsWellFormed (Apart setting value) = IsValueOf setting value × (has_no_hyphen value ≡ true)
IsWellFormed (Joined setting value) = IsValueOf setting value
IsWellFormed (Alone wish) = Unit {0}

-- the option has this name
abbrev pub is_named : List ℕ → Choice → Bool
is_named name choice = bytes_eq (choice_name choice) name

-- each option may stand so, and stands once
abbrev pub AreChoices : List Choice → Type 0
AreChoices [] = Unit {0}
AreChoices (choice ∷ rest) = IsWellFormed choice
    × (list_any (λ other. is_named (choice_name other) choice) rest ≡ false) × AreChoices rest

-- the value of an option; one without a value says that it is wished
abbrev pub choice_value : Choice → List ℕ
choice_value (Apart setting value) = value
choice_value (Joined setting value) = value
choice_value (Alone wish) = codes "true"

-- the value of the option with this name, or the usual one
abbrev pub chosen : List ℕ → List ℕ → List Choice → List ℕ
chosen usual name [] = usual
chosen usual name (choice ∷ rest) = cond (is_named name choice) (choice_value choice) (chosen usual name rest)

-- what the options set
abbrev pub setting_of : List Choice → Setting → List ℕ
setting_of choices OfCells = chosen (codes "10000") (setting_name OfCells) choices
setting_of choices OfStates = chosen (codes "100") (setting_name OfStates) choices
setting_of choices OfFolder = chosen (codes ".") (setting_name OfFolder) choices

-- the options ask for it
abbrev pub is_wished : List Choice → Wish → Bool
is_wished choices wish = list_any (is_named (wish_name wish)) choices

-- the job is the run that these options ask for; who wants a prompt wants explanations too
abbrev pub IsRunWith : List Choice → Job → Type 0
IsRunWith choices (Run limit depth dir explain prompt stop) = (limit ≡ number_read (setting_of choices OfCells))
    × (depth ≡ number_read (setting_of choices OfStates)) × (string_bytes dir ≡ setting_of choices OfFolder)
    × (explain ≡ (is_wished choices ToExplain || is_wished choices ToPrompt))
    × (prompt ≡ is_wished choices ToPrompt) × (stop ≡ is_wished choices ToStop)
IsRunWith choices _ = ⊥

-- the job is to answer about this cell
abbrev pub IsCellOf : List ℕ → Job → Type 0
IsCellOf word (Cell cell) = string_bytes cell ≡ word
IsCellOf word _ = ⊥

-- the job is to check this file of this folder
abbrev pub IsCheckOf : List ℕ → List ℕ → Job → Type 0
IsCheckOf folder file (Check dir name) = (string_bytes dir ≡ folder) × (string_bytes name ≡ file)
IsCheckOf folder file _ = ⊥

-- the answer is such a job, unless memory ran out
abbrev pub IsAnswered : (Job → Type 0) → Result Job Stop → Type 0
IsAnswered IsAskedFor (Ok job) = IsAskedFor job
IsAnswered IsAskedFor (Err stop) = stop ≡ NoMemory

-- `run` and options of it, in any order, ask for that run
abbrev pub AsksForRun : List (List ℕ) → Result Job Stop → Type 0
AsksForRun words result = (program : List ℕ) (choices : List Choice) → AreChoices choices
    → words ≡ program ∷ codes "run" ∷ words_of_choices choices → IsAnswered (IsRunWith choices) result

-- `cell` and a word ask about that cell
abbrev pub AsksForCell : List (List ℕ) → Result Job Stop → Type 0
AsksForCell words result = (program word : List ℕ) → has_no_hyphen word ≡ true
    → words ≡ program ∷ codes "cell" ∷ word ∷ [] → IsAnswered (IsCellOf word) result

-- `check` and the name of a file ask about that file of the usual folder
abbrev pub AsksForCheck : List (List ℕ) → Result Job Stop → Type 0
AsksForCheck words result = (program file : List ℕ) → has_no_hyphen file ≡ true
    → words ≡ program ∷ codes "check" ∷ file ∷ [] → IsAnswered (IsCheckOf (codes ".") file) result
