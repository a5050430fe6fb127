-- What clap reads of the plain command lines: each is a command of its own, whose values don't begin with a hyphen.
use Rattle.std.specs.Prelude.{◌≡◌, ℕ, List, [], ◌∷◌, Option, Some, None, Result, IfOk, IsSomeAnd, codes, map, fold}
use Rattle.std.specs.Prelude.{true}
use Rattle.s2edit.specs.declared.TheConstants.{MOST_REGISTER, MOST_STATES}
use Rattle.s2calc.specs.declared.task.Job.{Job}
use Rattle.s2calc.specs.CommandLine.{AreChoices, Choice, IsCellOf, IsCheckOf, IsRunWith, choice_name, choice_value}
use Rattle.s2calc.specs.CommandLine.{has_no_hyphen, words_of_choices}
use Rattle.clap.specs.Simple.{built}
use Rattle.clap.specs.Walk.{Row, rows_of, with_default}
use Rattle.clap.specs.Words.{App, Rule, Text, found_of, new_app, new_rule, with_rule}
use Rattle.clap.specs.declared.parser.matches.ArgMatches.{ArgMatches}
use Rattle.clap.specs.declared.parser.matches.ValueSource.TheVariants.{CommandLine}
use Rattle.clap.specs.declared.builder.action.ArgAction.TheVariants.{Set, SetTrue}
use Rattle.clap.specs.declared.builder.value_parser.Reading.TheVariants.{AsWritten}
use Rattle.clap.specs.declared.builder.value_parser.ValueParser.{ValueParser}
use Rattle.clap.specs.declared.builder.value_parser.ValueParser.TheVariants as vp

-- an option with a value, and its usual value
abbrev pub setting_rule : Text → ValueParser → Text → Rule
setting_rule name parser usual = record (new_rule name) {
  long = Some name;
  action = Some Set;
  value_names = 1;
  parser = Some parser;
  defaults = usual ∷ [];
}

-- an option without a value
abbrev pub wish_rule : Text → Rule
wish_rule name = record (new_rule name) { long = Some name; action = Some SetTrue }

-- a word that has to stand there
abbrev pub word_rule : Text → Rule
word_rule name = record (new_rule name) { action = Some Set; required = true }

-- the option `--limit`
abbrev pub limit_rule : Rule
limit_rule = setting_rule (codes "limit") (vp.Unsigned 1 MOST_REGISTER) (codes "10000")

-- the option `--depth`
abbrev pub depth_rule : Rule
depth_rule = setting_rule (codes "depth") (vp.Unsigned 1 MOST_STATES) (codes "100")

-- the option `--dir`
abbrev pub folder_rule : Rule
folder_rule = setting_rule (codes "dir") vp.NonEmptyString (codes ".")

-- the command `run`
abbrev pub run_app : App
run_app = with_rule (with_rule (with_rule (with_rule (with_rule (with_rule (new_app (codes "run"))
    limit_rule) depth_rule) folder_rule) (wish_rule (codes "explain"))) (wish_rule (codes "prompt")))
    (wish_rule (codes "stop"))

-- the command `cell`
abbrev pub cell_app : App
cell_app = with_rule (new_app (codes "cell")) (word_rule (codes "CELL"))

-- the command `check`
abbrev pub check_app : App
check_app = with_rule (with_rule (new_app (codes "check")) folder_rule) (word_rule (codes "FILE"))

-- what clap has of an option that was given
abbrev pub row_for : Choice → Row
row_for choice = record {
  id = choice_name choice;
  values = choice_value choice ∷ [];
  count = None;
  source = Some CommandLine;
  reading = AsWritten;
}

-- the matches have these options of `run`, and the usual values of all others
pub record HasChoices (choices : List Choice) (matches : ArgMatches) : Type 0 where
  pub rows : rows_of (found_of matches) ≡ fold with_default (map row_for choices) (built run_app).top.rules

-- such a job was found
abbrev pub Finds : {E : Type 0} → (Job → Type 0) → Result (Option Job) E → Type 0
Finds IsAskedFor result = IfOk result (λ job. IsSomeAnd job IsAskedFor)

-- the words of the line ask for a run, where the command `run` is the first
abbrev pub FindsRun : {E : Type 0} → List (List ℕ) → Result (Option Job) E → Type 0
FindsRun line result = (name : List ℕ) (choices : List Choice) → AreChoices choices
    → line ≡ name ∷ words_of_choices choices → Finds (IsRunWith choices) result

-- they ask about a cell, where the command `cell` is the first
abbrev pub FindsCell : {E : Type 0} → List (List ℕ) → Result (Option Job) E → Type 0
FindsCell line result = (name word : List ℕ) → has_no_hyphen word ≡ true → line ≡ name ∷ word ∷ []
    → Finds (IsCellOf word) result

-- they ask to check a file, where the command `check` is the first
abbrev pub FindsCheck : {E : Type 0} → List (List ℕ) → Result (Option Job) E → Type 0
FindsCheck line result = (name file : List ℕ) → has_no_hyphen file ≡ true → line ≡ name ∷ file ∷ []
    → Finds (IsCheckOf (codes ".") file) result

-- all words, the program's name the first, ask for a run
abbrev pub PlainRun : {E : Type 0} → List (List ℕ) → Result (Option Job) E → Type 0
PlainRun words result = (program : List ℕ) (choices : List Choice) → AreChoices choices
    → words ≡ program ∷ codes "run" ∷ words_of_choices choices → Finds (IsRunWith choices) result

-- they ask about a cell
abbrev pub PlainCell : {E : Type 0} → List (List ℕ) → Result (Option Job) E → Type 0
PlainCell words result = (program word : List ℕ) → has_no_hyphen word ≡ true
    → words ≡ program ∷ codes "cell" ∷ word ∷ [] → Finds (IsCellOf word) result

-- they ask to check a file
abbrev pub PlainCheck : {E : Type 0} → List (List ℕ) → Result (Option Job) E → Type 0
PlainCheck words result = (program file : List ℕ) → has_no_hyphen file ≡ true
    → words ≡ program ∷ codes "check" ∷ file ∷ [] → Finds (IsCheckOf (codes ".") file) result
