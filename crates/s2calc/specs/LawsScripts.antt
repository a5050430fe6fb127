-- Laws about whole scripts: they have one run, and undo leads back through the past.
use Rattle.std.specs.Prelude.{◌≡◌, ℕ, ◌+◌, ◌≤◌, ◌⊎◌, Bool, true, false, List, [], ◌∷◌, length, Some, count_by}
use Rattle.s2edit.specs.History.{changed, timeline}
use Rattle.s2edit.specs.Leads.{table_at}
use Rattle.s2edit.specs.Session.{IsKept}
use Rattle.s2file.specs.File.{Bytes, File, HasFault}
use Rattle.s2file.specs.declared.fault.FileFault.{FileFault}
use Rattle.std.specs.List.{AllByRecursion}
use Rattle.std.specs.Io.KnownBytes.{IsAtEnd}
use Rattle.s2shelf.specs.FileCalls.{path_of, path_to}
use Rattle.s2shelf.specs.Shelf.{Files, Finding, NoFile, Opened, Holding, Beginning, Written, Failed, Found, is_opening}
use Rattle.s2shelf.specs.Shelf.{AsksSystem}
use Rattle.s2script.specs.Line.{line_of}
use Rattle.s2script.specs.declared.command.Command.{Command}
use Rattle.s2script.specs.declared.command.Command.TheVariants.{Edit, Load, Save, Dump, Restore, Undo, Redo, Ask}
use Rattle.s2script.specs.declared.command.Parsed.TheVariants.{Does}
use Rattle.s2calc.specs.World.{World}
use Rattle.s2calc.specs.declared.engine.Tally.{Tally}
use Rattle.s2calc.specs.declared.refusal.Refusal.TheVariants.{Missing, Format, Memory}
use Rattle.s2calc.specs.Replies.{Reply, Says, Refuses, is_refusal, tally_of}
use Rattle.s2calc.specs.Texts.{done_line}
use Rattle.s2calc.specs.Edits.{leaves_of, Gets}
use Rattle.s2calc.specs.Step.{Step, file_in}
use Rattle.s2calc.specs.Run.{Known, Ran, AllLines, WholeLines, InsideAnswer, Steps}
use Rattle.s2calc.specs.Laws.{SameWorld, IsPlain, AllPlain}

-- Two runs begin alike: with the same state and the same known files, before the same script, and with writers that
-- hold the same bytes.
pub record SameStart (old old' : Known) (script out : List ℕ) : Type 0 where
  pub world : SameWorld old.world old'.world
  pub tells : old.world.files.tells ≡ true
  pub input : old.input.ahead ≡ Some script
  pub input' : old'.input.ahead ≡ Some script
  pub output : old.output ≡ Some out
  pub output' : old'.output ≡ Some out

-- the writer holds the same bytes, the lines that were carried out had the same replies, and the states and the files
-- are the same
pub record SameEnd (new new' : Known) (replies replies' : List Reply) : Type 0 where
  pub written : new.output ≡ new'.output
  pub replies_are : replies ≡ replies'
  pub world : SameWorld new.world new'.world

-- Two runs that began alike have the same end if both came to the end of the script, and no line of either was answered
-- `error memory` or `error file`.
abbrev pub OneEnd : Type 0
OneEnd =
    (old old' new new' : Known) (tally tally' : Tally) (script out : List ℕ) → SameStart old old' script out
    → (run : Ran old new) (other : Ran old' new') → AllLines run.script (IsAtEnd new.input.ahead) run.did →
    AllLines other.script (IsAtEnd new'.input.ahead) other.did → tally ≡ tally_of run.did.replies →
    tally' ≡ tally_of other.did.replies → AllPlain run.did.replies → AllPlain other.did.replies
    → SameEnd new new' run.did.replies other.did.replies × (tally ≡ tally')

-- Two runs that began alike have the same end if the reading of both stopped at the same byte, and no line of either
-- was answered `error memory` or `error file`.
abbrev pub OneEndOfInput : Type 0
OneEndOfInput =
    (old old' new new' : Known) (script out : List ℕ) → SameStart old old' script out →
    new.input.ahead ≡ new'.input.ahead
    → (run : Ran old new) (other : Ran old' new') → WholeLines run.script run.did →
    WholeLines other.script other.did → AllPlain run.did.replies → AllPlain other.did.replies
    → SameEnd new new' run.did.replies other.did.replies

-- Two runs that began alike have the same end if the writers of both failed inside an answer, at the same byte, and no
-- line of either was answered `error memory` or `error file`. Both have carried out the same lines, however the reads
-- were cut.
abbrev pub OneEndOfOutput : Type 0
OneEndOfOutput =
    (old old' new new' : Known) (script out : List ℕ) → SameStart old old' script out → new.output ≡ new'.output
    → (run : Ran old new) (other : Ran old' new') → InsideAnswer run.script (IsAtEnd new.input.ahead) run.did →
    InsideAnswer other.script (IsAtEnd new'.input.ahead) other.did → AllPlain run.did.replies →
    AllPlain other.did.replies
    → SameEnd new new' run.did.replies other.did.replies × (run.did.done ≡ other.did.done)

-- What a `load` does with what was found in its line: with bytes, the register gets the leaves of the file that they
-- are, or they are no file; with the first bytes of a file, which are more than a file of a union can have, they are
-- none; and with no file, the answer says so. A `load` asks for bytes, and opens nothing.
abbrev pub LoadsFinding : Finding → ℕ → World → Reply → World → Type 0
LoadsFinding NoFile r old reply new = (reply ≡ Refuses Missing) × (new.state ≡ old.state)
LoadsFinding Opened r old reply new = ⊥
LoadsFinding (Holding bytes) r old reply new = ((S : ℕ → Bool) × File bytes S × Gets S r old.state reply new.state)
    ⊎ ((fault : FileFault) × HasFault bytes fault × (reply ≡ Refuses Format) × (new.state ≡ old.state))
LoadsFinding (Beginning bytes) r old reply new =
    (fault : FileFault) × HasFault bytes fault × (reply ≡ Refuses Format) × (new.state ≡ old.state)
LoadsFinding (Written bytes) r old reply new = ⊥
LoadsFinding (Failed fault) r old reply new = ⊥

-- A line that loads a file, over a shelf that lists what was found, finds one thing more, under the name that the line
-- says, and does what it does by that alone, unless it is answered `error memory` or `error file`.
abbrev pub LoadsWhatWasFound : Type 0
LoadsWhatWasFound =
    (old new : World) (line name : List ℕ) (reply : Reply) (r : ℕ) (before : List Found) →
    line_of line ≡ Does (Load r name) → Step old line reply new → IsPlain reply → old.files.found ≡ Some before
    → (finding : Finding) × (new.files.found ≡ Some (record { name = name; finding = finding } ∷ before))
    × LoadsFinding finding r old reply new

-- one thing more than these was found, under this name, and it is no opening of a file that isn't closed
abbrev pub FoundOneMore : List ℕ → List Found → Files → Type 0
FoundOneMore name before files = (finding : Finding) × (is_opening finding ≡ false)
    × (files.found ≡ Some (record { name = name; finding = finding } ∷ before))

-- a folder of the system was asked for the file of this name in it, and for no other
abbrev pub AsksOnlyFor : List ℕ → Files → Files → Type 0
AsksOnlyFor name old new =
    AsksSystem old new (λ folder calls. AllByRecursion (λ call. path_of call ≡ path_to folder name) calls)

-- A line with a file, over a shelf that lists what came of its calls, adds one thing to the list, under the name that
-- the line says: it makes one call of the shelf, or opens a file and closes it again. Or there was no memory for the
-- bytes that it was to store; then it makes no call. If the shelf is a folder of the system, it asks the system for the
-- file of that name alone.
abbrev pub AsksOnce : Type 0
AsksOnce =
    (old new : World) (line name : List ℕ) (reply : Reply) (command : Command) (before : List Found) →
    line_of line ≡ Does command → file_in command ≡ Some name → Step old line reply new → old.files.found ≡ Some before
    → (FoundOneMore name before new.files ⊎ ((reply ≡ Refuses Memory) × (new.files.found ≡ Some before)))
    × AsksOnlyFor name old.files new.files

-- each line says `undo`
abbrev pub AllUndo : List (List ℕ) → Type 0
AllUndo [] = Unit {0}
AllUndo (line ∷ ls) = (line_of line ≡ Does Undo) × AllUndo ls

-- the command is an edit or a `load`, which give this register a new set of leaves
abbrev pub GivesRegister : Command → ℕ → Type 0
GivesRegister (Edit r edit) register = register ≡ r
GivesRegister (Load r name) register = register ≡ r
GivesRegister (Save r name) register = ⊥
GivesRegister (Dump name) register = ⊥
GivesRegister (Restore name) register = ⊥
GivesRegister Undo register = ⊥
GivesRegister Redo register = ⊥
GivesRegister (Ask question) register = ⊥

-- the line changed this register: the table before it went to the front of the past, which keeps the newest ones
pub record Changes (register : ℕ) (old : World) (line : List ℕ) (reply : Reply) (new : World) : Type 0 where
  pub step : Step old line reply new
  pub list : List ℕ
  pub state : new.state ≡ changed old.state register list

-- the lines were carried out one after another, and each changed a register
abbrev pub AllLinesChange : World → List (List ℕ) → List Reply → World → Type 0
AllLinesChange old [] [] new = new ≡ old
AllLinesChange old (line ∷ ls) (reply ∷ replies) new = (mid : World)
    × ((register : ℕ) × Changes register old line reply mid) × AllLinesChange mid ls replies new
AllLinesChange old [] (reply ∷ replies) new = ⊥
AllLinesChange old (line ∷ ls) [] new = ⊥

-- No line was refused; the present table is `table`, list for list; each register has the same file bytes as the
-- register of that table; and no file has changed.
pub record Reaches (table : List (List ℕ)) (old : World) (replies : List Reply) (new : World) : Type 0 where
  pub none_refused : count_by is_refusal replies ≡ 0
  pub now : new.state.now ≡ table
  pub bytes : (r : ℕ) (bytes others : List ℕ) → Bytes (leaves_of new.state.now r) bytes →
      Bytes (leaves_of table r) others → bytes ≡ others
  pub files : new.files ≡ old.files

-- An edit or a `load` changes its own register by the rule of the history, or leaves the state as it was. From every
-- state, n undos lead to the table n places back, if there are that many earlier tables. So after n lines that each
-- changed a register, with n at most the depth, n undos give back the table before the first of these lines, and
-- further undos the tables before that one, as far as they are kept.
pub record LawOfUndo : Type 0 where
  pub edits : (old new : World) (line : List ℕ) (reply : Reply) (command : Command) (register : ℕ) →
      line_of line ≡ Does command → GivesRegister command register → Step old line reply new
      → (new.state ≡ old.state) ⊎ Changes register old line reply new
  pub back : (old new : World) (ls : List (List ℕ)) (replies : List Reply) → AllUndo ls →
      length ls ≤ length old.state.past → Steps old ls replies new
      → Reaches (table_at (old.state.now ∷ old.state.past) (length ls)) old replies new
  pub gives_back : (old mid new : World) (edits undos : List (List ℕ)) (replies answers : List Reply)
      (further : ℕ) → AllLinesChange old edits replies mid
      → AllUndo undos → length undos ≡ length edits + further → length undos ≤ old.state.depth →
      further ≤ length old.state.past
      → Steps mid undos answers new → Reaches (table_at (old.state.now ∷ old.state.past) further) mid answers new

-- each line says `redo`
abbrev pub AllRedo : List (List ℕ) → Type 0
AllRedo [] = Unit {0}
AllRedo (line ∷ ls) = (line_of line ≡ Does Redo) × AllRedo ls

-- the command is `undo` or `redo`
abbrev pub IsMove : Command → Type 0
IsMove command = (command ≡ Undo) ⊎ (command ≡ Redo)

-- each line says `undo` or `redo`
abbrev pub AllMove : List (List ℕ) → Type 0
AllMove [] = Unit {0}
AllMove (line ∷ ls) = ((command : Command) × IsMove command × (line_of line ≡ Does command)) × AllMove ls

-- From every state, n redos lead to the table n places ahead, if there are that many later tables. After n undos, if
-- there are that many earlier tables, n redos give back the state: the present table, the past and the future.
-- However many undos and redos there are, in whatever order, the tables stay, in their order of time.
pub record LawOfRedo : Type 0 where
  pub ahead : (old new : World) (ls : List (List ℕ)) (replies : List Reply) → AllRedo ls →
      length ls ≤ length old.state.future → Steps old ls replies new
      → Reaches (table_at (old.state.now ∷ old.state.future) (length ls)) old replies new
  pub takes_back : (old mid new : World) (undos redos : List (List ℕ)) (replies answers : List Reply) →
      AllUndo undos → AllRedo redos → length redos ≡ length undos → length undos ≤ length old.state.past →
      Steps old undos replies mid → Steps mid redos answers new
      → (new.state ≡ old.state) × (new.files ≡ old.files)
  pub stays : (old new : World) (ls : List (List ℕ)) (replies : List Reply) → AllMove ls → Steps old ls replies new
      → (timeline new.state ≡ timeline old.state) × (new.files ≡ old.files)

-- If one line dumps a state that keeps to its limit and depth, and another line restores the same bytes from a state
-- with this limit and depth, over shelves that expose their contents, and neither is answered `error memory` or `error
-- file`, then the file is restored, and the state is the one dumped.
abbrev pub RestoreGivesBack : Type 0
RestoreGivesBack =
    (a b c d : World) (line other name : List ℕ) (x y : Reply) → line_of line ≡ Does (Dump name) →
    line_of other ≡ Does (Restore name) → IsKept a.state
    → Step a line x b → Step c other y d → a.files.tells ≡ true → c.files.tells ≡ true →
    c.files.at name ≡ b.files.at name
    → c.state.limit ≡ a.state.limit → c.state.depth ≡ a.state.depth → IsPlain x → IsPlain y → (y ≡ Says done_line)
    × (d.state ≡ a.state)
