-- What a line may do.
use Rattle.std.specs.Prelude.{◌≡◌, ℕ, ◌⊎◌, Bool, true, false, List, Option, None, Some, Ok, Err}
use Rattle.s2shelf.specs.Shelf.{Files, Finds, PutsFile, FailsToPut}
use Rattle.s2shelf.specs.declared.shelf.ShelfFault.TheVariants.{Device, Memory as NoRoom}
use Rattle.s2file.specs.File.{Bytes}
use Rattle.s2script.specs.declared.command.Command.{Command}
use Rattle.s2script.specs.declared.command.Command.TheVariants.{Edit, Load, Save, Dump, Restore, Undo, Redo, Ask}
use Rattle.s2script.specs.declared.command.Parsed.{Parsed}
use Rattle.s2script.specs.declared.command.Parsed.TheVariants.{Nothing, Does, Fails}
use Rattle.s2calc.specs.declared.refusal.Refusal.{Refusal}
use Rattle.s2calc.specs.declared.refusal.Refusal.TheVariants.{Words, File as FileFailed, Memory}
use Rattle.s2script.specs.Line.{line_of}
use Rattle.s2edit.specs.History.{undone, redone, sets}
use Rattle.s2session.specs.Session.{Text, Stored}
use Rattle.s2edit.specs.Session.{Restored}
use Rattle.s2calc.specs.World.{World}
use Rattle.s2calc.specs.Replies.{Reply, Silent, Says, Refuses}
use Rattle.s2calc.specs.Texts.{done_line}
use Rattle.s2calc.specs.Fetch.{FetchesUnion}
use Rattle.s2calc.specs.Sessions.{FetchesNoState}
use Rattle.s2calc.specs.Questions.{Answers}
use Rattle.s2calc.specs.Edits.{new_set, leaves_of, Gets, Moves}

-- the register gets the leaves of the file; or no union could be read under the name, and the state stays as it was
abbrev pub Loads : ℕ → List ℕ → World → Reply → World → Type 0
Loads r name old reply new =
    ((S : ℕ → Bool) × FetchesUnion name old.files (Ok S) new.files × Gets S r old.state reply new.state)
    ⊎ ((refusal : Refusal) × FetchesUnion name old.files (Err refusal) new.files × (reply ≡ Refuses refusal)
    × (new.state ≡ old.state))

-- the shelf is asked, once, to store the bytes under that name: the file becomes these bytes; or the shelf fails to
-- store them, and the content of that one file is not known; or there is no memory to store them
abbrev pub WritesBytes : (name bytes : List ℕ) → Files → Reply → Files → Type 0
WritesBytes name bytes old reply new =
    ((reply ≡ Says done_line) × PutsFile old new name bytes)
    ⊎ ((reply ≡ Refuses FileFailed) × FailsToPut old name bytes new Device)
    ⊎ ((reply ≡ Refuses Memory) × FailsToPut old name bytes new NoRoom)

-- the shelf is asked to store bytes of this kind; or there is no memory for such bytes, and it isn't asked; the state
-- stays as it was
abbrev pub WritesFile : (List ℕ → Type 0) → List ℕ → World → Reply → World → Type 0
WritesFile AreThose name old reply new = (new.state ≡ old.state)
    × (((bytes : List ℕ) × AreThose bytes × WritesBytes name bytes old.files reply new.files)
    ⊎ ((reply ≡ Refuses Memory) × (new.files ≡ old.files)))

-- if nothing fails, the file becomes the text of the register's leaves
abbrev pub Saves : ℕ → List ℕ → World → Reply → World → Type 0
Saves r name old reply new = WritesFile (Bytes (leaves_of old.state.now r)) name old reply new

-- if nothing fails, the file becomes the text of the registers and their history
abbrev pub Dumps : List ℕ → World → Reply → World → Type 0
Dumps name old reply new = WritesFile (Text old.state) name old reply new

-- the history of the file's bytes becomes the state; or no history could be taken over, and the state stays as it was
abbrev pub Restores : List ℕ → World → Reply → World → Type 0
Restores name old reply new =
    ((bytes : List ℕ) × Finds old.files name (Some bytes) new.files
    × Restored (Stored bytes) old.state new.state × (reply ≡ Says done_line))
    ⊎ ((refusal : Refusal) × FetchesNoState name old.files old.state refusal new.files × (reply ≡ Refuses refusal)
    × (new.state ≡ old.state))

-- the command, carried out in the world old, may have this reply and leave the world new
abbrev pub Acts : Command → World → Reply → World → Type 0
Acts (Edit r edit) old reply new = Gets (new_set old.state.now r edit) r old.state reply new.state
    × (new.files ≡ old.files)
Acts (Load r name) old reply new = Loads r name old reply new
Acts (Save r name) old reply new = Saves r name old reply new
Acts (Dump name) old reply new = Dumps name old reply new
Acts (Restore name) old reply new = Restores name old reply new
Acts Undo old reply new = Moves old.state.past old.state (undone old.state) (undone (sets old.state)) reply
    new.state × (new.files ≡ old.files)
Acts Redo old reply new = Moves old.state.future old.state (redone old.state) (redone (sets old.state)) reply
    new.state × (new.files ≡ old.files)
Acts (Ask question) old reply new = Answers question old.state reply × (new ≡ old)

-- whether the command reads or writes a file
abbrev pub uses_file : Command → Bool
uses_file (Edit r edit) = false
uses_file (Load r name) = true
uses_file (Save r name) = true
uses_file (Dump name) = true
uses_file (Restore name) = true
uses_file Undo = false
uses_file Redo = false
uses_file (Ask question) = false

-- the name of the file that a command reads or writes
abbrev pub file_in : Command → Option (List ℕ)
file_in (Edit r edit) = None
file_in (Load r name) = Some name
file_in (Save r name) = Some name
file_in (Dump name) = Some name
file_in (Restore name) = Some name
file_in Undo = None
file_in Redo = None
file_in (Ask question) = None

-- whether a line that says this asks for a command with a file
abbrev pub asks_for_file : Parsed → Bool
asks_for_file Nothing = false
asks_for_file (Fails refusal) = false
asks_for_file (Does command) = uses_file command

-- a line that says this may have this reply: one without words is silent, a refused one changes nothing
abbrev pub StepBy : Parsed → World → Reply → World → Type 0
StepBy Nothing old reply new = (reply ≡ Silent) × (new ≡ old)
StepBy (Fails refusal) old reply new = (reply ≡ Refuses (Words refusal)) × (new ≡ old)
StepBy (Does command) old reply new = Acts command old reply new

-- the line, carried out in the world old, may have this reply and leave the world new
pub record Step (old : World) (line : List ℕ) (reply : Reply) (new : World) : Type 0 where
  pub by : StepBy (line_of line) old reply new
