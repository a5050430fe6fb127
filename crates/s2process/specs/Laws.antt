-- Laws about what the program did.
use Rattle.std.specs.Prelude.{◌≡◌, ◌≤◌, ℕ, ◌⊎◌, Bool, true, false, List, [], ◌∷◌, ◌++◌, replicate, Option, Some, Ok}
use Rattle.std.specs.Prelude.{Err, count_by}
use Rattle.s2shelf.specs.Shelf.{Files, Found, Holding, Written}
use Rattle.s2edit.specs.History.{History, untouched}
use Rattle.s2edit.specs.Leads.{list_at}
use Rattle.s2edit.specs.declared.TheConstants.{MOST_REGISTER}
use Rattle.s2script.specs.declared.register.TheConstants.{REGISTERS}
use Rattle.s2script.specs.Line.{line_of}
use Rattle.s2script.specs.Lines.{lines}
use Rattle.s2script.specs.declared.command.Command.TheVariants.{Load, Save, Dump, Restore}
use Rattle.s2script.specs.declared.command.Parsed.TheVariants.{Does as Asks}
use Rattle.s2calc.specs.declared.engine.Tally.{Tally}
use Rattle.s2calc.specs.declared.fault.RunFault.TheVariants.{Input}
use Rattle.s2calc.specs.Buffered.{Buffered}
use Rattle.s2calc.specs.Calls.{Call}
use Rattle.s2calc.specs.Laws.{IsPlain, AllPlain}
use Rattle.s2calc.specs.LawsFound.{Held, FoundIn, Course, Begins}
use Rattle.s2calc.specs.LawsStored.{FoundLast, GetsList}
use Rattle.s2calc.specs.Moments.{Moment}
use Rattle.s2calc.specs.Reads.{ReadsLast}
use Rattle.s2calc.specs.Replies.{Reply, Says, texts, is_refusal}
use Rattle.s2calc.specs.Run.{Steps}
use Rattle.s2calc.specs.Step.{Step}
use Rattle.s2calc.specs.Texts.{done_line}
use Rattle.s2calc.specs.World.{World, world}
use Rattle.s2process.specs.declared.ended.Ended.{Ended}
use Rattle.s2process.specs.declared.folders.Opening.TheVariants.{Opened}
use Rattle.s2process.specs.declared.writer.ListedWriter.{ListedWriter}
use Rattle.s2process.specs.Ends.{LastFlushed}
use Rattle.s2process.specs.Listed.{given, reads, taken, called}
use Rattle.s2process.specs.Program.{RunsScript, RunsFrom}

-- All lines of a script were carried out between these two worlds, and none was refused. The script is all bytes that
-- the reads gave, of which the last found the end. Writes took all answers, and no byte more; then a flush succeeded,
-- and no call of the writer had failed.
pub record AnswersAll (start now : World) (script : List ℕ) (reads : List (Option ℕ)) (taken : List ℕ)
    (called : List Call) : Type 0 where
  pub replies : List Reply
  pub steps : Steps start (lines script) replies now
  pub none_refused : count_by is_refusal replies ≡ 0
  pub to_the_end : ReadsLast (Some 0) reads
  pub all_taken : taken ≡ texts replies
  pub flushed : LastFlushed called

-- the bytes that the reads gave are a beginning of this script, and all of it if the last read gave nothing
pub record IsReadOf (script given : List ℕ) (reads : List (Option ℕ)) : Type 0 where
  pub more : List ℕ
  pub is : script ≡ given ++ more
  pub whole : ReadsLast (Some 0) reads → more ≡ []

-- one of the two is a beginning of the other, or they are the same
abbrev pub OneBegins : List ℕ → List ℕ → Type 0
OneBegins bytes others = ((more : List ℕ) × (others ≡ bytes ++ more)) ⊎ ((more : List ℕ) × (bytes ≡ others ++ more))

-- `files` says what is known of a folder, and `opened` that it was opened at a path
module _ (R W E F : Type 0) {S : Type 0} (files : S → Files) (opened : S → List ℕ → Type 0) where
  -- a run of a script that ends with status 0, over the folder at this path, has answered all lines of the script
  abbrev pub AllAnswered : Type 0
  AllAnswered =
      (limit depth : ℕ) (path : List ℕ) (explains stops : Bool)
      (moments : List (Moment (Buffered (ListedWriter W)) S)) (ended : Ended R W E F S)
      → RunsScript files opened moments ended limit depth path explains stops → ended.status ≡ 0
      → (first last : S) × (now : History (List ℕ)) × opened first path × (ended.folder ≡ Opened last)
      × AnswersAll (world (untouched limit depth (replicate REGISTERS [])) (files first)) (world now (files last))
      (given ended.streams.input) (reads ended.streams.input) (taken ended.streams.output)
      (called ended.streams.output)

  -- A run of this script from this state of the editor, which doesn't stop at a refused line. It read the script as far
  -- as it came, found in files what the folder had to hand over at each time, and answered no line with `error memory`
  -- or `error file`.
  pub record RunOf (script : List ℕ) (held : Held) (start : History (List ℕ)) (ended : Ended R W E F S) : Type 0 where
    pub moments : List (Moment (Buffered (ListedWriter W)) S)
    pub path : List ℕ
    pub explains : Bool
    pub runs : RunsFrom files opened moments ended start path explains false
    pub read : IsReadOf script (given ended.streams.input) (reads ended.streams.input)
    pub found : List Found
    pub unasked : (files runs.first).found ≡ Some []
    pub found_are : (files runs.last).found ≡ Some found
    pub from_held : FoundIn held found
    pub plain : AllPlain runs.runs.did.replies

  -- what such a run came to
  abbrev pub course_of : {script : List ℕ} {held : Held} {start : History (List ℕ)} {ended : Ended R W E F S} →
      RunOf script held start ended → Course
  course_of run = record { replies = run.runs.runs.did.replies; found = run.found; state = run.runs.now }

  -- Of two such runs one took the beginning of the other's course, and one wrote a beginning of what the other wrote,
  -- to the output and as notes, if both explain. They wrote the same output and have the same status if both ended with
  -- `Ok`, or if the reads of both stopped at the same byte.
  pub record WritesAlike {script : List ℕ} {held : Held} {start : History (List ℕ)} {ended ended' : Ended R W E F S}
      (run : RunOf script held start ended) (other : RunOf script held start ended') : Type 0 where
    pub course : Begins (course_of run) (course_of other) ⊎ Begins (course_of other) (course_of run)
    pub written : OneBegins (taken ended.streams.output) (taken ended'.streams.output)
    pub noted : (e : run.explains ≡ true) (e' : other.explains ≡ true)
        → OneBegins (run.runs.tells_notes e).notes (other.runs.tells_notes e').notes
    pub to_the_end : (tally tally' : Tally) → run.runs.result ≡ Ok tally → other.runs.result ≡ Ok tally'
        → (taken ended.streams.output ≡ taken ended'.streams.output) × (ended.status ≡ ended'.status)
    pub to_one_byte : run.runs.result ≡ Err Input → other.runs.result ≡ Err Input
        → given ended.streams.input ≡ given ended'.streams.input
        → (taken ended.streams.output ≡ taken ended'.streams.output) × (ended.status ≡ ended'.status)

  -- two runs of one script, from one state, over folders that had the same to hand over, write alike
  abbrev pub OneOutput : Type 0
  OneOutput =
      (script : List ℕ) (held : Held) (start : History (List ℕ)) (ended ended' : Ended R W E F S)
      (run : RunOf script held start ended) (other : RunOf script held start ended') → WritesAlike run other

  -- A run of a script, by a new editor with this limit and depth, carried out this line with this reply, and the line
  -- led from one of these worlds to the other. `before` and `after` are the lines before and after it.
  pub record CarriesOut (limit depth : ℕ) (old : World) (line : List ℕ) (reply : Reply) (new : World) : Type 0 where
    pub ended : Ended R W E F S
    pub moments : List (Moment (Buffered (ListedWriter W)) S)
    pub path : List ℕ
    pub explains : Bool
    pub stops : Bool
    pub runs : RunsFrom files opened moments ended (untouched limit depth (replicate REGISTERS [])) path explains stops
    pub before : List (List ℕ)
    pub after : List (List ℕ)
    pub earlier : List Reply
    pub later : List Reply
    pub done_are : runs.runs.did.done ≡ before ++ line ∷ after
    pub replies_are : runs.runs.did.replies ≡ earlier ++ reply ∷ later
    pub until : Steps (world (untouched limit depth (replicate REGISTERS [])) (files runs.first)) before earlier old
    pub step : Step old line reply new
    pub since : Steps new after later (world runs.now (files runs.last))

  -- One run saves a register as these bytes, and the same run or another finds just these bytes and loads them: the
  -- loaded register gets the list of the saved one. One dumps a state as these bytes, and an editor of that limit and
  -- depth finds them and restores them: its state is the dumped one. Both are said of replies other than `error memory`
  -- and `error file`.
  abbrev pub GivesBack : Type 0
  GivesBack =
      (limit depth limit' depth' : ℕ) (a b c d : World) (line line' name name' bytes : List ℕ) (reply : Reply) →
      limit ≤ MOST_REGISTER
      → CarriesOut limit depth a line (Says done_line) b → FoundLast name (Written bytes) b
      → CarriesOut limit' depth' c line' reply d → IsPlain reply → FoundLast name' (Holding bytes) d
      → ((r s : ℕ) → line_of line ≡ Asks (Save r name) → line_of line' ≡ Asks (Load s name')
      → GetsList (list_at a.state.now r) s c.state reply d.state)
      × (line_of line ≡ Asks (Dump name) → line_of line' ≡ Asks (Restore name') → limit' ≡ limit → depth' ≡ depth
      → (reply ≡ Says done_line) × (d.state ≡ a.state))
