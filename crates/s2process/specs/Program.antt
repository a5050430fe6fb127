-- What the program did, by what it was asked for.
use Rattle.std.specs.Prelude.{◌≡◌, ℕ, ◌⊎◌, Bool, true, false, not, List, [], ◌∷◌, ◌++◌, map}
use Rattle.std.specs.Prelude.{replicate, string_bytes, Result, Ok, Err}
use Rattle.s2shelf.specs.Shelf.{Files}
use Rattle.s2edit.specs.History.{History, untouched}
use Rattle.s2script.specs.declared.register.TheConstants.{REGISTERS}
use Rattle.s2calc.specs.declared.engine.Tally.{Tally}
use Rattle.s2calc.specs.declared.fault.RunFault.{RunFault}
use Rattle.s2calc.specs.declared.fault.RunFault.TheVariants.{Output, Memory}
use Rattle.s2calc.specs.declared.task.Job.{Job}
use Rattle.s2calc.specs.declared.task.Job.TheVariants.{Run, Cell, Check, Draw, Overlay, Fit, DrawCells}
use Rattle.s2calc.specs.declared.task.Stop.{Stop}
use Rattle.s2calc.specs.declared.task.Stop.TheVariants.{Help, Usage, Memory as NoMemory}
use Rattle.s2calc.specs.Buffered.{Buffered}
use Rattle.s2calc.specs.Calls.{Call}
use Rattle.s2calc.specs.Check.{Checks}
use Rattle.s2calc.specs.Draw.{Draws, DrawsWords}
use Rattle.s2calc.specs.Fit.{Fits}
use Rattle.s2calc.specs.Moments.{Moment}
use Rattle.s2calc.specs.Overlay.{Overlays}
use Rattle.s2calc.specs.Program.{cell_reply, status_of, status_of_answer}
use Rattle.s2calc.specs.Replies.{Reply, Says, text_of, is_refusal}
use Rattle.s2calc.specs.Run.{Did}
use Rattle.s2calc.specs.World.{World, world}
use Rattle.s2process.specs.declared.ended.Ended.{Ended}
use Rattle.s2process.specs.declared.folders.Opening.TheVariants.{Unopened, Failed, Opened}
use Rattle.s2process.specs.declared.writer.ListedWriter.{ListedWriter}
use Rattle.s2process.specs.Ends.{LastFlushed, LastFailed}
use Rattle.s2process.specs.Errors.{fault_line, fault_line_of, usage_text, misnamed_lines, Tells, IsSaidAfter}
use Rattle.s2process.specs.Explained.{Explains}
use Rattle.s2process.specs.Listed.{given, reads, taken, called}
use Rattle.s2process.specs.Process.{RunsListed}
use Rattle.s2process.specs.Streams.{Unread, Unwritten}

-- A writer took these bytes of an answer, by calls that ended so. After `Ok` all of it was taken, and then flushed; the
-- result is true unless the answer is a refusal. After `Err` a beginning of it was taken, and then a write or the flush
-- failed, the last call.
abbrev pub Shows : Reply → List ℕ → List Call → Result Bool RunFault → Type 0
Shows reply bytes calls (Ok passed) = (passed ≡ not (is_refusal reply)) × (bytes ≡ text_of reply) × LastFlushed calls
Shows reply bytes calls (Err fault) =
    (fault ≡ Output) × ((rest : List ℕ) × (text_of reply ≡ bytes ++ rest)) × LastFailed calls

module _ {R W E F S : Type 0} (ended : Ended R W E F S) where
  -- no folder was opened: that would have used up these folders, which are given back
  abbrev pub NoneOpened : Type 0
  NoneOpened = (folders : F) × (ended.folder ≡ Unopened folders)

  -- standard error got this text and nothing else, or a beginning of it, and then a call of it failed
  abbrev pub GetsAlone : List ℕ → Type 0
  GetsAlone text = Tells text (taken ended.streams.errors) (called ended.streams.errors)

  -- there was no memory to begin with: nothing was read from the input or written to the output
  pub record NotBegun : Type 0 where
    pub unread : Unread ended.streams
    pub unwritten : Unwritten ended.streams
    pub tells : GetsAlone (fault_line Memory)
    pub status_is : ended.status ≡ 3

  -- the words of the command line made no sense, and this is what is wrong with them: nothing was read from the input
  -- or written to the output, and no folder was opened
  pub record ShowsUsage (wrong : List ℕ) : Type 0 where
    pub unread : Unread ended.streams
    pub unwritten : Unwritten ended.streams
    pub unopened : NoneOpened
    pub tells : GetsAlone (usage_text wrong)
    pub status_is : ended.status ≡ 2

  -- An answer was written and flushed, one that it may be; or a beginning of it was, and then a write or the flush
  -- failed. Nothing was read from the input. If the answer is a refusal, this is what standard error gets.
  pub record ShowsAnswer (MayBe : Reply → Type 0) (said : List ℕ) : Type 0 where
    pub reply : Reply
    pub may_be : MayBe reply
    pub result : Result Bool RunFault
    pub unread : Unread ended.streams
    pub shown : Shows reply (taken ended.streams.output) (called ended.streams.output) result
    pub text : List ℕ
    pub text_is : IsSaidAfter said result text
    pub tells : GetsAlone text
    pub status_is : ended.status ≡ status_of_answer result

  -- the answer was given without a folder
  abbrev pub AsksNoFolder : (Reply → Type 0) → Type 0
  AsksNoFolder MayBe = NoneOpened × ShowsAnswer MayBe []

  -- what a program did that was asked for no job
  abbrev pub Stops : Stop → Type 0
  Stops (Help text) = AsksNoFolder (λ reply. reply ≡ Says (string_bytes text))
  Stops (Usage text) = ShowsUsage (string_bytes text)
  Stops NoMemory = NotBegun × NoneOpened

  -- standard error got the notes on what a run did, as far as it took them, and then this text, as far as it took that
  pub record TellsNotes {start now : World} {written : List ℕ} (did : Did start now written) (text : List ℕ) :
      Type 0 where
    pub notes : List ℕ
    pub noted : List Call
    pub stopped : Bool
    pub explains : Explains did notes noted stopped
    pub bytes : List ℕ
    pub calls : List Call
    pub taken_are : taken ended.streams.errors ≡ notes ++ bytes
    pub called_are : called ended.streams.errors ≡ noted ++ calls
    pub tells : Tells text bytes calls

-- `opened` says that a folder was opened at a path
module _ {R W E F S : Type 0} (opened : S → List ℕ → Type 0) (ended : Ended R W E F S) where
  -- there was no memory to begin with, and no folder was asked for a file: none was opened, or there was no memory to
  -- open one, or the one at this path was opened, and nothing else was asked of it
  abbrev pub NotBegunAt : List ℕ → Type 0
  NotBegunAt path = NotBegun ended × (NoneOpened ended ⊎ (ended.folder ≡ Failed)
      ⊎ ((folder : S) × opened folder path × (ended.folder ≡ Opened folder)))

-- `files` says what is known of a folder, and `opened` that it was opened at a path
module _ {R W E F S : Type 0} (files : S → Files) (opened : S → List ℕ → Type 0) (ended : Ended R W E F S) where
  -- the folder at this path was asked for the answer; or there was no memory to begin with
  abbrev pub AsksFolder : List ℕ → (Files → Reply → Files → Type 0) → List ℕ → Type 0
  AsksFolder path MayBe said = NotBegunAt opened ended path
      ⊎ ((first : S) × (last : S) × opened first path × (ended.folder ≡ Opened last)
      × ShowsAnswer ended (λ reply. MayBe (files first) reply (files last)) said)

-- `moments` are what was seen of the run
module _ {R W E F S : Type 0} (files : S → Files) (opened : S → List ℕ → Type 0)
    (moments : List (Moment (Buffered (ListedWriter W)) S)) (ended : Ended R W E F S) where
  -- what was done from this state of the editor, with the folder at this path, with notes if it explains, and up to the
  -- first refused line if it stops there
  pub record RunsFrom (start : History (List ℕ)) (path : List ℕ) (explains stops : Bool) : Type 0 where
    pub first : S
    pub last : S
    pub at_path : opened first path
    pub folder_is : ended.folder ≡ Opened last
    -- the state of the editor when the run ended
    pub now : History (List ℕ)
    -- the bytes of answers that still waited when the run ended, and are lost: none but after `Output`
    pub waiting : List ℕ
    pub result : Result Tally RunFault
    pub runs : RunsListed taken called files stops (given ended.streams.input) (reads ended.streams.input)
        (world start (files first)) (world now (files last)) moments ended.streams.output waiting result
    pub tells : explains ≡ false → GetsAlone ended (fault_line_of result)
    pub tells_notes : explains ≡ true → TellsNotes ended runs.did (fault_line_of result)
    pub status_is : ended.status ≡ status_of result

  -- the script was run from this state of the editor; or there was no memory to begin with
  abbrev pub MayRunFrom : History (List ℕ) → List ℕ → (explains stops : Bool) → Type 0
  MayRunFrom start path explains stops =
      (NotBegunAt opened ended path × (moments ≡ [])) ⊎ RunsFrom start path explains stops

  -- the script was run, with a new editor; or there was no memory to begin with
  abbrev pub RunsScript : ℕ → ℕ → List ℕ → (explains stops : Bool) → Type 0
  RunsScript limit depth path explains stops =
      MayRunFrom (untouched limit depth (replicate REGISTERS [])) path explains stops

  -- what was done for a job
  abbrev pub DoesJob : Job → Type 0
  DoesJob (Run limit depth dir explain prompt stop) = RunsScript limit depth (string_bytes dir) explain stop
  DoesJob (Cell word) = AsksNoFolder ended (λ reply. reply ≡ cell_reply (string_bytes word))
  DoesJob (Check dir name) =
      AsksFolder files opened ended (string_bytes dir) (Checks (string_bytes name))
      (misnamed_lines (string_bytes name ∷ []))
  DoesJob (Draw dir name curve) =
      AsksFolder files opened ended (string_bytes dir) (Draws (string_bytes name) curve)
      (misnamed_lines (string_bytes name ∷ []))
  DoesJob (Overlay dir names curve) =
      AsksFolder files opened ended (string_bytes dir) (Overlays (map string_bytes names.items) curve)
      (misnamed_lines (map string_bytes names.items))
  DoesJob (Fit dir names) =
      AsksFolder files opened ended (string_bytes dir) (Fits (map string_bytes names.items))
      (misnamed_lines (map string_bytes names.items))
  DoesJob (DrawCells words curve) = AsksNoFolder ended (DrawsWords (map string_bytes words.items) curve)

  -- what the program did: the job that it was asked for, or why it was asked for none
  abbrev pub Does : Result Job Stop → Type 0
  Does (Ok job) = DoesJob job
  Does (Err stop) = Stops ended stop
