-- The order in which a run reads, carries out lines, and writes.
use Rattle.std.specs.Prelude.{◌≡◌, ℕ, ◌⊎◌, true, List, [], ◌∷◌, ◌++◌, length, ◌+◌, Option, Some, Result, Ok, Err}
use Rattle.std.specs.Io.KnownBytes.{Appends}
use Rattle.s2shelf.specs.Shelf.{Files}
use Rattle.s2script.specs.Line.{line_of}
use Rattle.s2script.specs.Lines.{whole_lines}
use Rattle.s2calc.specs.declared.engine.Tally.{Tally}
use Rattle.s2calc.specs.declared.fault.RunFault.{RunFault}
use Rattle.s2calc.specs.declared.fault.RunFault.TheVariants.{Input, Output, Memory}
use Rattle.s2calc.specs.World.{World}
use Rattle.s2calc.specs.Replies.{Reply, texts}
use Rattle.s2calc.specs.Step.{asks_for_file}
use Rattle.s2calc.specs.Run.{Steps, Known, Ran, WereReadWhole}
use Rattle.s2calc.specs.Calls.{Call, Flushed, AllWell, EndsWith, Gains, Gained}
use Rattle.s2calc.specs.Reads.{ReadsLast}
use Rattle.s2calc.specs.Moments.{Event, Came, ReadFailed, LineBegins, LineEnds, Moment, bytes_read, ends_of}
use Rattle.s2calc.specs.Moments.{reads_seen, begun_in, ended_in, Adds}

-- the lines that are carried out where a line begins or ends: those before it, and then the line too
abbrev pub done_at : Event → List (List ℕ) → List ℕ → List (List ℕ)
done_at (Came bytes) before line = before
done_at ReadFailed before line = before
done_at LineBegins before line = before
done_at LineEnds before line = before ++ line ∷ []

-- a read gave nothing: the reader is at its end
pub record HasEnded {W S : Type 0} (past : List (Moment W S)) : Type 0 where
  pub before : List (Moment W S)
  pub last : Moment W S
  pub after : List (Moment W S)
  pub is : past ≡ before ++ (last ∷ after)
  pub nothing_came : last.event ≡ Came []

-- Nothing waits in the writer, and if the run flushes before the end, its last call was a flush. `Called` says that
-- something holds of the calls of the writer since the run began.
pub record GoneOut {W : Type 0} (Called : W → (List Call → Type 0) → Type 0) (is_sent : W → Type 0)
    (may_flush : Type 0) (writer : W) : Type 0 where
  pub sent : is_sent writer
  pub flushed : may_flush → Called writer (EndsWith Flushed may_flush)

-- The order of a run that starts in this world, and has these replies, `all`. `Written` says that just these bytes were
-- written since the run began, as a writer has it; `Called` that something holds of the calls of the writer since then;
-- `is_sent` that nothing waits in it; `files` what is known of a shelf; `may_flush` whether the run flushes before the
-- end.
module _ {W S : Type 0} (Written : W → List ℕ → Type 0) (Called : W → (List Call → Type 0) → Type 0)
    (is_sent : W → Type 0) (files : S → Files) (may_flush : Type 0) (start : World) (all : List Reply) where
  -- exactly the answers to these lines were written, which are the first of the run, and no call of the writer failed
  pub record AllOut (ls : List (List ℕ)) (writer : W) : Type 0 where
    pub replies : List Reply
    pub later : List Reply
    pub of_run : all ≡ replies ++ later
    pub now : World
    pub steps : Steps start ls replies now
    pub out : Written writer (texts replies)
    pub none_failed : Called writer (AllWell may_flush)

  -- a read comes where the answers to all lines that were read whole are out
  pub record ReadsWhen (past : List (Moment W S)) (now : Moment W S) : Type 0 where
    pub answers : AllOut (whole_lines (bytes_read past)) now.writer
    pub gone_out : GoneOut Called is_sent may_flush now.writer

  -- A line begins where it was read to its end, where just the lines before it have begun and ended, where the answers
  -- to all of these are out, and with the files that they have left. It ends where just it has begun since then, and
  -- its own answer is out too. At a command with a file, both have gone out.
  pub record LineWhen (past : List (Moment W S)) (now : Moment W S) : Type 0 where
    pub before : List (List ℕ)
    pub line : List ℕ
    pub begun : begun_in past ≡ length before + ends_of now.event
    pub ended : ended_in past ≡ length before
    pub read_whole : WereReadWhole (bytes_read past) (HasEnded past) (before ++ line ∷ [])
    pub answers : AllOut (done_at now.event before line) now.writer
    pub files_are : answers.now.files ≡ files now.shelf
    pub gone_out : asks_for_file (line_of line) ≡ true → GoneOut Called is_sent may_flush now.writer

  -- this moment may come after those before it
  abbrev pub MayCome : Event → List (Moment W S) → Moment W S → Type 0
  MayCome (Came bytes) past now = ReadsWhen past now
  MayCome ReadFailed past now = ReadsWhen past now
  MayCome LineBegins past now = LineWhen past now
  MayCome LineEnds past now = LineWhen past now

  -- each of the moments came where it may, after those before it
  abbrev pub EachMay : List (Moment W S) → List (Moment W S) → Type 0
  EachMay past [] = Unit {0}
  EachMay past (now ∷ moments) = MayCome now.event past now × EachMay (past ++ now ∷ []) moments

-- The order of a run that starts in this world with this writer. `contents` and `calls` say what a writer holds, and
-- which calls it has seen.
module _ {W S : Type 0} (contents : W → Option (List ℕ)) (calls : W → Option (List Call)) (is_sent : W → Type 0)
    (files : S → Files) (may_flush : Type 0) (start : World) (first : W) where
  -- these moments come where they may, in a run that has these replies
  abbrev pub Each : List Reply → List (Moment W S) → List (Moment W S) → Type 0
  Each all past moments = EachMay (λ writer. Appends (contents first) (contents writer))
      (λ writer. Gained (calls first) (calls writer)) is_sent files may_flush start all past moments

  -- Each read and each line came where it may; the reads gave the script, and the reader made these reads and no others
  -- between `old` and `new`; and this many lines were seen to begin and to end.
  pub record InOrder (all : List Reply) (script : List ℕ) (begun ended : ℕ) (old new : Option (List (Option ℕ)))
      (moments : List (Moment W S)) : Type 0 where
    pub each : Each all [] moments
    pub read : bytes_read moments ≡ script
    pub made : Gains old new (reads_seen moments)
    pub begins : begun_in moments ≡ begun
    pub ends : ended_in moments ≡ ended

  -- the moments of this run are in order, each line that was carried out began, and this many ended
  abbrev pub Follows : {old new : Known} → Ran old new → ℕ → List (Moment W S) → Type 0
  Follows {old} {new} ran ended moments =
      InOrder ran.did.replies ran.script (length ran.did.done) ended old.reads new.reads moments

  -- What an observer saw of a run, if it keeps a list. After `Output` each line that was carried out was seen to begin,
  -- and each but the last to end; the last may have ended only if its answer was written.
  abbrev pub Ordered : {old new : Known} → Ran old new → Option (List (Moment W S)) → Option (List (Moment W S)) →
      Result Tally RunFault → Type 0
  Ordered ran old new (Ok tally) = Adds old new
      (λ moments. Follows ran (length ran.did.done) moments × (ReadsLast (Some 0) ran.reads → HasEnded moments))
  Ordered ran old new (Err Input) = Adds old new (Follows ran (length ran.did.done))
  Ordered ran old new (Err Output) = (ended : ℕ) × Adds old new (Follows ran ended)
      × (((ended ≡ length ran.did.done) × (ran.did.left ≡ [])) ⊎ (ended + 1 ≡ length ran.did.done))
  Ordered ran old new (Err Memory) = Adds old new (λ moments. moments ≡ [])
