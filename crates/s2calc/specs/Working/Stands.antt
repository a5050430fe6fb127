-- How far a run has come in its script.
use Rattle.std.specs.Prelude.{◌≡◌, ◌<◌, ℕ, List, ◌∷◌, [], ◌++◌, ◌⊎◌, ◌+◌, Bool, true, false, Option, Result}
use Rattle.std.specs.Prelude.{MatchResult, length, take}
use Rattle.s2calc.specs.declared.fault.RunFault.{RunFault}
use Rattle.s2calc.specs.declared.fault.RunFault.TheVariants.{Output}
use Rattle.std.specs.Io.KnownBytes.{Appends, Keeps}
use Rattle.s2calc.specs.declared.limits.TheConstants.{KEPT}
use Rattle.s2calc.specs.declared.engine.Tally.{Tally}
use Rattle.s2calc.specs.declared.progress.Progress.{Progress}
use Rattle.s2script.specs.Line.{line_of}
use Rattle.s2script.specs.Lines.{BeginsWith, IsUnbroken, lines, but_last}
use Rattle.s2calc.specs.Output.{AppendsPart}
use Rattle.s2calc.specs.World.{World}
use Rattle.s2calc.specs.Replies.{Reply, text_of, texts, tally_of, NoneRefused}
use Rattle.s2calc.specs.Notes.{Noted, WritesNotes, note_of, notes_of, number_of}
use Rattle.s2calc.specs.Step.{Step, asks_for_file}
use Rattle.s2calc.specs.Run.{Steps, LastIsFirstRefused}

-- what a run has come to: the state and the files, and what was said of refused lines
pub record Point : Type 0 where
  pub world : World
  pub noted : Noted

-- the point with this world and these notes
abbrev pub point : World → Noted → Point
point world noted = record { world = world; noted = noted }

-- the notes on lines with these replies were written
abbrev pub Explains : Point → Point → List (List ℕ) → List Reply → Type 0
Explains old new ls replies = WritesNotes old.noted (notes_of ls replies) new.noted

-- what was written is all replies but the last, and the last without some bytes at its end
pub record IsCutOff (written : List ℕ) (replies : List Reply) : Type 0 where
  pub rest : List ℕ
  pub beginning : texts replies ≡ written ++ rest
  pub lacking : 0 < length rest
  pub all_but_last : (more : List ℕ) × (written ≡ texts (but_last replies) ++ more)

-- Starting from `start`, after these bytes: the lines that end in a newline were carried out with these replies, the
-- notes on them were written, and the first `KEPT` bytes of the rest are kept.
pub record Stands (start : Point) (script : List ℕ) (replies : List Reply) (now : Point) (progress : Progress) :
    Type 0 where
  pub done : List (List ℕ)
  pub rest : List ℕ
  pub begins : BeginsWith script done rest
  pub unbroken : IsUnbroken rest
  pub run : Steps start.world done replies now.world
  pub kept_is : progress.kept ≡ take KEPT rest
  pub tally_is : progress.tally ≡ tally_of replies
  pub lines_are : progress.lines ≡ number_of (length replies)
  pub noted : Explains start now done replies

-- the progress, with this line kept
abbrev pub keeping : List ℕ → Progress → Progress
keeping line progress = record { kept = line; tally = progress.tally; lines = progress.lines }

-- the line that is kept was carried out, answered and counted, and the note on it was written
pub record Answered (old : Point) (before : Progress) (new : Point) (after : Progress)
    (output_old output_new : Option (List ℕ)) : Type 0 where
  pub reply : Reply
  pub step : Step old.world before.kept reply new.world
  pub written : Appends output_old output_new (text_of reply)
  pub kept_is : after.kept ≡ before.kept
  pub tally_is : (replies : List Reply) → before.tally ≡ tally_of replies →
      after.tally ≡ tally_of (replies ++ reply ∷ [])
  pub lines_are : after.lines ≡ number_of (before.lines + 1)
  pub noted : WritesNotes old.noted (note_of (number_of (before.lines + 1)) before.kept reply) new.noted

-- the line that is kept was carried out, and the writer failed inside its answer; `Begun` says that the line was seen
-- to begin
pub record AnsweredInPart (Begun : Type 0) (old : Point) (before : Progress) (new : Point)
    (output_old output_new : Option (List ℕ)) : Type 0 where
  pub reply : Reply
  pub step : Step old.world before.kept reply new.world
  pub part : AppendsPart output_old output_new (text_of reply)
  pub quiet : new.noted ≡ old.noted
  pub begun : Begun

-- the line that is kept asks for a command with a file, and the flush before it failed, or that after it; `Unseen` says
-- that the line was not seen to begin
pub record AnsweredUnflushed (Unseen Begun : Type 0) (old : Point) (before : Progress) (new : Point) (after : Progress)
    (output_old output_new : Option (List ℕ)) : Type 0 where
  pub has_file : asks_for_file (line_of before.kept) ≡ true
  pub flush : ((new ≡ old) × Keeps output_old output_new × Unseen)
      ⊎ (Answered old before new after output_old output_new × Begun)

-- the run has gone through the chunk too, and the replies to its lines were written
pub record StandsAfter (start : Point) (script : List ℕ) (replies : List Reply) (chunk : List ℕ) (now : Point)
    (progress : Progress) (output_old output_new : Option (List ℕ)) : Type 0 where
  pub more : List Reply
  pub stands : Stands start (script ++ chunk) (replies ++ more) now progress
  pub written : Appends output_old output_new (texts more)

-- The run has gone through the chunk, and if it stops at a refused line, none was refused. Or it stops, and has gone
-- through the chunk to the end of its first refused line. `Seen` says what was seen of the lines that end in these
-- bytes and have these replies.
abbrev pub TakenIn : (List ℕ → List Reply → Type 0) → (stops halted : Bool) → Point → List ℕ → List Reply → List ℕ →
    Point → Progress → Option (List ℕ) → Option (List ℕ) → Type 0
TakenIn Seen stops false start script replies chunk now progress output_old output_new =
    (stands : StandsAfter start script replies chunk now progress output_old output_new) × Seen chunk stands.more
    × (stops ≡ true → NoneRefused (replies ++ stands.more))
TakenIn Seen stops true start script replies chunk now progress output_old output_new =
    (used : List ℕ) × (unused : List ℕ) × (chunk ≡ used ++ unused)
    × (stands : StandsAfter start script replies used now progress output_old output_new) × Seen used stands.more
    × (stops ≡ true) × LastIsFirstRefused (replies ++ stands.more) × (0 < length stands.more)

-- the writer failed inside the answer to a line that ends in the chunk; `Seen` says how many lines were seen to begin
-- and to end, where those that were carried out have `more` replies
pub record StopsInside (Seen : List Reply → ℕ → ℕ → Type 0) (start : Point) (script : List ℕ) (replies : List Reply)
    (chunk : List ℕ) (now : Point) (output_old output_new : Option (List ℕ)) : Type 0 where
  pub done : List (List ℕ)
  pub rest : List ℕ
  pub more : List Reply
  pub bytes : List ℕ
  pub begins : BeginsWith (script ++ chunk) done rest
  pub run : Steps start.world done (replies ++ more) now.world
  pub written : Appends output_old output_new bytes
  pub cut_off : IsCutOff bytes more
  pub noted : Explains start now done (but_last (replies ++ more))
  pub ended : ℕ
  pub one_more : ended + 1 ≡ length done
  pub seen : Seen more (length done) ended

-- the flush before or after a line that ends in the chunk and asks for a command with a file failed
pub record StopsBeside (Seen : List Reply → ℕ → ℕ → Type 0) (start : Point) (script : List ℕ) (replies : List Reply)
    (chunk : List ℕ) (now : Point) (output_old output_new : Option (List ℕ)) : Type 0 where
  pub before : List (List ℕ)
  pub line : List ℕ
  pub done : List (List ℕ)
  pub rest : List ℕ
  pub more : List Reply
  pub begins : BeginsWith (script ++ chunk) (before ++ line ∷ []) rest
  pub has_file : asks_for_file (line_of line) ≡ true
  pub done_are : (done ≡ before) ⊎ (done ≡ before ++ line ∷ [])
  pub run : Steps start.world done (replies ++ more) now.world
  pub written : Appends output_old output_new (texts more)
  pub noted : Explains start now done (replies ++ more)
  pub seen : Seen more (length done) (length before)

-- the writer failed inside the answer to a line that ends in the chunk, or a flush beside such a line; `may_fail` says
-- whether a flush before the end may fail
abbrev pub StopsIn : Type 0 → (List Reply → ℕ → ℕ → Type 0) → Point → List ℕ → List Reply → List ℕ → Point →
    Option (List ℕ) → Option (List ℕ) → Type 0
StopsIn may_fail Seen start script replies chunk now output_old output_new =
    StopsInside Seen start script replies chunk now output_old output_new
    ⊎ (may_fail × StopsBeside Seen start script replies chunk now output_old output_new)

-- the last line of the script was carried out too, and all answers were written
pub record Ended (Seen : List Reply → ℕ → ℕ → Type 0) (start : Point) (script : List ℕ) (replies : List Reply)
    (now : Point) (output_old output_new : Option (List ℕ)) (tally : Tally) : Type 0 where
  pub more : List Reply
  pub run : Steps start.world (lines script) (replies ++ more) now.world
  pub written : Appends output_old output_new (texts more)
  pub tally_is : tally ≡ tally_of (replies ++ more)
  pub noted : Explains start now (lines script) (replies ++ more)
  pub seen : Seen more (length (lines script)) (length (lines script))

-- the last line was carried out, and the writer failed inside its answer
pub record EndsInPart (Seen : List Reply → ℕ → ℕ → Type 0) (start : Point) (script : List ℕ) (replies : List Reply)
    (now : Point) (output_old output_new : Option (List ℕ)) : Type 0 where
  pub more : List Reply
  pub bytes : List ℕ
  pub run : Steps start.world (lines script) (replies ++ more) now.world
  pub written : Appends output_old output_new bytes
  pub cut_off : IsCutOff bytes more
  pub noted : Explains start now (lines script) (but_last (replies ++ more))
  pub ended : ℕ
  pub one_more : ended + 1 ≡ length (lines script)
  pub seen : Seen more (length (lines script)) ended

-- the last line was carried out and answered, and a flush failed
pub record EndsUnflushed (Seen : List Reply → ℕ → ℕ → Type 0) (start : Point) (script : List ℕ) (replies : List Reply)
    (now : Point) (output_old output_new : Option (List ℕ)) : Type 0 where
  pub more : List Reply
  pub run : Steps start.world (lines script) (replies ++ more) now.world
  pub written : Appends output_old output_new (texts more)
  pub noted : Explains start now (lines script) (replies ++ more)
  pub ended : ℕ
  pub ended_are : (ended ≡ length (lines script)) ⊎ (ended + 1 ≡ length (lines script))
  pub seen : Seen more (length (lines script)) ended

-- the flush before the last line failed, which asks for a command with a file
pub record EndsBefore (Seen : List Reply → ℕ → ℕ → Type 0) (start : Point) (script : List ℕ) (replies : List Reply)
    (now : Point) (output_old output_new : Option (List ℕ)) : Type 0 where
  pub before : List (List ℕ)
  pub line : List ℕ
  pub lines_are : before ++ line ∷ [] ≡ lines script
  pub has_file : asks_for_file (line_of line) ≡ true
  pub run : Steps start.world before replies now.world
  pub kept : Keeps output_old output_new
  pub noted : Explains start now before replies
  pub seen : Seen [] (length before) (length before)

-- the end of a run: all lines were answered, or the writer or a flush failed; `may_fail` says whether a flush before
-- the end may fail
abbrev pub Closes : Type 0 → (List Reply → ℕ → ℕ → Type 0) → Point → List ℕ → List Reply → Point → Option (List ℕ) →
    Option (List ℕ) → Result Tally RunFault → Type 0
Closes may_fail Seen start script replies now output_old output_new result =
    MatchResult result (Ended Seen start script replies now output_old output_new) (λ fault. (fault ≡ Output)
    × (EndsInPart Seen start script replies now output_old output_new
    ⊎ EndsUnflushed Seen start script replies now output_old output_new
    ⊎ (may_fail × EndsBefore Seen start script replies now output_old output_new)))
