-- What a run does: how far it came, and what its result says of that.
use Rattle.std.specs.Prelude.{◌≡◌, ◌<◌, ℕ, ◌⊎◌, Bool, true, false, List, [], ◌∷◌, ◌++◌, length, Option, None, Some}
use Rattle.std.specs.Prelude.{Result, Ok, Err}
use Rattle.std.specs.Io.KnownBytes.{Appends, IsAtEnd}
use Rattle.s2calc.specs.World.{World}
use Rattle.s2calc.specs.declared.engine.Tally.{Tally}
use Rattle.s2calc.specs.declared.fault.RunFault.{RunFault}
use Rattle.s2calc.specs.declared.fault.RunFault.TheVariants.{Input, Output, Memory}
use Rattle.s2script.specs.Line.{line_of}
use Rattle.s2script.specs.Lines.{lines, whole_lines, but_last, BeginsWith}
use Rattle.s2calc.specs.Replies.{Reply, texts, tally_of, is_refusal, NoneRefused}
use Rattle.s2calc.specs.Notes.{Noted, WritesNotes, notes_of}
use Rattle.s2calc.specs.Step.{Step, asks_for_file}
use Rattle.s2calc.specs.Calls.{Call, Flushed, Failed, Gains, AllWell, EndsWith}
use Rattle.s2calc.specs.Reads.{ReaderState, Gives, AllGave, ReadsLast, ReadsStop, ReadsWell}

-- these lines, carried out one after another, may have these replies
abbrev pub Steps : World → List (List ℕ) → List Reply → World → Type 0
Steps old [] [] new = new ≡ old
Steps old (line ∷ ls) (reply ∷ replies) new = (mid : World) × Step old line reply mid × Steps mid ls replies new
Steps old [] (reply ∷ replies) new = ⊥
Steps old (line ∷ ls) [] new = ⊥

-- What is known of a run before or after it: the state of the editor and the files; the bytes that the reader will
-- give and those that it gave, and how each read ended; the bytes that were written, and the calls of the writer; and
-- the notes on refused lines.
pub record Known : Type 0 where
  pub world : World
  pub input : ReaderState
  pub reads : Option (List (Option ℕ))
  pub output : Option (List ℕ)
  pub calls : Option (List Call)
  pub noted : Noted

-- what is known, in the order of `Known`
abbrev pub known : World → ReaderState → Option (List (Option ℕ)) → Option (List ℕ) → Option (List Call) → Noted → Known
known world input reads output calls noted =
    record { world = world; input = input; reads = reads; output = output; calls = calls; noted = noted }

-- nothing is known of the notes, since none are written
abbrev pub no_notes : Noted
no_notes = record { contents = None; calls = None; stopped = false }

-- the replies that came out whole, if these bytes of their texts are left: all of them, or all but the last
abbrev pub came_out : List Reply → List ℕ → List Reply
came_out replies [] = replies
came_out replies (byte ∷ left) = but_last replies

-- What a run did between these two worlds: it carried out some lines, and wrote the texts of their replies except for
-- what is left of the last.
pub record Did (start now : World) (written : List ℕ) : Type 0 where
  pub done : List (List ℕ)
  pub replies : List Reply
  pub left : List ℕ
  pub steps : Steps start done replies now
  pub texts_are : texts replies ≡ written ++ left
  pub all_but_last : (more : List ℕ) × (written ≡ texts (came_out replies left) ++ more)

-- The lines are the first of a script's, and were read to their end: each ends in a newline, or they are all lines and
-- the script has ended, which `Ended` says.
abbrev pub WereReadWhole : List ℕ → Type 0 → List (List ℕ) → Type 0
WereReadWhole script Ended ls = ((more : List ℕ) × BeginsWith script ls more) ⊎ ((ls ≡ lines script) × Ended)

-- A command with a file was read to its end. The lines before it were carried out, or the command too, and exactly
-- their answers were written. `Ended` says that the script has ended.
pub record BesideFile (script : List ℕ) (Ended : Type 0) (done : List (List ℕ)) (left : List ℕ) : Type 0 where
  pub before : List (List ℕ)
  pub line : List ℕ
  pub read_whole : WereReadWhole script Ended (before ++ line ∷ [])
  pub has_file : asks_for_file (line_of line) ≡ true
  pub done_are : (done ≡ before) ⊎ (done ≡ before ++ line ∷ [])
  pub none_left : left ≡ []

-- the last of these replies refuses its line, and no other does
pub record LastIsFirstRefused (replies : List Reply) : Type 0 where
  pub before : List Reply
  pub last : Reply
  pub replies_are : replies ≡ before ++ last ∷ []
  pub refused : is_refusal last ≡ true
  pub none_before : NoneRefused before

-- What a run did that was stopped by a refused line: the lines that were carried out are the first of the script, the
-- last of them is the first that was refused, and all answers were written. What follows in the script was read, and
-- not used.
pub record IsHalted (script : List ℕ) (done : List (List ℕ)) (replies : List Reply) (left : List ℕ) : Type 0 where
  pub unused : List ℕ
  pub begins : BeginsWith script done unused
  pub refused : LastIsFirstRefused replies
  pub none_left : left ≡ []

module _ {start now : World} {written : List ℕ} (script : List ℕ) where
  -- exactly the lines that were read whole were carried out, and exactly their answers were written
  abbrev pub WholeLines : Did start now written → Type 0
  WholeLines did = (did.done ≡ whole_lines script) × (did.left ≡ [])

  -- What a run did that was stopped by a refused line, by its result, which says how the last flush ended. Each read
  -- gave some bytes.
  abbrev pub Halts : Type 0 → List (Option ℕ) → List Call → Did start now written → Result Tally RunFault → Type 0
  Halts may_flush reads called did (Ok tally) = IsHalted script did.done did.replies did.left
      × (tally ≡ tally_of did.replies) × AllGave reads × EndsWith Flushed may_flush called
  Halts may_flush reads called did (Err Input) = ⊥
  Halts may_flush reads called did (Err Output) = IsHalted script did.done did.replies did.left × AllGave reads
      × EndsWith Failed may_flush called
  Halts may_flush reads called did (Err Memory) = ⊥

  -- `Ended` says that the script has ended
  module _ (Ended : Type 0) where
    -- the script has ended, all its lines were carried out, and all answers were written
    abbrev pub AllLines : Did start now written → Type 0
    AllLines did = (did.done ≡ lines script) × Ended × (did.left ≡ [])

    -- the last line that was carried out was read to its end, and some bytes of its answer are missing
    abbrev pub InsideAnswer : Did start now written → Type 0
    InsideAnswer did = WereReadWhole script Ended did.done × (0 < length did.left)

    -- What a run did with the script, by its result: which lines were carried out, and how its reads and the calls of
    -- its writer ended. After `Output` a write failed inside an answer; or a flush failed, the last one, or, if there
    -- are flushes before the end, one before a read or beside a command with a file. After `Memory` nothing was called.
    abbrev pub Ends : Type 0 → List (Option ℕ) → List Call → Did start now written → Result Tally RunFault → Type 0
    Ends may_flush reads called did (Ok tally) = AllLines did × (tally ≡ tally_of did.replies)
        × ReadsLast (Some 0) reads × EndsWith Flushed may_flush called
    Ends may_flush reads called did (Err Input) = WholeLines did × ReadsStop reads × AllWell may_flush called
    Ends may_flush reads called did (Err Output) =
        (InsideAnswer did ⊎ AllLines did ⊎ (may_flush × (WholeLines did ⊎ BesideFile script Ended did.done did.left)))
        × ReadsWell reads × EndsWith Failed may_flush called
    Ends may_flush reads called did (Err Memory) = (did.done ≡ []) × (reads ≡ []) × (called ≡ [])

    -- The same of a run that stops at its first refused line if `stops`: it was stopped by that line, or ended as any
    -- run does.
    abbrev pub EndsOrHalts : Bool → Type 0 → List (Option ℕ) → List Call → Did start now written →
        Result Tally RunFault → Type 0
    EndsOrHalts stops may_flush reads called did result =
        Ends may_flush reads called did result ⊎ ((stops ≡ true) × Halts may_flush reads called did result)

-- Only the last of these replies refuses its line, and that line was not read to its end before the last read, which
-- gave these bytes.
pub record LastRefused (script : List ℕ) (reads : List (Option ℕ)) (replies : List Reply) : Type 0 where
  pub earlier : List ℕ
  pub bytes : List ℕ
  pub script_is : script ≡ earlier ++ bytes
  pub read_last : ReadsLast (Some (length bytes)) reads
  pub read_then : length (whole_lines earlier) < length replies
  pub none_before : NoneRefused (but_last replies)

-- nothing came after a refused line: no other line was carried out, and nothing was read
abbrev pub NoneAfterRefused : List ℕ → List (Option ℕ) → List Reply → Type 0
NoneAfterRefused script reads replies = NoneRefused replies ⊎ LastRefused script reads replies

-- What a run did, and what is known of it before and after: by these reads the reader gave the script, and by these
-- calls the writer took what was written; and the notes are those on the replies that came out whole.
pub record Ran (old new : Known) : Type 0 where
  pub script : List ℕ
  pub reads : List (Option ℕ)
  pub written : List ℕ
  pub called : List Call
  pub did : Did old.world new.world written
  pub read : Gives old.input new.input script
  pub made : Gains old.reads new.reads reads
  pub appended : Appends old.output new.output written
  pub called_are : Gains old.calls new.calls called
  pub noted : WritesNotes old.noted (notes_of did.done (came_out did.replies did.left)) new.noted

-- after `Memory` nothing has changed
abbrev pub Unchanged : Known → Known → Result Tally RunFault → Type 0
Unchanged old new (Err Memory) = new ≡ old
Unchanged old new result = Unit {0}

-- What a run does, by its result; `stops` says whether it stops at its first refused line, and `may_flush` whether
-- there are flushes before the end. Its script has ended if the last read gave nothing, and then the reader has nothing
-- left.
pub record Runs (stops : Bool) (may_flush : Type 0) (old new : Known) (result : Result Tally RunFault) : Type 0 where
  pub ran : Ran old new
  pub ends : EndsOrHalts ran.script (ReadsLast (Some 0) ran.reads × IsAtEnd new.input.ahead) stops may_flush ran.reads
      ran.called ran.did result
  pub halts : stops ≡ true → NoneAfterRefused ran.script ran.reads ran.did.replies
  pub unchanged : Unchanged old new result
