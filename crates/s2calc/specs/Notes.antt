-- What a run says of the lines that it refuses.
use Rattle.std.specs.Prelude.{◌≡◌, ℕ, ◌+◌, ◌-◌, ◌^◌, ◌<◌, min, Bool, true, false, List, []}
use Rattle.std.specs.Prelude.{◌∷◌, ◌++◌, length, Option, Some, None, codes, decimal}
use Rattle.std.specs.Io.KnownBytes.{Appends}
use Rattle.s2script.specs.declared.misfit.Misfit.{Misfit}
use Rattle.s2script.specs.Line.{misfit_of}
use Rattle.s2script.specs.MisfitTexts.{misfit_text}
use Rattle.s2calc.specs.declared.refusal.Refusal.{Refusal}
use Rattle.s2calc.specs.declared.refusal.Refusal.TheVariants.{Words, Missing, File, Format, Session, TooDeep, TooMany}
use Rattle.s2calc.specs.declared.refusal.Refusal.TheVariants.{Nothing, Memory}
use Rattle.s2calc.specs.Refusals.{name_of}
use Rattle.s2calc.specs.Calls.{Call, NoneFailed, LastFailed}
use Rattle.s2calc.specs.Replies.{Reply, Silent, Says, Refuses}

-- where a line does not fit, if it does not
abbrev pub misfit_reason : Option Misfit → List ℕ
misfit_reason None = []
misfit_reason (Some misfit) = misfit_text misfit

-- why a line is refused: where it does not fit, if it is refused for its words, and else one sentence for each refusal
abbrev pub reason_of : List ℕ → Refusal → List ℕ
reason_of line (Words refusal) = misfit_reason (misfit_of line)
reason_of line Missing = codes "there is no file of that name"
reason_of line File = codes "the file could not be read or written"
reason_of line Format = codes "the file is not a union file"
reason_of line Session = codes "the file is not a session file"
reason_of line TooDeep = codes "the session has more states than the depth"
reason_of line TooMany =
    codes "too many cells: a register has up to 10000 (regions of the Earth: --limit 1000000), denorm lists 1000000"
reason_of line Nothing = codes "there is nothing to undo or redo"
reason_of line Memory = codes "out of memory"

-- the note on the refused line with this number, without its newline: the number, the refusal and the reason
abbrev pub note_text : ℕ → List ℕ → Refusal → List ℕ
note_text number line refusal =
    codes "line " ++ decimal number ++ codes ": error " ++ name_of refusal ++ codes ": " ++ reason_of line refusal

-- the note on a line, by its reply: only a refusal has one
abbrev pub note_of : ℕ → List ℕ → Reply → List ℕ
note_of number line Silent = []
note_of number line (Says text) = []
note_of number line (Refuses refusal) = note_text number line refusal ++ 10 ∷ []

-- the number of a line, which stops at the greatest u64
abbrev pub number_of : ℕ → ℕ
number_of n = min n (2 ^ 64 - 1)

-- the notes on lines with these replies, counted from `n`
abbrev pub notes_from : ℕ → List (List ℕ) → List Reply → List ℕ
notes_from n [] replies = []
notes_from n (line ∷ ls) [] = []
notes_from n (line ∷ ls) (reply ∷ replies) = note_of (number_of n) line reply ++ notes_from (n + 1) ls replies

-- the notes on the lines of a script, counted from 1
abbrev pub notes_of : List (List ℕ) → List Reply → List ℕ
notes_of ls replies = notes_from 1 ls replies

-- what is known of a writer of notes: the bytes that were written, the calls of the writer below, and whether it has
-- stopped
pub record Noted : Type 0 where
  pub contents : Option (List ℕ)
  pub calls : Option (List Call)
  pub stopped : Bool

-- A beginning of the notes was written. If the writer has not stopped, all of them were, and no call of the writer
-- below failed. It stops only where such a call failed, the last one, and some byte of a note was not written. After
-- that it calls and writes nothing.
pub record WritesNotes (old : Noted) (notes : List ℕ) (new : Noted) : Type 0 where
  pub part : List ℕ
  pub rest : List ℕ
  pub notes_are : notes ≡ part ++ rest
  pub written : Appends old.contents new.contents part
  pub whole : new.stopped ≡ false → (rest ≡ []) × NoneFailed ⊥ old.calls new.calls
  pub lacking : old.stopped ≡ false → new.stopped ≡ true → (0 < length rest) × LastFailed ⊥ old.calls new.calls
  pub stays : old.stopped ≡ true → (part ≡ []) × (new.calls ≡ old.calls) × (new.stopped ≡ true)
