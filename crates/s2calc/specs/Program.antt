-- What the program's own calls answer.
use Rattle.std.specs.Prelude.{◌≡◌, ◌≤◌, ℕ, zero, suc, Bool, true, false, not, List, Option, None, Some}
use Rattle.std.specs.Prelude.{Result, Ok, Err, MatchResult, ◌++◌, codes, string_bytes}
use Rattle.std.specs.Io.KnownBytes.{Appends}
use Rattle.s2script.specs.declared.refusal.Refusal.TheVariants.{Cell as NoCell}
use Rattle.s2calc.specs.declared.refusal.Refusal.TheVariants.{Words}
use Rattle.s2edit.specs.declared.TheConstants.{MOST_REGISTER, MOST_STATES}
use Rattle.s2script.specs.Named.{cell_named}
use Rattle.s2calc.specs.declared.engine.Tally.{Tally}
use Rattle.s2calc.specs.declared.fault.RunFault.{RunFault}
use Rattle.s2calc.specs.declared.fault.RunFault.TheVariants.{Input, Output, Memory}
use Rattle.s2calc.specs.declared.task.Job.{Job}
use Rattle.s2calc.specs.declared.task.Job.TheVariants.{Run, Cell, Check, Draw, Overlay, Fit, DrawCells}
use Rattle.s2calc.specs.declared.task.Stop.{Stop}
use Rattle.s2calc.specs.declared.task.Stop.TheVariants.{Help, Usage, Memory as NoMemory}
use Rattle.s2calc.specs.Output.{AppendsUnflushed}
use Rattle.s2calc.specs.Replies.{Reply, Says, Refuses, text_of, is_refusal}
use Rattle.s2calc.specs.Texts.{cell_line}

-- the answer about the cell that a word names, if it names one
abbrev pub reply_for : Option ℕ → Reply
reply_for None = Refuses (Words NoCell)
reply_for (Some n) = Says (cell_line n)

-- the answer to `cell WORD`, for one word, spaces included
abbrev pub cell_reply : List ℕ → Reply
cell_reply word = reply_for (cell_named word)

-- the reply was written, and the result is true unless it is a refusal; or bytes of it are missing, or only the flush
-- failed
abbrev pub ShowsReply : Reply → Option (List ℕ) → Option (List ℕ) → Result Bool RunFault → Type 0
ShowsReply reply old new result = MatchResult result
    (λ passed. (passed ≡ not (is_refusal reply)) × Appends old new (text_of reply))
    (λ fault. (fault ≡ Output) × AppendsUnflushed old new (text_of reply))

-- 1 if something was refused, else 0
abbrev pub status_of_refused : ℕ → ℕ
status_of_refused zero = 0
status_of_refused (suc n) = 1

-- the exit status of a run
abbrev pub status_of : Result Tally RunFault → ℕ
status_of (Ok tally) = status_of_refused tally.refused
status_of (Err Input) = 2
status_of (Err Output) = 2
status_of (Err Memory) = 3

-- the exit status after an answer: 0 if it is no refusal, 1 if it is one, else that of a run with this fault
abbrev pub status_of_answer : Result Bool RunFault → ℕ
status_of_answer (Ok true) = 0
status_of_answer (Ok false) = 1
status_of_answer (Err fault) = status_of (Err fault)

-- the exit status of a program that was asked for no job
abbrev pub status_of_stop : Stop → ℕ
status_of_stop (Help text) = 0
status_of_stop (Usage text) = 2
status_of_stop NoMemory = 3

-- what is wrong with words that are not UTF-8
unfoldable pub invalid_utf8_text : List ℕ
invalid_utf8_text = codes "error: invalid UTF-8 was detected in one or more arguments\n\n"
    ++ codes "For more information, try '--help'.\n"

-- words that are not UTF-8 make no sense, and this is what is wrong with them; or there was no memory to say so
abbrev pub StopsForInvalid : Stop → Type 0
StopsForInvalid (Help text) = ⊥
StopsForInvalid (Usage text) = string_bytes text ≡ invalid_utf8_text
StopsForInvalid NoMemory = Unit {0}

-- the limit and the depth of a run are in range
abbrev pub IsInRange : Job → Type 0
IsInRange (Run limit depth dir explain prompt stop) =
    (1 ≤ limit) × (limit ≤ MOST_REGISTER) × (1 ≤ depth) × (depth ≤ MOST_STATES)
IsInRange (Cell word) = Unit {0}
IsInRange (Check dir name) = Unit {0}
IsInRange (Draw dir name curve) = Unit {0}
IsInRange (Overlay dir names curve) = Unit {0}
IsInRange (Fit dir names) = Unit {0}
IsInRange (DrawCells words curve) = Unit {0}
