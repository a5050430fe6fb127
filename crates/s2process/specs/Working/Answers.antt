-- What is asked of files, and what the end of an answer leaves.
use Rattle.std.specs.Prelude.{◌≡◌, ℕ, Bool, List, [], ◌∷◌, map, string_bytes, Result}
use Rattle.s2shelf.specs.Shelf.{Files}
use Rattle.s2calc.specs.declared.fault.RunFault.{RunFault}
use Rattle.s2calc.specs.Check.{Checks}
use Rattle.s2calc.specs.Draw.{Draws}
use Rattle.s2calc.specs.Fit.{Fits}
use Rattle.s2calc.specs.Overlay.{Overlays}
use Rattle.s2calc.specs.Program.{status_of_answer}
use Rattle.s2calc.specs.Replies.{Reply}
use Rattle.s2process.specs.declared.answers.FileQuestion.{FileQuestion}
use Rattle.s2process.specs.declared.answers.FileQuestion.TheVariants.{Check, Draw, Overlay, Fit}
use Rattle.s2process.specs.declared.ended.Ended.{Ended}
use Rattle.s2process.specs.declared.folders.Opening.{Opening}
use Rattle.s2process.specs.declared.streams.Streams.{Streams}
use Rattle.s2process.specs.Errors.{IsSaidAfter}
use Rattle.s2process.specs.Working.Errors.{TellsMore}

-- the answers that a question may have, by what is known of the files before it and after
abbrev pub may_be : FileQuestion → Files → Reply → Files → Type 0
may_be (Check name) = Checks (string_bytes name.now)
may_be (Draw name curve) = Draws (string_bytes name.now) curve
may_be (Overlay names curve) = Overlays (map string_bytes names.now) curve
may_be (Fit names) = Fits (map string_bytes names.now)

-- the names of the files that a question is about
abbrev pub names_of : FileQuestion → List (List ℕ)
names_of (Check name) = string_bytes name.now ∷ []
names_of (Draw name curve) = string_bytes name.now ∷ []
names_of (Overlay names curve) = map string_bytes names.now
names_of (Fit names) = map string_bytes names.now

-- Input, output and folder are left as they are, and standard error gets what is said after this result, which has its
-- exit status; `said` is what is said of a refusal.
pub record EndsAnswer {R W E F S : Type 0} (result : Result Bool RunFault) (said : List ℕ) (streams : Streams R W E)
    (folder : Opening F S) (ended : Ended R W E F S) : Type 0 where
  pub input_is : ended.streams.input ≡ streams.input
  pub output_is : ended.streams.output ≡ streams.output
  pub folder_is : ended.folder ≡ folder
  pub text : List ℕ
  pub text_is : IsSaidAfter said result text
  pub tells : TellsMore text streams.errors ended.streams.errors
  pub status_is : ended.status ≡ status_of_answer result
