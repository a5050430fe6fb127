-- Laws about the definitions.
use Rattle.std.specs.Prelude.{◌≡◌, ◌≢◌, ℕ, ◌+◌, ◌%◌, ◌^◌, ◌<◌, Bool, true, false, List, [], ◌∷◌}
use Rattle.std.specs.Prelude.{Option, Some, count_by}
use Rattle.std.specs.Io.KnownBytes.{Appends, IsAtEnd, append_known}
use Rattle.s2calc.specs.World.{World}
use Rattle.s2script.specs.Line.{line_of}
use Rattle.s2script.specs.Lines.{lines}
use Rattle.s2calc.specs.Replies.{Reply, Silent, Says, Refuses, texts}
use Rattle.s2calc.specs.declared.refusal.Refusal.{Refusal}
use Rattle.s2calc.specs.declared.refusal.Refusal.TheVariants.{File, Memory}
use Rattle.s2calc.specs.Step.{Step, asks_for_file}
use Rattle.s2calc.specs.Run.{Known, Ran, AllLines, Steps}

-- a run that finishes has answered the lines of all bytes that its reader tells
abbrev pub TellsWhole : Type 0
TellsWhole =
    (old new : Known) (ran : Ran old new) (script : List ℕ) → AllLines ran.script (IsAtEnd new.input.ahead) ran.did
    → old.input.ahead ≡ Some script → Steps old.world (lines script) ran.did.replies new.world
    × Appends old.output new.output (texts ran.did.replies)

-- where nothing waits in a buffer, all that was written has reached the writer below
abbrev pub NothingHeld : Type 0
NothingHeld =
    (contents : Option (List ℕ)) (waiting : List ℕ) → waiting ≡ [] → append_known contents waiting ≡ contents

-- two worlds with the same state and the same files
pub record SameWorld (a b : World) : Type 0 where
  pub state : a.state ≡ b.state
  pub tells : a.files.tells ≡ b.files.tells
  pub at : (name : List ℕ) → a.files.at name ≡ b.files.at name
  pub failures : a.files.failures ≡ b.files.failures

-- the reply is neither `error memory` nor `error file`
abbrev pub IsPlain : Reply → Type 0
IsPlain reply = (reply ≢ Refuses Memory) × (reply ≢ Refuses File)

-- no reply is `error memory` or `error file`
abbrev pub AllPlain : List Reply → Type 0
AllPlain [] = Unit {0}
AllPlain (reply ∷ replies) = IsPlain reply × AllPlain replies

-- Over a shelf that exposes its contents, if no line is answered `error memory` or `error file`, the replies, the state
-- and the files are one function of the lines, the first state and the first files.
abbrev pub OneRun : Type 0
OneRun =
    (a b c d : World) (ls : List (List ℕ)) (rs ss : List Reply) → SameWorld a b → a.files.tells ≡ true →
    Steps a ls rs c → Steps b ls ss d → AllPlain rs → AllPlain ss
    → (rs ≡ ss) × SameWorld c d

-- whether the refusal is that of a failed shelf
abbrev pub is_of_shelf : Refusal → Bool
is_of_shelf File = true
is_of_shelf refusal = false

-- whether the answer is `error file`
abbrev pub is_failure : Reply → Bool
is_failure Silent = false
is_failure (Says text) = false
is_failure (Refuses refusal) = is_of_shelf refusal

-- a count rose by `n`, and began again at 0 after 2^64 - 1; with no rise it stayed as it was
abbrev pub RoseBy : ℕ → ℕ → ℕ → Type 0
RoseBy old n new = (n ≡ 0 → new ≡ old) × (0 < n → new ≡ (old + n) % 2 ^ 64)

-- the shelf's count of failures rises by as many as a run has answers `error file`
abbrev pub CountsFailures : Type 0
CountsFailures = (a b : World) (ls : List (List ℕ)) (rs : List Reply) → Steps a ls rs b →
    RoseBy a.files.failures (count_by is_failure rs) b.files.failures

-- a line that asks for no command with a file leaves all that is known of the files as it was, so it asks the shelf for
-- none
abbrev pub FilesStay : Type 0
FilesStay =
    (old new : World) (line : List ℕ) (reply : Reply) → Step old line reply new →
    asks_for_file (line_of line) ≡ false → new.files ≡ old.files
