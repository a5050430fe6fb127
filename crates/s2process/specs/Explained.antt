-- The notes of a run whose writer's calls are all known.
use Rattle.std.specs.Prelude.{◌≡◌, ◌<◌, ℕ, List, [], ◌++◌, length, Bool, true, false}
use Rattle.s2calc.specs.World.{World}
use Rattle.s2calc.specs.Calls.{Call}
use Rattle.s2calc.specs.Run.{Did, came_out}
use Rattle.s2calc.specs.Notes.{notes_of}
use Rattle.s2process.specs.Ends.{NoneFailed, LastFailed}

-- The notes on the lines whose answers came whole, to the buffer at least, were written, and no call of the writer
-- below failed. Or a beginning of them was written, then such a call failed, the last one, and the writer of notes has
-- stopped. `taken` are the bytes that the writer below took, and `called` says how its calls ended.
pub record Explains {start now : World} {written : List ℕ} (did : Did start now written)
    (taken : List ℕ) (called : List Call) (stopped : Bool) : Type 0 where
  pub rest : List ℕ
  pub notes_are : notes_of did.done (came_out did.replies did.left) ≡ taken ++ rest
  pub whole : stopped ≡ false → (rest ≡ []) × NoneFailed called
  pub lacking : stopped ≡ true → (0 < length rest) × LastFailed called
