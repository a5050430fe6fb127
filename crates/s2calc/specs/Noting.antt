-- What a contract sees of a `NoteWriter`.
use Rattle.std.specs.Prelude.{ℕ, List, Bool, Option}
use Rattle.s2calc.specs.Calls.{Call}
use Rattle.s2calc.specs.Notes.{Noted}

-- the writer below, and whether it has stopped
pub record Noting (W : Type 0) : Type 0 where
  pub writer : W
  pub stopped : Bool

module _ {W : Type 0} where
  -- what is known of a writer of notes, if this is known of the writer below: its bytes, and its calls
  abbrev pub noted_by : (W → Option (List ℕ)) → (W → Option (List Call)) → Noting W → Noted
  noted_by contents calls n =
      record { contents = contents n.writer; calls = calls n.writer; stopped = n.stopped }
