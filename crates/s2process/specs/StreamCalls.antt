-- The calls of a reader, of a writer and of a shelf, with what they gave and took.
use Rattle.std.specs.Prelude.{ℕ, ◌-◌, List, [], ◌∷◌, length, take, flat_map, Option, Some, None, Result, Ok, Err}
use Rattle.std.specs.List.{fold}
use Rattle.s2shelf.specs.Shelf.{Found}
use Rattle.s2process.specs.ShelfCalls as shelf
use Rattle.s2process.specs.ShelfCalls.{ShelfCall}
use Rattle.s2calc.specs.Calls as calls
use Rattle.s2calc.specs.Calls.{Call}

-- a read with room for `others + 1` bytes, so for some, and the bytes that it gave, so none only at the end; a read
-- that failed; a write and the bytes that it took; a write that failed; a flush; a flush that failed; and a call of a
-- shelf
pub data StreamCall : Type 0 where
  Gave : (others : ℕ) (bytes : List ℕ) → StreamCall
  ReadFailed : StreamCall
  Took : (bytes : List ℕ) → StreamCall
  WriteFailed : StreamCall
  Flushed : StreamCall
  FlushFailed : StreamCall
  OfShelf : (call : ShelfCall) → StreamCall

-- what a read was, by its answer, its room, which isn't 0 if it succeeds, and what its buffer holds after it
abbrev pub read_call : {E : Type 0} → Result ℕ E → ℕ → List ℕ → StreamCall
read_call (Ok count) room buffer = Gave (room - 1) (take count buffer)
read_call (Err error) room buffer = ReadFailed

-- what a write was, by its answer and its bytes
abbrev pub write_call : {E : Type 0} → Result ℕ E → List ℕ → StreamCall
write_call (Ok count) bytes = Took (take count bytes)
write_call (Err error) bytes = WriteFailed

-- what a flush was, by its answer
abbrev pub flush_call : {E : Type 0} → Result (Unit {0}) E → StreamCall
flush_call (Ok _) = Flushed
flush_call (Err error) = FlushFailed

-- the bytes that a write took
abbrev pub taken_by : StreamCall → List ℕ
taken_by (Gave others bytes) = []
taken_by ReadFailed = []
taken_by (Took bytes) = bytes
taken_by WriteFailed = []
taken_by Flushed = []
taken_by FlushFailed = []
taken_by (OfShelf call) = []

-- how a call of a writer ended; a write that takes nothing has failed
abbrev pub called_by : StreamCall → List Call
called_by (Gave others bytes) = []
called_by ReadFailed = []
called_by (Took []) = calls.Failed ∷ []
called_by (Took (byte ∷ bytes)) = calls.Wrote ∷ []
called_by WriteFailed = calls.Failed ∷ []
called_by Flushed = calls.Flushed ∷ []
called_by FlushFailed = calls.Failed ∷ []
called_by (OfShelf call) = []

-- how many bytes a read gave, or None if it failed
abbrev pub read_by : StreamCall → List (Option ℕ)
read_by (Gave others bytes) = Some (length bytes) ∷ []
read_by ReadFailed = None ∷ []
read_by (Took bytes) = []
read_by WriteFailed = []
read_by Flushed = []
read_by FlushFailed = []
read_by (OfShelf call) = []

-- the bytes that a read gave
abbrev pub given_by : StreamCall → List ℕ
given_by (Gave others bytes) = bytes
given_by ReadFailed = []
given_by (Took bytes) = []
given_by WriteFailed = []
given_by Flushed = []
given_by FlushFailed = []
given_by (OfShelf call) = []

-- what is found, newest first, after this was found and then a call made
abbrev pub found_after : List Found → StreamCall → List Found
found_after before (Gave others bytes) = before
found_after before ReadFailed = before
found_after before (Took bytes) = before
found_after before WriteFailed = before
found_after before Flushed = before
found_after before FlushFailed = before
found_after before (OfShelf call) = shelf.found_after before call

-- all bytes that the reads gave
abbrev pub given_in : List StreamCall → List ℕ
given_in list = flat_map given_by list

-- all bytes that the writes took
abbrev pub taken_in : List StreamCall → List ℕ
taken_in list = flat_map taken_by list

-- how the calls of a writer ended
abbrev pub called_in : List StreamCall → List Call
called_in list = flat_map called_by list

-- what the reads gave
abbrev pub reads_in : List StreamCall → List (Option ℕ)
reads_in list = flat_map read_by list

-- what was found by the calls, newest first
abbrev pub found_in : List StreamCall → List Found
found_in list = fold found_after [] list
