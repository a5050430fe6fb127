-- The calls of a shelf, with what they handed over and were given.
use Rattle.std.specs.Prelude.{ℕ, Bool, List, ◌∷◌, Option, Some, None, Result, Ok, Err}
use Rattle.s2shelf.specs.declared.opened_file.OpenedFile.{OpenedFile as File}
use Rattle.s2shelf.specs.declared.shelf.ShelfFault.{ShelfFault}
use Rattle.s2shelf.specs.OpenedFile.{name_of, given, has_ended}
use Rattle.s2shelf.specs.Shelf.{Found, NoFile, Opened, Written, Failed as ItFailed, finding_begun, finding_read}
use Rattle.s2shelf.specs.Shelf.{closed}

-- A shelf that was asked for the first `most` bytes of a file of this name handed over these; or it has none of that
-- name; or it opened it; or it stored these bytes under that name; or it failed. A file that was opened under this name
-- is closed, after reads that gave these bytes, and `ended` says whether the last of them gave none; or it could not be
-- closed.
pub data ShelfCall : Type 0 where
  HandedOver : (name : List ℕ) (most : ℕ) (bytes : List ℕ) → ShelfCall
  Missing : (name : List ℕ) → ShelfCall
  OpenedFile : (name : List ℕ) → ShelfCall
  Stored : (name bytes : List ℕ) → ShelfCall
  Failed : (name : List ℕ) (fault : ShelfFault) → ShelfCall
  ClosedFile : (name bytes : List ℕ) (ended : Bool) → ShelfCall
  CloseFailed : (name bytes : List ℕ) (fault : ShelfFault) → ShelfCall

-- what a call was that asked for the first `most` bytes of a file, by its answer
abbrev pub get_call : {V : Type 0} → (V → List ℕ) → List ℕ → ℕ → Result (Option V) ShelfFault → ShelfCall
get_call bytes name most (Ok None) = Missing name
get_call bytes name most (Ok (Some content)) = HandedOver name most (bytes content)
get_call bytes name most (Err fault) = Failed name fault

-- what an opening was, by its answer
abbrev pub open_call : {F : Type 0} → List ℕ → Result (Option F) ShelfFault → ShelfCall
open_call name (Ok None) = Missing name
open_call name (Ok (Some file)) = OpenedFile name
open_call name (Err fault) = Failed name fault

-- what a closing was, by its file and its answer
abbrev pub close_call : {F : Type 0} → File F → Result (Unit {0}) ShelfFault → ShelfCall
close_call file (Ok _) = ClosedFile (name_of file) (given file) (has_ended file)
close_call file (Err fault) = CloseFailed (name_of file) (given file) fault

-- what a call was that was given bytes to store, by its answer
abbrev pub put_call : List ℕ → List ℕ → Result (Unit {0}) ShelfFault → ShelfCall
put_call name bytes (Ok _) = Stored name bytes
put_call name bytes (Err fault) = Failed name fault

-- what is found, newest first, after this was found and then a call made; what reads of an opened file gave is found by
-- its closing, in the place of its opening
abbrev pub found_after : List Found → ShelfCall → List Found
found_after before (HandedOver name most bytes) =
    record { name = name; finding = finding_begun most (Some bytes) } ∷ before
found_after before (Missing name) = record { name = name; finding = NoFile } ∷ before
found_after before (OpenedFile name) = record { name = name; finding = Opened } ∷ before
found_after before (Stored name bytes) = record { name = name; finding = Written bytes } ∷ before
found_after before (Failed name fault) = record { name = name; finding = ItFailed fault } ∷ before
found_after before (ClosedFile name bytes ended) =
    closed (record { name = name; finding = finding_read ended bytes }) before
found_after before (CloseFailed name bytes fault) = closed (record { name = name; finding = ItFailed fault }) before
