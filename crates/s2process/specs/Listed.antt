-- What the lists of a reader, a writer, a shelf and an observer hold.
use Rattle.std.specs.Prelude.{ℕ, false, List, Option, Some, None}
use Rattle.s2shelf.specs.Shelf.{Files}
use Rattle.s2calc.specs.Calls.{Call}
use Rattle.s2calc.specs.Moments.{Moment}
use Rattle.s2process.specs.declared.reader.ListedReader.{ListedReader}
use Rattle.s2process.specs.declared.writer.ListedWriter.{ListedWriter}
use Rattle.s2process.specs.declared.shelf.ListedShelf.{ListedShelf}
use Rattle.s2process.specs.declared.observer.ListedObserver.{ListedObserver}
use Rattle.s2process.specs.StreamCalls.{StreamCall, given_in, taken_in, called_in, reads_in, found_in}

-- the calls of a reader, in order
abbrev pub calls_of_reader : {R : Type 0} → ListedReader R → List StreamCall
calls_of_reader r = r.calls.entries

-- all bytes that the reads gave
abbrev pub given : {R : Type 0} → ListedReader R → List ℕ
given r = given_in (calls_of_reader r)

-- how the reads ended, in order
abbrev pub reads : {R : Type 0} → ListedReader R → List (Option ℕ)
reads r = reads_in (calls_of_reader r)

-- the calls of a writer, in order
abbrev pub calls_of : {W : Type 0} → ListedWriter W → List StreamCall
calls_of w = w.calls.entries

-- the bytes that the writes took
abbrev pub taken : {W : Type 0} → ListedWriter W → List ℕ
taken w = taken_in (calls_of w)

-- how the calls of a writer ended
abbrev pub called : {W : Type 0} → ListedWriter W → List Call
called w = called_in (calls_of w)

-- the calls of a shelf, in order
abbrev pub calls_of_shelf : {S : Type 0} → ListedShelf S → List StreamCall
calls_of_shelf s = s.calls.entries

-- the shelf that was called
abbrev pub shelf_below : {S : Type 0} → ListedShelf S → S
shelf_below s = s.shelf

-- what is known of a shelf whose calls are listed, of which this is known: what was found, how many failures were
-- counted, and which calls it made as a folder of the system, but not what its files hold
abbrev pub listed_files : {S : Type 0} → (S → Files) → ListedShelf S → Files
listed_files files s = record {
  tells = false;
  at = λ _. None;
  found = Some (found_in (calls_of_shelf s));
  failures = (files (shelf_below s)).failures;
  folder = (files (shelf_below s)).folder;
  calls = (files (shelf_below s)).calls;
}

-- the moments that an observer has seen, in order
abbrev pub moments_of : {R W S : Type 0} → ListedObserver R W S → List (Moment W S)
moments_of w = w.list.entries
