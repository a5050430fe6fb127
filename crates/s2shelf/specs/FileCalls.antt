-- The calls that a folder makes of the files of the system.
use Rattle.std.specs.Prelude.{◌≡◌, ℕ, ◌⊎◌, List, [], ◌∷◌, ◌++◌, take, Option, Some, None, Result, Ok, Err}
use Rattle.s2shelf.specs.declared.shelf.ShelfFault.{ShelfFault}
use Rattle.s2shelf.specs.declared.shelf.ShelfFault.TheVariants.{Device, Memory}

-- One call: to ask what lies at a path; to open the file there for reading, or to fail in it; to ask what was opened;
-- reads of an opened file, which gave these bytes in all; to make a file there, in the place of one that lies there, or
-- to fail in it; to write all these bytes to the file that was made; to close a file. The path of an open file is the
-- one at which it was opened or made.
pub data FileCall : Type 0 where
  Looked : (path : List ℕ) → FileCall
  Opened : (path : List ℕ) → FileCall
  OpenedNot : (path : List ℕ) → FileCall
  LookedAgain : (path : List ℕ) → FileCall
  Gave : (path bytes : List ℕ) → FileCall
  Made : (path : List ℕ) → FileCall
  MadeNot : (path : List ℕ) → FileCall
  Wrote : (path bytes : List ℕ) → FileCall
  Closed : (path : List ℕ) → FileCall

-- the path that a call has
abbrev pub path_of : FileCall → List ℕ
path_of (Looked path) = path
path_of (Opened path) = path
path_of (OpenedNot path) = path
path_of (LookedAgain path) = path
path_of (Gave path bytes) = path
path_of (Made path) = path
path_of (MadeNot path) = path
path_of (Wrote path bytes) = path
path_of (Closed path) = path

-- the path of a file: the folder's, a slash, and the name
abbrev pub path_to : List ℕ → List ℕ → List ℕ
path_to path name = path ++ (47 ∷ name)

-- between these two times calls were made of which `P` holds, and no others
abbrev pub Makes : List FileCall → List FileCall → (List FileCall → Type 0) → Type 0
Makes old new P = (calls : List FileCall) × (new ≡ old ++ calls) × P calls

-- the calls that open a file
abbrev pub opening : List ℕ → List FileCall
opening path = Looked path ∷ Opened path ∷ LookedAgain path ∷ []

-- the calls that read an opened file and close it
abbrev pub reading : List ℕ → List ℕ → List FileCall
reading path bytes = Gave path bytes ∷ Closed path ∷ []

-- the calls that store bytes in a file
abbrev pub storing : List ℕ → List ℕ → List FileCall
storing path bytes = Looked path ∷ Made path ∷ Wrote path bytes ∷ Closed path ∷ []

-- no file was opened: what lies at the path is none, or couldn't be asked; or the opening failed; or what was opened is
-- none, or couldn't be asked, and was closed
abbrev pub NotOpened : List ℕ → List FileCall → Type 0
NotOpened path calls =
    (calls ≡ Looked path ∷ []) ⊎ ((calls ≡ Looked path ∷ OpenedNot path ∷ [])
    ⊎ (calls ≡ opening path ++ Closed path ∷ []))

-- a file was not read: it was not opened; or a read of it failed, after some that gave these bytes, and it was closed
abbrev pub NotRead : List ℕ → List FileCall → Type 0
NotRead path calls = NotOpened path calls ⊎ ((bytes : List ℕ) × (calls ≡ opening path ++ reading path bytes))

-- bytes were not stored: what lies at the path is no file, or couldn't be asked; or the making of the file failed; or
-- the writing, and it was closed
abbrev pub NotStored : List ℕ → List ℕ → List FileCall → Type 0
NotStored path bytes calls =
    (calls ≡ Looked path ∷ []) ⊎ ((calls ≡ Looked path ∷ MadeNot path ∷ []) ⊎ (calls ≡ storing path bytes))

-- the calls of an opening, by its answer: none at all only if there was no memory for the path
abbrev pub Opens : {V : Type 0} → List ℕ → Result (Option V) ShelfFault → List FileCall → Type 0
Opens path (Ok None) calls = NotOpened path calls
Opens path (Ok (Some file)) calls = calls ≡ opening path
Opens path (Err Device) calls = NotOpened path calls
Opens path (Err Memory) calls = (calls ≡ []) ⊎ NotOpened path calls

-- a file was read, and the first `most` of the bytes that its reads gave are these
abbrev pub HasRead : List ℕ → ℕ → List ℕ → List FileCall → Type 0
HasRead path most bytes calls =
    (gave : List ℕ) × (calls ≡ opening path ++ reading path gave) × (bytes ≡ take most gave)

-- the calls of a reading of `most` bytes, by its answer
abbrev pub Reads : {V : Type 0} → (V → List ℕ) → List ℕ → ℕ → Result (Option V) ShelfFault → List FileCall → Type 0
Reads bytes path most (Ok None) calls = NotOpened path calls
Reads bytes path most (Ok (Some file)) calls = HasRead path most (bytes file) calls
Reads bytes path most (Err Device) calls = NotRead path calls
Reads bytes path most (Err Memory) calls = (calls ≡ []) ⊎ NotRead path calls

-- the calls of a storing, by its answer
abbrev pub Stores : {T : Type 0} → List ℕ → List ℕ → Result T ShelfFault → List FileCall → Type 0
Stores path bytes (Ok done) calls = calls ≡ storing path bytes
Stores path bytes (Err Device) calls = NotStored path bytes calls
Stores path bytes (Err Memory) calls = calls ≡ []
