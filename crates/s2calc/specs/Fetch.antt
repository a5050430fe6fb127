-- What can result from asking for the file under a name.
use Rattle.std.specs.Prelude.{◌≡◌, ◌≢◌, ℕ, ◌⊎◌, Bool, List, None, Some, Result, Ok, Err}
use Rattle.s2shelf.specs.Shelf.{Files, Finds, MayFind, Allows, FailsToGet}
use Rattle.s2shelf.specs.declared.shelf.ShelfFault.TheVariants.{Device, Memory as NoRoom}
use Rattle.s2file.specs.File.{File, HasFault}
use Rattle.s2file.specs.declared.fault.FileFault.{FileFault}
use Rattle.s2file.specs.declared.fault.FileFault.TheVariants.{Memory as NoMemory}
use Rattle.s2calc.specs.declared.refusal.Refusal.{Refusal}
use Rattle.s2calc.specs.declared.refusal.Refusal.TheVariants.{Missing, File as FileFailed, Format, Memory}

-- a file with these bytes was found; or there is no file of that name; or the shelf failed, and its count rose; or
-- there was no memory for the bytes
abbrev pub Fetches : List ℕ → Files → Result (List ℕ) Refusal → Files → Type 0
Fetches name old (Ok bytes) new = Finds old name (Some bytes) new
Fetches name old (Err refusal) new =
    ((refusal ≡ Missing) × Finds old name None new)
    ⊎ ((refusal ≡ FileFailed) × FailsToGet old name new Device)
    ⊎ ((refusal ≡ Memory) × FailsToGet old name new NoRoom)

-- the bytes are a file whose leaves are this set; or they are not a file; or there is no memory for its cells
abbrev pub Reads : List ℕ → Result (ℕ → Bool) Refusal → Type 0
Reads bytes (Ok S) = File bytes S
Reads bytes (Err refusal) = ((fault : FileFault) × HasFault bytes fault × (fault ≢ NoMemory) × (refusal ≡ Format))
    ⊎ (refusal ≡ Memory)

-- a file was found, and whatever bytes it has, by what was found, they are refused
abbrev pub FindsNoUnion : List ℕ → Files → Refusal → Files → Type 0
FindsNoUnion name old refusal new =
    (bytes : List ℕ) × (found : MayFind old name (Some bytes) new)
    × ((all : List ℕ) → Allows found.finding (Some all) → Reads all (Err refusal))

-- the file under the name was fetched and read: its leaves are this set; or it couldn't be fetched or read
abbrev pub FetchesUnion : List ℕ → Files → Result (ℕ → Bool) Refusal → Files → Type 0
FetchesUnion name old (Ok S) new = (bytes : List ℕ) × Fetches name old (Ok bytes) new × Reads bytes (Ok S)
FetchesUnion name old (Err refusal) new = Fetches name old (Err refusal) new ⊎ FindsNoUnion name old refusal new
