-- What is known of named files, and what a call on them may do.
use Rattle.std.specs.Prelude.{◌≡◌, ◌≢◌, ℕ, ◌+◌, ◌%◌, ◌^◌, ◌==◌, ◌&&◌, ◌⊎◌, Bool, true, false, if◌then◌else◌}
use Rattle.std.specs.Prelude.{List, [], ◌∷◌, ◌++◌, length, take, Option, None, Some, IfSome, option_map}
use Rattle.std.specs.Str.{bytes_eq}
use Rattle.s2shelf.specs.FileCalls.{FileCall, Makes, path_to, opening, reading, storing, NotOpened, NotRead, NotStored}
use Rattle.s2shelf.specs.OpenedFile.{name_of, given, has_ended, has_failed, MayBe}
use Rattle.s2shelf.specs.declared.opened_file.OpenedFile.{OpenedFile}
use Rattle.s2shelf.specs.declared.shelf.ShelfFault.{ShelfFault}
use Rattle.s2shelf.specs.declared.shelf.ShelfFault.TheVariants.{Device, Memory}

-- what came of asking for a file or storing one, once: that there is no file of that name; that it was opened, and
-- isn't closed yet; its content; the first bytes of its content, if no more was read; that these bytes were stored; or
-- that it failed
pub data Finding : Type 0 where
  NoFile : Finding
  Opened : Finding
  Holding : (bytes : List ℕ) → Finding
  Beginning : (bytes : List ℕ) → Finding
  Written : (bytes : List ℕ) → Finding
  Failed : (fault : ShelfFault) → Finding

-- what came of asking for a file of this name or storing one, once
pub record Found : Type 0 where
  pub name : List ℕ
  pub finding : Finding

-- whether it was found that a file was opened, and isn't closed yet
abbrev pub is_opening : Finding → Bool
is_opening Opened = true
is_opening finding = false

-- what was found, newest first, less the newest opening of a file of that name
abbrev pub without_opening : List ℕ → List Found → List Found
without_opening name [] = []
without_opening name (one ∷ before) =
    if is_opening one.finding && bytes_eq name one.name then before else one ∷ without_opening name before

-- what is found, newest first, after the closing of a file of which this is found, which takes the place of its opening
abbrev pub closed : Found → List Found → List Found
closed one before = one ∷ without_opening one.name before

-- what is known of a shelf: whether its contents are known, and the file of each name; what came of each call, newest
-- first, or None if that isn't known; how many failures of the device were counted; and of a folder of the system its
-- path, and the calls that it made of the system's files so far
pub record Files : Type 0 where
  pub tells : Bool
  pub at : List ℕ → Option (List ℕ)
  pub found : Option (List Found)
  pub failures : ℕ
  pub folder : Option (List ℕ)
  pub calls : List FileCall

-- one more failure; after the greatest u64 the count starts again at 0
abbrev pub one_more : ℕ → ℕ
one_more n = (n + 1) % 2 ^ 64

-- every file stays as it was, if the shelf exposes its contents
pub record KeepsFiles (old new : Files) : Type 0 where
  pub tells : new.tells ≡ old.tells
  pub at : old.tells ≡ true → (name : List ℕ) → new.at name ≡ old.at name

-- every file stays as it was, if the shelf exposes its contents, and so does the count
abbrev pub SameFiles : Files → Files → Type 0
SameFiles old new = KeepsFiles old new × (new.failures ≡ old.failures)

-- this was found under that name, after all that was found before, if that is known
abbrev pub FindsMore : Files → List ℕ → Finding → Files → Type 0
FindsMore old name finding new =
    new.found ≡ option_map (λ before. record { name = name; finding = finding } ∷ before) old.found

-- a shelf that is a folder of the system made calls of the system's files of which this holds, with the folder's path,
-- and no others
abbrev pub AsksSystem : Files → Files → (List ℕ → List FileCall → Type 0) → Type 0
AsksSystem old new P = (new.folder ≡ old.folder) × IfSome old.folder (λ folder. Makes old.calls new.calls (P folder))

-- the calls for the file at a path of which this finding comes: that there is no file is said only if none was opened;
-- the bytes that the reads of a file gave are those that were found, or begin with them
abbrev pub CallsFor : Finding → List ℕ → List FileCall → Type 0
CallsFor NoFile path calls = NotOpened path calls
CallsFor Opened path calls = calls ≡ opening path
CallsFor (Holding bytes) path calls = calls ≡ opening path ++ reading path bytes
CallsFor (Beginning bytes) path calls = (more : List ℕ) × (calls ≡ opening path ++ reading path (bytes ++ more))
CallsFor (Written bytes) path calls = calls ≡ storing path bytes
CallsFor (Failed Device) path calls = NotRead path calls
CallsFor (Failed Memory) path calls = (calls ≡ []) ⊎ NotRead path calls

-- a folder of the system asked for the file of that name in it, by calls of which this finding comes, and for no other
abbrev pub AsksFor : Files → List ℕ → Finding → Files → Type 0
AsksFor old name finding new = AsksSystem old new (λ folder. CallsFor finding (path_to folder name))

-- storing the bytes in the file `name` failed, and the count rose: its content is not known, and every other file stays
-- as it was, if the shelf exposes its contents; it is found that the call failed; a folder of the system tried to write
-- just these bytes, or came not so far
pub record LosesFile (old new : Files) (name bytes : List ℕ) : Type 0 where
  pub tells : new.tells ≡ old.tells
  pub others : old.tells ≡ true → (other : List ℕ) → other ≢ name → new.at other ≡ old.at other
  pub failed : new.failures ≡ one_more old.failures
  pub found : FindsMore old name (Failed Device) new
  pub calls : AsksSystem old new (λ folder. NotStored (path_to folder name) bytes)

-- if the shelf exposes its contents, the file `name` holds the bytes and every other file stays as it was; and so does
-- the count; it is known that these bytes were stored, if what was stored is
pub record PutsFile (old new : Files) (name bytes : List ℕ) : Type 0 where
  pub tells : new.tells ≡ old.tells
  pub there : old.tells ≡ true → new.at name ≡ Some bytes
  pub others : old.tells ≡ true → (other : List ℕ) → other ≢ name → new.at other ≡ old.at other
  pub failures : new.failures ≡ old.failures
  pub found : FindsMore old name (Written bytes) new
  pub calls : AsksFor old name (Written bytes) new

-- if the shelf exposes its contents, `content` is what it holds under that name
abbrev pub Holds : Files → List ℕ → Option (List ℕ) → Type 0
Holds files name content = files.tells ≡ true → content ≡ files.at name

-- the shelf was asked for that name, once, and has this content there, of which this is the finding; no file changes
pub record Asks (old : Files) (name : List ℕ) (content : Option (List ℕ)) (finding : Finding) (new : Files) :
    Type 0 where
  pub same : SameFiles old new
  pub holds : Holds old name content
  pub asked : FindsMore old name finding new
  pub calls : AsksFor old name finding new

-- the finding of a content that is known
abbrev pub finding_of : Option (List ℕ) → Finding
finding_of None = NoFile
finding_of (Some bytes) = Holding bytes

-- the shelf was asked for that name, once, and this content was found; no file changes
abbrev pub Finds : Files → List ℕ → Option (List ℕ) → Files → Type 0
Finds old name content new = Asks old name content (finding_of content) new

-- the content may be what was found: it is just that, or it begins with what was read; no content is found by an
-- opening, by storing, or by a call that failed
abbrev pub Allows : Finding → Option (List ℕ) → Type 0
Allows NoFile content = content ≡ None
Allows Opened content = ⊥
Allows (Holding bytes) content = content ≡ Some bytes
Allows (Beginning bytes) content = (more : List ℕ) × (content ≡ Some (bytes ++ more))
Allows (Written bytes) content = ⊥
Allows (Failed fault) content = ⊥

-- the shelf was asked for that name, once, and may have found this content; no file changes
pub record MayFind (old : Files) (name : List ℕ) (content : Option (List ℕ)) (new : Files) : Type 0 where
  pub finding : Finding
  pub allows : Allows finding content
  pub asks : Asks old name content finding new

-- what is found by a call that hands over the first `most` bytes of a file: its content, if that has fewer
abbrev pub finding_begun : ℕ → Option (List ℕ) → Finding
finding_begun most None = NoFile
finding_begun most (Some bytes) = if length bytes == most then Beginning bytes else Holding bytes

-- the shelf was asked for that name, once, and has this content there, of which the first `most` bytes were handed
-- over; no file changes
pub record FindsBeginning (old : Files) (name : List ℕ) (most : ℕ) (beginning : Option (List ℕ)) (new : Files) :
    Type 0 where
  pub content : Option (List ℕ)
  pub asks : Asks old name content (finding_begun most beginning) new
  pub is : beginning ≡ option_map (take most) content

-- the finding of a file of which these bytes were read: its content if its end was reached, and else its first bytes
abbrev pub finding_read : (ended : Bool) → List ℕ → Finding
finding_read true bytes = Holding bytes
finding_read false bytes = Beginning bytes

-- what was found by opening a file and reading it as far as was done
abbrev pub finding_of_file : {F : Type 0} → OpenedFile F → Finding
finding_of_file file = finding_read (has_ended file) (given file)

-- the file was opened under that name, which is found, and nothing of it was read; each content that it may have is
-- what the shelf holds there; no file changes
pub record IsOpened {F : Type 0} (remaining : F → Option (List ℕ)) (old : Files) (name : List ℕ) (file : OpenedFile F)
    (new : Files) : Type 0 where
  pub same : SameFiles old new
  pub asked : FindsMore old name Opened new
  pub calls : AsksFor old name Opened new
  pub named : name_of file ≡ name
  pub unread : given file ≡ []
  pub begins : has_ended file ≡ false
  pub well : has_failed file ≡ false
  pub holds : (content : List ℕ) → MayBe remaining file content → Holds old name (Some content)

-- the shelf was asked for that name: it has no such file, which was found; or it opened one; no file changes
abbrev pub Opens : {F : Type 0} → (F → Option (List ℕ)) → Files → List ℕ → Option (OpenedFile F) → Files → Type 0
Opens remaining old name None new = Finds old name None new
Opens remaining old name (Some file) new = IsOpened remaining old name file new

-- an opened file was closed, and this was found, in the place of its opening
abbrev pub FindsAtClosing : {F : Type 0} → Files → OpenedFile F → Finding → Files → Type 0
FindsAtClosing old file finding new =
    new.found ≡ option_map (closed (record { name = name_of file; finding = finding })) old.found

-- a folder of the system closed the file, which stands there under its name, after reads that gave these bytes
abbrev pub AsksToClose : {F : Type 0} → Files → OpenedFile F → Files → Type 0
AsksToClose old file new =
    AsksSystem old new (λ folder calls. calls ≡ reading (path_to folder (name_of file)) (given file))

-- an opened file was closed, of which no read had failed, and what its reads gave was found; no file changes
pub record Closes {F : Type 0} (old : Files) (file : OpenedFile F) (new : Files) : Type 0 where
  pub same : SameFiles old new
  pub asked : FindsAtClosing old file (finding_of_file file) new
  pub calls : AsksToClose old file new
  pub well : has_failed file ≡ false

-- the count of failures after a call that failed
abbrev pub count_after : ShelfFault → ℕ → ℕ
count_after Device failures = one_more failures
count_after Memory failures = failures

-- a call on the file of that name failed, which is found: no content changes, and the count rises only if the fault is
-- `Device`
pub record Fails (old : Files) (name : List ℕ) (new : Files) (fault : ShelfFault) : Type 0 where
  pub keeps : KeepsFiles old new
  pub counted : new.failures ≡ count_after fault old.failures
  pub found : FindsMore old name (Failed fault) new
  pub calls : AsksFor old name (Failed fault) new

-- the closing of an opened file failed, since a read of it had failed; it is found that it failed, in the place of its
-- opening; no content changes, and the count rises
pub record FailsToClose {F : Type 0} (old : Files) (file : OpenedFile F) (new : Files) (fault : ShelfFault) :
    Type 0 where
  pub is_device : fault ≡ Device
  pub read_failed : has_failed file ≡ true
  pub keeps : KeepsFiles old new
  pub counted : new.failures ≡ one_more old.failures
  pub found : FindsAtClosing old file (Failed Device) new
  pub calls : AsksToClose old file new

-- the shelf failed to hand over the file of that name; or it was found, and there was no memory for it
abbrev pub FailsToGet : Files → List ℕ → Files → ShelfFault → Type 0
FailsToGet old name new fault =
    Fails old name new fault ⊎ ((fault ≡ Memory) × ((content : Option (List ℕ)) × MayFind old name content new))

-- the bytes were not stored in the file of that name, which is found: if the fault is `Device`, the count rises and the
-- content of that one file is not known; else no file changes, and the system is asked for nothing
abbrev pub FailsToPut : Files → (name bytes : List ℕ) → Files → ShelfFault → Type 0
FailsToPut old name bytes new Device = LosesFile old new name bytes
FailsToPut old name bytes new Memory = Fails old name new Memory × (new.calls ≡ old.calls)
