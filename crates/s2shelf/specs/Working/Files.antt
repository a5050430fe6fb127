-- What only private contracts need, beside FileCalls.antt, which has what public contracts need.
use Rattle.std.specs.Prelude.{◌≡◌, ℕ, List, Result, Ok, Err, MatchResult}
use Rattle.s2shelf.specs.FileCalls.{FileCall, Opened, OpenedNot, Made, MadeNot, opening, reading}
use Rattle.s2shelf.specs.FileCalls.{storing, NotOpened, NotStored}
use Rattle.s2shelf.specs.declared.files.ListedFiles.{ListedFiles}

-- the calls so far
abbrev pub calls_so_far : {R : Type 0} → ListedFiles R → List FileCall
calls_so_far files = files.calls.entries

-- the calls of an opening, by the answer of the system
abbrev pub OpensFile : {F E : Type 0} → List ℕ → Result F E → List FileCall → Type 0
OpensFile path answer calls = MatchResult answer (λ _. calls ≡ opening path) (λ _. NotOpened path calls)

-- the calls of the reading of an opened file, by the answer of the system
abbrev pub ReadsFile : {V E : Type 0} → (V → List ℕ) → List ℕ → Result V E → List FileCall → Type 0
ReadsFile bytes path answer calls = MatchResult answer (λ v. calls ≡ reading path (bytes v))
    (λ _. (gave : List ℕ) × (calls ≡ reading path gave))

-- the calls of a storing, by the answer of the system
abbrev pub StoresFile : {T E : Type 0} → List ℕ → List ℕ → Result T E → List FileCall → Type 0
StoresFile path bytes answer calls =
    MatchResult answer (λ _. calls ≡ storing path bytes) (λ _. NotStored path bytes calls)

-- the call that opens a file, by its answer
abbrev pub open_call : {F E : Type 0} → List ℕ → Result F E → FileCall
open_call path (Ok file) = Opened path
open_call path (Err error) = OpenedNot path

-- the call that makes a file, by its answer
abbrev pub make_call : {F E : Type 0} → List ℕ → Result F E → FileCall
make_call path (Ok file) = Made path
make_call path (Err error) = MadeNot path
