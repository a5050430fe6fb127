-- The parts of a session file.
use Rattle.std.specs.Prelude.{◌≡◌, ℕ, ◌≤◌, ◌<◌, ◌^◌, List, [], ◌∷◌, ◌++◌, length, All, flat_map}
use Rattle.std.specs.List.{AllByRecursion}
use Rattle.s2cell.specs.Cell.{IsCell}
use Rattle.s2list.specs.Numbers.{first_number, number_text}
use Rattle.s2edit.specs.Diff.{Diff}
use Rattle.s2session.specs.Session.{list_text, move_text}
use Rattle.s2edit.specs.Content.{IsRegisterList, IsMove}
use Rattle.s2edit.specs.declared.TheConstants.{SESSION_REGISTERS, SESSION_CHANGES}

-- the bytes are the text of `value`, for which `Ok` holds, followed by `rest`
pub record Begins {A : Type 0} (text : A → List ℕ) (Ok : A → Type 0) (bytes : List ℕ) (value : A) (rest : List ℕ) :
    Type 0 where
  pub is : bytes ≡ text value ++ rest
  pub ok : Ok value

-- the bytes do not begin with the text of any value for which `Ok` holds
abbrev pub BeginsNone : {A : Type 0} → (A → List ℕ) → (A → Type 0) → List ℕ → Type 0
BeginsNone {A} text Ok bytes = (value : A) (rest : List ℕ) → Begins text Ok bytes value rest → ⊥

-- a byte as it is
abbrev pub byte_text : ℕ → List ℕ
byte_text byte = byte ∷ []

-- a number that fits in a byte
abbrev pub IsByte : ℕ → Type 0
IsByte n = n < 256

-- a number that fits in eight bytes
abbrev pub IsNumber : ℕ → Type 0
IsNumber n = n < 2 ^ 64

-- identifiers one after another, as bytes
abbrev pub identifiers_text : List ℕ → List ℕ
identifiers_text ids = flat_map number_text ids

-- identifiers of cells, in any order, as many as were counted
pub record AreCounted (count : ℕ) (cells : List ℕ) : Type 0 where
  pub len : length cells ≡ count
  pub valid : All IsCell cells

-- the lists of all registers, as bytes
abbrev pub registers_text : List (List ℕ) → List ℕ
registers_text lists = flat_map list_text lists

-- the lists of all registers of a session
pub record AreRegisters (lists : List (List ℕ)) : Type 0 where
  pub count : length lists ≡ SESSION_REGISTERS
  pub each : AllByRecursion IsRegisterList lists

-- changes one after another, as bytes
abbrev pub row_text : List Diff → List ℕ
row_text ms = flat_map move_text ms

-- changes of a session, as many as were counted
pub record IsRow (count : ℕ) (ms : List Diff) : Type 0 where
  pub len : length ms ≡ count
  pub each : AllByRecursion IsMove ms

-- all changes of one side of a session's history
pub record AreMoves (ms : List Diff) : Type 0 where
  pub few : length ms ≤ SESSION_CHANGES
  pub each : AllByRecursion IsMove ms

-- the bytes are the identifiers of these cells, one after another
pub record SpellsCells (bytes cells : List ℕ) : Type 0 where
  pub is : bytes ≡ flat_map number_text cells
  pub valid : All IsCell cells

-- the bytes are the identifiers of the cells that were added
pub record SpellsMore (bytes old new : List ℕ) : Type 0 where
  pub more : List ℕ
  pub added : new ≡ old ++ more
  pub spells : SpellsCells bytes more

-- after the identifiers of some cells, the bytes have a number that is none
pub record SpellsWrong (bytes : List ℕ) : Type 0 where
  pub good : List ℕ
  pub rest : List ℕ
  pub is : bytes ≡ flat_map number_text good ++ rest
  pub valid : All IsCell good
  pub whole : 8 ≤ length rest
  pub wrong : IsCell (first_number rest) → ⊥
