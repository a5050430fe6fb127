-- The union file: the byte 1, a count, and that many identifiers of cells, each number in eight bytes, the lowest
-- first.
use Rattle.std.specs.Prelude.{◌≡◌, ◌≢◌, ℕ, ◌+◌, ◌*◌, ◌<◌, ◌≤◌, ◌⊎◌, Bool, List}
use Rattle.std.specs.Prelude.{◌∷◌, ◌++◌, length, drop, slice_index, All, flat_map}
use Rattle.s2cell.specs.Cell.{IsCell}
use Rattle.s2list.specs.Numbers.{first_number, number_text}
use Rattle.s2list.specs.Union.{has_leaf, IsNormalForm}
use Rattle.s2file.specs.declared.union_file.TheConstants.{MOST_FILE}
use Rattle.s2file.specs.declared.fault.FileFault.{FileFault}
use Rattle.s2file.specs.declared.fault.FileFault.TheVariants.{Version, Count, Short, Trailing, Cell, Memory}
use Rattle.s2file.specs.Numbers.{numbers_in}

-- the count that a file states, after its first byte
abbrev pub stated_count : List ℕ → ℕ
stated_count bytes = first_number (drop 1 bytes)

-- the numbers after the head of nine bytes
abbrev pub file_ids : List ℕ → List ℕ
file_ids bytes = numbers_in (drop 9 bytes)

-- there is a byte, and it is 1
pub record HasVersion (bytes : List ℕ) : Type 0 where
  pub some : 0 < length bytes
  pub version : slice_index bytes 0 ≡ 1

-- the head of nine bytes is complete too
pub record HasHead (bytes : List ℕ) : Type 0 where
  pub version : HasVersion bytes
  pub whole : 9 ≤ length bytes

-- the bytes are the byte 1, a count, and that many numbers
pub record IsFramed (bytes : List ℕ) : Type 0 where
  pub head : HasHead bytes
  pub length_is : length bytes ≡ 9 + 8 * stated_count bytes

-- the bytes are a file of cells, in any order
pub record IsCellFile (bytes : List ℕ) : Type 0 where
  pub framed : IsFramed bytes
  pub cells : All IsCell (file_ids bytes)

-- the bytes are a file of at most 1,000,000 (`MOST_FILE`) cells, in any order, whose leaves are the set `S`
pub record File (bytes : List ℕ) (S : ℕ → Bool) : Type 0 where
  pub is : IsCellFile bytes
  pub most : stated_count bytes ≤ MOST_FILE
  pub leaves : (x : ℕ) → S x ≡ has_leaf (file_ids bytes) x

-- the first byte is not 1
abbrev pub IsOtherVersion : List ℕ → Type 0
IsOtherVersion bytes = (0 < length bytes) × (slice_index bytes 0 ≢ 1)

-- bytes of the file are missing
abbrev pub IsShortFile : List ℕ → Type 0
IsShortFile bytes = (length bytes ≡ 0)
    ⊎ ((HasVersion bytes × (length bytes < 9)) ⊎ (HasHead bytes × (length bytes < 9 + 8 * stated_count bytes)))

-- bytes follow the last identifier
abbrev pub IsLongFile : List ℕ → Type 0
IsLongFile bytes = HasHead bytes × (9 + 8 * stated_count bytes < length bytes)

-- what is wrong with the frame of a file with any number of cells
abbrev pub HasFrameFault : List ℕ → FileFault → Type 0
HasFrameFault bytes Version = IsOtherVersion bytes
HasFrameFault bytes Short = IsShortFile bytes
HasFrameFault bytes Count = ⊥
HasFrameFault bytes Trailing = IsLongFile bytes
HasFrameFault bytes Cell = ⊥
HasFrameFault bytes Memory = ⊥

-- the first four checks pass: the first byte is 1, the head is complete, it states at most 1,000,000 identifiers, and
-- exactly as many follow
pub record HasFrame (bytes : List ℕ) : Type 0 where
  pub framed : IsFramed bytes
  pub most : stated_count bytes ≤ MOST_FILE

-- some number is not the identifier of a cell
pub record HasWrongNumber (ids : List ℕ) : Type 0 where
  pub place : ℕ
  pub within : place < length ids
  pub wrong : IsCell (slice_index ids place) → ⊥

-- the fault of the first check that fails; once the first four have passed, memory may run out
abbrev pub HasFault : List ℕ → FileFault → Type 0
HasFault bytes Version = IsOtherVersion bytes
HasFault bytes Short = IsShortFile bytes × (HasHead bytes → stated_count bytes ≤ MOST_FILE)
HasFault bytes Count = HasHead bytes × (MOST_FILE < stated_count bytes)
HasFault bytes Trailing = IsLongFile bytes × (stated_count bytes ≤ MOST_FILE)
HasFault bytes Cell = HasFrame bytes × HasWrongNumber (file_ids bytes)
HasFault bytes Memory = HasFrame bytes

-- the bytes of a file with these identifiers, however many
abbrev pub file_text : List ℕ → List ℕ
file_text ids = 1 ∷ (number_text (length ids) ++ flat_map number_text ids)

-- the bytes are the file of the normal form of `S`
pub record Bytes (S : ℕ → Bool) (bytes : List ℕ) : Type 0 where
  pub ids : List ℕ
  pub normal : IsNormalForm S ids
  pub is : bytes ≡ file_text ids
