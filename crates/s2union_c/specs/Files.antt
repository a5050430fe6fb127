-- How the calls tell what is wrong with the frame of a union file, and what they make of one.
use Rattle.std.specs.Prelude.{◌≡◌, ℕ, ◌≤◌, ◌⊎◌, ℤ, List, length, take, drop}
use Rattle.s2file.specs.File.{IsLongFile, IsOtherVersion, IsShortFile}
use Rattle.s2list.specs.Union.{IsNormalForm, has_leaf}
use Rattle.s2union_c.specs.Results.{HasNoRoom, Refused}
use Rattle.s2union_c.specs.Status.{made, no_room, no_memory, file_short, file_version, file_trailing}

-- the status tells what is wrong with the frame
abbrev pub IsFrameFault : List ℕ → ℤ → Type 0
IsFrameFault bytes status =
    ((status ≡ file_short) × IsShortFile bytes)
    ⊎ (((status ≡ file_version) × IsOtherVersion bytes) ⊎ ((status ≡ file_trailing) × IsLongFile bytes))

-- the normal form of the leaves of the cells `ids` is at the front of `new`, which is as `old` after as many numbers as
-- there are cells; what stands between has no meaning
pub record IsDecodedIn (ids old new : List ℕ) (len : ℕ) : Type 0 where
  pub within : len ≤ length old
  pub same_length : length new ≡ length old
  pub normal : IsNormalForm (has_leaf ids) (take len new)
  pub rest : drop (length ids) new ≡ drop (length ids) old

-- the normal form of the leaves of the cells `ids` was written or is longer than the room, or there was no memory
abbrev pub Decoded : ℤ → List ℕ → List ℕ → List ℕ → ℕ → Type 0
Decoded status ids old new len =
    ((status ≡ made) × IsDecodedIn ids old new len)
    ⊎ (((status ≡ no_room) × (xs : List ℕ) × IsNormalForm (has_leaf ids) xs × HasNoRoom xs old new len)
    ⊎ Refused status no_memory old new len)
