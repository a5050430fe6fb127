-- What a clause reads of the bytes that a file gives. No public clause cites this module.
use Rattle.std.specs.Prelude.{◌≡◌, ℕ, ◌-◌, List, ◌++◌, slice_range}
use Rattle.s2shelf.specs.OpenedFile.{Claim}
use Rattle.s2session.specs.declared.source.Buffer.{Buffer}

-- the bytes that were read and not taken yet
abbrev pub held : Buffer → List ℕ
held b = slice_range b.bytes.items b.start b.end

-- how many bytes can be read after them
abbrev pub room : Buffer → ℕ
room b = 65536 - b.end

-- by what is claimed of the file, these bytes may be left: those that are held, and then what may come
pub record Ahead (b : Buffer) (coming : Claim → List ℕ → Type 0) (claim : Claim) (bytes : List ℕ) : Type 0 where
  pub rest : List ℕ
  pub is : bytes ≡ held b ++ rest
  pub comes : coming claim rest

-- these bytes were taken: what may be left now may have been left after them
pub record Passes (old new : Claim → List ℕ → Type 0) (bytes : List ℕ) : Type 0 where
  pub back : (claim : Claim) (rest : List ℕ) → new claim rest → old claim (bytes ++ rest)
