-- What is seen of a file that was opened, and what content it may have.
use Rattle.std.specs.Prelude.{◌≡◌, ℕ, Bool, true, false, List, [], ◌++◌, flat_map, Option, None, IfSome}
use Rattle.s2shelf.specs.declared.opened_file.OpenedFile.{OpenedFile}

-- pieces of bytes, one after another
abbrev pub joined : List (List ℕ) → List ℕ
joined pieces = flat_map (λ piece. piece) pieces

module _ {F : Type 0} where
  -- the reader that gives the bytes of the file
  abbrev pub below : OpenedFile F → F
  below file = file.file

  -- the name under which the file was opened
  abbrev pub name_of : OpenedFile F → List ℕ
  name_of file = joined file.name.entries

  -- the bytes that reads of the file gave
  abbrev pub given : OpenedFile F → List ℕ
  given file = joined file.given.entries

  -- whether the end was reached: a read that had room for some bytes gave none
  abbrev pub has_ended : OpenedFile F → Bool
  has_ended file = file.ended

  -- whether a read of the file failed, neither out of memory nor interrupted
  abbrev pub has_failed : OpenedFile F → Bool
  has_failed file = file.failed

-- what is claimed of a file that was opened: its name, its whole content, and whether what is known of the reader below
-- has to agree
pub record Claim : Type 0 where
  pub name : List ℕ
  pub content : List ℕ
  pub knows : Bool

-- what a reader has left, if that is known and has to agree
abbrev pub known_left : Bool → Option (List ℕ) → Option (List ℕ)
known_left true ahead = ahead
known_left false ahead = None

-- these bytes may still come: none if the end was reached, and else what the reader below has left, if that is known
abbrev pub MayCome : (ended : Bool) → Option (List ℕ) → List ℕ → Type 0
MayCome true ahead rest = rest ≡ []
MayCome false ahead rest = IfSome ahead (λ bytes. rest ≡ bytes)

-- the claim may be true of the file, and then `rest` is what is left of its content: what reads gave and what is left
-- are the content
pub record Left {F : Type 0} (remaining : F → Option (List ℕ)) (file : OpenedFile F) (claim : Claim) (rest : List ℕ) :
    Type 0 where
  pub named : name_of file ≡ claim.name
  pub whole : claim.content ≡ given file ++ rest
  pub comes : MayCome (has_ended file) (known_left claim.knows (remaining (below file))) rest

-- the file may have this content, by what reads gave and by what is known of the reader below
abbrev pub MayBe : {F : Type 0} → (F → Option (List ℕ)) → OpenedFile F → List ℕ → Type 0
MayBe remaining file content = (rest : List ℕ)
    × Left remaining file (record { name = name_of file; content = content; knows = true }) rest
