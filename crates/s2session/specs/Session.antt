-- The session file: the lists of the registers, and the changes of both sides of their history. Counts and
-- identifiers take eight bytes each, the lowest first.
use Rattle.std.specs.Prelude.{◌≡◌, ℕ, ◌-◌, ◌⊎◌, Bool, List, [], ◌∷◌, ◌++◌, length, replicate, flat_map}
use Rattle.s2list.specs.Union.{has_leaf, IsLocal}
use Rattle.s2list.specs.Numbers.{number_text}
use Rattle.s2file.specs.File.{File}
use Rattle.s2edit.specs.declared.TheConstants.{SESSION_REGISTERS}
use Rattle.s2edit.specs.Content.{Content, IsContent}
use Rattle.s2edit.specs.Diff.{Diff}
use Rattle.s2edit.specs.History.{History, sets}
use Rattle.s2edit.specs.Session.{Records}

-- a list of cells: how many, and the identifier of each
abbrev pub list_text : List ℕ → List ℕ
list_text cells = number_text (length cells) ++ flat_map number_text cells

-- a change: a byte for the register, the cells that are taken out, and those that are put in
abbrev pub move_text : Diff → List ℕ
move_text d = d.register ∷ (list_text d.out ++ list_text d.put)

-- changes: how many, and one after another
abbrev pub moves_text : List Diff → List ℕ
moves_text ds = number_text (length ds) ++ flat_map move_text ds

-- the registers, the past and the future
abbrev pub parts_text : Content → List ℕ
parts_text s = flat_map list_text s.registers ++ (moves_text s.past ++ moves_text s.future)

-- the file: the bytes 73 and 01, followed by the parts
abbrev pub session_text : Content → List ℕ
session_text s = 0x73 ∷ 1 ∷ parts_text s

-- register a has the list, all others are empty, and nothing was changed
abbrev pub content_of_list : List ℕ → Content
content_of_list cells = record { registers = cells ∷ replicate (SESSION_REGISTERS - 1) []; past = []; future = [] }

-- a session of one change, which put the face 0 into register a
abbrev pub one_change : Content
one_change = record {
  registers = (0x1000_0000_0000_0000 ∷ []) ∷ replicate (SESSION_REGISTERS - 1) [];
  past = record { register = 0; out = []; put = 0x1000_0000_0000_0000 ∷ [] } ∷ [];
  future = [];
}

-- the bytes are a session file that says `s`
pub record IsSessionFile (bytes : List ℕ) (s : Content) : Type 0 where
  pub content : IsContent s
  pub text : bytes ≡ session_text s

-- the bytes are a union file, and register a has the normalized list of its leaves
pub record IsUnionFile (bytes : List ℕ) (s : Content) : Type 0 where
  pub cells : List ℕ
  pub local : IsLocal cells
  pub file : File bytes (has_leaf cells)
  pub content : s ≡ content_of_list cells

-- the bytes spell the session
abbrev pub Spells : List ℕ → Content → Type 0
Spells bytes s = IsSessionFile bytes s ⊎ IsUnionFile bytes s

-- the bytes are the session file of the history
pub record Text (h : History (List ℕ)) (bytes : List ℕ) : Type 0 where
  pub content : Content
  pub tells : Records content h
  pub is : bytes ≡ session_text content

-- the bytes spell a session, as a session file or a union file, that tells the history
pub record Stored (bytes : List ℕ) (h : History (List ℕ)) : Type 0 where
  pub content : Content
  pub spells : Spells bytes content
  pub tells : Records content h

-- the bytes spell a session that tells this history of tables of leaf sets
pub record StoredSets (bytes : List ℕ) (h : History (ℕ → Bool)) : Type 0 where
  pub lists : History (List ℕ)
  pub stored : Stored bytes lists
  pub are : h ≡ sets lists
