-- What runs find in files, and how far two of them are one, for laws about that.
use Rattle.std.specs.Prelude.{◌≡◌, ℕ, List, [], ◌∷◌, ◌++◌, length, map, Option, Some, None}
use Rattle.s2edit.specs.History.{History}
use Rattle.s2shelf.specs.Shelf.{Finding, NoFile, Opened, Holding, Beginning, Written, Failed, Found, Allows}
use Rattle.s2calc.specs.Replies.{Reply}

-- What a shelf has to hand over under each name, if there is a file of that name, at each time: the number says how
-- many things were found or stored before.
abbrev pub Held : Type 0
Held = ℕ → List ℕ → Option (List ℕ)

-- this may come of asking for a file with this content, or for none; storing bytes finds nothing, nor does a call that
-- failed
abbrev pub MayComeOf : Finding → Option (List ℕ) → Type 0
MayComeOf NoFile content = Allows NoFile content
MayComeOf Opened content = (bytes : List ℕ) × (content ≡ Some bytes)
MayComeOf (Holding bytes) content = Allows (Holding bytes) content
MayComeOf (Beginning bytes) content = Allows (Beginning bytes) content
MayComeOf (Written bytes) content = Unit {0}
MayComeOf (Failed fault) content = Unit {0}

-- all that was found, newest first, may come of what the shelf has to hand over at each time
abbrev pub FoundIn : Held → List Found → Type 0
FoundIn held [] = Unit {0}
FoundIn held (one ∷ before) = MayComeOf one.finding (held (length before) one.name) × FoundIn held before

-- what was asked of a shelf: a file of this name, or to store these bytes under it
pub record Asked : Type 0 where
  pub name : List ℕ
  pub stored : Option (List ℕ)

-- the bytes that were stored, if any were
abbrev pub stored_by : Finding → Option (List ℕ)
stored_by NoFile = None
stored_by Opened = None
stored_by (Holding bytes) = None
stored_by (Beginning bytes) = None
stored_by (Written bytes) = Some bytes
stored_by (Failed fault) = None

-- what was asked, where this was found
abbrev pub asked_of : Found → Asked
asked_of one = record { name = one.name; stored = stored_by one.finding }

-- what was asked of a shelf, newest first, by what was found
abbrev pub asked_by : List Found → List Asked
asked_by found = map asked_of found

-- what a run has come to: the replies to the lines that it carried out, what it found, newest first, and the state
pub record Course : Type 0 where
  pub replies : List Reply
  pub found : List Found
  pub state : History (List ℕ)

-- One course is the beginning of another, or the same: its replies are the first of the other's, it asked for the same
-- files first, and stored the same bytes in them; and with as many replies it has asked for the same, and come to the
-- same state.
pub record Begins (one other : Course) : Type 0 where
  pub later : List Reply
  pub replies : other.replies ≡ one.replies ++ later
  pub newer : List Asked
  pub asked : asked_by other.found ≡ newer ++ asked_by one.found
  pub same : later ≡ [] → (asked_by one.found ≡ asked_by other.found) × (one.state ≡ other.state)
