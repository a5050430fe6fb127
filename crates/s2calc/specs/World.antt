-- What a script reads and changes: the state of the editor, and the files.
use Rattle.std.specs.Prelude.{ℕ, List}
use Rattle.s2edit.specs.History.{History}
use Rattle.s2shelf.specs.Shelf.{Files}

-- what a script reads and changes: the history of the registers, and what is known of the files
pub record World : Type 0 where
  pub state : History (List ℕ)
  pub files : Files

-- the world with this history and these files
abbrev pub world : History (List ℕ) → Files → World
world state files = record { state = state; files = files }
