-- What a session says: the lists of the registers, and the changes of both sides of their history.
use Rattle.std.specs.Prelude.{◌≡◌, ℕ, ◌+◌, ◌<◌, ◌≤◌, List, length, map, All}
use Rattle.std.specs.List.{AllByRecursion}
use Rattle.s2cell.specs.Cell.{IsCell}
use Rattle.s2list.specs.Union.{Union, IsLocal}
use Rattle.s2edit.specs.Diff.{Diff, IsDiff}
use Rattle.s2edit.specs.declared.TheConstants.{SESSION_REGISTERS, SESSION_CELLS, SESSION_CHANGES}
use Rattle.s2edit.specs.declared.content.Move.{Move}
use Rattle.s2edit.specs.declared.content.Session.{Session}

-- what a session says: the list of each register, the changes of the past, oldest first, and those of the future,
-- nearest first
pub record Content : Type 0 where
  pub registers : List (List ℕ)
  pub past : List Diff
  pub future : List Diff

-- a list that a session may have as a register
pub record IsRegisterList (cells : List ℕ) : Type 0 where
  pub local : IsLocal cells
  pub few : length cells ≤ SESSION_CELLS

-- identifiers of cells, in any order, no more than a list of a session may have
pub record AreCells (cells : List ℕ) : Type 0 where
  pub valid : All IsCell cells
  pub few : length cells ≤ SESSION_CELLS

-- a change that a session may have: its lists ascend, share no cell, and are not both empty
pub record IsMove (d : Diff) : Type 0 where
  pub register : d.register < SESSION_REGISTERS
  pub out : AreCells d.out
  pub put : AreCells d.put
  pub lists : IsDiff d.out d.put
  pub some : 0 < length d.out + length d.put

-- what a session may say, except that its changes need not fit one after another
pub record IsContent (s : Content) : Type 0 where
  pub count : length s.registers ≡ SESSION_REGISTERS
  pub registers : AllByRecursion IsRegisterList s.registers
  pub past : AllByRecursion IsMove s.past
  pub future : AllByRecursion IsMove s.future
  pub few : length s.past + length s.future ≤ SESSION_CHANGES

-- the change that a `Move` stands for
abbrev pub diff_of : Move → Diff
diff_of m = record { register = m.register; out = m.out.items; put = m.put.items }

-- what registers, a past with the oldest change first, and a future with the nearest first say
abbrev pub content_of_parts : List Union → List Diff → List Diff → Content
content_of_parts registers past future = record {
  registers = map (λ (u : Union). u.cells) registers;
  past = past;
  future = future;
}

-- what a `Session` says
abbrev pub content_of : Session → Content
content_of s = content_of_parts s.registers.items (map diff_of s.past.items) (map diff_of s.future.items)
