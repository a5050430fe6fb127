-- What the fields of an editor stand for.
use Rattle.std.specs.Prelude.{◌≡◌, ℕ, ◌+◌, ◌≤◌, List, length, map}
use Rattle.s2edit.specs.declared.TheConstants.{SESSION_CHANGES, MOST_REGISTER}
use Rattle.s2script.specs.declared.register.TheConstants.{REGISTERS}
use Rattle.s2edit.specs.History.{History}
use Rattle.s2edit.specs.Diff.{inverse}
use Rattle.s2edit.specs.Working.Chain.{history, lists_of, AllWithin, AllRoomy, FitAlong}
use Rattle.s2edit.specs.declared.editor.Editor.TheInside.{Inside}

-- the history that a contract sees
abbrev pub history_of : Inside → History (List ℕ)
history_of e = history e.limit e.depth e.registers.items e.past.items e.future.items

-- Each register and the spare list have room for a whole list, each ring has room for all states that may be kept,
-- and the changes of each side can be made one after another, starting from the present table.
pub record IsEditor (e : Inside) : Type 0 where
  pub limit_bound : e.limit ≤ MOST_REGISTER
  pub depth_most : e.depth ≤ SESSION_CHANGES
  pub count : length e.registers.items ≡ REGISTERS
  pub past_room : e.past.capacity ≡ e.depth
  pub future_room : e.future.capacity ≡ e.depth
  pub depth_bound : length e.past.items + length e.future.items ≤ e.depth
  pub registers_within : AllWithin e.limit (lists_of e.registers.items)
  pub past_fits : FitAlong e.limit (lists_of e.registers.items) (map inverse e.past.items)
  pub future_fits : FitAlong e.limit (lists_of e.registers.items) e.future.items
  pub registers_roomy : AllRoomy e.limit e.registers.items
  pub spare_roomy : e.limit ≤ e.spare.room
