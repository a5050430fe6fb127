-- Laws about the states that the lines of a script leave, and about what was stored and is found later.
use Rattle.std.specs.Prelude.{◌≡◌, ℕ, ◌⊎◌, ◌<◌, ◌≤◌, List, ◌∷◌, length, Some}
use Rattle.s2list.specs.Union.{IsLocal}
use Rattle.s2edit.specs.Chain.{IsLocalWithin}
use Rattle.s2edit.specs.History.{History, Assigned, EachList}
use Rattle.s2edit.specs.Leads.{list_at}
use Rattle.s2edit.specs.Session.{IsKept}
use Rattle.s2file.specs.declared.union_file.TheConstants.{MOST_FILE}
use Rattle.s2shelf.specs.Shelf.{Finding, Holding, Written, Found}
use Rattle.s2script.specs.Line.{line_of}
use Rattle.s2script.specs.declared.command.Command.TheVariants.{Load, Save, Dump, Restore}
use Rattle.s2script.specs.declared.command.Parsed.TheVariants.{Does}
use Rattle.s2calc.specs.declared.refusal.Refusal.TheVariants.{TooMany}
use Rattle.s2calc.specs.Edits.{SaysNumbers}
use Rattle.s2calc.specs.Laws.{IsPlain}
use Rattle.s2calc.specs.Replies.{Reply, Says, Refuses}
use Rattle.s2calc.specs.Run.{Steps}
use Rattle.s2calc.specs.Step.{Step}
use Rattle.s2calc.specs.Texts.{done_line}
use Rattle.s2calc.specs.World.{World}

-- each list of each table is normalized and keeps to the limit, and the number of earlier and undone tables to the
-- depth
pub record IsOrdinary (h : History (List ℕ)) : Type 0 where
  pub local : EachList IsLocal h
  pub kept : IsKept h

-- from such a state the lines of a script lead to such states, with the same limit and depth
abbrev pub KeepsOrdinary : Type 0
KeepsOrdinary =
    (old new : World) (ls : List (List ℕ)) (replies : List Reply) → Steps old ls replies new → IsOrdinary old.state
    → IsOrdinary new.state × (new.state.limit ≡ old.state.limit) × (new.state.depth ≡ old.state.depth)

-- what was found or stored last, under which name
abbrev pub FoundLast : List ℕ → Finding → World → Type 0
FoundLast name finding now =
    (before : List Found) × (now.files.found ≡ Some (record { name = name; finding = finding } ∷ before))

-- the register is assigned this list, and the reply is the numbers of cells; or the list has more cells than a register
-- may have
abbrev pub GetsList : List ℕ → ℕ → History (List ℕ) → Reply → History (List ℕ) → Type 0
GetsList list r old reply new =
    ((length list ≤ old.limit) × Assigned old r list new × SaysNumbers old reply new)
    ⊎ ((old.limit < length list) × (reply ≡ Refuses TooMany) × (new ≡ old))

-- If one line saves a register, whose list is normalized and not too long for a file, as these bytes, and another line
-- finds just these bytes and loads them, then the loaded register gets the list of the saved one, unless the answer is
-- of memory or of the file. The names may differ, as for a file that was moved.
abbrev pub LoadGivesBack : Type 0
LoadGivesBack =
    (a b c d : World) (line other name found_as bytes : List ℕ) (r s : ℕ) (y : Reply) →
    line_of line ≡ Does (Save r name) → line_of other ≡ Does (Load s found_as) →
    IsLocalWithin MOST_FILE (list_at a.state.now r)
    → Step a line (Says done_line) b → FoundLast name (Written bytes) b → Step c other y d → IsPlain y →
    FoundLast found_as (Holding bytes) d
    → GetsList (list_at a.state.now r) s c.state y d.state

-- If one line dumps a state as these bytes, and another line finds just these bytes and restores them, in an editor of
-- that limit and depth, then the state is the dumped one, unless the answer is of memory or of the file.
abbrev pub RestoreGivesState : Type 0
RestoreGivesState =
    (a b c d : World) (line other name found_as bytes : List ℕ) (y : Reply) → line_of line ≡ Does (Dump name) →
    line_of other ≡ Does (Restore found_as) → IsKept a.state
    → Step a line (Says done_line) b → FoundLast name (Written bytes) b → Step c other y d → IsPlain y →
    FoundLast found_as (Holding bytes) d → c.state.limit ≡ a.state.limit → c.state.depth ≡ a.state.depth
    → (y ≡ Says done_line) × (d.state ≡ a.state)

-- what was stored comes back where it is found
pub record StoredComesBack : Type 0 where
  pub list : LoadGivesBack
  pub state : RestoreGivesState
