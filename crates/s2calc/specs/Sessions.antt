-- What can result from the bytes of a file that `restore` is to take as the state.
use Rattle.std.specs.Prelude.{◌≡◌, ℕ, ◌⊎◌, List, Some, Err}
use Rattle.s2edit.specs.History.{History}
use Rattle.s2session.specs.Session.{Stored}
use Rattle.s2edit.specs.Session.{RefusesToRestore}
use Rattle.s2edit.specs.declared.session.RestoreFault.{RestoreFault}
use Rattle.s2edit.specs.declared.session.RestoreFault.TheVariants.{Fit, TooDeep as Deep, TooMany as Many}
use Rattle.s2edit.specs.declared.session.RestoreFault.TheVariants.{Memory as NoRoom}
use Rattle.s2shelf.specs.Shelf.{Files, MayFind, Allows}
use Rattle.s2calc.specs.declared.refusal.Refusal.{Refusal}
use Rattle.s2calc.specs.declared.refusal.Refusal.TheVariants.{Session, TooDeep, TooMany, Memory}
use Rattle.s2calc.specs.Fetch.{Fetches}

-- what is answered if the editor doesn't restore a session
abbrev pub refusal_of : RestoreFault → Refusal
refusal_of Fit = Session
refusal_of Deep = TooDeep
refusal_of Many = TooMany
refusal_of NoRoom = Memory

-- why the bytes are not taken over: they stand for no history, or for one that the editor may not have; or there is no
-- memory
abbrev pub RefusesBytes : List ℕ → History (List ℕ) → Refusal → Type 0
RefusesBytes bytes state refusal =
    (fault : RestoreFault) × (refusal ≡ refusal_of fault) × RefusesToRestore (Stored bytes) state fault

-- a file was found, and whatever bytes it has, by what was found, they are refused
abbrev pub FindsNoState : List ℕ → Files → History (List ℕ) → Refusal → Files → Type 0
FindsNoState name old state refusal new =
    (bytes : List ℕ) × (found : MayFind old name (Some bytes) new)
    × ((all : List ℕ) → Allows found.finding (Some all) → RefusesBytes all state refusal)

-- why no state is taken over: the file couldn't be fetched, or its bytes are refused
abbrev pub FetchesNoState : List ℕ → Files → History (List ℕ) → Refusal → Files → Type 0
FetchesNoState name old state refusal new = Fetches name old (Err refusal) new ⊎ FindsNoState name old state refusal new
