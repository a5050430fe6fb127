-- Registers that are followed along changes.
use Rattle.std.specs.Prelude.{◌≡◌, ℕ, ◌≤◌, Bool, true, List, [], ◌∷◌, length}
use Rattle.s2list.specs.Union.{Union}
use Rattle.s2edit.specs.declared.TheConstants.{SESSION_CELLS}
use Rattle.s2edit.specs.Diff.{Diff}
use Rattle.s2edit.specs.Working.Chain.{FitAlong}
use Rattle.s2edit.specs.declared.session.RestoreFault.{RestoreFault}
use Rattle.s2edit.specs.declared.session.RestoreFault.TheVariants.{Fit, TooDeep, TooMany, Memory}

-- following the changes fails because a change can't be made (`P` says that they can), or because memory ran out
abbrev pub FailsToFollow : RestoreFault → Type 0 → Type 0
FailsToFollow Fit P = P → ⊥
FailsToFollow TooDeep P = ⊥
FailsToFollow TooMany P = ⊥
FailsToFollow Memory P = Unit {0}

-- the changes can be made one after another, and `within` says whether each list made keeps to the limit
pub record MakesChanges (limit : ℕ) (t : List (List ℕ)) (ds : List Diff) (within : Bool) : Type 0 where
  pub fit : FitAlong SESSION_CELLS t ds
  pub few : within ≡ true → FitAlong limit t ds
  pub many : FitAlong limit t ds → within ≡ true

-- each union has room for the list at its index
abbrev pub HaveRoom : List (List ℕ) → List Union → Type 0
HaveRoom [] [] = Unit {0}
HaveRoom [] (v ∷ vs) = ⊥
HaveRoom (u ∷ us) [] = ⊥
HaveRoom (u ∷ us) (v ∷ vs) = (length u ≤ v.room) × HaveRoom us vs

-- no union lost room
abbrev pub KeepRoom : List Union → List Union → Type 0
KeepRoom [] [] = Unit {0}
KeepRoom [] (v ∷ vs) = ⊥
KeepRoom (u ∷ us) [] = ⊥
KeepRoom (u ∷ us) (v ∷ vs) = (u.room ≤ v.room) × KeepRoom us vs
