-- What a session says about a history, and what becomes of an editor that takes it over.
use Rattle.std.specs.Prelude.{◌≡◌, ℕ, ◌+◌, ◌<◌, ◌≤◌, List, [], ◌∷◌, length, reverse}
use Rattle.s2edit.specs.Content.{Content}
use Rattle.s2edit.specs.Diff.{Diff}
use Rattle.s2edit.specs.declared.TheConstants.{SESSION_CELLS, SESSION_CHANGES}
use Rattle.s2script.specs.declared.register.TheConstants.{REGISTERS}
use Rattle.s2edit.specs.History.{History, EachList}
use Rattle.s2edit.specs.Leads.{Leads}
use Rattle.s2edit.specs.Chain.{IsLocalWithin}
use Rattle.s2edit.specs.declared.session.RestoreFault.{RestoreFault}
use Rattle.s2edit.specs.declared.session.RestoreFault.TheVariants.{Fit, TooDeep, TooMany, Memory}

-- the changes lead from the earlier tables to the table; both lists are in order from the table back
abbrev pub LeadBack : List Diff → List (List ℕ) → List (List (List ℕ)) → Type 0
LeadBack [] t [] = Unit {0}
LeadBack [] t (u ∷ us) = ⊥
LeadBack (d ∷ ds) t [] = ⊥
LeadBack (d ∷ ds) t (u ∷ us) = Leads d u t × LeadBack ds u us

-- the changes lead from the table to the later ones
abbrev pub LeadAhead : List Diff → List (List ℕ) → List (List (List ℕ)) → Type 0
LeadAhead [] t [] = Unit {0}
LeadAhead [] t (u ∷ us) = ⊥
LeadAhead (d ∷ ds) t [] = ⊥
LeadAhead (d ∷ ds) t (u ∷ us) = Leads d t u × LeadAhead ds u us

-- The session tells the history: its registers are the present table, and its changes are those between adjacent
-- tables, the past oldest first, each in the one register that differs. Every list is normalized and not too long for a
-- file.
pub record Records (s : Content) (h : History (List ℕ)) : Type 0 where
  pub now : h.now ≡ s.registers
  pub count : length h.now ≡ REGISTERS
  pub past : LeadBack (reverse s.past) h.now h.past
  pub future : LeadAhead s.future h.now h.future
  pub lists : EachList (IsLocalWithin SESSION_CELLS) h
  pub few : length h.past + length h.future ≤ SESSION_CHANGES

-- The lists of the history keep to its limit, and the number of its states to its depth, as those of an editor do.
pub record IsKept (h : History (List ℕ)) : Type 0 where
  pub few : EachList (λ u. length u ≤ h.limit) h
  pub kept : length h.past + length h.future ≤ h.depth

-- `Tells` says whether a history is the one to restore: a session tells it, or bytes stand for it
module _ (Tells : History (List ℕ) → Type 0) where
  -- the new history is the one to restore, with the limit and depth of the old one, and keeps to them
  pub record Restored (old new : History (List ℕ)) : Type 0 where
    pub tells : Tells new
    pub limit : new.limit ≡ old.limit
    pub depth : new.depth ≡ old.depth
    pub kept : IsKept new

  -- the history to restore has more states than the editor keeps
  pub record IsTooDeep (editor : History (List ℕ)) : Type 0 where
    pub history : History (List ℕ)
    pub tells : Tells history
    pub deep : editor.depth < length history.past + length history.future

  -- the history to restore is not too deep, but has a list of more cells than a register may have
  pub record IsTooMany (editor : History (List ℕ)) : Type 0 where
    pub history : History (List ℕ)
    pub tells : Tells history
    pub kept : length history.past + length history.future ≤ editor.depth
    pub many : EachList (λ u. length u ≤ editor.limit) history → ⊥

  -- why nothing is restored: there is no history to restore, or it is too deep, or a list has too many cells; or memory
  -- ran out
  abbrev pub RefusesToRestore : History (List ℕ) → RestoreFault → Type 0
  RefusesToRestore editor Fit = (h : History (List ℕ)) → Tells h → ⊥
  RefusesToRestore editor TooDeep = IsTooDeep editor
  RefusesToRestore editor TooMany = IsTooMany editor
  RefusesToRestore editor Memory = Unit {0}
