-- Lists of edits as runs of the history. A register holds f of its union's list: the list itself, or its set of leaves.
use Rattle.std.specs.Prelude.{◌≡◌, ◌≢◌, ℕ, ◌+◌, ◌<◌, ◌≤◌, Bool, List, [], ◌∷◌, ◌++◌, length}
use Rattle.std.specs.Prelude.{replicate, take, slice_get, Some}
use Rattle.s2list.specs.Union.{has_leaf, IsLocal}
use Rattle.s2edit.specs.History.{History, Assigned, changed, undone, redone, timeline, sets, EachList}
use Rattle.s2edit.specs.declared.edits.Edit.{Edit}
use Rattle.s2edit.specs.declared.edits.Edit.TheVariants.{Assign, Undo, Redo}
use Rattle.s2edit.specs.declared.edits.EditOutcome.{EditOutcome}
use Rattle.s2edit.specs.declared.edits.EditOutcome.TheVariants.{Done, Refused, NoMemory}
use Rattle.s2edit.specs.declared.edits.EditTally.{EditTally}

module _ {X : Type 0} (f : List ℕ → X) where
  -- the edit, made in the history h, may have this outcome and leave the history h'
  abbrev pub Edited : History X → Edit → EditOutcome → History X → Type 0
  -- an assignment is refused if and only if the list is above the limit
  Edited h (Assign r u) Done h' = (length u.cells ≤ h.limit) × Assigned h r (f u.cells) h'
  Edited h (Assign r u) Refused h' = (h.limit < length u.cells) × (h' ≡ h)
  Edited h (Assign r u) NoMemory h' = (length u.cells ≤ h.limit) × (h' ≡ h)
  -- an undo or redo is refused if and only if its side is empty, and takes no memory
  Edited h Undo Done h' = (h.past ≢ []) × (h' ≡ undone h)
  Edited h Undo Refused h' = (h.past ≡ []) × (h' ≡ h)
  Edited h Undo NoMemory h' = ⊥
  Edited h Redo Done h' = (h.future ≢ []) × (h' ≡ redone h)
  Edited h Redo Refused h' = (h.future ≡ []) × (h' ≡ h)
  Edited h Redo NoMemory h' = ⊥

  -- one edit after another, each with its outcome
  abbrev pub EditRun : History X → List Edit → List EditOutcome → History X → Type 0
  EditRun h [] [] h' = h' ≡ h
  EditRun h (e ∷ es) (o ∷ os) h' = (mid : History X) × Edited h e o mid × EditRun mid es os h'
  EditRun h [] (o ∷ os) h' = ⊥
  EditRun h (e ∷ es) [] h' = ⊥

  -- each edit is an assignment that changes its register
  abbrev pub AllChange : History X → List Edit → Type 0
  AllChange h [] = Unit {0}
  AllChange h (Assign r u ∷ es) = (slice_get h.now r ≢ Some (f u.cells)) × AllChange (changed h r (f u.cells)) es
  AllChange h (Undo ∷ es) = ⊥
  AllChange h (Redo ∷ es) = ⊥

  -- If the first edits are at most depth assignments that were all done and each changed its register, and the others
  -- are as many undos, then these are done too, and each register has what it had.
  abbrev pub GivesBack : History X → List Edit → List EditOutcome → History X → Type 0
  GivesBack old edits outcomes new =
      (changes : List Edit) → edits ≡ changes ++ replicate (length changes) Undo → length changes ≤ old.depth →
      AllChange old changes → take (length changes) outcomes ≡ replicate (length changes) Done →
      (outcomes ≡ replicate (length edits) Done) × (new.now ≡ old.now)

-- how many undos were done
abbrev pub undos_done : List Edit → List EditOutcome → ℕ
undos_done (Undo ∷ es) (Done ∷ os) = undos_done es os + 1
undos_done (e ∷ es) (o ∷ os) = undos_done es os
undos_done es os = 0

-- how many redos were done
abbrev pub redos_done : List Edit → List EditOutcome → ℕ
redos_done (Redo ∷ es) (Done ∷ os) = redos_done es os + 1
redos_done (e ∷ es) (o ∷ os) = redos_done es os
redos_done es os = 0

-- none of the edits is an assignment
abbrev pub AllMoves : List Edit → Type 0
AllMoves [] = Unit {0}
AllMoves (Assign r u ∷ es) = ⊥
AllMoves (Undo ∷ es) = AllMoves es
AllMoves (Redo ∷ es) = AllMoves es

-- What a list of edits did. As many undos as changes before them give back what each register had. If all are undos and
-- redos, the timeline stays, and now moves back by the number of undos done, less the number of redos done.
pub record RunsTo {X : Type 0} (f : List ℕ → X) (old : History X) (edits : List Edit) (outcomes : List EditOutcome)
    (new : History X) : Type 0 where
  pub run : EditRun f old edits outcomes new
  pub gives_back : GivesBack f old edits outcomes new
  pub same_timeline : AllMoves edits → timeline new ≡ timeline old
  pub place : AllMoves edits → length new.past + undos_done edits outcomes ≡ length old.past + redos_done edits outcomes

-- a tally with one more outcome
abbrev pub tally_with : EditOutcome → EditTally → EditTally
tally_with Done t = record t { done = t.done + 1 }
tally_with Refused t = record t { refused = t.refused + 1 }
tally_with NoMemory t = record t { memory = t.memory + 1 }

-- how many edits had each outcome
abbrev pub edit_tally_of : List EditOutcome → EditTally
edit_tally_of [] = record { done = 0; refused = 0; memory = 0 }
edit_tally_of (o ∷ os) = tally_with o (edit_tally_of os)

-- Each edit had an outcome, which the tally counts; with these outcomes the edits lead from the one history to
-- the other, list for list and set for set.
pub record Ran (old : History (List ℕ)) (edits : List Edit) (tally : EditTally) (new : History (List ℕ)) : Type 0 where
  pub outcomes : List EditOutcome
  pub counted : tally ≡ edit_tally_of outcomes
  pub by_lists : RunsTo (λ u. u) old edits outcomes new
  pub by_sets : RunsTo has_leaf (sets old) edits outcomes (sets new)

-- each list that is assigned is local, as that of a union is
abbrev pub AssignLocal : List Edit → Type 0
AssignLocal [] = Unit {0}
AssignLocal (Assign r u ∷ es) = IsLocal u.cells × AssignLocal es
AssignLocal (Undo ∷ es) = AssignLocal es
AssignLocal (Redo ∷ es) = AssignLocal es

-- If no edit ran out of memory, what a list of edits does is one function of it and of the first state: the
-- state after it, list for list and set for set, and how each edit ended.
pub record LawOfRuns : Type 0 where
  pub one_end : (h h₁ h₂ : History (List ℕ)) (es : List Edit) (t₁ t₂ : EditTally) → Ran h es t₁ h₁ →
      Ran h es t₂ h₂ →
      t₁.memory ≡ 0 → t₂.memory ≡ 0 → (h₁ ≡ h₂) × (t₁ ≡ t₂)
  pub one_end_of_sets : (h : History (List ℕ)) (s₁ s₂ : History (ℕ → Bool)) (es : List Edit)
      (os ps : List EditOutcome) → EachList IsLocal h → AssignLocal es →
      EditRun has_leaf (sets h) es os s₁ → EditRun has_leaf (sets h) es ps s₂ → (edit_tally_of os).memory ≡ 0 →
      (edit_tally_of ps).memory ≡ 0 → (s₁ ≡ s₂) × (os ≡ ps)
