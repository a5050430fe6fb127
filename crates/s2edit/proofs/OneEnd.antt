-- If memory doesn't run out, a list of edits has one end.
use Rattle.std.proofs.Common.{◌≡◌, ℕ, zero, suc, List, [], ◌∷◌, slice_get, Some, true, false, ◌⊎◌, ⊎_elim, inl}
use Rattle.std.proofs.Common.{inr, refl, sym, ap, ◌∙◌, subst, arith, bytes_eq}
use Rattle.std.proofs.lemmas.Bool.{false≢true}
use Rattle.std.proofs.lemmas.Slice.Eq.{bytes_eq-Decides}
use Rattle.s2edit.specs.History.{History, Assigned}
use Rattle.s2edit.specs.Edits.{EditRun, Edited, Ran, edit_tally_of}
use Rattle.s2edit.specs.declared.edits.Edit.{Edit}
use Rattle.s2edit.specs.declared.edits.Edit.TheVariants.{Assign, Undo, Redo}
use Rattle.s2edit.specs.declared.edits.EditTally.{EditTally}
use Rattle.s2edit.specs.declared.edits.EditOutcome.{EditOutcome}
use Rattle.s2edit.specs.declared.edits.EditOutcome.TheVariants.{Done, Refused, NoMemory}

-- no edit ran out of memory
abbrev pub AllFit : List EditOutcome → Type 0
AllFit [] = Unit {0}
AllFit (Done ∷ os) = AllFit os
AllFit (Refused ∷ os) = AllFit os
AllFit (NoMemory ∷ os) = ⊥

pub fit_from_tally : (os : List EditOutcome) → (edit_tally_of os).memory ≡ 0 → AllFit os
fit_from_tally [] e = tt
fit_from_tally (Done ∷ os) e = fit_from_tally os e
fit_from_tally (Refused ∷ os) e = fit_from_tally os e
fit_from_tally (NoMemory ∷ os) e = absurd (omega arith)

-- a list is in a register, or it isn't
pub is_there : (t : List (List ℕ)) (r : ℕ) (x : List ℕ) → (slice_get t r ≡ Some x) ⊎ (slice_get t r ≡ Some x → ⊥)
is_there [] r x = inr (λ e. cc)
is_there (u ∷ t) zero x =
    elim (bytes_eq u x) as (λ b. bytes_eq u x ≡ b → (Some u ≡ Some x) ⊎ (Some u ≡ Some x → ⊥)) [
      | true ↦ λ e. inl (ap (λ (l : List ℕ). Some l) ((bytes_eq-Decides u x).0 e))
      | false ↦ λ e. inr (λ f. let g : u ≡ x = cc in false≢true (sym e ∙ (bytes_eq-Decides u x).1 g))
    ] refl
is_there (u ∷ t) (suc r) x = is_there t r x

Assigned-one : (h h₁ h₂ : History (List ℕ)) (r : ℕ) (x : List ℕ) → Assigned h r x h₁ → Assigned h r x h₂ → h₁ ≡ h₂
Assigned-one h h₁ h₂ r x a b = ⊎_elim (λ e. a.same e ∙ sym (b.same e)) (λ n. a.differs n ∙ sym (b.differs n))
    (is_there h.now r x)

Edited-one : (h h₁ h₂ : History (List ℕ)) (e : Edit) (o p : EditOutcome) → Edited (λ u. u) h e o h₁ →
    Edited (λ u. u) h e p h₂ → AllFit (o ∷ []) → AllFit (p ∷ []) → (h₁ ≡ h₂) × (o ≡ p)
Edited-one h h₁ h₂ (Assign r u) Done Done a b m n = (Assigned-one h h₁ h₂ r u.cells a.1 b.1, refl)
Edited-one h h₁ h₂ (Assign r u) Done Refused a b m n = absurd (omega (arith, a.0, b.0))
Edited-one h h₁ h₂ (Assign r u) Refused Done a b m n = absurd (omega (arith, a.0, b.0))
Edited-one h h₁ h₂ (Assign r u) Refused Refused a b m n = (a.1 ∙ sym b.1, refl)
Edited-one h h₁ h₂ (Assign r u) NoMemory p a b m n = absurd m
Edited-one h h₁ h₂ (Assign r u) Done NoMemory a b m n = absurd n
Edited-one h h₁ h₂ (Assign r u) Refused NoMemory a b m n = absurd n
Edited-one h h₁ h₂ Undo Done Done a b m n = (a.1 ∙ sym b.1, refl)
Edited-one h h₁ h₂ Undo Done Refused a b m n = absurd (a.0 b.0)
Edited-one h h₁ h₂ Undo Refused Done a b m n = absurd (b.0 a.0)
Edited-one h h₁ h₂ Undo Refused Refused a b m n = (a.1 ∙ sym b.1, refl)
Edited-one h h₁ h₂ Undo NoMemory p a b m n = absurd m
Edited-one h h₁ h₂ Undo Done NoMemory a b m n = absurd n
Edited-one h h₁ h₂ Undo Refused NoMemory a b m n = absurd n
Edited-one h h₁ h₂ Redo Done Done a b m n = (a.1 ∙ sym b.1, refl)
Edited-one h h₁ h₂ Redo Done Refused a b m n = absurd (a.0 b.0)
Edited-one h h₁ h₂ Redo Refused Done a b m n = absurd (b.0 a.0)
Edited-one h h₁ h₂ Redo Refused Refused a b m n = (a.1 ∙ sym b.1, refl)
Edited-one h h₁ h₂ Redo NoMemory p a b m n = absurd m
Edited-one h h₁ h₂ Redo Done NoMemory a b m n = absurd n
Edited-one h h₁ h₂ Redo Refused NoMemory a b m n = absurd n

fit_first : (o : EditOutcome) (os : List EditOutcome) → AllFit (o ∷ os) → AllFit (o ∷ []) × AllFit os
fit_first Done os f = (tt, f)
fit_first Refused os f = (tt, f)
fit_first NoMemory os f = absurd f

pub EditRun-one : (h h₁ h₂ : History (List ℕ)) (es : List Edit) (os ps : List EditOutcome) →
    EditRun (λ u. u) h es os h₁ → EditRun (λ u. u) h es ps h₂ → AllFit os → AllFit ps → (h₁ ≡ h₂) × (os ≡ ps)
EditRun-one h h₁ h₂ [] [] [] a b m n = (a ∙ sym b, refl)
EditRun-one h h₁ h₂ [] (o ∷ os) ps a b m n = absurd a
EditRun-one h h₁ h₂ [] [] (p ∷ ps) a b m n = absurd b
EditRun-one h h₁ h₂ (e ∷ es) [] ps a b m n = absurd a
EditRun-one h h₁ h₂ (e ∷ es) (o ∷ os) [] a b m n = absurd b
EditRun-one h h₁ h₂ (e ∷ es) (o ∷ os) (p ∷ ps) a b m n =
    let s = Edited-one h a.0 b.0 e o p a.1 b.1 (fit_first o os m).0 (fit_first p ps n).0 in
    let t = EditRun-one a.0 h₁ h₂ es os ps a.2 (subst (λ (k : History (List ℕ)). EditRun (λ u. u) k es ps h₂)
    (sym s.0) b.2) (fit_first o os m).1 (fit_first p ps n).1 in
    (t.0, ap (λ q. q ∷ os) s.1 ∙ ap (λ (qs : List EditOutcome). p ∷ qs) t.1)

pub Ran-one : (h h₁ h₂ : History (List ℕ)) (es : List Edit) (t₁ t₂ : EditTally) → Ran h es t₁ h₁ → Ran h es t₂ h₂ →
    t₁.memory ≡ 0 → t₂.memory ≡ 0 → (h₁ ≡ h₂) × (t₁ ≡ t₂)
Ran-one h h₁ h₂ es t₁ t₂ a b m n =
    let no_memory : (os : List EditOutcome) (t : EditTally) → t ≡ edit_tally_of os → t.memory ≡ 0 → AllFit os =
    λ os t c e. fit_from_tally os (sym (ap (λ (x : EditTally). x.memory) c) ∙ e) in
    let one = EditRun-one h h₁ h₂ es a.outcomes b.outcomes a.by_lists.run b.by_lists.run
    (no_memory a.outcomes t₁ a.counted m) (no_memory b.outcomes t₂ b.counted n) in
    (one.0, a.counted ∙ ap edit_tally_of one.1 ∙ sym b.counted)
