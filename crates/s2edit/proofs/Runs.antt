-- Runs of edits.
use Rattle.std.proofs.Common.{◌≡◌, ◌≢◌, ℕ, ◌+◌, List, [], ◌∷◌, ◌++◌, length, reverse, refl, sym, ap}
use Rattle.std.proofs.Common.{◌∙◌, subst, append_assoc, arith}
use Rattle.std.proofs.lemmas.List.{reverse-append}
use Rattle.s2edit.specs.History.{History, undone_to, redone_to, timeline}
use Rattle.s2edit.specs.Edits.{Edited, EditRun, edit_tally_of, tally_with, undos_done, redos_done, AllMoves}
use Rattle.s2edit.specs.declared.edits.Edit.{Edit}
use Rattle.s2edit.specs.declared.edits.Edit.TheVariants.{Assign, Undo, Redo}
use Rattle.s2edit.specs.declared.edits.EditOutcome.{EditOutcome}
use Rattle.s2edit.specs.declared.edits.EditOutcome.TheVariants.{Done, Refused, NoMemory}
use Rattle.s2edit.specs.declared.edits.EditTally.{EditTally}

tally_with-comm : (o p : EditOutcome) (t : EditTally) → tally_with o (tally_with p t) ≡ tally_with p (tally_with o t)
tally_with-comm Done Done t = refl
tally_with-comm Done Refused t = refl
tally_with-comm Done NoMemory t = refl
tally_with-comm Refused Done t = refl
tally_with-comm Refused Refused t = refl
tally_with-comm Refused NoMemory t = refl
tally_with-comm NoMemory Done t = refl
tally_with-comm NoMemory Refused t = refl
tally_with-comm NoMemory NoMemory t = refl

pub tally_of-push : (os : List EditOutcome) (o : EditOutcome) → edit_tally_of (os ++ o ∷ [])
    ≡ tally_with o (edit_tally_of os)
tally_of-push [] o = refl
tally_of-push (p ∷ os) o = ap (tally_with p) (tally_of-push os o) ∙ tally_with-comm p o (edit_tally_of os)

reverse_first : {X : Type 0} (t : X) (ts us : List X) → reverse (t ∷ ts) ++ us ≡ reverse ts ++ t ∷ us
reverse_first t ts us = ap (λ xs. xs ++ us) (reverse-append (t ∷ []) ts) ∙ append_assoc (reverse ts) (t ∷ []) us

moves_first : (e : Edit) (es : List Edit) → AllMoves (e ∷ es) → AllMoves (e ∷ []) × AllMoves es
moves_first (Assign r u) es m = absurd m
moves_first Undo es m = (tt, m)
moves_first Redo es m = (tt, m)

module _ {X : Type 0} (f : List ℕ → X) where
  -- a run goes on by one edit
  pub EditRun-push : (h m h' : History X) (es : List Edit) (os : List EditOutcome) (e : Edit) (o : EditOutcome) →
      EditRun f h es os m → Edited f m e o h' → EditRun f h (es ++ e ∷ []) (os ++ o ∷ []) h'
  EditRun-push h m h' [] [] e o r s = (h', subst (λ (k : History X). Edited f k e o h') r s, refl)
  EditRun-push h m h' [] (p ∷ os) e o r s = absurd r
  EditRun-push h m h' (d ∷ es) [] e o r s = absurd r
  EditRun-push h m h' (d ∷ es) (p ∷ os) e o r s = (r.0, r.1, EditRun-push r.0 m h' es os e o r.2 s)

  -- a move leaves the timeline, and now stands one place further back or ahead
  module _ (h : History X) where
    undo_timeline : (ps : List (List X)) → h.past ≡ ps → timeline (undone_to h ps) ≡ timeline h
    undo_timeline [] e = refl
    undo_timeline (t ∷ ps) e = sym (ap (λ (qs : List (List X)). reverse qs ++ h.now ∷ h.future) e
        ∙ reverse_first t ps (h.now ∷ h.future))

    pub undo_place : (ps : List (List X)) → h.past ≡ ps → ps ≢ [] → length (undone_to h ps).past + 1 ≡ length h.past
    undo_place [] e n = absurd (n refl)
    undo_place (t ∷ ps) e n = omega (arith, ap length e)

    redo_timeline : (fs : List (List X)) → h.future ≡ fs → timeline (redone_to h fs) ≡ timeline h
    redo_timeline [] e = refl
    redo_timeline (t ∷ fs) e = reverse_first h.now h.past (t ∷ fs)
        ∙ ap (λ (gs : List (List X)). reverse h.past ++ h.now ∷ gs) (sym e)

    redo_place : (fs : List (List X)) → h.future ≡ fs → fs ≢ [] → length (redone_to h fs).past ≡ length h.past + 1
    redo_place [] e n = absurd (n refl)
    redo_place (t ∷ fs) e n = omega arith

  edit_timeline : (h h' : History X) (e : Edit) (o : EditOutcome) → AllMoves (e ∷ []) → Edited f h e o h' →
      timeline h' ≡ timeline h
  edit_timeline h h' (Assign r u) o m s = absurd m
  edit_timeline h h' Undo Done m s = ap timeline s.1 ∙ undo_timeline h h.past refl
  edit_timeline h h' Undo Refused m s = ap timeline s.1
  edit_timeline h h' Undo NoMemory m s = absurd s
  edit_timeline h h' Redo Done m s = ap timeline s.1 ∙ redo_timeline h h.future refl
  edit_timeline h h' Redo Refused m s = ap timeline s.1
  edit_timeline h h' Redo NoMemory m s = absurd s

  pub run_timeline : (h h' : History X) (es : List Edit) (os : List EditOutcome) → AllMoves es → EditRun f h es os h' →
      timeline h' ≡ timeline h
  run_timeline h h' [] [] m r = ap timeline r
  run_timeline h h' [] (o ∷ os) m r = absurd r
  run_timeline h h' (e ∷ es) [] m r = absurd r
  run_timeline h h' (e ∷ es) (o ∷ os) m r =
      run_timeline r.0 h' es os (moves_first e es m).1 r.2 ∙ edit_timeline h r.0 e o (moves_first e es m).0 r.1

  pub run_place : (h h' : History X) (es : List Edit) (os : List EditOutcome) → AllMoves es → EditRun f h es os h' →
      length h'.past + undos_done es os ≡ length h.past + redos_done es os
  run_place h h' [] [] m r = omega (arith, ap (λ (k : History X). length k.past) r)
  run_place h h' [] (o ∷ os) m r = absurd r
  run_place h h' (e ∷ es) [] m r = absurd r
  run_place h h' (Assign x u ∷ es) (o ∷ os) m r = absurd m
  run_place h h' (Undo ∷ es) (Done ∷ os) m r =
      omega (
        arith,
        run_place r.0 h' es os m r.2,
        ap (λ (k : History X). length k.past) r.1.1,
        undo_place h h.past refl r.1.0,
      )
  run_place h h' (Undo ∷ es) (Refused ∷ os) m r =
      omega (arith, run_place r.0 h' es os m r.2, ap (λ (k : History X). length k.past) r.1.1)
  run_place h h' (Undo ∷ es) (NoMemory ∷ os) m r = absurd r.1
  run_place h h' (Redo ∷ es) (Done ∷ os) m r =
      omega (
        arith,
        run_place r.0 h' es os m r.2,
        ap (λ (k : History X). length k.past) r.1.1,
        redo_place h h.future refl r.1.0,
      )
  run_place h h' (Redo ∷ es) (Refused ∷ os) m r =
      omega (arith, run_place r.0 h' es os m r.2, ap (λ (k : History X). length k.past) r.1.1)
  run_place h h' (Redo ∷ es) (NoMemory ∷ os) m r = absurd r.1
