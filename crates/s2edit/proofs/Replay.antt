-- What a list of edits does: changes, and then as many undos.
use Rattle.std.proofs.Common.{◌≡◌, ℕ, zero, suc, ◌+◌, ◌≤◌, List, [], ◌∷◌, ◌++◌, length, take, drop}
use Rattle.std.proofs.Common.{replicate, refl, sym, ap, ◌∙◌, subst, append_assoc, arith}
use Rattle.std.proofs.Math.Nat.{le-min}
use Rattle.std.proofs.lemmas.List.{replicate_more, take-take, length-take, length-append}
use Rattle.std.proofs.lemmas.List.{length-replicate, replicate-append-replicate}
use Rattle.s2edit.specs.History.{History, changed, undone, undone_to}
use Rattle.s2edit.specs.Edits.{Edited, EditRun, AllChange, GivesBack, RunsTo}
use Rattle.s2edit.specs.declared.edits.Edit.{Edit}
use Rattle.s2edit.specs.declared.edits.Edit.TheVariants.{Assign, Undo, Redo}
use Rattle.s2edit.specs.declared.edits.EditOutcome.{EditOutcome}
use Rattle.s2edit.specs.declared.edits.EditOutcome.TheVariants.{Done, Refused, NoMemory}
use Rattle.s2edit.proofs.Runs.{undo_place, run_timeline, run_place}

from_first : {X : Type 0} (xs ys : List X) (t : X) (d : ℕ) → 1 ≤ d → take 1 xs ≡ take 1 (take d (t ∷ ys)) →
    xs ≡ t ∷ drop 1 xs
from_first [] ys t d l e = let f : [] ≡ t ∷ [] = e ∙ take-take 1 d (t ∷ ys) l in absurd (cc)
from_first (x ∷ xs) ys t d l e = let f : x ∷ [] ≡ t ∷ [] = e ∙ take-take 1 d (t ∷ ys) l in let g : x ≡ t = cc in
    ap (λ z. z ∷ xs) g

rest_taken : {X : Type 0} (xs ys : List X) (t : X) (k d : ℕ) → suc k ≤ d → xs ≡ t ∷ drop 1 xs →
    take (suc k) xs ≡ take (suc k) (take d (t ∷ ys)) → take k (drop 1 xs) ≡ take k ys
rest_taken xs ys t k d l e f =
    let g : t ∷ take k (drop 1 xs) ≡ t ∷ take k ys = sym (ap (take (suc k)) e) ∙ f ∙ take-take (suc k) d (t ∷ ys) l in
    cc

module _ {X : Type 0} (f : List ℕ → X) where
  -- a run in which each edit is done
  abbrev DoneRun : History X → List Edit → History X → Type 0
  DoneRun h [] h' = h' ≡ h
  DoneRun h (e ∷ es) h' = (mid : History X) × Edited f h e Done mid × DoneRun mid es h'

  all_done : (h h' : History X) (es : List Edit) → EditRun f h es (replicate (length es) Done) h' → DoneRun h es h'
  all_done h h' [] r = r
  all_done h h' (e ∷ es) r = (r.0, r.1, all_done r.0 h' es r.2)

  -- a run whose first edits are done: these, and then the others with the other outcomes
  first_done : (h h' : History X) (es fs : List Edit) (os : List EditOutcome) → EditRun f h (es ++ fs) os h' →
      take (length es) os ≡ replicate (length es) Done → (mid : History X) × DoneRun h es mid
      × ((ps : List EditOutcome) × (os ≡ replicate (length es) Done ++ ps) × EditRun f mid fs ps h')
  first_done h h' [] fs os r t = (h, refl, (os, refl, r))
  first_done h h' (e ∷ es) fs [] r t = absurd r
  first_done h h' (e ∷ es) fs (o ∷ os) r t =
      let d : o ≡ Done = cc in
      let s = first_done r.0 h' es fs os r.2 (cc) in
      let all : o ∷ os ≡ Done ∷ replicate (length es) Done ++ s.2.0 =
      ap (λ (q : EditOutcome). q ∷ os) d ∙ ap (λ (qs : List EditOutcome). Done ∷ qs) s.2.1 in
      (s.0, (r.0, subst (λ (q : EditOutcome). Edited f h e q r.0) d r.1, s.1), (s.2.0, all, s.2.2))

  -- each change makes the past longer, up to the depth
  past_grows : (es : List Edit) (h h' : History X) (k : ℕ) → DoneRun h es h' → AllChange f h es → k ≤ length h.past →
      k + length es ≤ h.depth → k + length es ≤ length h'.past
  past_grows [] h h' k r a l d = omega (arith, ap (λ (x : History X). length x.past) r)
  past_grows (Undo ∷ es) h h' k r a l d = absurd a
  past_grows (Redo ∷ es) h h' k r a l d = absurd a
  past_grows (Assign x u ∷ es) h h' k r a l d =
      let c : History X = changed h x (f u.cells) in
      let m : r.0 ≡ c = r.1.1.differs a.0 in
      let more : k + 1 ≤ length c.past = subst (λ (n : ℕ). k + 1 ≤ n) (sym (length-take h.depth (h.now ∷ h.past)))
      (le-min (omega arith) (omega arith)) in
      let rest : DoneRun c es h' = subst (λ (q : History X). DoneRun q es h') m r.2 in
      omega (arith, past_grows es c h' (k + 1) rest a.1 more (omega arith))

  -- as many undos as the past has tables are done
  undos_are_done : (n : ℕ) (h h' : History X) (os : List EditOutcome) → EditRun f h (replicate n Undo) os h' →
      n ≤ length h.past → os ≡ replicate n Done
  undos_are_done zero h h' [] r l = refl
  undos_are_done zero h h' (o ∷ os) r l = absurd r
  undos_are_done (suc n) h h' [] r l = absurd r
  undos_are_done (suc n) h h' (Done ∷ os) r l =
      ap (λ (qs : List EditOutcome). Done ∷ qs) (undos_are_done n r.0 h' os r.2
      (omega (arith, ap (λ (x : History X). length x.past) r.1.1, undo_place f h h.past refl r.1.0)))
  undos_are_done (suc n) h h' (Refused ∷ os) r l = absurd (omega (arith, ap length r.1.0))
  undos_are_done (suc n) h h' (NoMemory ∷ os) r l = absurd r.1

  done_split : (h h' : History X) (es fs : List Edit) → DoneRun h (es ++ fs) h' → (mid : History X)
      × DoneRun h es mid × DoneRun mid fs h'
  done_split h h' [] fs r = (h, refl, r)
  done_split h h' (e ∷ es) fs r = let s = done_split r.0 h' es fs r.2 in (s.0, (r.0, r.1, s.1), s.2)

  -- undoing what is at hand: the newest table of the past becomes now
  undo_to : (h h' : History X) (t : List X) (ts : List (List X)) → h.past ≡ t ∷ ts → h' ≡ undone h → (h'.now ≡ t)
      × (h'.past ≡ ts)
  undo_to h h' t ts e u =
      let v : h' ≡ undone_to h (t ∷ ts) = u ∙ ap (undone_to h) e in
      (ap (λ (k : History X). k.now) v, ap (λ (k : History X). k.past) v)

  -- changes that are done, and then as many undos, lead back to the table and to what of the past has not been dropped
  back : (n : ℕ) (es : List Edit) (h h' : History X) → length es ≡ n → n ≤ h.depth → AllChange f h es →
      DoneRun h (es ++ replicate n Undo) h' →
      (h'.now ≡ h.now) × ((k : ℕ) → k + n ≤ h.depth → take k h'.past ≡ take k h.past)
  back zero [] h h' e l a r = (ap (λ (k : History X). k.now) r, λ k m. ap (λ (x : History X). take k x.past) r)
  back zero (d ∷ es) h h' e l a r = absurd (omega arith)
  back (suc n) [] h h' e l a r = absurd (omega arith)
  back (suc n) (Undo ∷ es) h h' e l a r = absurd a
  back (suc n) (Redo ∷ es) h h' e l a r = absurd a
  back (suc n) (Assign x u ∷ es) h h' e l a r =
      let c : History X = changed h x (f u.cells) in
      let m : r.0 ≡ c = r.1.1.differs a.0 in
      let one : suc n ≡ n + 1 = omega arith in
      let undos : es ++ replicate (suc n) Undo ≡ (es ++ replicate n Undo) ++ Undo ∷ [] =
      ap (λ (fs : List Edit). es ++ fs) (ap (λ (k : ℕ). replicate k Undo) one ∙ sym (replicate_more n Undo))
      ∙ sym (append_assoc es (replicate n Undo) (Undo ∷ [])) in
      let rest : DoneRun c ((es ++ replicate n Undo) ++ Undo ∷ []) h' =
      subst (λ (fs : List Edit). DoneRun c fs h') undos
      (subst (λ (k : History X). DoneRun k (es ++ replicate (suc n) Undo) h') m r.2) in
      let s = done_split c h' (es ++ replicate n Undo) (Undo ∷ []) rest in
      let b = back n es c s.0 (omega arith) (omega arith) a.1 s.1 in
      let first : s.0.past ≡ h.now ∷ drop 1 s.0.past =
      from_first s.0.past h.past h.now h.depth (omega arith) (b.1 1 (omega arith)) in
      let last : h' ≡ undone s.0 = s.2.2 ∙ s.2.1.1 in
      let w = undo_to s.0 h' h.now (drop 1 s.0.past) first last in (
        w.0,
        λ k f. ap (take k) w.1 ∙ rest_taken s.0.past h.past h.now k h.depth (omega arith) first
            (b.1 (suc k) (omega arith)),
      )

  gives_back : (h h' : History X) (es : List Edit) (os : List EditOutcome) → EditRun f h es os h' →
      GivesBack f h es os h'
  gives_back h h' es os r changes e l a t =
      let n = length changes in
      let s = first_done h h' changes (replicate n Undo) os (subst (λ (fs : List Edit). EditRun f h fs os h') e r) t in
      let undos : s.2.0 ≡ replicate n Done = undos_are_done n s.0 h' s.2.0 s.2.2
      (omega (arith, past_grows changes h s.0 0 s.1 a (omega arith) (omega arith))) in
      let number : n + n ≡ length es = omega (
        arith,
        ap length e,
        length-append changes (replicate n Undo),
        length-replicate n Undo,
      ) in
      let all : os ≡ replicate (length es) Done =
      s.2.1 ∙ ap (λ (qs : List EditOutcome). replicate n Done ++ qs) undos ∙ replicate-append-replicate n n Done
      ∙ ap (λ (k : ℕ). replicate k Done) number in
      let done : DoneRun h es h' = all_done h h' es (subst (λ (qs : List EditOutcome). EditRun f h es qs h') all r) in
      (all, (back n changes h h' refl l a (subst (λ (fs : List Edit). DoneRun h fs h') e done)).0)

  pub runs_to : (h h' : History X) (es : List Edit) (os : List EditOutcome) → EditRun f h es os h' → RunsTo f h es os h'
  runs_to h h' es os r = record {
    run = r;
    gives_back = gives_back h h' es os r;
    same_timeline = λ m. run_timeline f h h' es os m r;
    place = λ m. run_place f h h' es os m r;
  }
