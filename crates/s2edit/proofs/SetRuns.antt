-- A run over tables of leaf sets is one over the tables of lists that stand for them.
use Rattle.std.proofs.Common.{◌≡◌, ℕ, zero, suc, Bool, List, [], ◌∷◌, ⊎_elim, map, take, slice_get, slice_set, Some}
use Rattle.std.proofs.Common.{refl, sym, ap, ◌∙◌, subst}
use Rattle.s2list.specs.Union.{has_leaf, IsLocal}
use Rattle.s2list.proofs.Normal.{same_from_leaves}
use Rattle.s2edit.specs.History.{History, changed, undone, undone_to, redone, redone_to, sets, sets_of, AllLists}
use Rattle.s2edit.specs.History.{AllTables, EachList}
use Rattle.s2edit.specs.Edits.{Edited, EditRun, edit_tally_of, AssignLocal}
use Rattle.s2edit.specs.declared.edits.Edit.{Edit}
use Rattle.s2edit.specs.declared.edits.Edit.TheVariants.{Assign, Undo, Redo}
use Rattle.s2edit.specs.declared.edits.EditOutcome.{EditOutcome}
use Rattle.s2edit.specs.declared.edits.EditOutcome.TheVariants.{Done, Refused, NoMemory}
use Rattle.s2edit.proofs.SetLemmas.{slice_get_map, sets-changed, sets-undone, sets-redone}
use Rattle.s2edit.proofs.OneEnd.{is_there, EditRun-one, fit_from_tally}

-- a register that has the set has the list
there_from_sets : (t : List (List ℕ)) (r : ℕ) (x : List ℕ) → AllLists IsLocal t → IsLocal x →
    slice_get (map has_leaf t) r ≡ Some (has_leaf x) → slice_get t r ≡ Some x
there_from_sets [] r x a l h = absurd (cc)
there_from_sets (v ∷ t) zero x a l h =
    let same : has_leaf v ≡ has_leaf x = cc in
    ap (λ (u : List ℕ). Some u) (same_from_leaves v x a.0 l (λ c. ap (λ (s : ℕ → Bool). s c) same))
there_from_sets (v ∷ t) (suc r) x a l h = there_from_sets t r x a.1 l h

AllLists-set : (t : List (List ℕ)) (r : ℕ) (x : List ℕ) → AllLists IsLocal t → IsLocal x →
    AllLists IsLocal (slice_set t r x)
AllLists-set [] r x a l = tt
AllLists-set (u ∷ t) zero x a l = (l, a.1)
AllLists-set (u ∷ t) (suc r) x a l = (a.0, AllLists-set t r x a.1 l)

AllTables-take : (n : ℕ) (ts : List (List (List ℕ))) → AllTables IsLocal ts → AllTables IsLocal (take n ts)
AllTables-take zero ts a = tt
AllTables-take (suc n) [] a = tt
AllTables-take (suc n) (t ∷ ts) a = (a.0, AllTables-take n ts a.1)

local_changed : (h : History (List ℕ)) (r : ℕ) (x : List ℕ) → EachList IsLocal h → IsLocal x →
    EachList IsLocal (changed h r x)
local_changed h r x a l = record {
  past = AllTables-take h.depth (h.now ∷ h.past) (a.now, a.past);
  now = AllLists-set h.now r x a.now l;
  future = tt;
}

local_undone : (h : History (List ℕ)) (ps : List (List (List ℕ))) → EachList IsLocal h → AllTables IsLocal ps →
    EachList IsLocal (undone_to h ps)
local_undone h [] a l = a
local_undone h (t ∷ ps) a l = record { past = l.1; now = l.0; future = (a.now, a.future) }

local_redone : (h : History (List ℕ)) (fs : List (List (List ℕ))) → EachList IsLocal h → AllTables IsLocal fs →
    EachList IsLocal (redone_to h fs)
local_redone h [] a l = a
local_redone h (t ∷ fs) a l = record { past = (a.now, a.past); now = l.0; future = l.1 }

map_none : (ts : List (List (List ℕ))) → map sets_of ts ≡ [] → ts ≡ []
map_none [] e = refl
map_none (t ∷ ts) e = absurd (cc)

-- what an edit of the sets does is what it does of the lists
pub record Lifted (h : History (List ℕ)) (e : Edit) (o : EditOutcome) (s : History (ℕ → Bool)) : Type 0 where
  pub end : History (List ℕ)
  pub edited : Edited (λ u. u) h e o end
  pub is : s ≡ sets end
  pub local : EachList IsLocal end

lift : (h : History (List ℕ)) (s : History (ℕ → Bool)) (e : Edit) (o : EditOutcome) → EachList IsLocal h →
    AssignLocal (e ∷ []) → Edited has_leaf (sets h) e o s → Lifted h e o s
lift h s (Assign r u) Done a l g =
    ⊎_elim
    (λ (there : slice_get h.now r ≡ Some u.cells). record {
      end = h;
      edited = (g.0, record { same = λ _. refl; differs = λ n. absurd (n there) });
      is = g.1.same (slice_get_map has_leaf h.now r u.cells there);
      local = a;
    })
    (λ (other : slice_get h.now r ≡ Some u.cells → ⊥). record {
      end = changed h r u.cells;
      edited = (g.0, record { same = λ there. absurd (other there); differs = λ _. refl });
      is = g.1.differs (λ f. other (there_from_sets h.now r u.cells a.now l.0 f)) ∙ sym (sets-changed h r u.cells);
      local = local_changed h r u.cells a l.0;
    })
    (is_there h.now r u.cells)
lift h s (Assign r u) Refused a l g = record { end = h; edited = (g.0, refl); is = g.1; local = a }
lift h s (Assign r u) NoMemory a l g = record { end = h; edited = (g.0, refl); is = g.1; local = a }
lift h s Undo Done a l g = record {
  end = undone h;
  edited = (λ e. g.0 (ap (map sets_of) e), refl);
  is = g.1
      ∙ sym (sets-undone h);
  local = local_undone h h.past a a.past;
}
lift h s Undo Refused a l g = record { end = h; edited = (map_none h.past g.0, refl); is = g.1; local = a }
lift h s Undo NoMemory a l g = absurd g
lift h s Redo Done a l g = record {
  end = redone h;
  edited = (λ e. g.0 (ap (map sets_of) e), refl);
  is = g.1
      ∙ sym (sets-redone h);
  local = local_redone h h.future a a.future;
}
lift h s Redo Refused a l g = record { end = h; edited = (map_none h.future g.0, refl); is = g.1; local = a }
lift h s Redo NoMemory a l g = absurd g

local_first : (e : Edit) (es : List Edit) → AssignLocal (e ∷ es) → AssignLocal (e ∷ []) × AssignLocal es
local_first (Assign r u) es l = ((l.0, tt), l.1)
local_first Undo es l = (tt, l)
local_first Redo es l = (tt, l)

pub record LiftedRun (h : History (List ℕ)) (es : List Edit) (os : List EditOutcome) (s : History (ℕ → Bool)) :
    Type 0 where
  pub end : History (List ℕ)
  pub run : EditRun (λ u. u) h es os end
  pub is : s ≡ sets end

lift_run : (h : History (List ℕ)) (s : History (ℕ → Bool)) (es : List Edit) (os : List EditOutcome) →
    EachList IsLocal h → AssignLocal es → EditRun has_leaf (sets h) es os s → LiftedRun h es os s
lift_run h s [] [] a l r = record { end = h; run = refl; is = r }
lift_run h s [] (o ∷ os) a l r = absurd r
lift_run h s (e ∷ es) [] a l r = absurd r
lift_run h s (e ∷ es) (o ∷ os) a l r =
    let f = lift h r.0 e o a (local_first e es l).0 r.1 in
    let g = lift_run f.end s es os f.local (local_first e es l).1
    (subst (λ (k : History (ℕ → Bool)). EditRun has_leaf k es os s) f.is r.2) in
    record { end = g.end; run = (f.end, f.edited, g.run); is = g.is }

pub EditRun-one_of_sets : (h : History (List ℕ)) (s₁ s₂ : History (ℕ → Bool)) (es : List Edit)
    (os ps : List EditOutcome) → EachList IsLocal h → AssignLocal es →
    EditRun has_leaf (sets h) es os s₁ → EditRun has_leaf (sets h) es ps s₂ → (edit_tally_of os).memory ≡ 0 →
    (edit_tally_of ps).memory ≡ 0 → (s₁ ≡ s₂) × (os ≡ ps)
EditRun-one_of_sets h s₁ s₂ es os ps a l r q m n =
    let f = lift_run h s₁ es os a l r in
    let g = lift_run h s₂ es ps a l q in
    let one = EditRun-one h f.end g.end es os ps f.run g.run (fit_from_tally os m) (fit_from_tally ps n) in
    (f.is ∙ ap sets one.0 ∙ sym g.is, one.1)
