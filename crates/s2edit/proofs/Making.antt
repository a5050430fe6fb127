-- What making a change leaves, and what an edit by named cells is.
use Rattle.std.proofs.Common.{◌≡◌, ℕ, ◌+◌, ◌<◌, ◌≤◌, Bool, List, [], length, slice_get, Some, Ok, Err, Result}
use Rattle.std.proofs.Common.{◌↔◌, OnOk, OnErr, sym, ap, ◌∙◌, subst, ⊎_elim, arith}
use Rattle.std.proofs.lemmas.Bool.{cases_lt}
use Rattle.std.proofs.lemmas.List.{length-map}
use Rattle.std.proofs.lemmas.Option.{get_or_from_slice_get, slice_get-get_or}
use Rattle.s2list.specs.Union.{Union, has_leaf, IsLocal, IsNormalForm}
use Rattle.s2list.proofs.Normal.{one_normal_form}
use Rattle.s2edit.specs.Diff.{Diff, FitsList, apply}
use Rattle.s2script.specs.declared.register.TheConstants.{REGISTERS}
use Rattle.s2edit.specs.History.{History, Assigned, sets}
use Rattle.s2edit.specs.Leads.{list_at}
use Rattle.s2edit.specs.Chain.{IsLocalWithin}
use Rattle.s2edit.specs.Named.{Becomes}
use Rattle.s2edit.specs.Working.Chain.{history, lists_of, list_after, AllWithin}
use Rattle.s2edit.specs.Working.Named.{Gives}
use Rattle.s2edit.specs.declared.editor.EditFault.{EditFault}
use Rattle.s2edit.specs.declared.editor.EditFault.TheVariants.{TooMany}
use Rattle.s2edit.proofs.Assigning.{assigned_same}
use Rattle.s2edit.proofs.Contents.{empty_list}
use Rattle.s2edit.proofs.DiffLemmas.{nothing_applied}
use Rattle.s2edit.proofs.SetLemmas.{Assigned-sets}
use Rattle.s2edit.proofs.Sizes.{length_without, length_applied}
use Rattle.s2edit.proofs.Tables.{AllWithin-at}

-- a change of a register, in the state that an editor holds
module _ (limit depth : ℕ) (us : List Union) (past future : List Diff) (h : History (List ℕ)) (d : Diff)
    (view : history limit depth us past future ≡ h) (count : length us ≡ REGISTERS) (a : AllWithin limit (lists_of us))
    (l : d.register < REGISTERS) (f : FitsList d (list_at h.now d.register)) where
  pub now_is : lists_of us ≡ h.now
  now_is = ap (λ (k : History (List ℕ)). k.now) view

  pub in_table : d.register < length (lists_of us)
  in_table = omega (arith, length-map us (λ (u : Union). u.cells), count, l)

  pub fits_here : FitsList d (list_at (lists_of us) d.register)
  fits_here = subst (λ (t : List (List ℕ)). FitsList d (list_at t d.register)) (sym now_is) f

  pub within_here : IsLocalWithin limit (list_at (lists_of us) d.register)
  within_here = AllWithin-at limit (lists_of us) d.register a in_table

  pub fewer : length d.out ≤ length (list_at (lists_of us) d.register)
  fewer = omega (arith, length_without d.out d.put (list_at (lists_of us) d.register) within_here.local fits_here)

  pub sizes : length (list_at (lists_of us) d.register) + length d.put ≡ length (list_after h.now d) + length d.out
  sizes = length_applied d.out d.put (list_at (lists_of us) d.register) within_here.local fits_here
      ∙ ap (λ (t : List (List ℕ)). length (list_after t d) + length d.out) now_is

  -- if it names no cell, everything stays
  module _ (no_out : length d.out ≡ 0) (no_put : length d.put ≡ 0) where
    same_list : list_after h.now d ≡ list_at h.now d.register
    same_list =
        nothing_applied d.out d.put (list_at h.now d.register) (empty_list d.out no_out) (empty_list d.put no_put)

    pub nothing_made : Assigned h d.register (list_after h.now d) h
    nothing_made = assigned_same h d.register (list_after h.now d)
        (slice_get-get_or h.now d.register [] (omega (arith, in_table, ap length now_is))
        ∙ ap (λ (x : List ℕ). Some x) (sym same_list))

    pub nothing_more : length (list_after h.now d) ≤ h.limit
    nothing_more = omega (
      arith,
      ap length same_list,
      ap (λ (t : List (List ℕ)). length (list_at t d.register)) now_is,
      within_here.few,
      ap (λ (k : History (List ℕ)). k.limit) view,
    )

-- ---- the set of leaves that a register gets

-- another normal form of the same leaves is as long
pub as_long : (S : ℕ → Bool) (limit : ℕ) (u v : List ℕ) → IsNormalForm S u → limit < length u → IsNormalForm S v →
    limit < length v
as_long S limit u v nu l nv = subst (λ (x : List ℕ). limit < length x) (one_normal_form S u v nu nv) l

-- what is said of the leaves of a register's list
pub of_list : (X : List ℕ → Type 0) (h : History (List ℕ)) (r : ℕ) (u : List ℕ) → slice_get h.now r ≡ Some u → X u →
    X (list_at h.now r)
of_list X h r u there x = subst X (sym (get_or_from_slice_get h.now r u [] there)) x

-- by a change that was made
module _ (S : ℕ → Bool) (r : ℕ) (h h' : History (List ℕ)) (d : Diff) (u : List ℕ)
    (there : slice_get h.now r ≡ Some u) (local : IsLocal u) (g : Gives S r u d) where
  after_is : list_after h.now d ≡ apply d u
  after_is = ap (λ (k : ℕ). apply d (list_at h.now k)) g.register
      ∙ ap (apply d) (get_or_from_slice_get h.now r u [] there)

  pub made_becomes : (made : Result (ℕ × ℕ) EditFault) → OnOk made (Assigned h d.register (list_after h.now d) h')
      → OnOk made (length (list_after h.now d) ≤ h.limit) → OnOk made (Becomes S r h h')
  made_becomes (Ok n) state few =
      let assigned : Assigned h r (apply d u) h' = subst (λ (x : List ℕ). Assigned h r x h') after_is
      (subst (λ (k : ℕ). Assigned h k (list_after h.now d) h') g.register state) in
      record {
        list = apply d u;
        normal = g.normal;
        within = subst (λ (x : List ℕ). length x ≤ h.limit) after_is few;
        state = assigned;
        state_sets = Assigned-sets h h' r (apply d u) u there local g.fits.local assigned;
      }
  made_becomes (Err e) state few = tt

  pub made_too_long : (made : Result (ℕ × ℕ) EditFault) → OnErr made (h.limit < length (list_after h.now d)) →
      made ≡ Err TooMany → (v : List ℕ) → IsNormalForm S v → h.limit < length v
  made_too_long made many e v nv =
      let l : h.limit < length (list_after h.now d) =
      subst (λ (k : Result (ℕ × ℕ) EditFault). OnErr k (h.limit < length (list_after h.now d))) e many in
      as_long S h.limit (apply d u) v g.normal (subst (λ (x : List ℕ). h.limit < length x) after_is l) nv

-- by an assignment
pub assigned_becomes : (S : ℕ → Bool) (r : ℕ) (h h' : History (List ℕ)) (v : List ℕ)
    (made : Result (ℕ × ℕ) EditFault) → IsNormalForm S v → OnOk made (Assigned h r v h')
    → OnOk made (Assigned (sets h) r (has_leaf v) (sets h')) → (made ≡ Err TooMany) ↔ (h.limit < length v)
    → OnOk made (Becomes S r h h')
assigned_becomes S r h h' v (Ok n) normal state state_sets many = record {
  list = v;
  normal = normal;
  within = ⊎_elim (λ (l : h.limit < length v). let e : Ok n ≡ Err TooMany = many.1 l in absurd (cc))
      (λ (l : length v ≤ h.limit). l) (cases_lt h.limit (length v));
  state = state;
  state_sets = state_sets;
}
assigned_becomes S r h h' v (Err e) normal state state_sets many = tt
