-- What an assignment leaves.
use Rattle.std.proofs.Common.{◌≡◌, ◌≢◌, ℕ, ◌+◌, ◌<◌, ◌≤◌, List, [], ◌∷◌, length, map, take, slice_get}
use Rattle.std.proofs.Common.{slice_set, Some, refl, sym, ap, ◌∙◌, subst, arith}
use Rattle.std.proofs.lemmas.List.{length-take, take-map}
use Rattle.s2list.specs.Union.{Union, IsLocal}
use Rattle.s2union.specs.Apply.{cells_without, applied, Fits}
use Rattle.s2union.proofs.Applied.{applied-between, Fits-between}
use Rattle.s2edit.specs.Diff.{Diff, FitsList, inverse, change_between}
use Rattle.s2edit.specs.History.{History, Assigned, changed, cells_lost, numbers}
use Rattle.s2edit.specs.Leads.{list_at}
use Rattle.s2edit.specs.Working.Chain.{list_after, table_after, tables_after, FitsTable, FitAlong, lists_of}
use Rattle.s2edit.specs.Working.Chain.{AllWithin, AllRoomy, history}
use Rattle.s2edit.specs.Chain.{IsLocalWithin}
use Rattle.s2edit.proofs.Tables.{tables_after-take, FitAlong-take, AllWithin-at, within_after, tables_back, along_back}
use Rattle.s2edit.proofs.Tables.{lists_of-set, AllRoomy-set, AllRoomy-get}
use Rattle.s2edit.proofs.DiffLemmas.{only_change}
use Rattle.s2edit.proofs.Numbers.{out_lost, put_won}
use Rattle.s2edit.proofs.Moves.{Rewrites}

-- the register's own list changes nothing
pub assigned_same : (h : History (List ℕ)) (r : ℕ) (x : List ℕ) → slice_get h.now r ≡ Some x → Assigned h r x h
assigned_same h r x e = record { same = λ _. refl; differs = λ n. absurd (n e) }

-- another list changes it
pub assigned_other : (h h' : History (List ℕ)) (r : ℕ) (x y : List ℕ) → slice_get h.now r ≡ Some y → y ≢ x →
    h' ≡ changed h r x → Assigned h r x h'
assigned_other h h' r x y e n c = record { same = λ f. absurd (n (cc)); differs = λ _. c }

-- an assignment's change
module _ (limit : ℕ) (t : List (List ℕ)) (r : ℕ) (v : List ℕ) (a : AllWithin limit t) (l : r < length t)
    (w : IsLocalWithin limit v) where
  old_local : IsLocal (list_at t r)
  old_local = (AllWithin-at limit t r a l).local

  pub between_fits : Fits (cells_without (list_at t r) v) (cells_without v (list_at t r)) (list_at t r)
  between_fits = Fits-between (list_at t r) v old_local w.local

  pub between_leads : applied (cells_without (list_at t r) v) (cells_without v (list_at t r)) (list_at t r) ≡ v
  between_leads = applied-between (list_at t r) v old_local w.local

  pub between_table : table_after t (change_between r (list_at t r) v) ≡ slice_set t r v
  between_table = ap (slice_set t r) between_leads

  pub fits_table : v ≢ list_at t r → FitsTable limit t (change_between r (list_at t r) v)
  fits_table n = record {
    in_range = l;
    fits = between_fits;
    few = omega (arith, ap length between_leads, w.few);
    changes = λ e. n (sym between_leads ∙ e);
  }

  -- if a copy of the new list takes the register's place, the change is made
  pub taken_over : (us us' : List Union) (copy spare' : Union) → lists_of us ≡ t → copy.cells ≡ v →
      us' ≡ slice_set us r copy → slice_get us r ≡ Some spare' →
      Rewrites us us' copy spare' (change_between r (list_at (lists_of us) r) v)
  taken_over us us' copy spare' e f g h = record {
    table = ap lists_of g ∙ lists_of-set us r copy ∙ ap (slice_set (lists_of us) r)
        (f ∙ sym between_leads ∙ ap (λ (k : List (List ℕ)).
        applied (cells_without (list_at k r) v) (cells_without v (list_at k r)) (list_at k r)) (sym e));
    roomy = λ n b s. (subst (AllRoomy n) (sym g) (AllRoomy-set n us r copy b s), AllRoomy-get n us r spare' b h);
  }

-- what an assignment leaves
pub record Changes (depth : ℕ) (us us' : List Union) (past past' future' : List Diff) (r : ℕ) (v : List ℕ) :
    Type 0 where
  pub table : lists_of us' ≡ table_after (lists_of us) (change_between r (list_at (lists_of us) r) v)
  pub onto : past' ≡ take depth (change_between r (list_at (lists_of us) r) v ∷ past)
  pub cleared : future' ≡ []

-- a change that was made is one between the lists of its register
pub changes_from : (depth : ℕ) (us us' : List Union) (past past' future' : List Diff) (d : Diff) →
    IsLocal (list_at (lists_of us) d.register) → FitsList d (list_at (lists_of us) d.register)
    → lists_of us' ≡ table_after (lists_of us) d → past' ≡ take depth (d ∷ past) → future' ≡ []
    → Changes depth us us' past past' future' d.register (list_after (lists_of us) d)
changes_from depth us us' past past' future' d local fits table onto cleared =
    let e : d ≡ change_between d.register (list_at (lists_of us) d.register) (list_after (lists_of us) d) =
    only_change d (list_at (lists_of us) d.register) (list_after (lists_of us) d) local fits refl in
    record {
      table = table ∙ ap (table_after (lists_of us)) e;
      onto = onto ∙ ap (λ (k : Diff). take depth (k ∷ past)) e;
      cleared = cleared;
    }

module _ (limit depth : ℕ) (us us' : List Union) (past past' future' : List Diff) (r : ℕ) (v : List ℕ)
    (a : AllWithin limit (lists_of us)) (f : FitAlong limit (lists_of us) (map inverse past))
    (l : r < length (lists_of us)) (w : IsLocalWithin limit v) (n : v ≢ list_at (lists_of us) r)
    (m : Changes depth us us' past past' future' r v) where
  turned : map inverse past' ≡ take depth (inverse (change_between r (list_at (lists_of us) r) v) ∷ map inverse past)
  turned = ap (map inverse) m.onto ∙ sym (take-map inverse depth (change_between r (list_at (lists_of us) r) v ∷ past))

  fits_it : FitsTable limit (lists_of us) (change_between r (list_at (lists_of us) r) v)
  fits_it = fits_table limit (lists_of us) r v a l w n

  past_tables : tables_after (lists_of us') (map inverse past')
      ≡ take depth (lists_of us ∷ tables_after (lists_of us) (map inverse past))
  past_tables =
      ap (tables_after (lists_of us')) turned
      ∙ tables_after-take depth (lists_of us') (inverse (change_between r (list_at (lists_of us) r) v)
      ∷ map inverse past)
      ∙ ap (λ (t : List (List ℕ)). take depth
      (tables_after t (inverse (change_between r (list_at (lists_of us) r) v) ∷ map inverse past))) m.table
      ∙ ap (take depth) (tables_back limit (lists_of us) (change_between r (list_at (lists_of us) r) v) a fits_it
      (map inverse past))

  pub change_leaves : (future : List Diff) → history limit depth us' past' future'
      ≡ changed (history limit depth us past future) r v
  change_leaves future =
      ap (λ (ks : List Diff). history limit depth us' past' ks) m.cleared
      ∙ ap (λ (ts : List (List (List ℕ))). record {
        limit = limit;
        depth = depth;
        past = ts;
        now = lists_of us';
        future = [];
      }) past_tables
      ∙ ap (λ (t : List (List ℕ)). record {
        limit = limit;
        depth = depth;
        past = take depth (lists_of us ∷ tables_after (lists_of us) (map inverse past));
        now = t;
        future = [];
      })
      (m.table ∙ between_table limit (lists_of us) r v a l w)

  pub change_within : AllWithin limit (lists_of us')
  change_within = subst (AllWithin limit) (sym m.table)
      (within_after limit (lists_of us) (change_between r (list_at (lists_of us) r) v) a fits_it)

  pub change_past : FitAlong limit (lists_of us') (map inverse past')
  change_past =
      subst (FitAlong limit (lists_of us')) (sym turned)
      (FitAlong-take limit depth (lists_of us') (inverse (change_between r (list_at (lists_of us) r) v)
      ∷ map inverse past)
      (subst (λ (t : List (List ℕ)). FitAlong limit t
      (inverse (change_between r (list_at (lists_of us) r) v) ∷ map inverse past)) (sym m.table)
      (along_back limit (lists_of us) (change_between r (list_at (lists_of us) r) v) a fits_it (map inverse past) f)))

  pub change_future : FitAlong limit (lists_of us') future'
  change_future = subst (FitAlong limit (lists_of us')) (sym m.cleared) tt

  pub change_bound : length past' + length future' ≤ depth
  change_bound = omega (
    arith,
    ap length m.onto,
    ap length m.cleared,
    length-take depth (change_between r (list_at (lists_of us) r) v ∷ past),
  )

  pub change_numbers : (t : List (List ℕ)) (p : ℕ × ℕ) → lists_of us ≡ t →
      p.0 ≡ length (cells_without (list_at (lists_of us) r) v) →
      p.1 ≡ length (cells_without v (list_at (lists_of us) r)) → p ≡ numbers t (lists_of us')
  change_numbers t p h e k =
      let d : Diff = change_between r (list_at (lists_of us) r) v in
      ap (λ (x : ℕ). (x, p.1)) (e ∙ out_lost limit (lists_of us) (change_between r (list_at (lists_of us) r) v) a
      fits_it)
      ∙ ap (λ (x : ℕ). (
        cells_lost (lists_of us)
            (table_after (lists_of us) (change_between r (list_at (lists_of us) r) v)),
        x,
      ))
      (k ∙ put_won limit (lists_of us) (change_between r (list_at (lists_of us) r) v) a fits_it)
      ∙ ap (λ (v' : List (List ℕ)). numbers (lists_of us) v') (sym m.table)
      ∙ ap (λ (v' : List (List ℕ)). numbers v' (lists_of us')) h
