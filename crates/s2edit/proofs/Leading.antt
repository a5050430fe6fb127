-- What the kept changes say of the tables.
use Rattle.std.proofs.Common.{◌≡◌, ℕ, zero, suc, ◌+◌, ◌≤◌, List, [], ◌∷◌, length, map, slice_get, slice_set}
use Rattle.std.proofs.Common.{Option, Some, None, IsNone, IfSome, ◌↔◌, option_copied, Bor, refl, sym, ap, ◌∙◌, subst}
use Rattle.std.proofs.Common.{arith}
use Rattle.std.proofs.lemmas.Bool.{true≢false}
use Rattle.std.proofs.lemmas.List.{length-map}
use Rattle.std.proofs.lemmas.Option.{slice_get_past}
use Rattle.s2list.specs.Union.{IsLocal}
use Rattle.s2list.specs.Union.{Union}
use Rattle.s2union.specs.Apply.{cells_without}
use Rattle.s2union.proofs.Applied.{only_out, only_put}
use Rattle.s2edit.proofs.Places.{none_past}
use Rattle.s2edit.specs.Diff.{Diff, inverse}
use Rattle.s2edit.specs.History.{History, AllLists, AllTables, EachList}
use Rattle.s2edit.specs.Leads.{list_at, table_at, Leads}
use Rattle.s2edit.specs.Working.Chain.{list_after, table_after, tables_after, FitsTable, FitAlong, lists_of}
use Rattle.s2edit.specs.Working.Chain.{AllWithin, history}
use Rattle.s2edit.specs.Chain.{IsLocalWithin}
use Rattle.s2edit.specs.Working.Editor.{history_of}
use Rattle.s2edit.specs.declared.editor.Editor.TheInside.{Inside}
use Rattle.s2edit.proofs.Tables.{AllWithin-at, list_at-table_after, table_back, fits_back, within_after}
use Rattle.s2edit.proofs.Tables.{length-tables_after}

-- how many tables each side of an editor's history has
pub side_counts : (e : Inside) (h : History (List ℕ)) → history_of e ≡ h →
    (length e.past.items ≡ length h.past) × (length e.future.items ≡ length h.future)
side_counts e h view =
    let now : List (List ℕ) = lists_of e.registers.items in (
      sym (length-tables_after now (map inverse e.past.items) ∙ length-map e.past.items inverse)
          ∙ ap (λ (k : History (List ℕ)). length k.past) view,
      sym (length-tables_after now e.future.items) ∙ ap (λ (k : History (List ℕ)). length k.future) view,
    )

-- a change that fits leads from one table to the next
pub lead_ahead : (limit : ℕ) (t : List (List ℕ)) (d : Diff) → AllWithin limit t → FitsTable limit t d →
    Leads d t (table_after t d)
lead_ahead limit t d a f =
    let u : List ℕ = list_at t d.register in
    let v : List ℕ = list_after t d in
    let e : list_at (table_after t d) d.register ≡ v = list_at-table_after t d f.in_range in
    let asc : IsLocal u = (AllWithin-at limit t d.register a f.in_range).local in
    let o : d.out ≡ cells_without u v = only_out d.out d.put u v asc f.fits refl in
    let p : d.put ≡ cells_without v u = only_put d.out d.put u v asc f.fits.local f.fits refl in
    record {
      in_range = f.in_range;
      only = ap (slice_set t d.register) (sym e);
      differs = λ h. f.changes (sym e ∙ h);
      change = ap (λ (x : List ℕ). record { register = d.register; out = x; put = d.put }) o
          ∙ ap (λ (x : List ℕ). record { register = d.register; out = cells_without u v; put = x }) p
          ∙ ap (λ (x : List ℕ). record { register = d.register; out = cells_without u x; put = cells_without x u })
          (sym e);
    }

pub lead_back : (limit : ℕ) (t : List (List ℕ)) (c : Diff) → AllWithin limit t → FitsTable limit t (inverse c) →
    Leads c (table_after t (inverse c)) t
lead_back limit t c a f =
    subst (Leads c (table_after t (inverse c))) (table_back limit t (inverse c) a f)
    (lead_ahead limit (table_after t (inverse c)) c (within_after limit t (inverse c) a f)
    (fits_back limit t (inverse c) a f))

-- the step at place n of a chain
pub record Step (limit : ℕ) (ts : List (List (List ℕ))) (n : ℕ) (d : Diff) : Type 0 where
  pub within : AllWithin limit (table_at ts n)
  pub fits : FitsTable limit (table_at ts n) d
  pub next : table_at ts (suc n) ≡ table_after (table_at ts n) d

pub step_at : (limit : ℕ) (t : List (List ℕ)) (ds : List Diff) (n : ℕ) (d : Diff) → AllWithin limit t →
    FitAlong limit t ds → slice_get ds n ≡ Some d → Step limit (t ∷ tables_after t ds) n d
step_at limit t [] n d a f h = absurd (cc)
step_at limit t (e ∷ ds) zero d a f h =
    let q : e ≡ d = cc in
    subst (Step limit (t ∷ tables_after t (e ∷ ds)) 0) q (record { within = a; fits = f.0; next = refl })
step_at limit t (e ∷ ds) (suc n) d a f h =
    let s = step_at limit (table_after t e) ds n d (within_after limit t e a f.0) f.1 h in
    record { within = s.within; fits = s.fits; next = s.next }

pub slice_get-inverse : (cs : List Diff) (n : ℕ) (c : Diff) → slice_get cs n ≡ Some c →
    slice_get (map inverse cs) n ≡ Some (inverse c)
slice_get-inverse [] n c h = absurd (cc)
slice_get-inverse (e ∷ cs) zero c h = let q : e ≡ c = cc in ap (λ (x : Diff). Some (inverse x)) q
slice_get-inverse (e ∷ cs) (suc n) c h = slice_get-inverse cs n c h

pub back_leads : (limit : ℕ) (t : List (List ℕ)) (cs : List Diff) (n : ℕ) (c : Diff) → AllWithin limit t →
    FitAlong limit t (map inverse cs) → slice_get cs n ≡ Some c →
    Leads c (table_at (t ∷ tables_after t (map inverse cs)) (n + 1)) (table_at (t ∷ tables_after t (map inverse cs)) n)
back_leads limit t cs n c a f h =
    let one : suc n ≡ n + 1 = omega arith in
    let s = step_at limit t (map inverse cs) n (inverse c) a f (slice_get-inverse cs n c h) in
    let ts : List (List (List ℕ)) = t ∷ tables_after t (map inverse cs) in
    subst (λ (v : List (List ℕ)). Leads c v (table_at ts n)) (sym s.next ∙ ap (table_at ts) one)
    (lead_back limit (table_at ts n) c s.within s.fits)

pub ahead_leads : (limit : ℕ) (t : List (List ℕ)) (ds : List Diff) (n : ℕ) (d : Diff) → AllWithin limit t →
    FitAlong limit t ds → slice_get ds n ≡ Some d →
    Leads d (table_at (t ∷ tables_after t ds) n) (table_at (t ∷ tables_after t ds) (n + 1))
ahead_leads limit t ds n d a f h =
    let one : suc n ≡ n + 1 = omega arith in
    let s = step_at limit t ds n d a f h in
    let ts : List (List (List ℕ)) = t ∷ tables_after t ds in
    subst (λ (v : List (List ℕ)). Leads d (table_at ts n) v) (sym s.next ∙ ap (table_at ts) one)
    (lead_ahead limit (table_at ts n) d s.within s.fits)

-- what a look at a kept change says
pub kept_none : (o : Option (Bor Diff)) (xs : List Diff) (n m : ℕ) → option_copied o ≡ slice_get xs n →
    length xs ≡ m → IsNone o ↔ (m ≤ n)
kept_none None xs n m e k = (λ _. let l : length xs ≤ n = none_past xs n (sym e) in omega arith, λ _. refl)
kept_none (Some c) xs n m e k = (
  λ h. absurd (true≢false h),
  λ l.
      absurd (some_none c.now (e ∙ slice_get_past xs n (omega arith))),
)
  where
    some_none : (d : Diff) → Some d ≡ None → ⊥
    some_none d h = absurd (cc)

pub kept_some : (o : Option (Bor Diff)) (xs : List Diff) (n : ℕ) (Q : Diff → Type 0) →
    option_copied o ≡ slice_get xs n →
    ((d : Diff) → slice_get xs n ≡ Some d → Q d) → IfSome o (λ (c : Bor Diff). Q c.now)
kept_some None xs n Q e q = tt
kept_some (Some c) xs n Q e q = q c.now (sym e)

-- each list that the changes lead to is one that a register may have
module _ (P : List ℕ → Type 0) (limit : ℕ) (p : (u : List ℕ) → IsLocalWithin limit u → P u) where
  pub AllLists-within : (t : List (List ℕ)) → AllWithin limit t → AllLists P t
  AllLists-within [] a = tt
  AllLists-within (u ∷ t) a = (p u a.0, AllLists-within t a.1)

  pub AllTables-within : (t : List (List ℕ)) (ds : List Diff) → AllWithin limit t → FitAlong limit t ds →
      AllTables P (tables_after t ds)
  AllTables-within t [] a f = tt
  AllTables-within t (d ∷ ds) a f =
      let next : AllWithin limit (table_after t d) = within_after limit t d a f.0 in
      (AllLists-within (table_after t d) next, AllTables-within (table_after t d) ds next f.1)

  pub each_within : (depth : ℕ) (registers : List Union) (past future : List Diff) →
      AllWithin limit (lists_of registers) →
      FitAlong limit (lists_of registers) (map inverse past) → FitAlong limit (lists_of registers) future →
      EachList P (history limit depth registers past future)
  each_within depth registers past future a f g = record {
    past = AllTables-within (lists_of registers) (map inverse past) a f;
    now = AllLists-within (lists_of registers) a;
    future = AllTables-within (lists_of registers) future a g;
  }
