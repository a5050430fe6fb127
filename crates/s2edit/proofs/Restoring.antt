-- What an editor holds after a session was restored, and why one is refused.
use Rattle.std.proofs.Common.{◌≡◌, ℕ, zero, suc, ◌+◌, ◌<◌, ◌≤◌, Bool, true, false, ◌&&◌, List, [], ◌∷◌}
use Rattle.std.proofs.Common.{length, map, reverse, refl, sym, ap, ◌∙◌, subst, arith}
use Rattle.std.proofs.lemmas.List.{length-map, length-set, length-reverse}
use Rattle.std.specs.List.{AllByRecursion}
use Rattle.s2list.specs.Union.{Union}
use Rattle.std.proofs.lemmas.Bool.{false≢true, true≢false}
use Rattle.s2edit.specs.Diff.{Diff, inverse}
use Rattle.s2edit.specs.Content.{Content, diff_of, IsContent, IsMove, IsRegisterList}
use Rattle.s2edit.specs.declared.content.Move.{Move}
use Rattle.s2edit.specs.declared.TheConstants.{SESSION_CELLS}
use Rattle.s2edit.specs.History.{History, AllLists, AllTables}
use Rattle.s2edit.specs.Leads.{list_at}
use Rattle.s2edit.specs.Working.Chain.{list_after, table_after, tables_after, FitAlong, lists_of, AllWithin, history}
use Rattle.s2edit.specs.Session.{Records, Restored, IsTooDeep, IsTooMany, RefusesToRestore}
use Rattle.s2edit.specs.Working.Following.{FailsToFollow, MakesChanges}
use Rattle.s2edit.specs.declared.session.RestoreFault.{RestoreFault}
use Rattle.s2edit.specs.declared.session.RestoreFault.TheVariants.{Fit, TooDeep, TooMany, Memory}
use Rattle.s2edit.proofs.Tables.{list_at-table_after, length-tables_after}
use Rattle.s2edit.proofs.Following.{swapped}
use Rattle.s2edit.proofs.Leading.{AllLists-within, AllTables-within}
use Rattle.s2edit.proofs.Contents.{turned}
use Rattle.s2edit.proofs.Telling.{CanFollow, history_told, can_follow, tells_it}

pub registers_within : (t : List (List ℕ)) → AllByRecursion IsRegisterList t → AllWithin SESSION_CELLS t
registers_within [] a = tt
registers_within (u ∷ t) a = (record { local = a.0.local; few = a.0.few }, registers_within t a.1)

-- lists that keep to the limit, and are normalised
pub within_limit : (limit : ℕ) (t : List (List ℕ)) → AllWithin SESSION_CELLS t →
    AllLists (λ u. length u ≤ limit) t → AllWithin limit t
within_limit limit [] a f = tt
within_limit limit (u ∷ t) a f = (record { local = a.0.local; few = f.0 }, within_limit limit t a.1 f.1)

pub few_at : (limit : ℕ) (t : List (List ℕ)) (r : ℕ) → AllLists (λ u. length u ≤ limit) t → r < length t →
    length (list_at t r) ≤ limit
few_at limit [] r a l = absurd (omega arith)
few_at limit (u ∷ t) zero a l = a.0
few_at limit (u ∷ t) (suc r) a l = few_at limit t r a.1 (omega arith)

-- changes that can be made, and lead to tables that keep to the limit
along_limit : (limit : ℕ) (t : List (List ℕ)) (ds : List Diff) → FitAlong SESSION_CELLS t ds →
    AllTables (λ u. length u ≤ limit) (tables_after t ds) → FitAlong limit t ds
along_limit limit t [] f a = tt
along_limit limit t (d ∷ ds) f a =
    let len : length (table_after t d) ≡ length t = length-set t d.register (list_after t d) in
    let few : length (list_after t d) ≤ limit =
    omega (
      arith,
      ap length (list_at-table_after t d f.0.in_range),
      few_at limit (table_after t d) d.register a.0 (omega (arith, len, f.0.in_range)),
    ) in (
      record { in_range = f.0.in_range; fits = f.0.fits; few = few; changes = f.0.changes },
      along_limit limit (table_after t d) ds f.1 a.1,
    )

module _ (s : Content) (content : IsContent s) where
  lists : AllWithin SESSION_CELLS s.registers
  lists = registers_within s.registers content.registers

  pub follows : (limit : ℕ) (p f : Bool) → MakesChanges limit s.registers (map inverse (reverse s.past)) p →
      MakesChanges limit s.registers s.future f → CanFollow s
  follows limit p f a b = record { count = content.count; within = lists; past = a.fit; future = b.fit }

  past_count : (t : List (List ℕ)) → length (tables_after t (map inverse (reverse s.past))) ≡ length s.past
  past_count t = length-tables_after t (map inverse (reverse s.past))
      ∙ length-map (reverse s.past) inverse ∙ length-reverse s.past

  future_count : (t : List (List ℕ)) → length (tables_after t s.future) ≡ length s.future
  future_count t = length-tables_after t s.future

  pub too_deep : (h : History (List ℕ)) → CanFollow s → h.depth < length s.past + length s.future →
      IsTooDeep (Records s) h
  too_deep h can deep = record {
    history = history_told h.limit h.depth s;
    tells = tells_it h.limit h.depth s can content.few;
    deep = omega (arith, deep, past_count s.registers, future_count s.registers);
  }

  pub too_many : (h : History (List ℕ)) → CanFollow s → length s.past + length s.future ≤ h.depth
      → (AllLists (λ u. length u ≤ h.limit) s.registers →
      FitAlong h.limit s.registers (map inverse (reverse s.past)) →
      FitAlong h.limit s.registers s.future → ⊥)
      → IsTooMany (Records s) h
  too_many h can kept none = record {
    history = history_told h.limit h.depth s;
    tells = tells_it h.limit h.depth s can content.few;
    kept = omega (arith, kept, past_count s.registers, future_count s.registers);
    many = λ e. none e.now
        (along_limit h.limit s.registers (map inverse (reverse s.past)) can.past e.past)
        (along_limit h.limit s.registers s.future can.future e.future);
  }

  pub restored : (old new : History (List ℕ)) → new ≡ history_told old.limit old.depth s → CanFollow s →
      length s.past + length s.future ≤ old.depth
      → AllWithin old.limit s.registers → FitAlong old.limit s.registers
      (map inverse (reverse s.past)) → FitAlong old.limit s.registers s.future
      → Restored (Records s) old new
  restored old new is can kept a p f = subst (Restored (Records s) old) (sym is) (record {
    tells = tells_it old.limit old.depth s can content.few;
    limit = refl;
    depth = refl;
    kept = record {
      few = record {
        past = AllTables-within (λ u. length u ≤ old.limit) old.limit (λ u w. w.few) s.registers
            (map inverse (reverse s.past)) a p;
        now = AllLists-within (λ u. length u ≤ old.limit) old.limit (λ u w. w.few) s.registers a;
        future = AllTables-within (λ u. length u ≤ old.limit) old.limit (λ u w. w.few) s.registers s.future a f;
      };
      kept = omega (arith, kept, past_count s.registers, future_count s.registers);
    };
  })

-- a session whose changes can't be made tells no history
pub tells_none : (s : Content) → (CanFollow s → ⊥) → (h : History (List ℕ)) → Records s h → ⊥
tells_none s none h w = none (can_follow s h w)

-- a side that can't be followed
pub past_fails : (s : Content) (h : History (List ℕ)) (fault : RestoreFault) →
    FailsToFollow fault (FitAlong SESSION_CELLS s.registers (map inverse (reverse s.past))) →
    RefusesToRestore (Records s) h fault
past_fails s h Fit n = tells_none s (λ can. n can.past)
past_fails s h TooDeep n = absurd n
past_fails s h TooMany n = absurd n
past_fails s h Memory n = tt

pub future_fails : (s : Content) (h : History (List ℕ)) (fault : RestoreFault) →
    FailsToFollow fault (FitAlong SESSION_CELLS s.registers s.future) → RefusesToRestore (Records s) h fault
future_fails s h Fit n = tells_none s (λ can. n can.future)
future_fails s h TooDeep n = absurd n
future_fails s h TooMany n = absurd n
future_fails s h Memory n = tt

-- all three tests passed
pub three : (p f r : Bool) → ((p && f) && r) ≡ true → (p ≡ true) × (f ≡ true) × (r ≡ true)
three true true true e = (refl, refl, refl)
three true true false e = absurd (false≢true e)
three true false r e = absurd (false≢true e)
three false f r e = absurd (false≢true e)

pub not_three : (p f r : Bool) → ((p && f) && r) ≡ false → p ≡ true → f ≡ true → r ≡ true → ⊥
not_three true true true e a b c = true≢false e
not_three true true false e a b c = false≢true c
not_three true false r e a b c = false≢true b
not_three false f r e a b c = false≢true a

-- the sides as they are followed
pub ahead_side : (X : List (List ℕ) → List Diff → Type 0) (us us' : List Union) (ms ms' : List Move) → us' ≡ us →
    ms' ≡ ms
    → X (lists_of us') (map diff_of ms') → X (lists_of us) (map diff_of ms)
ahead_side X us us' ms ms' e f x =
    subst (λ (ns : List Move). X (lists_of us) (map diff_of ns)) f
    (subst (λ (vs : List Union). X (lists_of vs) (map diff_of ms')) e x)

pub back_side : (X : List (List ℕ) → List Diff → Type 0) (us us' : List Union) (ms ms' back past : List Move) →
    us' ≡ us → ms' ≡ ms → back ≡ reverse past
    → map diff_of ms ≡ map inverse (map diff_of back)
    → X (lists_of us') (map diff_of ms') →
    X (lists_of us) (map inverse (reverse (map diff_of past)))
back_side X us us' ms ms' back past e f g h x =
    subst (X (lists_of us)) (h ∙ ap (map inverse) (turned past back g))
    (ahead_side X us us' ms ms' e f x)

-- changes of which what they take out and put in was exchanged
inverse_twice : (ds : List Diff) → map inverse (map inverse ds) ≡ ds
inverse_twice [] = refl
inverse_twice (d ∷ ds) = ap (λ (es : List Diff). d ∷ es) (inverse_twice ds)

all_swapped : (ms : List Diff) → AllByRecursion IsMove ms →
    AllByRecursion IsMove (map inverse ms)
all_swapped [] a = tt
all_swapped (m ∷ ms) a = (swapped m a.0, all_swapped ms a.1)

pub inverted_moved : (ms ms' : List Diff) → ms' ≡ map inverse ms → AllByRecursion IsMove ms →
    AllByRecursion IsMove ms'
inverted_moved ms ms' e a = subst (AllByRecursion IsMove) (sym e) (all_swapped ms a)

-- and exchanged again
pub inverted_twice : (past back once twice : List Move) → back ≡ reverse past
    → map diff_of once ≡ map inverse (map diff_of back)
    → map diff_of twice ≡ map inverse (map diff_of once)
    → map diff_of twice ≡ reverse (map diff_of past)
inverted_twice past back once twice e f g =
    g ∙ ap (map inverse) f ∙ inverse_twice (map diff_of back) ∙ turned past back e

pub inverted_count : (past twice : List Move) → map diff_of twice ≡ reverse (map diff_of past) →
    length twice ≡ length (map diff_of past)
inverted_count past twice e =
    sym (length-map twice diff_of) ∙ ap length e ∙ length-reverse (map diff_of past)

-- what a session that passed every test leaves
module _ (limit depth : ℕ) (us us' : List Union) (past' future' : List Diff) (s : Content) (content : IsContent s)
    (lists : lists_of us' ≡ s.registers) (past_is : past' ≡ reverse s.past)
    (future_is : future' ≡ s.future)
    (p f r : Bool) (passed : ((p && f) && r) ≡ true)
    (a : MakesChanges limit s.registers (map inverse (reverse s.past)) p)
    (b : MakesChanges limit s.registers s.future f)
    (few : r ≡ true → AllLists (λ u. length u ≤ limit) s.registers)
    (kept : length s.past + length s.future ≤ depth) where
  all_few : AllLists (λ u. length u ≤ limit) s.registers
  all_few = few (three p f r passed).2

  now_within : AllWithin limit s.registers
  now_within = within_limit limit s.registers (registers_within s.registers content.registers) all_few

  pub left_within : AllWithin limit (lists_of us')
  left_within = subst (AllWithin limit) (sym lists) now_within

  pub left_past : FitAlong limit (lists_of us') (map inverse past')
  left_past =
      subst (λ (t : List (List ℕ)). FitAlong limit t (map inverse past')) (sym lists)
      (subst (λ (ds : List Diff). FitAlong limit s.registers (map inverse ds)) (sym past_is)
      (a.few (three p f r passed).0))

  pub left_future : FitAlong limit (lists_of us') future'
  left_future =
      subst (λ (t : List (List ℕ)). FitAlong limit t future') (sym lists)
      (subst (λ (ds : List Diff). FitAlong limit s.registers ds) (sym future_is) (b.few (three p f r passed).1))

  pub left_bound : length past' + length future' ≤ depth
  left_bound =
      omega (
        arith,
        kept,
        ap length past_is,
        ap length future_is,
        length-reverse s.past,
      )

  left_is : history limit depth us' past' future' ≡ history_told limit depth s
  left_is =
      ap (λ (t : List (List ℕ)). record {
        limit = limit;
        depth = depth;
        past = tables_after t (map inverse past');
        now = t;
        future = tables_after t future';
      }) lists
      ∙ ap (λ (ds : List Diff). record {
        limit = limit;
        depth = depth;
        past = tables_after s.registers (map inverse ds);
        now = s.registers;
        future =
            tables_after s.registers future';
      }) past_is
      ∙ ap (λ (ds : List Diff). record {
        limit = limit;
        depth = depth;
        past = tables_after s.registers (map inverse (reverse s.past));
        now = s.registers;
        future =
            tables_after s.registers ds;
      }) future_is

  pub left_restored : (past future : List Diff) →
      Restored (Records s) (history limit depth us past future) (history limit depth us' past' future')
  left_restored past future =
      restored s content (history limit depth us past future) (history limit depth us' past' future') left_is
      (follows s content limit p f a b) kept now_within
      (a.few (three p f r passed).0) (b.few (three p f r passed).1)
