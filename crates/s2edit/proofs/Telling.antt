-- What a session tells of a history, in terms of changes that can be made one after another.
use Rattle.std.proofs.Common.{◌≡◌, ℕ, ◌+◌, ◌≤◌, List, [], ◌∷◌, length, map, reverse, refl, sym, ap, ◌∙◌}
use Rattle.std.proofs.Common.{subst, arith}
use Rattle.std.proofs.lemmas.List.{length-set, length-map, length-reverse}
use Rattle.s2edit.specs.Diff.{Diff, inverse}
use Rattle.s2edit.specs.Content.{Content}
use Rattle.s2edit.specs.declared.TheConstants.{SESSION_CELLS, SESSION_CHANGES}
use Rattle.s2script.specs.declared.register.TheConstants.{REGISTERS}
use Rattle.s2edit.specs.History.{History, AllTables}
use Rattle.s2edit.specs.Leads.{list_at, Leads}
use Rattle.s2edit.specs.Working.Chain.{table_after, tables_after, FitsTable, FitAlong, AllWithin}
use Rattle.s2edit.specs.Chain.{IsLocalWithin}
use Rattle.s2edit.specs.Session.{LeadBack, LeadAhead, Records}
use Rattle.s2edit.proofs.Tables.{AllWithin-at, fits_back, table_back, within_after, length-tables_after}
use Rattle.s2edit.proofs.Assigning.{fits_table, between_table}
use Rattle.s2edit.proofs.Leading.{lead_ahead, lead_back, AllTables-within}

-- changes that can be made one after another lead along the tables that they make
pub all_ahead : (limit : ℕ) (t : List (List ℕ)) (ms : List Diff) → AllWithin limit t →
    FitAlong limit t ms → LeadAhead ms t (tables_after t ms)
all_ahead limit t [] a f = tt
all_ahead limit t (m ∷ ms) a f = (
  lead_ahead limit t m a f.0,
  all_ahead limit (table_after t m) ms (within_after limit t m a f.0) f.1,
)

pub all_back : (limit : ℕ) (t : List (List ℕ)) (ms : List Diff) → AllWithin limit t →
    FitAlong limit t (map inverse ms) → LeadBack ms t (tables_after t (map inverse ms))
all_back limit t [] a f = tt
all_back limit t (m ∷ ms) a f = (
  lead_back limit t m a f.0,
  all_back limit (table_after t (inverse m)) ms
      (within_after limit t (inverse m) a f.0) f.1,
)

-- a change that leads from one table to another can be made in it
pub record Makes (limit : ℕ) (d : Diff) (t u : List (List ℕ)) : Type 0 where
  pub fits : FitsTable limit t d
  pub is : u ≡ table_after t d

from_lead : (limit : ℕ) (d : Diff) (t u : List (List ℕ)) → AllWithin limit t → AllWithin limit u → Leads d t u →
    Makes limit d t u
from_lead limit d t u a b l =
    let v : List ℕ = list_at u d.register in
    let len : length u ≡ length t = ap length l.only ∙ length-set t d.register v in
    let w : IsLocalWithin limit v = AllWithin-at limit u d.register b (omega (arith, len, l.in_range)) in
    record {
      fits = subst (FitsTable limit t) (sym l.change) (fits_table limit t d.register v a l.in_range w l.differs);
      is = l.only ∙ sym (between_table limit t d.register v a l.in_range w) ∙ ap (table_after t) (sym l.change);
    }

back_from_lead : (limit : ℕ) (d : Diff) (t u : List (List ℕ)) → AllWithin limit t → AllWithin limit u →
    Leads d u t → Makes limit (inverse d) t u
back_from_lead limit d t u a b l =
    let m = from_lead limit d u t b a l in
    record {
      fits = subst (λ (x : List (List ℕ)). FitsTable limit x (inverse d)) (sym m.is) (fits_back limit u d b m.fits);
      is = sym (table_back limit u d b m.fits) ∙ ap (λ (x : List (List ℕ)). table_after x (inverse d)) (sym m.is);
    }

-- tables that changes lead along are those that the changes make
pub record Along (limit : ℕ) (ds : List Diff) (t : List (List ℕ)) (ts : List (List (List ℕ))) : Type 0 where
  pub fits : FitAlong limit t ds
  pub are : ts ≡ tables_after t ds

along_more : (limit : ℕ) (d : Diff) (ds : List Diff) (t u : List (List ℕ)) (us : List (List (List ℕ))) →
    Makes limit d t u → Along limit ds u us → Along limit (d ∷ ds) t (u ∷ us)
along_more limit d ds t u us m r = record {
  fits = (m.fits, subst (λ (x : List (List ℕ)). FitAlong limit x ds) m.is r.fits);
  are = ap (λ (xs : List (List (List ℕ))). u ∷ xs) r.are ∙ ap (λ (x : List (List ℕ)). x ∷ tables_after x ds) m.is;
}

pub along_ahead : (limit : ℕ) (t : List (List ℕ)) (ms : List Diff) (ts : List (List (List ℕ))) →
    AllWithin limit t → AllTables (IsLocalWithin limit) ts → LeadAhead ms t ts → Along limit ms t ts
along_ahead limit t [] [] a b l = record { fits = tt; are = refl }
along_ahead limit t [] (u ∷ us) a b l = absurd l
along_ahead limit t (m ∷ ms) [] a b l = absurd l
along_ahead limit t (m ∷ ms) (u ∷ us) a b l =
    along_more limit m ms t u us (from_lead limit m t u a b.0 l.0)
    (along_ahead limit u ms us b.0 b.1 l.1)

pub along_back : (limit : ℕ) (t : List (List ℕ)) (ms : List Diff) (ts : List (List (List ℕ))) →
    AllWithin limit t → AllTables (IsLocalWithin limit) ts → LeadBack ms t ts →
    Along limit (map inverse ms) t ts
along_back limit t [] [] a b l = record { fits = tt; are = refl }
along_back limit t [] (u ∷ us) a b l = absurd l
along_back limit t (m ∷ ms) [] a b l = absurd l
along_back limit t (m ∷ ms) (u ∷ us) a b l =
    along_more limit (inverse m) (map inverse ms) t u us
    (back_from_lead limit m t u a b.0 l.0) (along_back limit u ms us b.0 b.1 l.1)

-- the history that a session tells, in an editor of that limit and depth
abbrev pub history_told : ℕ → ℕ → Content → History (List ℕ)
history_told limit depth s = record {
  limit = limit;
  depth = depth;
  past = tables_after s.registers (map inverse (reverse s.past));
  now = s.registers;
  future = tables_after s.registers s.future;
}

-- its changes can be made
pub record CanFollow (s : Content) : Type 0 where
  pub count : length s.registers ≡ REGISTERS
  pub within : AllWithin SESSION_CELLS s.registers
  pub past : FitAlong SESSION_CELLS s.registers (map inverse (reverse s.past))
  pub future : FitAlong SESSION_CELLS s.registers s.future

module _ (s : Content) (h : History (List ℕ)) (w : Records s h) where
  within : AllWithin SESSION_CELLS s.registers
  within = subst (AllWithin SESSION_CELLS) w.now w.lists.now

  back : Along SESSION_CELLS (map inverse (reverse s.past)) s.registers h.past
  back = along_back SESSION_CELLS s.registers (reverse s.past) h.past within w.lists.past
      (subst (λ (t : List (List ℕ)). LeadBack (reverse s.past) t h.past) w.now w.past)

  ahead : Along SESSION_CELLS s.future s.registers h.future
  ahead = along_ahead SESSION_CELLS s.registers s.future h.future within w.lists.future
      (subst (λ (t : List (List ℕ)). LeadAhead s.future t h.future) w.now w.future)

  pub can_follow : CanFollow s
  can_follow = record {
    count = ap length (sym w.now) ∙ w.count;
    within = within;
    past = back.fits;
    future = ahead.fits;
  }

  pub told_is : h ≡ history_told h.limit h.depth s
  told_is =
      ap (λ (ts : List (List (List ℕ))). record {
        limit = h.limit;
        depth = h.depth;
        past = ts;
        now = h.now;
        future = h.future;
      }) back.are
      ∙ ap (λ (t : List (List ℕ)). record {
        limit = h.limit;
        depth = h.depth;
        past = tables_after s.registers (map inverse (reverse s.past));
        now = t;
        future = h.future;
      })
      w.now
      ∙ ap (λ (ts : List (List (List ℕ))). record {
        limit = h.limit;
        depth = h.depth;
        past = tables_after s.registers (map inverse (reverse s.past));
        now = s.registers;
        future =
            ts;
      }) ahead.are

  pub told_past : length h.past ≡ length s.past
  told_past = ap length back.are ∙ length-tables_after s.registers (map inverse (reverse s.past))
      ∙ length-map (reverse s.past) inverse ∙ length-reverse s.past

  pub told_future : length h.future ≡ length s.future
  told_future = ap length ahead.are ∙ length-tables_after s.registers s.future

-- a session tells one history in an editor of one limit and depth
pub one_told : (s : Content) (h k : History (List ℕ)) → Records s h → Records s k → h.limit ≡ k.limit →
    h.depth ≡ k.depth → h ≡ k
one_told s h k f g e d =
    told_is s h f ∙ ap (λ (n : ℕ). history_told n h.depth s) e ∙ ap (λ (n : ℕ). history_told k.limit n s) d
    ∙ sym (told_is s k g)

-- and where its changes can be made, it tells that one
pub tells_it : (limit depth : ℕ) (s : Content) → CanFollow s → length s.past + length s.future ≤ SESSION_CHANGES →
    Records s (history_told limit depth s)
tells_it limit depth s f few =
    let past : LeadBack (reverse s.past) s.registers
    (tables_after s.registers (map inverse (reverse s.past))) =
    all_back SESSION_CELLS s.registers (reverse s.past) f.within f.past in
    let p : length (tables_after s.registers (map inverse (reverse s.past))) ≡ length s.past =
    length-tables_after s.registers (map inverse (reverse s.past))
    ∙ length-map (reverse s.past) inverse
    ∙ length-reverse s.past in
    let q : length (tables_after s.registers s.future) ≡ length s.future =
    length-tables_after s.registers s.future in
    record {
      now = refl;
      count = f.count;
      past = past;
      future = all_ahead SESSION_CELLS s.registers s.future f.within f.future;
      lists = record {
        past = AllTables-within (IsLocalWithin SESSION_CELLS) SESSION_CELLS (λ u w. w) s.registers
            (map inverse (reverse s.past)) f.within f.past;
        now = f.within;
        future = AllTables-within (IsLocalWithin SESSION_CELLS) SESSION_CELLS (λ u w. w) s.registers s.future
            f.within f.future;
      };
      few = omega (arith, p, q, few);
    }
