-- What a history tells is what a session file may hold.
use Rattle.std.proofs.Common.{◌≡◌, ◌≢◌, ℕ, ◌+◌, ◌<◌, List, [], ◌∷◌, ◌++◌, length, map, reverse, inl, inr}
use Rattle.std.proofs.Common.{refl, sym, ap, ◌∙◌, subst, arith}
use Rattle.std.proofs.lemmas.List.{length-set, reverse-append, reverse-reverse, map-append}
use Rattle.std.proofs.lemmas.List.Elements.{recursion_from_All, All-from_recursion}
use Rattle.std.proofs.lemmas.Bool.{cond_both, cases_lt}
use Rattle.std.specs.List.{AllByRecursion}
use Rattle.s2cell.specs.Cell.{IsCell}
use Rattle.s2list.specs.Union.{IsLocal}
use Rattle.s2union.specs.Apply.{has, cells_without, applied}
use Rattle.s2union.proofs.Applied.{applied-between}
use Rattle.s2edit.specs.declared.content.Move.{Move}
use Rattle.s2edit.specs.Diff.{Diff, IsDiff}
use Rattle.s2edit.specs.Content.{Content, diff_of, IsMove, IsContent, IsRegisterList, AreCells}
use Rattle.s2edit.specs.declared.TheConstants.{SESSION_CELLS}
use Rattle.s2script.specs.declared.register.TheConstants.{REGISTERS}
use Rattle.s2edit.proofs.Sizes.{fewer_without}
use Rattle.s2edit.specs.History.{History, AllTables}
use Rattle.s2edit.specs.Leads.{list_at, Leads}
use Rattle.s2edit.specs.Chain.{IsLocalWithin}
use Rattle.s2edit.specs.Working.Chain.{AllWithin}
use Rattle.s2edit.specs.Session.{LeadBack, LeadAhead, Records}
use Rattle.s2edit.proofs.Tables.{AllWithin-at}
use Rattle.s2edit.proofs.DiffLemmas.{IsDiff-between}
use Rattle.s2edit.proofs.Telling.{told_past, told_future}

cells_of_without : (us vs : List ℕ) → AllByRecursion IsCell us → AllByRecursion IsCell (cells_without us vs)
cells_of_without [] vs a = tt
cells_of_without (u ∷ us) vs a =
    cond_both (has vs u) (cells_without us vs) (u ∷ cells_without us vs) (AllByRecursion IsCell)
    (λ _. cells_of_without us vs a.1) (λ _. (a.0, cells_of_without us vs a.1))

change_cells : (us vs : List ℕ) → IsLocalWithin SESSION_CELLS us → AreCells (cells_without us vs)
change_cells us vs w = record {
  valid = All-from_recursion IsCell (cells_without us vs)
      (cells_of_without us vs (recursion_from_All IsCell us w.local.cells));
  few = omega (arith, fewer_without us vs, w.few);
}

pub empty_list : (xs : List ℕ) → length xs ≡ 0 → xs ≡ []
empty_list [] h = refl
empty_list (x ∷ xs) h = absurd (omega arith)

-- lists that lack nothing of one another are one
some_differ : (us vs : List ℕ) → IsLocal us → IsLocal vs → vs ≢ us →
    0 < length (cells_without us vs) + length (cells_without vs us)
some_differ us vs a b n = elim (cases_lt 0 (length (cells_without us vs) + length (cells_without vs us))) [
  | inl h ↦ h
  | inr h ↦
      let out : cells_without us vs ≡ [] = empty_list (cells_without us vs) (omega arith) in
      let put : cells_without vs us ≡ [] = empty_list (cells_without vs us) (omega arith) in
      absurd (n (sym (applied-between us vs a b) ∙ ap (λ (x : List ℕ). applied x (cells_without vs us) us) out
      ∙ ap (λ (x : List ℕ). applied [] x us) put ∙ without_none us))
]
  where
    without_none : (us : List ℕ) → cells_without us [] ≡ us
    without_none [] = refl
    without_none (u ∷ us) = ap (λ vs. u ∷ vs) (without_none us)

-- a change between two tables is one that a file may hold
good_change : (d : Diff) (t u : List (List ℕ)) → AllWithin SESSION_CELLS t → AllWithin SESSION_CELLS u →
    length t ≡ REGISTERS → Leads d t u → IsMove d
good_change d t u a b count l =
    let old : List ℕ = list_at t d.register in
    let new : List ℕ = list_at u d.register in
    let len : length u ≡ length t = ap length l.only ∙ length-set t d.register new in
    let w : IsLocalWithin SESSION_CELLS old = AllWithin-at SESSION_CELLS t d.register a l.in_range in
    let v : IsLocalWithin SESSION_CELLS new = AllWithin-at SESSION_CELLS u d.register b
    (omega (arith, len, l.in_range)) in
    let out : d.out ≡ cells_without old new = ap (λ (x : Diff). x.out) l.change in
    let put : d.put ≡ cells_without new old = ap (λ (x : Diff). x.put) l.change in
    record {
      register = omega (arith, l.in_range, count);
      out = subst AreCells (sym out) (change_cells old new w);
      put = subst AreCells (sym put) (change_cells new old v);
      lists = subst (λ (x : Diff). IsDiff x.out x.put) (sym l.change) (IsDiff-between old new w.local v.local);
      some = omega (arith, ap length out, ap length put, some_differ old new w.local v.local l.differs);
    }

good_ahead : (t : List (List ℕ)) (ms : List Diff) (ts : List (List (List ℕ))) → AllWithin SESSION_CELLS t →
    AllTables (IsLocalWithin SESSION_CELLS) ts → length t ≡ REGISTERS
    → LeadAhead ms t ts → AllByRecursion IsMove ms
good_ahead t [] [] a b n l = tt
good_ahead t [] (u ∷ us) a b n l = absurd l
good_ahead t (m ∷ ms) [] a b n l = absurd l
good_ahead t (m ∷ ms) (u ∷ us) a b n l =
    let len : length u ≡ length t = ap length l.0.only ∙ length-set t m.register (list_at u m.register) in
    (good_change m t u a b.0 n l.0, good_ahead u ms us b.0 b.1 (len ∙ n) l.1)

good_back : (t : List (List ℕ)) (ms : List Diff) (ts : List (List (List ℕ))) → AllWithin SESSION_CELLS t →
    AllTables (IsLocalWithin SESSION_CELLS) ts → length t ≡ REGISTERS
    → LeadBack ms t ts → AllByRecursion IsMove ms
good_back t [] [] a b n l = tt
good_back t [] (u ∷ us) a b n l = absurd l
good_back t (m ∷ ms) [] a b n l = absurd l
good_back t (m ∷ ms) (u ∷ us) a b n l =
    let len : length t ≡ length u = ap length l.0.only ∙ length-set u m.register (list_at t m.register) in
    (good_change m u t b.0 a (sym len ∙ n) l.0, good_back u ms us b.0 b.1 (sym len ∙ n) l.1)

all_append : {A : Type 0} (P : A → Type 0) (xs ys : List A) → AllByRecursion P xs → AllByRecursion P ys →
    AllByRecursion P (xs ++ ys)
all_append P [] ys a b = b
all_append P (x ∷ xs) ys a b = (a.0, all_append P xs ys a.1 b)

pub all_reverse : {A : Type 0} (P : A → Type 0) (xs : List A) → AllByRecursion P xs → AllByRecursion P (reverse xs)
all_reverse P [] a = tt
all_reverse P (x ∷ xs) a = subst (AllByRecursion P) (sym (reverse-append (x ∷ []) xs))
    (all_append P (reverse xs) (x ∷ []) (all_reverse P xs a.1) (a.0, tt))

register_lists : (t : List (List ℕ)) → AllWithin SESSION_CELLS t → AllByRecursion IsRegisterList t
register_lists [] a = tt
register_lists (u ∷ t) a = (record { local = a.0.local; few = a.0.few }, register_lists t a.1)

-- what a session says about a history may be in a file
pub told_content : (s : Content) (h : History (List ℕ)) → Records s h → IsContent s
told_content s h w = record {
  count = ap length (sym w.now) ∙ w.count;
  registers = register_lists s.registers (subst (AllWithin SESSION_CELLS) w.now w.lists.now);
  past = subst (AllByRecursion IsMove) (reverse-reverse s.past)
      (all_reverse IsMove (reverse s.past) (good_back h.now (reverse s.past) h.past w.lists.now w.lists.past w.count
      w.past));
  future = good_ahead h.now s.future h.future w.lists.now w.lists.future w.count w.future;
  few = omega (arith, told_past s h w, told_future s h w, w.few);
}

pub map-reverse : {A B : Type 0} (f : A → B) (xs : List A) → map f (reverse xs) ≡ reverse (map f xs)
map-reverse f [] = refl
map-reverse f (x ∷ xs) =
    ap (map f) (reverse-append (x ∷ []) xs) ∙ map-append f (reverse xs) (x ∷ [])
    ∙ ap (λ ys. ys ++ f x ∷ []) (map-reverse f xs)
    ∙ sym (reverse-append (f x ∷ []) (map f xs))

-- the past of a session, turned around
pub turned : (ms ms' : List Move) → ms' ≡ reverse ms → map diff_of ms' ≡ reverse (map diff_of ms)
turned ms ms' e = ap (map diff_of) e ∙ map-reverse diff_of ms
