-- What an editor's session tells.
use Rattle.std.proofs.Common.{◌≡◌, ℕ, ◌+◌, ◌≤◌, List, [], ◌∷◌, ◌++◌, length, map, reverse, take}
use Rattle.std.proofs.Common.{slice_get, Some, None, append_assoc, sym, ap, ◌∙◌}
use Rattle.std.proofs.Common.{◌-◌, ◌<◌, nat_lt, if◌then◌else◌, inl, inr, subst, arith}
use Rattle.std.proofs.lemmas.Bool.{lt-ltb, le-ltb}
use Rattle.std.proofs.lemmas.List.{length-map, length-reverse, length_push, map-append, append-nil, take_all}
use Rattle.std.proofs.lemmas.List.{get_or-reverse, reverse-reverse}
use Rattle.std.proofs.lemmas.Option.{slice_get_cases, slice_get-get_or}
use Rattle.std.specs.List.{AllByRecursion}
use Rattle.circular_buffer.specs.Buffer.{Buffer, buffer}
use Rattle.s2list.specs.Union.{Union}
use Rattle.s2edit.specs.Diff.{Diff, inverse}
use Rattle.s2edit.specs.Content.{Content, diff_of, IsMove}
use Rattle.s2edit.specs.declared.content.Move.{Move}
use Rattle.s2edit.specs.declared.TheConstants.{SESSION_CELLS, SESSION_CHANGES}
use Rattle.s2edit.proofs.Places.{take_one, none_past}
use Rattle.s2script.specs.declared.register.TheConstants.{REGISTERS}
use Rattle.s2edit.specs.Working.Chain.{table_after, tables_after, FitAlong, lists_of, AllWithin, history}
use Rattle.s2edit.specs.Session.{Records}
use Rattle.s2edit.proofs.Telling.{CanFollow, history_told, tells_it}

more_within : (limit n : ℕ) (t : List (List ℕ)) → limit ≤ n → AllWithin limit t → AllWithin n t
more_within limit n [] l a = tt
more_within limit n (u ∷ t) l a = (
  record { local = a.0.local; few = omega (arith, a.0.few) },
  more_within limit n t l a.1,
)

more_along : (limit n : ℕ) (t : List (List ℕ)) (ds : List Diff) → limit ≤ n → FitAlong limit t ds → FitAlong n t ds
more_along limit n t [] l f = tt
more_along limit n t (d ∷ ds) l f = (
  record { in_range = f.0.in_range; fits = f.0.fits; few = omega (arith, f.0.few); changes = f.0.changes },
  more_along limit n (table_after t d) ds l f.1,
)

module _ (limit depth : ℕ) (us : List Union) (past future : List Diff) (s : Content)
    (r : s.registers ≡ lists_of us) (p : s.past ≡ reverse past) (f : s.future ≡ future) where
  past_is : map inverse (reverse s.past) ≡ map inverse past
  past_is = ap (λ (ds : List Diff). map inverse (reverse ds)) p ∙ ap (map inverse) (reverse-reverse past)

  same_history : history_told limit depth s ≡ history limit depth us past future
  same_history =
      ap (λ (t : List (List ℕ)). record {
        limit = limit;
        depth = depth;
        past = tables_after t (map inverse (reverse s.past));
        now = t;
        future =
            tables_after t s.future;
      }) r
      ∙ ap (λ (ds : List Diff). record {
        limit = limit;
        depth = depth;
        past = tables_after (lists_of us) ds;
        now = lists_of us;
        future = tables_after (lists_of us) s.future;
      }) past_is
      ∙ ap (λ (ds : List Diff). record {
        limit = limit;
        depth = depth;
        past = tables_after (lists_of us) (map inverse past);
        now = lists_of us;
        future =
            tables_after (lists_of us) ds;
      }) f

  pub session_tells : limit ≤ SESSION_CELLS → depth ≤ SESSION_CHANGES → length us ≡ REGISTERS →
      length past + length future ≤ depth
      → AllWithin limit (lists_of us) → FitAlong limit (lists_of us) (map inverse past) →
      FitAlong limit (lists_of us) future
      → Records s (history limit depth us past future)
  session_tells cells changes count kept a b g =
      let can : CanFollow s = record {
        count = ap length r ∙ length-map us (λ (u : Union). u.cells) ∙ count;
        within = subst (AllWithin SESSION_CELLS) (sym r) (more_within limit SESSION_CELLS (lists_of us) cells a);
        past = subst (λ (ds : List Diff). FitAlong SESSION_CELLS s.registers ds) (sym past_is)
            (subst (λ (t : List (List ℕ)). FitAlong SESSION_CELLS t (map inverse past)) (sym r)
            (more_along limit SESSION_CELLS (lists_of us) (map inverse past) cells b));
        future = subst (λ (ds : List Diff). FitAlong SESSION_CELLS s.registers ds) (sym f)
            (subst (λ (t : List (List ℕ)). FitAlong SESSION_CELLS t future) (sym r)
            (more_along limit SESSION_CELLS (lists_of us) future cells g));
      } in
      subst (Records s) same_history (tells_it limit depth s can (omega (
        arith,
        changes,
        kept,
        ap length p,
        length-reverse past,
        ap length f,
      )))

-- one more copy of a change
pub copied_one : (ms : List Move) (m : Move) (ds : List Diff) (d : Diff) (n : ℕ) →
    map diff_of ms ≡ take (length ms) ds → n ≡ length ms → Some d ≡ slice_get ds n
    → diff_of m ≡ d → map diff_of (ms ++ m ∷ []) ≡ take (length (ms ++ m ∷ [])) ds
copied_one ms m ds d n e l h c =
    map-append diff_of ms (m ∷ []) ∙ ap (λ (xs : List Diff). xs ++ diff_of m ∷ []) e
    ∙ ap (λ (x : Diff). take (length ms) ds ++ x ∷ []) c
    ∙ sym (take_one ds (length ms) d (ap (slice_get ds) (sym l) ∙ sym h))
    ∙ ap (λ (k : ℕ). take k ds) (sym (length_push ms m))

pub copied_all : (ms : List Move) (ds : List Diff) (n : ℕ) → map diff_of ms ≡ take (length ms) ds →
    n ≡ length ms → None ≡ slice_get ds n → map diff_of ms ≡ ds
copied_all ms ds n e l h = e ∙ take_all (length ms) ds (omega (arith, l, none_past ds n (sym h)))

-- the item at a place, counted from the back
pub from_the_back : {X : Type 0} (xs : List X) (k : ℕ) → slice_get (reverse xs) k
    ≡ (if nat_lt k (length xs) then slice_get xs (length xs - k - 1) else None)
from_the_back {X} xs k = elim (slice_get_cases (reverse xs) k).1 [
  | inl at ↦
      let below : k < length xs = omega (arith, at.1, length-reverse xs) in
      let same : length xs - k - 1 ≡ length xs - 1 - k = omega arith in
      rw (lt-ltb k (length xs) below, same) (at.2 ∙ ap (λ (x : X). Some x) (sym at.3
      ∙ get_or-reverse xs k at.0 below) ∙ sym (slice_get-get_or xs (length xs - 1 - k) at.0 (omega (arith, below))))
  | inr past ↦ rw (le-ltb k (length xs) (omega (arith, past.0, length-reverse xs))) past.1
]

-- one more change that is taken over, from the back
pub filled_one : (ms ms' : List Move) (m : Move) (ds : List Diff) → ms ≡ ms' ++ m ∷ [] →
    map diff_of ms' ++ (diff_of m ∷ ds) ≡ map diff_of ms ++ ds
filled_one ms ms' m ds e =
    sym (append_assoc (map diff_of ms') (diff_of m ∷ []) ds)
    ∙ ap (λ (xs : List Diff). xs ++ ds) (sym (map-append diff_of ms' (m ∷ [])) ∙ ap (map diff_of) (sym e))

all_front : {A : Type 0} (P : A → Type 0) (xs : List A) (x : A) → AllByRecursion P (xs ++ x ∷ []) →
    AllByRecursion P xs × P x
all_front P [] x a = (tt, a.0)
all_front P (y ∷ xs) x a = let rest = all_front P xs x a.1 in ((a.0, rest.0), rest.1)

pub good_front : (ms ms' : List Move) (m : Move) → ms ≡ ms' ++ m ∷ [] → AllByRecursion IsMove (map diff_of ms) →
    AllByRecursion IsMove (map diff_of ms') × IsMove (diff_of m)
good_front ms ms' m e a =
    all_front IsMove (map diff_of ms') (diff_of m)
    (subst (AllByRecursion IsMove) (ap (map diff_of) e ∙ map-append diff_of ms' (m ∷ [])) a)

-- a ring that is filled from the back of the moves that are left
pub record Filled (left : List Move) (ring : Buffer Diff) (whole : List Diff) (capacity : ℕ) : Type 0 where
  pub items : map diff_of left ++ ring.items ≡ whole
  pub capacity_is : ring.capacity ≡ capacity
  pub each : AllByRecursion IsMove (map diff_of left)
  pub room : length left + length ring.items ≤ capacity

pub fill_start : (ms : List Move) (ring : Buffer Diff) (capacity : ℕ) → AllByRecursion IsMove (map diff_of ms) →
    length ms ≤ capacity → ring ≡ buffer [] capacity
    → Filled ms ring (map diff_of ms) capacity
fill_start ms ring capacity a l e = record {
  items = ap (λ (b : Buffer Diff). map diff_of ms ++ b.items) e ∙ append-nil (map diff_of ms);
  capacity_is = ap (λ (b : Buffer Diff). b.capacity) e;
  each = a;
  room = omega (arith, l, ap (λ (b : Buffer Diff). length b.items) e);
}

pub fill_step : (ms ms' : List Move) (m : Move) (ring ring' : Buffer Diff) (item : Diff) (whole : List Diff)
    (capacity : ℕ) → Filled ms ring whole capacity → ms ≡ ms' ++ m ∷ []
    → item ≡ diff_of m → ring' ≡ buffer (take ring.capacity (item ∷ ring.items)) ring.capacity →
    Filled ms' ring' whole capacity
fill_step ms ms' m ring ring' item whole capacity f e i p =
    let count : length ms ≡ length ms' + 1 = ap length e ∙ length_push ms' m in
    let new : ring'.items ≡ diff_of m ∷ ring.items =
    ap (λ (b : Buffer Diff). b.items) p ∙ take_all ring.capacity (item ∷ ring.items)
    (omega (arith, f.room, f.capacity_is, count)) ∙ ap (λ (d : Diff). d ∷ ring.items) i in
    record {
      items = ap (λ (xs : List Diff). map diff_of ms' ++ xs) new ∙ filled_one ms ms' m ring.items e
          ∙ f.items;
      capacity_is = ap (λ (b : Buffer Diff). b.capacity) p ∙ f.capacity_is;
      each = (good_front ms ms' m e f.each).0;
      room = omega (arith, f.room, count, ap length new);
    }

pub fill_end : (ms : List Move) (ring : Buffer Diff) (whole : List Diff) (capacity : ℕ) →
    Filled ms ring whole capacity → length ms ≡ 0 → ring ≡ buffer whole capacity
fill_end [] ring whole capacity f e = ap (λ (n : ℕ). buffer ring.items n) f.capacity_is
    ∙ ap (λ (xs : List Diff). buffer xs capacity) f.items
fill_end (m ∷ ms) ring whole capacity f e = absurd (omega arith)
