-- What undo and redo leave.
use Rattle.std.proofs.Common.{◌≡◌, ℕ, ◌+◌, ◌≤◌, List, [], ◌∷◌, length, map, take, drop, slice_get, slice_set}
use Rattle.std.proofs.Common.{Some, sym, ap, ◌∙◌, subst, arith}
use Rattle.std.proofs.lemmas.List.{take_all, length-map, length-set}
use Rattle.s2list.specs.Union.{Union}
use Rattle.s2union.specs.Apply.{applied}
use Rattle.s2edit.specs.Diff.{Diff, inverse}
use Rattle.s2edit.specs.History.{undone, undone_to, redone, redone_to, cells_lost, numbers}
use Rattle.s2edit.specs.Leads.{list_at}
use Rattle.s2edit.specs.Working.Chain.{list_after, table_after, tables_after, FitsTable, FitAlong, lists_of, AllWithin}
use Rattle.s2edit.specs.Working.Chain.{AllRoomy, history}
use Rattle.s2edit.proofs.Tables.{within_after, tables_back, along_back, AllRoomy-get}
use Rattle.s2edit.proofs.Numbers.{out_lost, put_won}

first_and_rest : {X : Type 0} (xs : List X) (x : X) → Some x ≡ slice_get xs 0 → xs ≡ x ∷ drop 1 xs
first_and_rest [] x h = absurd (cc)
first_and_rest (y ∷ xs) x h = let e : x ≡ y = cc in ap (λ z. z ∷ xs) (sym e)

-- the change that a chain begins with
pub first_fits : (limit : ℕ) (t : List (List ℕ)) (ds : List Diff) (d : Diff) → FitAlong limit t ds →
    Some d ≡ slice_get ds 0 → FitsTable limit t d
first_fits limit t [] d f h = absurd (cc)
first_fits limit t (e ∷ ds) d f h = let same : e ≡ d = cc in subst (FitsTable limit t) same f.0

pub last_fits : (limit : ℕ) (t : List (List ℕ)) (ds : List Diff) (d : Diff) → FitAlong limit t (map inverse ds) →
    Some d ≡ slice_get ds 0 → FitsTable limit t (inverse d)
last_fits limit t [] d f h = absurd (cc)
last_fits limit t (e ∷ ds) d f h = let same : e ≡ d = cc in subst (λ (x : Diff). FitsTable limit t (inverse x)) same f.0

-- the register has room for what such a change makes of its list
pub room_for : (limit : ℕ) (us : List Union) (d : Diff) (out put : List ℕ) (u : Union) → FitsTable limit (lists_of us) d
    → out ≡ d.out → put ≡ d.put → AllRoomy limit us → slice_get us d.register ≡ Some u →
    length (applied out put (list_at (lists_of us) d.register)) ≤ u.room
room_for limit us d out put u fits e f roomy h = rw (e, f) (omega (
  arith,
  fits.few,
  AllRoomy-get limit us d.register u roomy h,
))

-- what a change of one register's list leaves: the table with the change made, and each list's room
pub record Rewrites (us us' : List Union) (spare spare' : Union) (d : Diff) : Type 0 where
  pub table : lists_of us' ≡ table_after (lists_of us) d
  pub roomy : (n : ℕ) → AllRoomy n us → n ≤ spare.room → AllRoomy n us' × (n ≤ spare'.room)

pub rewritten_count : (us us' : List Union) (d : Diff) → lists_of us' ≡ table_after (lists_of us) d →
    length us' ≡ length us
rewritten_count us us' d e =
    sym (length-map us' (λ (u : Union). u.cells)) ∙ ap length e
    ∙ length-set (lists_of us) d.register (list_after (lists_of us) d) ∙ length-map us (λ (u : Union). u.cells)

-- what a move across one change leaves. The chain that it comes from begins with d, and the other one then begins
-- with its inverse
pub record Moves (us us' : List Union) (spare spare' : Union) (d : Diff) (from from' to to' : List Diff) :
    Type 0 where
  pub rewrites : Rewrites us us' spare spare' d
  pub first : from ≡ d ∷ from'
  pub onto : to' ≡ inverse d ∷ to

module _ (limit : ℕ) (us us' : List Union) (spare spare' : Union) (d : Diff) (from from' to to' : List Diff)
    (a : AllWithin limit (lists_of us)) (f : FitAlong limit (lists_of us) from) (g : FitAlong limit (lists_of us) to)
    (m : Moves us us' spare spare' d from from' to to') where
  whole_fits : FitsTable limit (lists_of us) d × FitAlong limit (table_after (lists_of us) d) from'
  whole_fits = subst (FitAlong limit (lists_of us)) m.first f

  t_is : lists_of us' ≡ table_after (lists_of us) d
  t_is = m.rewrites.table

  pub moved_within : AllWithin limit (lists_of us')
  moved_within = subst (AllWithin limit) (sym t_is) (within_after limit (lists_of us) d a whole_fits.0)

  pub moved_from : FitAlong limit (lists_of us') from'
  moved_from = subst (λ (t : List (List ℕ)). FitAlong limit t from') (sym t_is) whole_fits.1

  pub moved_to : FitAlong limit (lists_of us') to'
  moved_to =
      subst (FitAlong limit (lists_of us')) (sym m.onto)
      (subst (λ (t : List (List ℕ)). FitAlong limit t (inverse d ∷ to)) (sym t_is)
      (along_back limit (lists_of us) d a whole_fits.0 to g))

  -- the tables on both sides
  pub tables_from : tables_after (lists_of us) from ≡ lists_of us' ∷ tables_after (lists_of us') from'
  tables_from = ap (tables_after (lists_of us)) m.first
      ∙ ap (λ (t : List (List ℕ)). t ∷ tables_after t from') (sym t_is)

  pub tables_to : tables_after (lists_of us') to' ≡ lists_of us ∷ tables_after (lists_of us) to
  tables_to =
      ap (tables_after (lists_of us')) m.onto
      ∙ ap (λ (t : List (List ℕ)). tables_after t (inverse d ∷ to)) t_is
      ∙ tables_back limit (lists_of us) d a whole_fits.0 to

pub rewrites_from : (us us' : List Union) (spare spare' : Union) (d : Diff) (o p : List ℕ) → o ≡ d.out → p ≡ d.put →
    lists_of us' ≡ slice_set (lists_of us) d.register (applied o p (list_at (lists_of us) d.register)) →
    ((n : ℕ) → AllRoomy n us → n ≤ spare.room → AllRoomy n us' × (n ≤ spare'.room)) → Rewrites us us' spare spare' d
rewrites_from us us' spare spare' d o p e f g h = record {
  table = g ∙ ap (λ (x : List ℕ). slice_set (lists_of us) d.register
      (applied x p (list_at (lists_of us) d.register))) e
      ∙ ap (λ (x : List ℕ). slice_set (lists_of us) d.register
      (applied d.out x (list_at (lists_of us) d.register))) f;
  roomy = h;
}

-- the ring that a move comes from, and the one that it goes to
pub record Shifts (depth : ℕ) (from from' to to' : List Diff) (c : Diff) : Type 0 where
  pub first : Some c ≡ slice_get from 0
  pub rest : from' ≡ drop 1 from
  pub onto : to' ≡ take depth (c ∷ to)
  pub bound : length from + length to ≤ depth

module _ (depth : ℕ) (from from' to to' : List Diff) (c : Diff) (m : Shifts depth from from' to to' c) where
  pub from_is : from ≡ c ∷ from'
  from_is = first_and_rest from c m.first ∙ ap (λ ks. c ∷ ks) (sym m.rest)

  pub to_is : to' ≡ c ∷ to
  to_is = m.onto ∙ take_all depth (c ∷ to) (omega (arith, m.bound, ap length from_is))

  pub still_bound : length from' + length to' ≤ depth
  still_bound = omega (arith, m.bound, ap length from_is, ap length to_is)

-- what undo leaves
module _ (limit depth : ℕ) (us us' : List Union) (spare spare' : Union) (c : Diff)
    (past past' future future' : List Diff)
    (a : AllWithin limit (lists_of us)) (f : FitAlong limit (lists_of us) (map inverse past))
    (g : FitAlong limit (lists_of us) future)
    (s : Shifts depth past past' future future' c) (r : Rewrites us us' spare spare' (inverse c)) where
  undo_moves : Moves us us' spare spare' (inverse c) (map inverse past) (map inverse past') future future'
  undo_moves = record {
    rewrites = r;
    first = ap (map inverse) (from_is depth past past' future future' c s);
    onto = to_is depth past past' future future' c s;
  }

  pub undo_leaves : history limit depth us' past' future' ≡ undone (history limit depth us past future)
  undo_leaves =
      ap (λ (ts : List (List (List ℕ))). record {
        limit = limit;
        depth = depth;
        past = tables_after (lists_of us') (map inverse past');
        now = lists_of us';
        future = ts;
      })
      (tables_to limit us us' spare spare' (inverse c) (map inverse past) (map inverse past') future future' a
      f g undo_moves)
      ∙ sym (ap (undone_to (history limit depth us past future))
      (tables_from limit us us' spare spare' (inverse c) (map inverse past) (map inverse past') future
      future' a f g undo_moves))

  pub undo_within : AllWithin limit (lists_of us')
  undo_within = moved_within limit us us' spare spare' (inverse c) (map inverse past) (map inverse past')
      future future' a f g undo_moves

  pub undo_past : FitAlong limit (lists_of us') (map inverse past')
  undo_past = moved_from limit us us' spare spare' (inverse c) (map inverse past) (map inverse past') future
      future' a f g undo_moves

  pub undo_future : FitAlong limit (lists_of us') future'
  undo_future = moved_to limit us us' spare spare' (inverse c) (map inverse past) (map inverse past') future
      future' a f g undo_moves

  undo_fits : FitsTable limit (lists_of us) (inverse c)
  undo_fits = (subst (FitAlong limit (lists_of us))
      (ap (map inverse) (from_is depth past past' future future' c s)) f).0

  pub undo_numbers : (t : List (List ℕ)) (p : ℕ × ℕ) → lists_of us ≡ t → p.0 ≡ length c.put → p.1 ≡ length c.out →
      p ≡ numbers t (lists_of us')
  undo_numbers t p h e k =
      let n : lists_of us' ≡ table_after (lists_of us) (inverse c) =
      r.table in
      ap (λ (x : ℕ). (x, p.1)) (e ∙ out_lost limit (lists_of us) (inverse c) a undo_fits)
      ∙ ap (λ (x : ℕ). (cells_lost (lists_of us) (table_after (lists_of us) (inverse c)), x))
      (k ∙ put_won limit (lists_of us) (inverse c) a undo_fits)
      ∙ ap (λ (v : List (List ℕ)). numbers (lists_of us) v) (sym n)
      ∙ ap (λ (v : List (List ℕ)). numbers v (lists_of us')) h

-- what redo leaves
module _ (limit depth : ℕ) (us us' : List Union) (spare spare' : Union) (c : Diff)
    (past past' future future' : List Diff)
    (a : AllWithin limit (lists_of us)) (f : FitAlong limit (lists_of us) (map inverse past))
    (g : FitAlong limit (lists_of us) future)
    (s : Shifts depth future future' past past' c) (r : Rewrites us us' spare spare' c) where
  redo_moves : Moves us us' spare spare' c future future' (map inverse past) (map inverse past')
  redo_moves = record {
    rewrites = r;
    first = from_is depth future future' past past' c s;
    onto = ap (map inverse) (to_is depth future future' past past' c s);
  }

  pub redo_leaves : history limit depth us' past' future' ≡ redone (history limit depth us past future)
  redo_leaves =
      ap (λ (ts : List (List (List ℕ))). record {
        limit = limit;
        depth = depth;
        past = ts;
        now = lists_of us';
        future = tables_after (lists_of us') future';
      })
      (tables_to limit us us' spare spare' c future future' (map inverse past) (map inverse past') a g f redo_moves)
      ∙ sym (ap (redone_to (history limit depth us past future))
      (tables_from limit us us' spare spare' c future future' (map inverse past) (map inverse past') a g f
      redo_moves))

  pub redo_within : AllWithin limit (lists_of us')
  redo_within = moved_within limit us us' spare spare' c future future' (map inverse past) (map inverse past')
      a g f redo_moves

  pub redo_future : FitAlong limit (lists_of us') future'
  redo_future = moved_from limit us us' spare spare' c future future' (map inverse past) (map inverse past') a
      g f redo_moves

  pub redo_past : FitAlong limit (lists_of us') (map inverse past')
  redo_past = moved_to limit us us' spare spare' c future future' (map inverse past) (map inverse past') a g f
      redo_moves

  redo_fits : FitsTable limit (lists_of us) c
  redo_fits = (subst (FitAlong limit (lists_of us)) (from_is depth future future' past past' c s) g).0

  pub redo_numbers : (t : List (List ℕ)) (p : ℕ × ℕ) → lists_of us ≡ t → p.0 ≡ length c.out → p.1 ≡ length c.put →
      p ≡ numbers t (lists_of us')
  redo_numbers t p h e k =
      let n : lists_of us' ≡ table_after (lists_of us) c = r.table in
      ap (λ (x : ℕ). (x, p.1)) (e ∙ out_lost limit (lists_of us) c a redo_fits)
      ∙ ap (λ (x : ℕ). (cells_lost (lists_of us) (table_after (lists_of us) c), x))
      (k ∙ put_won limit (lists_of us) c a redo_fits)
      ∙ ap (λ (v : List (List ℕ)). numbers (lists_of us) v) (sym n)
      ∙ ap (λ (v : List (List ℕ)). numbers v (lists_of us')) h
