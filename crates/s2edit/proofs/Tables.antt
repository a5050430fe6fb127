-- How the tables follow from the changes that are kept.
use Rattle.std.proofs.Common.{◌≡◌, ℕ, zero, suc, ◌+◌, ◌<◌, ◌≤◌, List, [], ◌∷◌, ◌++◌, replicate, length}
use Rattle.std.proofs.Common.{take, get_or, slice_get, slice_set, Some, refl, sym, ap, ◌∙◌, subst, arith}
use Rattle.std.proofs.lemmas.List.{map-set, length-set, replicate_more, get_or-set_same, set-set, set-get_or}
use Rattle.std.proofs.lemmas.List.{map-append}
use Rattle.std.proofs.lemmas.Option.{slice_get_read, get_or_from_slice_get}
use Rattle.s2list.specs.Union.{Union}
use Rattle.s2union.specs.Apply.{applied, Fits}
use Rattle.s2union.proofs.Applied.{applied-inverse, Fits-inverse}
use Rattle.s2edit.specs.Diff.{Diff, inverse}
use Rattle.s2edit.specs.Leads.{list_at}
use Rattle.s2edit.specs.Working.Chain.{list_after, table_after, tables_after, FitsTable, FitAlong, lists_of}
use Rattle.s2edit.specs.Working.Chain.{AllWithin, AllRoomy}
use Rattle.s2edit.specs.Chain.{IsLocalWithin}

pub length-tables_after : (t : List (List ℕ)) (ds : List Diff) → length (tables_after t ds) ≡ length ds
length-tables_after t [] = refl
length-tables_after t (d ∷ ds) = ap suc (length-tables_after (table_after t d) ds)

pub tables_after-take : (n : ℕ) (t : List (List ℕ)) (ds : List Diff) →
    tables_after t (take n ds) ≡ take n (tables_after t ds)
tables_after-take zero t ds = refl
tables_after-take (suc n) t [] = refl
tables_after-take (suc n) t (d ∷ ds) = ap (λ ts. table_after t d ∷ ts) (tables_after-take n (table_after t d) ds)

pub FitAlong-take : (limit n : ℕ) (t : List (List ℕ)) (ds : List Diff) → FitAlong limit t ds →
    FitAlong limit t (take n ds)
FitAlong-take limit zero t ds f = tt
FitAlong-take limit (suc n) t [] f = tt
FitAlong-take limit (suc n) t (d ∷ ds) f = (f.0, FitAlong-take limit n (table_after t d) ds f.1)

pub AllWithin-at : (limit : ℕ) (t : List (List ℕ)) (r : ℕ) → AllWithin limit t → r < length t →
    IsLocalWithin limit (list_at t r)
AllWithin-at limit [] r a l = absurd (omega arith)
AllWithin-at limit (u ∷ t) zero a l = a.0
AllWithin-at limit (u ∷ t) (suc r) a l = AllWithin-at limit t r a.1 (omega arith)

pub AllWithin-set : (limit : ℕ) (t : List (List ℕ)) (r : ℕ) (v : List ℕ) → AllWithin limit t → IsLocalWithin limit v →
    AllWithin limit (slice_set t r v)
AllWithin-set limit [] r v a w = tt
AllWithin-set limit (u ∷ t) zero v a w = (w, a.1)
AllWithin-set limit (u ∷ t) (suc r) v a w = (a.0, AllWithin-set limit t r v a.1 w)

-- the list that a change has made
pub list_at-table_after : (t : List (List ℕ)) (d : Diff) → d.register < length t →
    list_at (table_after t d) d.register ≡ list_after t d
list_at-table_after t d l = get_or-set_same t d.register (list_after t d) [] l

module _ (limit : ℕ) (t : List (List ℕ)) (d : Diff) (a : AllWithin limit t) (f : FitsTable limit t d) where
  -- the inverse leads back to the list
  list_back : list_after (table_after t d) (inverse d) ≡ list_at t d.register
  list_back =
      ap (applied d.put d.out) (list_at-table_after t d f.in_range)
      ∙ applied-inverse d.out d.put (list_at t d.register) (AllWithin-at limit t d.register a f.in_range).local f.fits

  -- and to the table
  pub table_back : table_after (table_after t d) (inverse d) ≡ t
  table_back =
      ap (slice_set (table_after t d) d.register) list_back
      ∙ set-set t d.register (list_after t d) (list_at t d.register)
      ∙ set-get_or t d.register []

  pub fits_back : FitsTable limit (table_after t d) (inverse d)
  fits_back = record {
    in_range = omega (arith, f.in_range, length-set t d.register (list_after t d));
    fits = subst (Fits d.put d.out) (sym (list_at-table_after t d f.in_range))
        (Fits-inverse d.out d.put (list_at t d.register) (AllWithin-at limit t d.register a f.in_range).local
        f.fits);
    few = omega (arith, ap length list_back, (AllWithin-at limit t d.register a f.in_range).few);
    changes = λ e. f.changes (sym (list_at-table_after t d f.in_range) ∙ sym e ∙ list_back);
  }

  pub within_after : AllWithin limit (table_after t d)
  within_after = AllWithin-set limit t d.register (list_after t d) a (record { local = f.fits.local; few = f.few })

  -- the tables after a move, and the changes that lead to them
  pub tables_back : (es : List Diff) → tables_after (table_after t d) (inverse d ∷ es) ≡ t ∷ tables_after t es
  tables_back es = ap (λ (v : List (List ℕ)). v ∷ tables_after v es) table_back

  pub along_back : (es : List Diff) → FitAlong limit t es → FitAlong limit (table_after t d) (inverse d ∷ es)
  along_back es g = (fits_back, subst (λ (v : List (List ℕ)). FitAlong limit v es) (sym table_back) g)

pub lists_of-set : (us : List Union) (r : ℕ) (u : Union) →
    lists_of (slice_set us r u) ≡ slice_set (lists_of us) r u.cells
lists_of-set us r u = map-set (λ (v : Union). v.cells) us r u

pub AllRoomy-set : (n : ℕ) (us : List Union) (r : ℕ) (u : Union) → AllRoomy n us → n ≤ u.room →
    AllRoomy n (slice_set us r u)
AllRoomy-set n [] r u a w = tt
AllRoomy-set n (v ∷ us) zero u a w = (w, a.1)
AllRoomy-set n (v ∷ us) (suc r) u a w = (a.0, AllRoomy-set n us r u a.1 w)

pub AllRoomy-get : (n : ℕ) (us : List Union) (r : ℕ) (u : Union) → AllRoomy n us → slice_get us r ≡ Some u → n ≤ u.room
AllRoomy-get n [] r u a h = absurd (cc)
AllRoomy-get n (v ∷ us) zero u a h = let e : v ≡ u = cc in subst (λ (w : Union). n ≤ w.room) e a.0
AllRoomy-get n (v ∷ us) (suc r) u a h = AllRoomy-get n us r u a.1 h

pub slice_get-lists_of : (us : List Union) (r : ℕ) (u : Union) → slice_get us r ≡ Some u →
    slice_get (lists_of us) r ≡ Some u.cells
slice_get-lists_of [] r u h = cc
slice_get-lists_of (v ∷ us) zero u h = let e : v ≡ u = cc in ap (λ (w : Union). Some w.cells) e
slice_get-lists_of (v ∷ us) (suc r) u h = slice_get-lists_of us r u h

pub AllWithin-get : (limit : ℕ) (t : List (List ℕ)) (r : ℕ) (u : List ℕ) → AllWithin limit t →
    slice_get t r ≡ Some u → IsLocalWithin limit u
AllWithin-get limit [] r u a h = absurd (cc)
AllWithin-get limit (v ∷ t) zero u a h = let e : v ≡ u = cc in subst (IsLocalWithin limit) e a.0
AllWithin-get limit (v ∷ t) (suc r) u a h = AllWithin-get limit t r u a.1 h

-- a register that is read
pub read_register : (us : List Union) (i r : ℕ) (u : Union) → u ≡ get_or us i u → i ≡ r → i < length us →
    slice_get us r ≡ Some u
read_register us i r u e f l = ap (slice_get us) (sym f) ∙ slice_get_read us (length us) i u refl l e

-- a register that is read, in the table
pub list_read : (us : List Union) (i r : ℕ) (u : Union) → u ≡ get_or us i u → i ≡ r → i < length us →
    list_at (lists_of us) r ≡ u.cells
list_read us i r u e f l = get_or_from_slice_get (lists_of us) r u.cells []
    (slice_get-lists_of us r u (read_register us i r u e f l))

pub lists_of-push : (us : List Union) (n : ℕ) (u : Union) → lists_of us ≡ replicate n [] → u.cells ≡ [] →
    lists_of (us ++ u ∷ []) ≡ replicate (n + 1) []
lists_of-push us n u e f = map-append (λ (v : Union). v.cells) us (u ∷ [])
    ∙ ap (λ (xs : List (List ℕ)). xs ++ u.cells ∷ []) e ∙ ap (λ (x : List ℕ). replicate n [] ++ x ∷ []) f
    ∙ replicate_more n []

pub AllRoomy-push : (n : ℕ) (us : List Union) (u : Union) → AllRoomy n us → n ≤ u.room → AllRoomy n (us ++ u ∷ [])
AllRoomy-push n [] u a w = (w, tt)
AllRoomy-push n (v ∷ us) u a w = (a.0, AllRoomy-push n us u a.1 w)
