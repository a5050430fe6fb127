-- The rows of a parse, and what is found in them.
use Rattle.std.proofs.Common.{append-nil, true≢false, ◌≡◌, ◌∙◌, ◌||◌, Bool, cond, true, false, refl, sym, ap, subst}
use Rattle.std.proofs.Common.{List, [], ◌∷◌, ◌++◌, Option, Some, None}
use Rattle.std.specs.List.{find, fold}
use Rattle.std.specs.Option.{option_or}
use Rattle.std.specs.Str.{bytes_eq}
use Rattle.std.proofs.lemmas.List.Folds.{find-append, list_any-append}
use Rattle.std.proofs.lemmas.Slice.Eq.{bytes_eq-Decides}
use Rattle.clap.specs.Walk.{Row, Rule, Text, at_row, default_rows, has_row, more_values, reading_by}
use Rattle.clap.specs.Walk.{with_default, with_values, without}
use Rattle.clap.specs.declared.parser.matches.ValueSource.TheVariants.{DefaultValue, CommandLine}
use Rattle.clap.specs.declared.builder.value_parser.Reading.{Reading}

-- a row that isn't there is added at the end
pub at_no_row : (id : Text) (change : Row → List Row) (missing rows : List Row) → has_row id rows ≡ false
    → at_row id change missing rows ≡ rows ++ missing
at_no_row id change missing [] e = refl
at_no_row id change missing (r ∷ rs) e = go (bytes_eq r.id id) e (at_no_row id change missing rs)
  where
    go : (b : Bool) → (b || has_row id rs) ≡ false
        → (has_row id rs ≡ false → at_row id change missing rs ≡ rs ++ missing)
        → cond b (change r ++ rs) (r ∷ at_row id change missing rs) ≡ r ∷ (rs ++ missing)
    go true h next = absurd (true≢false h)
    go false h next = ap (λ xs. r ∷ xs) (next h)

-- the first use of an argument adds its row
pub first_use : (id : Text) (how : Reading) (values : List Text) (rows : List Row) → has_row id rows ≡ false
    → with_values id how CommandLine values (without id rows)
    ≡ rows ++ record { id = id; values = values; count = None; source = Some CommandLine; reading = how } ∷ []
first_use id how values rows e =
    let as_it_was : without id rows ≡ rows = at_no_row id (λ _. []) [] rows e ∙ append-nil rows in
    ap (with_values id how CommandLine values) as_it_was ∙ at_no_row id (more_values CommandLine values) _ rows e

abbrev pub found : Text → List Row → Option Row
found id = find (λ r. bytes_eq r.id id)

-- the row that an argument's default gives
abbrev pub default_row : Text → Reading → List Text → Option Row
default_row id how [] = None
default_row id how (v ∷ vs) =
    Some (record { id = id; values = v ∷ vs; count = None; source = Some DefaultValue; reading = how })

-- the row that the first default of this id gives
abbrev pub defaulted : Text → List Rule → Option Row
defaulted id [] = None
defaulted id (a ∷ rest) = option_or (cond (bytes_eq a.id id) (default_row a.id (reading_by a) a.defaults) None)
    (defaulted id rest)

or_none : {X : Type 0} (o : Option X) → option_or o None ≡ o
or_none None = refl
or_none (Some x) = refl

or_assoc : {X : Type 0} (a b c : Option X) → option_or (option_or a b) c ≡ option_or a (option_or b c)
or_assoc None b c = refl
or_assoc (Some x) b c = refl

found_some : (id : Text) (rows : List Row) (o : Option Row) → has_row id rows ≡ true
    → option_or (found id rows) o ≡ found id rows
found_some id [] o e = absurd (true≢false (sym e))
found_some id (r ∷ rs) o e = go (bytes_eq r.id id) e (found_some id rs o)
  where
    go : (b : Bool) → (b || has_row id rs) ≡ true → (has_row id rs ≡ true → option_or (found id rs) o ≡ found id rs)
        → option_or (cond b (Some r) (found id rs)) o ≡ cond b (Some r) (found id rs)
    go true h next = refl
    go false h next = next h

-- what is found after an argument got its default
found_more : (id : Text) (rows : List Row) (a : Rule) → found id (with_default rows a)
    ≡ option_or (found id rows) (cond (bytes_eq a.id id) (default_row a.id (reading_by a) a.defaults) None)
found_more id rows a = here (has_row a.id rows) refl
  where
    same : (b : Bool) → bytes_eq a.id id ≡ b → has_row a.id rows ≡ true
        → found id rows ≡ option_or (found id rows) (cond b (default_row a.id (reading_by a) a.defaults) None)
    same false is has = sym (or_none (found id rows))
    same true is has =
        let equal : a.id ≡ id = (bytes_eq-Decides a.id id).0 is in
        sym (found_some id rows _ (subst (λ (t : Text). has_row t rows ≡ true) equal has))

    added : (vs : List Text) → has_row a.id rows ≡ false → found id (default_rows a.id (reading_by a) vs rows)
        ≡ option_or (found id rows) (cond (bytes_eq a.id id) (default_row a.id (reading_by a) vs) None)
    added [] none = sym (or_none (found id rows)) ∙ ap (option_or (found id rows)) (nothing (bytes_eq a.id id))
      where
        nothing : (b : Bool) → ◌≡◌ {A = Option Row} None (cond b None None)
        nothing true = refl
        nothing false = refl
    added (v ∷ vs) none = ap (found id) (at_no_row a.id (more_values DefaultValue (v ∷ vs)) _ rows none)
        ∙ find-append _ rows _

    here : (b : Bool) → has_row a.id rows ≡ b → found id (with_default rows a)
        ≡ option_or (found id rows) (cond (bytes_eq a.id id) (default_row a.id (reading_by a) a.defaults) None)
    here true is = rw is (same (bytes_eq a.id id) refl is)
    here false is = rw is (added a.defaults is)

-- what is found after all arguments got their defaults
pub found_after : (id : Text) (c : List Rule) (rows : List Row)
    → found id (fold with_default rows c) ≡ option_or (found id rows) (defaulted id c)
found_after id [] rows = sym (or_none (found id rows))
found_after id (a ∷ rest) rows = found_after id rest (with_default rows a)
    ∙ ap (λ o. option_or o (defaulted id rest)) (found_more id rows a) ∙ or_assoc (found id rows) _ _

pub has_row_more : (id : Text) (rows : List Row) (r : Row)
    → has_row id (rows ++ r ∷ []) ≡ (has_row id rows || (bytes_eq r.id id || false))
has_row_more id rows r = list_any-append _ rows (r ∷ [])
