-- How clap reads the words of `run`: the walk over them, and the rows that it leaves.
use Rattle.std.proofs.Common.{◌≡◌, ◌∙◌, ◌<◌, ◌≤◌, ◌&&◌, ◌||◌, ◌==◌, ◌^◌, ℕ, Bool, cond, true, false, not, true≢false}
use Rattle.std.proofs.Common.{refl, sym, ap, subst, arith, List, [], ◌∷◌, ◌++◌, map, length, Option, Some, codes}
use Rattle.std.proofs.Common.{append-nil, append_assoc, lt-ltb}
use Rattle.std.specs.Prelude.{option_and_then, slice_get, unwrap_or}
use Rattle.std.specs.List.{fold, list_any}
use Rattle.std.specs.Option.{option_or}
use Rattle.std.specs.Str.{bytes_eq}
use Rattle.clap.specs.Walk.{Held, Row, Rule, Text, Walk, arg_by_long, finished, has_row, nothing_held, option, reacted}
use Rattle.clap.specs.Walk.{row_text, rows_of, settled, used, walk_from, walked, with_default}
use Rattle.clap.specs.Simple.{Shape, built, is_simple, matches_of, new_rule}
use Rattle.clap.specs.Takes.{react_passes, settle_passes, takes, turn_passes, use_passes, value_passes, walk_passes}
use Rattle.clap.specs.ValueTests.{accepts}
use Rattle.clap.specs.Words.{first_value, found_of, one_text}
use Rattle.clap.specs.declared.builder.value_parser.ValueParser.TheVariants as vp
use Rattle.clap.specs.declared.parser.matches.ArgMatches.{ArgMatches}
use Rattle.clap.proofs.OnLiterals.{clap_on_literals}
use Rattle.clap.proofs.ValueTestLemmas.{Accepts-accepts}
use Rattle.clap.proofs.WalkLemmas.{first_value-rows, one_text-rows}
use Rattle.s2calc.specs.CommandLine.{Alone, Apart, AreChoices, Choice, IsNumberTo, IsValueOf, IsWellFormed, Joined}
use Rattle.s2calc.specs.CommandLine.{OfCells, OfFolder, OfStates, Setting, ToExplain, ToPrompt, ToStop, Wish}
use Rattle.s2calc.specs.CommandLine.{choice_name, choice_value, choice_words, chosen, has_no_hyphen, is_named}
use Rattle.s2calc.specs.CommandLine.{is_wished, number_read, setting_name, setting_of, wish_name, words_of_choices}
use Rattle.s2calc.specs.Working.CommandLine.{HasChoices, row_for, run_app}
use Rattle.s2calc.proofs.WordRows.{defaulted, first_use, found, found_after, has_row_more}

abbrev run_rules : List Rule
run_rules = (built run_app).top.rules

pub simple : is_simple run_app ≡ true
simple = refl

-- the rule of the option with this name
abbrev rule_named : Text → Rule
rule_named name = unwrap_or (arg_by_long run_rules name) (new_rule [])

abbrev rule_for : Setting → Rule
rule_for OfCells = rule_named (codes "limit")
rule_for OfStates = rule_named (codes "depth")
rule_for OfFolder = rule_named (codes "dir")

abbrev rule_for_wish : Wish → Rule
rule_for_wish ToExplain = rule_named (codes "explain")
rule_for_wish ToPrompt = rule_named (codes "prompt")
rule_for_wish ToStop = rule_named (codes "stop")

wish_step : (f : Wish) (h : Held)
    → walked run_rules [] (walk_from h) (codes "--" ++ wish_name f)
    ≡ walk_from (reacted run_rules (rule_for_wish f) [] h)
unfolding clap_on_literals
wish_step ToExplain h = refl
wish_step ToPrompt h = refl
wish_step ToStop h = refl

-- the option that is next to have a value
abbrev waiting_at : Setting → Held → Walk
waiting_at s h = record (walk_from (record (settled run_rules h) { pending = Some (setting_name s, []) })) {
  waiting = option (setting_name s);
}

abbrev valued : Setting → Text → Held → Held
valued s v h = record (settled run_rules h) { pending = Some (setting_name s, v ∷ []) }

name_step : (s : Setting) (h : Held) → walked run_rules [] (walk_from h) (codes "--" ++ setting_name s) ≡ waiting_at s h
unfolding clap_on_literals
name_step OfCells h = refl
name_step OfStates h = refl
name_step OfFolder h = refl

value_step : (s : Setting) (h : Held) (v : Text) → has_no_hyphen v ≡ true
    → walked run_rules [] (waiting_at s h) v ≡ walk_from (valued s v h)
unfolding clap_on_literals
value_step OfCells h [] e = refl
value_step OfStates h [] e = refl
value_step OfFolder h [] e = refl
value_step s h (x ∷ xs) e = go s (x == 45) refl
  where
    go : (s : Setting) (b : Bool) → (x == 45) ≡ b
        → walked run_rules [] (waiting_at s h) (x ∷ xs) ≡ walk_from (valued s (x ∷ xs) h)
    go s true is = absurd (true≢false (sym e ∙ ap not is))
    go OfCells false is = rw (is, is) refl
    go OfStates false is = rw (is, is) refl
    go OfFolder false is = rw (is, is) refl

joined_step : (s : Setting) (h : Held) (v : Text)
    → walked run_rules [] (walk_from h) (codes "--" ++ (setting_name s ++ (codes "=" ++ v)))
    ≡ walk_from (reacted run_rules (rule_for s) (v ∷ []) h)
unfolding clap_on_literals
joined_step OfCells h v = refl
joined_step OfStates h v = refl
joined_step OfFolder h v = refl

-- ---- rows

abbrev run_shape : Shape
run_shape = (built run_app).top

abbrev effect : Choice → Held → Held
effect (Apart s v) h = valued s v h
effect (Joined s v) h = reacted run_rules (rule_for s) (v ∷ []) h
effect (Alone f) h = reacted run_rules (rule_for_wish f) [] h

abbrev rows_now : Held → List Row
rows_now h = (settled run_rules h).rows

setting_used : (s : Setting) (v : Text) (rows : List Row) → has_row (setting_name s) rows ≡ false
    → used (rule_for s) (v ∷ []) rows ≡ rows ++ row_for (Joined s v) ∷ []
setting_used OfCells v rows e = first_use _ _ _ rows e
setting_used OfStates v rows e = first_use _ _ _ rows e
setting_used OfFolder v rows e = first_use _ _ _ rows e

wish_used : (f : Wish) (rows : List Row) → has_row (wish_name f) rows ≡ false
    → used (rule_for_wish f) [] rows ≡ rows ++ row_for (Alone f) ∷ []
wish_used ToExplain rows e = first_use _ _ _ rows e
wish_used ToPrompt rows e = first_use _ _ _ rows e
wish_used ToStop rows e = first_use _ _ _ rows e

next_rows : (s : Setting) (v : Text) (h : Held) → rows_now (valued s v h) ≡ used (rule_for s) (v ∷ []) (rows_now h)
next_rows OfCells v h = refl
next_rows OfStates v h = refl
next_rows OfFolder v h = refl

effect_rows : (choice : Choice) (h : Held) → has_row (choice_name choice) (rows_now h) ≡ false
    → rows_now (effect choice h) ≡ rows_now h ++ row_for choice ∷ []
effect_rows (Apart s v) h e = next_rows s v h ∙ setting_used s v (rows_now h) e
effect_rows (Joined s v) h e = setting_used s v (rows_now h) e
effect_rows (Alone f) h e = wish_used f (rows_now h) e

-- ---- what passes

accepted : (most : ℕ) (v : Text) → most ≤ 1000000 → IsNumberTo most v → accepts false (vp.Unsigned 1 most) v ≡ true
accepted most v small is = Accepts-accepts false (vp.Unsigned 1 most) v (is.0, fits, is.1, is.2)
  where
    fits : number_read v < 2 ^ 64
    fits = omega (arith, is.2)

value_accepted : (s : Setting) (v : Text) → IsValueOf s v → value_passes (rule_for s) v ≡ true
value_accepted OfCells v is = accepted 1000000 v (omega arith) is
value_accepted OfStates v is = accepted 10000 v (omega arith) is
value_accepted OfFolder v is = lt-ltb 0 (length v) is

use_accepted : (s : Setting) (v : Text) (rows : List Row) → IsValueOf s v → has_row (setting_name s) rows ≡ false
    → use_passes false (rule_for s) (v ∷ []) rows ≡ true
use_accepted OfCells v rows is none = rw (none, value_accepted OfCells v is) refl
use_accepted OfStates v rows is none = rw (none, value_accepted OfStates v is) refl
use_accepted OfFolder v rows is none = rw (none, value_accepted OfFolder v is) refl

wish_accepted : (f : Wish) (rows : List Row) → has_row (wish_name f) rows ≡ false
    → use_passes false (rule_for_wish f) [] rows ≡ true
wish_accepted ToExplain rows none = rw none refl
wish_accepted ToPrompt rows none = rw none refl
wish_accepted ToStop rows none = rw none refl

pending_passes : (s : Setting) (v : Text) (h : Held)
    → settle_passes run_rules false (valued s v h) ≡ use_passes false (rule_for s) (v ∷ []) (rows_now h)
pending_passes OfCells v h = refl
pending_passes OfStates v h = refl
pending_passes OfFolder v h = refl

-- the option that is pending after this one passes
effect_settles : (choice : Choice) (h : Held) → IsWellFormed choice → has_row (choice_name choice) (rows_now h) ≡ false
    → settle_passes run_rules false (effect choice h) ≡ true
effect_settles (Apart s v) h is none = pending_passes s v h ∙ use_accepted s v (rows_now h) is.0 none
effect_settles (Joined s v) h is none = refl
effect_settles (Alone f) h is none = refl

-- ---- a word passes

both_true : (a b : Bool) → a ≡ true → b ≡ true → ((a && b) && true) ≡ true
both_true a b e f = rw (e, f) refl

wish_turn : (f : Wish) (h : Held)
    → turn_passes run_shape [] (walk_from h) (codes "--" ++ wish_name f)
    ≡ (react_passes run_rules false (rule_for_wish f) [] h && true)
unfolding clap_on_literals
wish_turn ToExplain h = refl
wish_turn ToPrompt h = refl
wish_turn ToStop h = refl

joined_turn : (s : Setting) (v : Text) (h : Held)
    → turn_passes run_shape [] (walk_from h) (codes "--" ++ (setting_name s ++ (codes "=" ++ v)))
    ≡ (react_passes run_rules false (rule_for s) (v ∷ []) h && true)
unfolding clap_on_literals
joined_turn OfCells v h = refl
joined_turn OfStates v h = refl
joined_turn OfFolder v h = refl

name_turn : (s : Setting) (h : Held)
    → turn_passes run_shape [] (walk_from h) (codes "--" ++ setting_name s)
    ≡ (settle_passes run_rules false h && true)
unfolding clap_on_literals
name_turn OfCells h = refl
name_turn OfStates h = refl
name_turn OfFolder h = refl

value_turn : (s : Setting) (h : Held) (v : Text) → has_no_hyphen v ≡ true
    → turn_passes run_shape [] (waiting_at s h) v ≡ true
unfolding clap_on_literals
value_turn OfCells h [] e = refl
value_turn OfStates h [] e = refl
value_turn OfFolder h [] e = refl
value_turn s h (x ∷ xs) e = go s (x == 45) refl
  where
    go : (s : Setting) (b : Bool) → (x == 45) ≡ b → turn_passes run_shape [] (waiting_at s h) (x ∷ xs) ≡ true
    go s true is = absurd (true≢false (sym e ∙ ap not is))
    go OfCells false is = rw (is, is) refl
    go OfStates false is = rw (is, is) refl
    go OfFolder false is = rw (is, is) refl

-- ---- the walk over an option

abbrev walk_on : Walk → List Text → Walk
walk_on w words = fold (walked run_rules []) w words

passes_on : (w after : Walk) (word : Text) (rest : List Text) → turn_passes run_shape [] w word ≡ true
    → walked run_rules [] w word ≡ after
    → walk_passes run_shape [] w (word ∷ rest) ≡ walk_passes run_shape [] after rest
unfolding walk_passes
passes_on w after word rest passes steps = rw passes (ap (λ v. walk_passes run_shape [] v rest) steps)

goes_on : (w after : Walk) (word : Text) (rest : List Text) → walked run_rules [] w word ≡ after
    → walk_on w (word ∷ rest) ≡ walk_on after rest
goes_on w after word rest steps = ap (λ v. walk_on v rest) steps

option_goes : (choice : Choice) (h : Held) (rest : List Text) → IsWellFormed choice
    → walk_on (walk_from h) (choice_words choice ++ rest) ≡ walk_on (walk_from (effect choice h)) rest
option_goes (Apart s v) h rest is = goes_on _ _ _ (v ∷ rest) (name_step s h)
    ∙ goes_on _ _ v rest (value_step s h v is.1)
option_goes (Joined s v) h rest is = goes_on _ _ _ rest (joined_step s h v)
option_goes (Alone f) h rest is = goes_on _ _ _ rest (wish_step f h)

option_passes_on : (choice : Choice) (h : Held) (rest : List Text) → IsWellFormed choice
    → has_row (choice_name choice) (rows_now h) ≡ false
    → settle_passes run_rules false h ≡ true
    → walk_passes run_shape [] (walk_from h) (choice_words choice ++ rest)
    ≡ walk_passes run_shape [] (walk_from (effect choice h)) rest
option_passes_on (Apart s v) h rest is none settles =
    passes_on _ _ _ (v ∷ rest) (name_turn s h ∙ ap (λ b. b && true) settles) (name_step s h)
    ∙ passes_on _ _ v rest (value_turn s h v is.1) (value_step s h v is.1)
option_passes_on (Joined s v) h rest is none settles =
    passes_on _ _ _ rest (joined_turn s v h ∙ both_true _ _ settles (use_accepted s v (rows_now h) is none))
    (joined_step s h v)
option_passes_on (Alone f) h rest is none settles =
    passes_on _ _ _ rest (wish_turn f h ∙ both_true _ _ settles (wish_accepted f (rows_now h) none)) (wish_step f h)

-- ---- the walk over all options

neither : (a b : Bool) → (a || b) ≡ false → (a ≡ false) × (b ≡ false)
neither true b e = absurd (true≢false e)
neither false b e = (refl, e)

-- an option of the list has a row
abbrev any_used : List Row → List Choice → Bool
any_used rows choices = list_any (λ choice. has_row (choice_name choice) rows) choices

unused_yet : (rows : List Row) (choice : Choice) (rest : List Choice) → any_used rows rest ≡ false
    → list_any (λ other. is_named (choice_name other) choice) rest ≡ false
    → any_used (rows ++ row_for choice ∷ []) rest ≡ false
unused_yet rows choice [] none different = refl
unused_yet rows choice (next ∷ rest) none different =
    let unused = neither (has_row (choice_name next) rows) _ none in
    let unlike = neither (is_named (choice_name next) choice) _ different in
    rw (has_row_more (choice_name next) rows (row_for choice), unused.0, unlike.0)
    (unused_yet rows choice rest unused.1 unlike.1)

abbrev ended : Held → List Choice → Held
ended h [] = h
ended h (choice ∷ rest) = ended (effect choice h) rest

record Walks (h : Held) (choices : List Choice) : Type 0 where
  goes : walk_on (walk_from h) (words_of_choices choices) ≡ walk_from (ended h choices)
  passes : walk_passes run_shape [] (walk_from h) (words_of_choices choices) ≡ true
  rows : rows_now (ended h choices) ≡ rows_now h ++ map row_for choices
  settles : settle_passes run_rules false (ended h choices) ≡ true

walks : (choices : List Choice) (h : Held) → AreChoices choices → any_used (rows_now h) choices ≡ false
    → settle_passes run_rules false h ≡ true → Walks h choices
unfolding walk_passes
walks [] h are none settles =
    record { goes = refl; passes = refl; rows = sym (append-nil (rows_now h)); settles = settles }
walks (choice ∷ rest) h are none settles =
    let unused = neither (has_row (choice_name choice) (rows_now h)) _ none in
    let added = effect_rows choice h unused.0 in
    let later = walks rest (effect choice h) are.2
    (subst (λ rows. any_used rows rest ≡ false) (sym added) (unused_yet (rows_now h) choice rest unused.1 are.1))
    (effect_settles choice h are.0 unused.0) in
    record {
      goes = option_goes choice h (words_of_choices rest) are.0 ∙ later.goes;
      passes = option_passes_on choice h (words_of_choices rest) are.0 unused.0 settles ∙ later.passes;
      rows = later.rows ∙ ap (λ rows. rows ++ map row_for rest) added
          ∙ append_assoc (rows_now h) (row_for choice ∷ []) (map row_for rest);
      settles = later.settles;
    }

no_row_used : (choices : List Choice) → any_used [] choices ≡ false
no_row_used [] = refl
no_row_used (choice ∷ rest) = no_row_used rest

run_walks : (choices : List Choice) → AreChoices choices → Walks nothing_held choices
run_walks choices are = walks choices nothing_held are (no_row_used choices) refl

-- the rows of the parse
pub rows_are : (choices : List Choice) (name : Text) → AreChoices choices
    → matches_of run_app (name ∷ words_of_choices choices) ≡ fold with_default (map row_for choices) run_rules
rows_are choices name are =
    let w = run_walks choices are in
    ap (λ (v : Walk). finished run_rules v.held) w.goes ∙ ap (λ rows. fold with_default rows run_rules) w.rows

pub taken : (choices : List Choice) (name : Text) → AreChoices choices
    → takes run_app (name ∷ words_of_choices choices) ≡ true
taken choices name are =
    let w = run_walks choices are in
    rw (w.goes, w.passes, w.settles) refl

-- ---- what is read of the rows

-- what is found of a name, if only its default and options have rows
value_at : {X : Type 0} (read : Row → Option X) (name : Text) (choices : List Choice) (usual : Row)
    (usual_word : Text) (of : Text → Option X)
    → read usual ≡ of usual_word → ((choice : Choice) → read (row_for choice) ≡ of (choice_value choice))
    → option_and_then read (option_or (found name (map row_for choices)) (Some usual))
    ≡ of (chosen usual_word name choices)
value_at read name [] usual usual_word of default each = default
value_at read name (choice ∷ rest) usual usual_word of default each =
    go (is_named name choice) (value_at read name rest usual usual_word of default each)
  where
    go : (b : Bool) → option_and_then read (option_or (found name (map row_for rest)) (Some usual))
        ≡ of (chosen usual_word name rest)
        → option_and_then read (option_or (cond b (Some (row_for choice)) (found name (map row_for rest))) (Some usual))
        ≡ of (cond b (choice_value choice) (chosen usual_word name rest))
    go true next = each choice
    go false next = next

row_at : (name : Text) (choices : List Choice) (matches : ArgMatches) → HasChoices choices matches
    → found name (rows_of (found_of matches)) ≡ option_or (found name (map row_for choices)) (defaulted name run_rules)
row_at name choices matches has = ap (found name) has.rows ∙ found_after name run_rules (map row_for choices)

pub limit_read : (choices : List Choice) (matches : ArgMatches) → HasChoices choices matches
    → one_text (found_of matches) (codes "limit") ≡ Some (setting_of choices OfCells)
limit_read choices matches has = one_text-rows (found_of matches) (codes "limit")
    ∙ ap (option_and_then row_text) (row_at (codes "limit") choices matches has)
    ∙ value_at row_text (codes "limit") choices _ (codes "10000") Some refl (λ choice. refl)

pub depth_read : (choices : List Choice) (matches : ArgMatches) → HasChoices choices matches
    → one_text (found_of matches) (codes "depth") ≡ Some (setting_of choices OfStates)
depth_read choices matches has = one_text-rows (found_of matches) (codes "depth")
    ∙ ap (option_and_then row_text) (row_at (codes "depth") choices matches has)
    ∙ value_at row_text (codes "depth") choices _ (codes "100") Some refl (λ choice. refl)

pub folder_read : (choices : List Choice) (matches : ArgMatches) → HasChoices choices matches
    → first_value (found_of matches) (codes "dir") ≡ Some (setting_of choices OfFolder)
folder_read choices matches has = first_value-rows (found_of matches) (codes "dir")
    ∙ ap (option_and_then (λ (r : Row). slice_get r.values 0)) (row_at (codes "dir") choices matches has)
    ∙ value_at (λ (r : Row). slice_get r.values 0) (codes "dir") choices _ (codes ".") Some refl (λ choice. refl)

apart : (f : Wish) (s : Setting) → bytes_eq (setting_name s) (wish_name f) ≡ false
apart ToExplain OfCells = refl
apart ToExplain OfStates = refl
apart ToExplain OfFolder = refl
apart ToPrompt OfCells = refl
apart ToPrompt OfStates = refl
apart ToPrompt OfFolder = refl
apart ToStop OfCells = refl
apart ToStop OfStates = refl
apart ToStop OfFolder = refl

-- a flag's row says whether it is given
wish_value : (f : Wish) (choices : List Choice)
    → chosen (codes "false") (wish_name f) choices ≡ cond (is_wished choices f) (codes "true") (codes "false")
wish_value f [] = refl
wish_value f (choice ∷ rest) = go (is_named (wish_name f) choice) refl (wish_value f rest)
  where
    true_of : (f : Wish) (choice : Choice) → is_named (wish_name f) choice ≡ true → choice_value choice ≡ codes "true"
    true_of f (Alone g) e = refl
    true_of f (Apart s v) e = absurd (true≢false (sym e ∙ apart f s))
    true_of f (Joined s v) e = absurd (true≢false (sym e ∙ apart f s))

    go : (b : Bool) → is_named (wish_name f) choice ≡ b
        → chosen (codes "false") (wish_name f) rest ≡ cond (is_wished rest f) (codes "true") (codes "false")
        → cond b (choice_value choice) (chosen (codes "false") (wish_name f) rest)
        ≡ cond (b || is_wished rest f) (codes "true") (codes "false")
    go true is next = true_of f choice is
    go false is next = next

wish_row : (f : Wish) (choices : List Choice) (matches : ArgMatches) → HasChoices choices matches
    → one_text (found_of matches) (wish_name f) ≡ Some (chosen (codes "false") (wish_name f) choices)
wish_row ToExplain choices matches has = one_text-rows (found_of matches) (wish_name ToExplain)
    ∙ ap (option_and_then row_text) (row_at (wish_name ToExplain) choices matches has)
    ∙ value_at row_text (wish_name ToExplain) choices _ (codes "false") Some refl (λ choice. refl)
wish_row ToPrompt choices matches has = one_text-rows (found_of matches) (wish_name ToPrompt)
    ∙ ap (option_and_then row_text) (row_at (wish_name ToPrompt) choices matches has)
    ∙ value_at row_text (wish_name ToPrompt) choices _ (codes "false") Some refl (λ choice. refl)
wish_row ToStop choices matches has = one_text-rows (found_of matches) (wish_name ToStop)
    ∙ ap (option_and_then row_text) (row_at (wish_name ToStop) choices matches has)
    ∙ value_at row_text (wish_name ToStop) choices _ (codes "false") Some refl (λ choice. refl)

pub wish_read : (f : Wish) (choices : List Choice) (matches : ArgMatches) → HasChoices choices matches
    → one_text (found_of matches) (wish_name f) ≡ Some (cond (is_wished choices f) (codes "true") (codes "false"))
wish_read f choices matches has = wish_row f choices matches has ∙ ap Some (wish_value f choices)

-- `get_flag` gives whether the flag is given
pub wish_is : (f : Wish) (choices : List Choice) (matches : ArgMatches) (result : Bool) → HasChoices choices matches
    → (one_text (found_of matches) (wish_name f) ≡ Some (codes "true") → result ≡ true)
    → (one_text (found_of matches) (wish_name f) ≡ Some (codes "false") → result ≡ false) → result ≡ is_wished choices f
wish_is f choices matches result has on off = go (is_wished choices f) (wish_read f choices matches has)
  where
    go : (b : Bool) → one_text (found_of matches) (wish_name f) ≡ Some (cond b (codes "true") (codes "false"))
        → result ≡ b
    go true e = on e
    go false e = off e

-- the number of an option, given or usual, is in its range
in_range : (s : Setting) (most : ℕ) (usual : Text) (choices : List Choice)
    → ((v : Text) → IsValueOf s v → IsNumberTo most v) → IsNumberTo most usual
    → ((choice : Choice) → IsWellFormed choice → is_named (setting_name s) choice ≡ true
    → IsNumberTo most (choice_value choice))
    → AreChoices choices → IsNumberTo most (chosen usual (setting_name s) choices)
in_range s most usual [] as_number default each are = default
in_range s most usual (choice ∷ rest) as_number default each are =
    go (is_named (setting_name s) choice) refl (in_range s most usual rest as_number default each are.2)
  where
    go : (b : Bool) → is_named (setting_name s) choice ≡ b → IsNumberTo most (chosen usual (setting_name s) rest)
        → IsNumberTo most (cond b (choice_value choice) (chosen usual (setting_name s) rest))
    go true is next = each choice are.0 is
    go false is next = next

pub limit_in_range : (choices : List Choice) → AreChoices choices → IsNumberTo 1000000 (setting_of choices OfCells)
limit_in_range choices are =
    in_range OfCells 1000000 (codes "10000") choices (λ v h. h) (
      (
        omega arith,
        (
          omega arith,
          (omega arith, (omega arith, (omega arith, (omega arith, tt)))),
        ),
      ),
      omega arith,
      omega arith,
    ) each are
  where
    each : (choice : Choice) → IsWellFormed choice → is_named (codes "limit") choice ≡ true
        → IsNumberTo 1000000 (choice_value choice)
    each (Apart OfCells v) is e = is.0
    each (Joined OfCells v) is e = is
    each (Apart OfStates v) is e = absurd (true≢false (sym e))
    each (Apart OfFolder v) is e = absurd (true≢false (sym e))
    each (Joined OfStates v) is e = absurd (true≢false (sym e))
    each (Joined OfFolder v) is e = absurd (true≢false (sym e))
    each (Alone ToExplain) is e = absurd (true≢false (sym e))
    each (Alone ToPrompt) is e = absurd (true≢false (sym e))
    each (Alone ToStop) is e = absurd (true≢false (sym e))

pub depth_in_range : (choices : List Choice) → AreChoices choices → IsNumberTo 10000 (setting_of choices OfStates)
depth_in_range choices are =
    in_range OfStates 10000 (codes "100") choices (λ v h. h)
    ((omega arith, (omega arith, (omega arith, (omega arith, tt)))), omega arith, omega arith) each are
  where
    each : (choice : Choice) → IsWellFormed choice → is_named (codes "depth") choice ≡ true
        → IsNumberTo 10000 (choice_value choice)
    each (Apart OfStates v) is e = is.0
    each (Joined OfStates v) is e = is
    each (Apart OfCells v) is e = absurd (true≢false (sym e))
    each (Apart OfFolder v) is e = absurd (true≢false (sym e))
    each (Joined OfCells v) is e = absurd (true≢false (sym e))
    each (Joined OfFolder v) is e = absurd (true≢false (sym e))
    each (Alone ToExplain) is e = absurd (true≢false (sym e))
    each (Alone ToPrompt) is e = absurd (true≢false (sym e))
    each (Alone ToStop) is e = absurd (true≢false (sym e))
