-- Which words name cells.
use Rattle.std.proofs.Common.{◌≡◌, ℕ, ◌+◌, ◌-◌, ◌*◌, ◌/◌, ◌%◌, ◌^◌, ◌<◌, ◌≤◌, refl, sym}
use Rattle.std.proofs.Common.{◌∙◌, ap, arith, subst, List, [], ◌∷◌, length, Bool, true, false, ◌&&◌, ◌||◌, cond}
use Rattle.std.proofs.Common.{inr, Some, None}
use Rattle.std.proofs.Common.{nat_lt, nat_le, nat_eq}
use Rattle.std.proofs.Math.Nat.{mul-le-mul_right, div-eq_of_lt-le}
use Rattle.std.proofs.Math.Logic.{⊎_elim}
use Rattle.std.proofs.lemmas.Bool.{cases_Bool, false≢true}
use Rattle.std.proofs.lemmas.Bool.Decides.{nat_tests}
use Rattle.std.proofs.lemmas.Nat.{mod-mul-add, div_below}
use Rattle.std.proofs.lemmas.Int.Digits.{digits_value-lt}
use Rattle.std.proofs.lemmas.Str.{digit_value_digit}
use Rattle.std.proofs.lemmas.Str.Parse.{digit_from_value}
use Rattle.std.specs.Char.{digit_value, is_digit}
use Rattle.std.specs.List.{list_all}
use Rattle.std.specs.Prelude.{MatchOption, Option}
use Rattle.std.proofs.lemmas.List.Folds.{list_any_at}
use Rattle.std.specs.Str.Parse.{AllDigits, digits_value}
use Rattle.s2cell.specs.Cell.{IsCell, IsCellAt, level_of, place_of, face_of, id_at}
use Rattle.s2cell.specs.Token.{IsReading}
use Rattle.s2cell.specs.Debug.{IsDebug}
use Rattle.s2cell.specs.Words.{NamesCell}
use Rattle.s2cell.proofs.CellLemmas.{own_place, level_of_cell, place_of_cell, four_pos, face_of_cell}
use Rattle.s2script.specs.Named.{is_cell, is_hexadecimal, padded_value, token_cell, debug_cell, is_face_and_digits}
use Rattle.s2script.specs.Named.{cell_below, has_slash, cell_named, cell_with}

and_both : (a b : Bool) → (a && b) ≡ true → (a ≡ true) × (b ≡ true)
and_both true b e = (refl, e)
and_both false b e = absurd (false≢true e)

and_from : (a b : Bool) → a ≡ true → b ≡ true → (a && b) ≡ true
and_from true b p q = q
and_from false b p q = absurd (false≢true p)

below_from : (a b : ℕ) → nat_lt a b ≡ true → a < b
below_from a b e = grind (arith, nat_tests)

is_below : (a b : ℕ) → a < b → nat_lt a b ≡ true
is_below a b h = grind (arith, nat_tests)

most_from : (a b : ℕ) → nat_le a b ≡ true → a ≤ b
most_from a b e = grind (arith, nat_tests)

is_most : (a b : ℕ) → a ≤ b → nat_le a b ≡ true
is_most a b h = grind (arith, nat_tests)

equal_from : (a b : ℕ) → nat_eq a b ≡ true → a ≡ b
equal_from a b e = grind (arith, nat_tests)

is_equal : (a b : ℕ) → a ≡ b → nat_eq a b ≡ true
is_equal a b e = grind (arith, nat_tests)

digits_from : (radix : ℕ) (ds : List ℕ) → list_all (λ b. is_digit b radix) ds ≡ true → AllDigits radix ds
digits_from radix [] e = tt
digits_from radix (d ∷ ds) e = let p = and_both (is_digit d radix) (list_all (λ b. is_digit b radix) ds) e in
    (below_from (digit_value d) radix p.0, digits_from radix ds p.1)

are_digits : (radix : ℕ) (ds : List ℕ) → AllDigits radix ds → list_all (λ b. is_digit b radix) ds ≡ true
are_digits radix [] a = refl
are_digits radix (d ∷ ds) a = and_from (is_digit d radix) (list_all (λ b. is_digit b radix) ds)
    (is_below (digit_value d) radix a.0) (are_digits radix ds a.1)

-- ---- identifiers

level_most : (n : ℕ) → level_of n ≤ 30
unfolding level_of
level_most n = omega arith

is_cell_from : (n : ℕ) → IsCell n → is_cell n ≡ true
unfolding is_cell
is_cell_from n c =
    let o = own_place n c in
    and_from (nat_lt (place_of n) (6 * 4 ^ level_of n)) (nat_eq n (id_at (level_of n) (place_of n)))
    (is_below (place_of n) (6 * 4 ^ level_of n) o.place) (is_equal n (id_at (level_of n) (place_of n)) o.id)

cell_from_test : (n : ℕ) → is_cell n ≡ true → IsCell n
unfolding is_cell
cell_from_test n e =
    let p = and_both (nat_lt (place_of n) (6 * 4 ^ level_of n)) (nat_eq n (id_at (level_of n) (place_of n))) e in (
      level_of n,
      place_of n,
      record {
        level = level_most n;
        place = below_from (place_of n) (6 * 4 ^ level_of n) p.0;
        id =
            equal_from n (id_at (level_of n) (place_of n)) p.1;
      },
    )

-- ---- a number where a test holds

some_where : (b : Bool) (n m : ℕ) → b ≡ true → n ≡ m → cond b (Some n) None ≡ Some m
some_where true n m e f = ap Some f
some_where false n m e f = absurd (false≢true e)

none_where : (b : Bool) (n : ℕ) → (b ≡ true → ⊥) → cond b (Some n) None ≡ None
none_where true n h = absurd (h refl)
none_where false n h = refl

-- ---- the cell with an identifier

pub cell_with_some : (n : ℕ) → IsCell n → cell_with (Some n) ≡ Some n
cell_with_some n c = some_where (is_cell n) n n (is_cell_from n c) refl

pub cell_with_none : (n : ℕ) → (IsCell n → ⊥) → cell_with (Some n) ≡ None
cell_with_none n none = none_where (is_cell n) n (λ e. none (cell_from_test n e))

pub cell_with_above : (n : ℕ) → 2 ^ 64 ≤ n → cell_with (Some n) ≡ None
cell_with_above n h = cell_with_none n (λ c. let f = face_of_cell n c in omega arith)

-- whether there is a cell with an identifier
pub ruleset identified = (cell_with_some, cell_with_none, cell_with_above)

-- ---- tokens

pub token_some : (word : List ℕ) (n : ℕ) → IsReading word n → IsCell n → token_cell word ≡ Some n
unfolding token_cell
token_some word n r c =
    let long = and_from (nat_le (length word) 16) (list_all (λ b. is_digit b 16) word)
    (is_most (length word) 16 r.most) (are_digits 16 word r.digits) in
    let test = and_from (nat_le 1 (length word)) (nat_le (length word) 16 && list_all (λ b. is_digit b 16) word)
    (is_most 1 (length word) (let h = r.some in omega arith)) long in
    let cell : is_cell (padded_value word) ≡ true = subst (λ x. is_cell x ≡ true) (sym r.value) (is_cell_from n c) in
    some_where (is_hexadecimal word && is_cell (padded_value word)) (padded_value word) n
    (and_from (is_hexadecimal word) (is_cell (padded_value word)) test cell) r.value

reading_from : (word : List ℕ) → (is_hexadecimal word && is_cell (padded_value word)) ≡ true →
    IsReading word (padded_value word) × IsCell (padded_value word)
reading_from word e =
    let p = and_both (is_hexadecimal word) (is_cell (padded_value word)) e in
    let q = and_both (nat_le 1 (length word)) (nat_le (length word) 16 && list_all (λ b. is_digit b 16) word) p.0 in
    let r = and_both (nat_le (length word) 16) (list_all (λ b. is_digit b 16) word) q.1 in
    let some : 1 ≤ length word = most_from 1 (length word) q.0 in (
      record {
        some = omega arith;
        most = most_from (length word) 16 r.0;
        digits = digits_from 16 word r.1;
        value = refl;
      },
      cell_from_test (padded_value word) p.1,
    )

pub token_none : (word : List ℕ) → ((n : ℕ) → IsReading word n → IsCell n → ⊥) → token_cell word ≡ None
unfolding token_cell
token_none word none =
    none_where (is_hexadecimal word && is_cell (padded_value word)) (padded_value word)
    (λ e. let r = reading_from word e in none (padded_value word) r.0 r.1)

-- ---- debug texts

face_is : (n : ℕ) → face_of n ≡ place_of n / 4 ^ level_of n
unfolding face_of
face_is n = refl

face_below : (n : ℕ) → IsCell n → (face_of n < 6)
    × (place_of n ≡ face_of n * 4 ^ level_of n + place_of n % 4 ^ level_of n)
unfolding face_of
face_below n c =
    let o = own_place n c in
    let p : 0 < 4 ^ level_of n = four_pos (level_of n) in
    let h = o.place in
    let low : place_of n % 4 ^ level_of n < 4 ^ level_of n = omega arith in
    let split : place_of n ≡ place_of n / 4 ^ level_of n * 4 ^ level_of n + place_of n % 4 ^ level_of n = omega arith in
    (div_below (place_of n) (4 ^ level_of n) 6 p (omega arith), split)

pub debug_some : (word : List ℕ) (n : ℕ) → IsDebug word n → debug_cell word ≡ Some n
unfolding debug_cell
debug_some [] n d = let e : 0 ≡ level_of n + 2 = d.length_is in absurd (omega arith)
debug_some (face ∷ []) n d = let e = d.length_is in absurd (omega arith)
debug_some (face ∷ slash ∷ digits) n d =
    let o = own_place n d.cell in
    let f = face_below n d.cell in
    let long : length digits ≡ level_of n = let e = d.length_is in omega arith in
    let is : face ≡ face_of n + 48 = d.face in
    let value : digit_value face + 48 ≡ face = digit_value_digit face (omega arith, omega arith) in
    let first = is_below (digit_value face) 6 (omega arith) in
    let deep : length digits ≤ 30 = let l = o.level in omega arith in
    let rest = and_from (nat_le (length digits) 30) (list_all (λ b. is_digit b 4) digits)
    (is_most (length digits) 30 deep) (are_digits 4 digits d.digits) in
    let most = and_from (nat_eq slash 47) (nat_le (length digits) 30 && list_all (λ b. is_digit b 4) digits)
    (is_equal slash 47 d.slash) rest in
    let test = and_from (is_digit face 6) (nat_eq slash 47
    && (nat_le (length digits) 30 && list_all (λ b. is_digit b 4) digits)) first most in
    let v : digits_value 4 digits ≡ place_of n % 4 ^ level_of n = d.value in
    let bare : face - 48 ≡ face_of n = omega arith in
    let place : (face - 48) * 4 ^ length digits + digits_value 4 digits ≡ place_of n = rw (long, bare, v) (sym f.1) in
    let same : cell_below face digits ≡ n = ap (λ m. id_at (length digits) m) place
    ∙ ap (λ k. id_at k (place_of n)) long ∙ sym o.id in
    some_where (is_face_and_digits face slash digits) (cell_below face digits) n test same

debug_from : (face slash : ℕ) (digits : List ℕ) → is_face_and_digits face slash digits ≡ true →
    IsDebug (face ∷ slash ∷ digits) (cell_below face digits)
debug_from face slash digits e =
    let p = and_both (is_digit face 6) (nat_eq slash 47
    && (nat_le (length digits) 30 && list_all (λ b. is_digit b 4) digits)) e in
    let q = and_both (nat_eq slash 47) (nat_le (length digits) 30 && list_all (λ b. is_digit b 4) digits) p.1 in
    let r = and_both (nat_le (length digits) 30) (list_all (λ b. is_digit b 4) digits) q.1 in
    let small : digit_value face < 6 = below_from (digit_value face) 6 p.0 in
    let range = digit_from_value face (omega arith) in
    let whole : digit_value face + 48 ≡ face = digit_value_digit face range in
    let k = length digits in
    let v = digits_value 4 digits in
    let n = cell_below face digits in
    let pos : 0 < 4 ^ k = four_pos k in
    let all = digits_from 4 digits r.1 in
    let below : v < 4 ^ k = digits_value-lt 4 digits all in
    let five : (face - 48) * 4 ^ k ≤ 5 * 4 ^ k = mul-le-mul_right (4 ^ k) (omega arith) in
    let at : IsCellAt k ((face - 48) * 4 ^ k + v) n =
    record { level = most_from k 30 r.0; place = omega arith; id = refl } in
    let level : level_of n ≡ k = level_of_cell k ((face - 48) * 4 ^ k + v) n at in
    let place : place_of n ≡ (face - 48) * 4 ^ k + v = place_of_cell k ((face - 48) * 4 ^ k + v) n at in
    let over : ((face - 48) * 4 ^ k + v) / 4 ^ k ≡ face - 48 =
    div-eq_of_lt-le {k = face - 48} (4 ^ k) (omega arith) (omega arith) in
    let left : ((face - 48) * 4 ^ k + v) % 4 ^ k ≡ v = mod-mul-add (face - 48) (4 ^ k) v below in
    record {
      cell = (k, (face - 48) * 4 ^ k + v, at);
      length_is = rw level (omega arith);
      face = let f : place_of n / 4 ^ level_of n ≡ face - 48 = rw (level, place) over in let g = face_is n in
          omega arith;
      slash = equal_from slash 47 q.0;
      digits = all;
      value = rw (level, place, left) refl;
    }

pub debug_none : (word : List ℕ) → ((n : ℕ) → IsDebug word n → ⊥) → debug_cell word ≡ None
unfolding debug_cell
debug_none [] none = refl
debug_none (face ∷ []) none = refl
debug_none (face ∷ slash ∷ digits) none = none_where (is_face_and_digits face slash digits)
    (cell_below face digits) (λ e. none (cell_below face digits) (debug_from face slash digits e))

-- ---- either

none_either : (b : Bool) (debug token : Option ℕ) → None ≡ debug → None ≡ token → None ≡ cond b debug token
none_either true debug token e f = e
none_either false debug token e f = f

no_slash : (word : List ℕ) → AllDigits 16 word → has_slash word ≡ false
no_slash [] a = refl
no_slash (b ∷ bs) a =
    let slash : digit_value 47 ≡ 36 = refl in
    ⊎_elim
    (λ (yes : nat_eq b 47 ≡ true).
    let low : digit_value 47 < 16 = subst (λ x. digit_value x < 16) (equal_from b 47 yes) a.0 in
    absurd (omega arith))
    (λ (no : nat_eq b 47 ≡ false). ap (λ t. t || has_slash bs) no ∙ no_slash bs a.1)
    (cases_Bool (nat_eq b 47))

a_slash : (word : List ℕ) (n : ℕ) → IsDebug word n → has_slash word ≡ true
a_slash word n d = list_any_at (λ b. nat_eq b 47) word 1 0 (omega (arith, d.length_is)) (is_equal _ 47 d.slash)

-- a word that is read as a token has no slash
pub named_by_token : (word : List ℕ) (n : ℕ) → IsReading word n → Some n ≡ token_cell word → Some n ≡ cell_named word
unfolding cell_named
named_by_token word n r e =
    e ∙ sym (ap (λ b. cond b (debug_cell word) (token_cell word)) (no_slash word r.digits))

-- a word that names no cell as a token names what its debug text does
pub named_by_debug : (word : List ℕ) (found : Option ℕ) → None ≡ token_cell word → found ≡ debug_cell word
    → MatchOption found ((n : ℕ) → IsDebug word n → ⊥) (λ n. IsDebug word n) → found ≡ cell_named word
unfolding cell_named
named_by_debug word None token e none = none_either (has_slash word) (debug_cell word) (token_cell word) e token
named_by_debug word (Some n) token e d =
    e ∙ sym (ap (λ b. cond b (debug_cell word) (token_cell word)) (a_slash word n d))

pub names_by_debug : (word : List ℕ) (found : Option ℕ) → ((n : ℕ) → IsReading word n × IsCell n → ⊥)
    → MatchOption found ((n : ℕ) → IsDebug word n → ⊥) (λ n. IsDebug word n)
    → MatchOption found ((n : ℕ) → NamesCell word n → ⊥) (λ n. NamesCell word n)
names_by_debug word None token none = λ n. ⊎_elim (token n) (none n)
names_by_debug word (Some n) token d = inr d
