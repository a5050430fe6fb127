-- How often leaves are covered, and cells listed.
use Rattle.std.proofs.Common.{◌≡◌, ◌≢◌, ℕ, ◌+◌, ◌≤◌, Bool, true, false, ◌||◌, cond, nat_eq, List, [], ◌∷◌, ◌++◌}
use Rattle.std.proofs.Common.{map, take, drop, All, AllPairs, Contains, refl, sym, ◌∙◌, ap, arith, subst, ⊎_elim}
use Rattle.std.proofs.lemmas.Bool.{both_ways, eqb-true, or_left, or_right, or_cases}
use Rattle.std.proofs.lemmas.List.{take-append-drop}
use Rattle.std.proofs.lemmas.Bool.Decides.{nat_tests}
use Rattle.std.proofs.lemmas.List.Elements.{All-contains, All-contains_itself, All-head, All-tail, All-weaker}
use Rattle.std.proofs.lemmas.List.Elements.{Contains-append_left, Contains-append_right}
use Rattle.std.proofs.lemmas.List.Folds.{Any-from_list_any, list_any-append, list_any-from_Any}
use Rattle.std.proofs.lemmas.Map.Made.{Contains-tail}
use Rattle.std.proofs.lemmas.List.Kept.{AllPairs-cons}
use Rattle.std.proofs.lemmas.List.Sums.{sum_by-append, sum_by-cons, sum_by_push}
use Rattle.s2cell.specs.Cell.{IsCell, covers, first_leaf}
use Rattle.s2cell.proofs.Squares.{first_leaf_covered}
use Rattle.s2list.specs.Union.{ShareNone}
use Rattle.s2cover.specs.Working.Splitting.{any_covers, listed, times, times_by}

pub bit_on : (b : Bool) → b ≡ true → cond {A = ℕ} b 1 0 ≡ 1
bit_on true h = refl
bit_on false h = absurd (both_ways false refl h)

pub bit_off : (b : Bool) → b ≡ false → cond {A = ℕ} b 1 0 ≡ 0
bit_off false h = refl
bit_off true h = absurd (both_ways true h refl)

-- an item that covers a leaf, and is like the others
pub record Found {A : Type 0} (P : A → Type 0) (cell : A → ℕ) (u : List A) (x : ℕ) : Type 0 where
  pub item : A
  pub member : Contains u item
  pub holds : P item
  pub has : covers (cell item) x ≡ true

pub found : {A : Type 0} (P : A → Type 0) (cell : A → ℕ) (u : List A) (x : ℕ) → All P u → any_covers cell u x ≡ true →
    Found P cell u x
found P cell u x all h =
    let r = Any-from_list_any (λ item. covers (cell item) x) u h in
    let m : Contains u r.1 = (r.0, r.2, r.3) in
    record { item = r.1; member = m; holds = All-contains P u r.1 all m; has = r.4 }

pub times-append : {A : Type 0} (cell : A → ℕ) (u v : List A) (x : ℕ) →
    times_by cell (u ++ v) x ≡ times_by cell u x + times_by cell v x
times-append cell u v x = sum_by-append (λ item. cond (covers (cell item) x) 1 0) u v

pub times-cons : {A : Type 0} (cell : A → ℕ) (a : A) (u : List A) (x : ℕ) →
    times_by cell (a ∷ u) x ≡ cond (covers (cell a) x) 1 0 + times_by cell u x
times-cons cell a u x = sum_by-cons (λ item. cond (covers (cell item) x) 1 0) a u

pub times-push : {A : Type 0} (cell : A → ℕ) (u : List A) (a : A) (x : ℕ) →
    times_by cell (u ++ a ∷ []) x ≡ times_by cell u x + cond (covers (cell a) x) 1 0
times-push cell u a x = sum_by_push (λ item. cond (covers (cell item) x) 1 0) u a

pub times-map : {A : Type 0} (cell : A → ℕ) (u : List A) (x : ℕ) → times (map cell u) x ≡ times_by cell u x
times-map cell [] x = refl
times-map cell (a ∷ u) x = times-cons (λ c. c) (cell a) (map cell u) x
    ∙ ap (λ (n : ℕ). cond (covers (cell a) x) 1 0 + n) (times-map cell u x) ∙ sym (times-cons cell a u x)

pub times-take : {A : Type 0} (cell : A → ℕ) (n : ℕ) (u : List A) (x : ℕ) → times_by cell (take n u) x ≤ times_by cell u
    x
times-take cell n u x =
    let e = sym (times-append cell (take n u) (drop n u) x) ∙ ap (λ v. times_by cell v x) (take-append-drop n u) in
    omega arith

-- a leaf that an item covers
pub times_some : {A : Type 0} (cell : A → ℕ) (u : List A) (x : ℕ) → any_covers cell u x ≡ true → 1 ≤ times_by cell u x
times_some cell [] x h = absurd (both_ways false refl h)
times_some cell (a ∷ u) x h =
    let e = times-cons cell a u x in
    ⊎_elim
    (λ (w : any_covers cell (a ∷ []) x ≡ true). ⊎_elim
    (λ (v : covers (cell a) x ≡ true). let b = bit_on (covers (cell a) x) v in omega arith)
    (λ (v : false ≡ true). absurd (both_ways false refl v))
    (or_cases (covers (cell a) x) false w))
    (λ (w : any_covers cell u x ≡ true). let r = times_some cell u x w in omega arith)
    (or_cases (any_covers cell (a ∷ []) x) (any_covers cell u x)
    (sym (list_any-append (λ i. covers (cell i) x) (a ∷ []) u) ∙ h))

pub some_times : {A : Type 0} (cell : A → ℕ) (u : List A) (x : ℕ) → 1 ≤ times_by cell u x → any_covers cell u x ≡ true
some_times cell [] x h = absurd (omega arith)
some_times cell (a ∷ u) x h =
    let e = times-cons cell a u x in
    list_any-append (λ i. covers (cell i) x) (a ∷ []) u ∙ by_first (covers (cell a) x) refl e (some_times cell u x)
  where
    by_first : (b : Bool) → b ≡ covers (cell a) x →
        times_by cell (a ∷ u) x ≡ cond (covers (cell a) x) 1 0 + times_by cell u x →
        (1 ≤ times_by cell u x → any_covers cell u x ≡ true) →
        (any_covers cell (a ∷ []) x || any_covers cell u x) ≡ true
    by_first true t e rest = or_left (any_covers cell (a ∷ []) x) (any_covers cell u x)
        (or_left (covers (cell a) x) false (sym t))
    by_first false t e rest =
        let z = bit_off (covers (cell a) x) (sym t) in
        or_right (any_covers cell (a ∷ []) x) (any_covers cell u x) (rest (omega arith))

-- an item of the list that covers the leaf
pub member_covers : {A : Type 0} (cell : A → ℕ) (u : List A) (a : A) (x : ℕ) → Contains u a →
    covers (cell a) x ≡ true → any_covers cell u x ≡ true
member_covers cell u a x m v = list_any-from_Any (λ i. covers (cell i) x) u (m.0, a, m.1, m.2, v)

pub member_times : {A : Type 0} (cell : A → ℕ) (u : List A) (a : A) (x : ℕ) → Contains u a →
    covers (cell a) x ≡ true → 1 ≤ times_by cell u x
member_times cell u a x m v = times_some cell u x (member_covers cell u a x m v)

pub all_from : {A : Type 0} (P : A → Type 0) (u : List A) → ((a : A) → Contains u a → P a) → All P u
all_from P u f = All-weaker (Contains u) P f u (All-contains_itself u)

pub all_left : {A : Type 0} (P : A → Type 0) (u v : List A) → All P (u ++ v) → All P u
all_left P u v all = all_from P u (λ a m. All-contains P (u ++ v) a all (Contains-append_left u v a m))

pub all_right : {A : Type 0} (P : A → Type 0) (u v : List A) → All P (u ++ v) → All P v
all_right P u v all = all_from P v (λ a m. All-contains P (u ++ v) a all (Contains-append_right u v a m))

-- cells no two of which have one leaf
pub apart_from : (u : List ℕ) → ((x : ℕ) → times u x ≤ 1) → AllPairs ShareNone u
apart_from [] h = λ i j d a b. absurd (omega arith)
apart_from (c ∷ u) h = AllPairs-cons ShareNone c u
    (all_from (ShareNone c) u (λ d m x v w.
    let e = times-cons (λ n. n) c u x in
    let b = bit_on (covers c x) v in
    let t = member_times (λ n. n) u d x m w in
    let l = h x in
    absurd (omega arith)))
    (apart_from u (λ x. let e = times-cons (λ n. n) c u x in let l = h x in omega arith))

-- ---- how often cells are listed

pub listed-append : (u v : List ℕ) (c : ℕ) → listed (u ++ v) c ≡ listed u c + listed v c
listed-append u v c = sum_by-append (λ d. cond (nat_eq d c) 1 0) u v

listed-cons : (d : ℕ) (u : List ℕ) (c : ℕ) → listed (d ∷ u) c ≡ cond (nat_eq d c) 1 0 + listed u c
listed-cons d u c = sum_by-cons (λ d. cond (nat_eq d c) 1 0) d u

-- a cell that is listed is like the others
pub listed_is : (P : ℕ → Type 0) (u : List ℕ) (c : ℕ) → All P u → 1 ≤ listed u c → P c
listed_is P [] c all h = absurd (omega arith)
listed_is P (d ∷ u) c all h = by_first (nat_eq d c) refl (listed-cons d u c) (listed_is P u c (All-tail P d u all))
  where
    by_first : (b : Bool) → b ≡ nat_eq d c → listed (d ∷ u) c ≡ cond (nat_eq d c) 1 0 + listed u c →
        (1 ≤ listed u c → P c) → P c
    by_first true t e rest = subst P (eqb-true d c (sym t)) (All-head P d u all)
    by_first false t e rest = let z = bit_off (nat_eq d c) (sym t) in rest (omega arith)

-- a cell is listed no more often than its first leaf is covered
pub listed_times : (u : List ℕ) (c : ℕ) → All IsCell u → listed u c ≤ times u (first_leaf c)
listed_times [] c all = omega arith
listed_times (d ∷ u) c all = by_first (nat_eq d c) refl (listed_times u c (All-tail IsCell d u all))
  where
    by_first : (b : Bool) → b ≡ nat_eq d c → listed u c ≤ times u (first_leaf c) →
        listed (d ∷ u) c ≤ times (d ∷ u) (first_leaf c)
    by_first true t r =
        let e = listed-cons d u c in
        let f = times-cons (λ n. n) d u (first_leaf c) in
        let same : d ≡ c = eqb-true d c (sym t) in
        let own = subst (λ n. covers d (first_leaf n) ≡ true) same (first_leaf_covered d (All-head IsCell d u all)) in
        let b = bit_on (covers d (first_leaf c)) own in
        let a = bit_on (nat_eq d c) (sym t) in
        omega arith
    by_first false t r =
        let e = listed-cons d u c in
        let f = times-cons (λ n. n) d u (first_leaf c) in
        let a = bit_off (nat_eq d c) (sym t) in
        omega arith

member_listed : (u : List ℕ) (c : ℕ) → Contains u c → 1 ≤ listed u c
member_listed [] c m = absurd (let l = m.1 in omega arith)
member_listed (d ∷ u) c m = by_first (nat_eq d c) refl (member_listed u c)
  where
    by_first : (b : Bool) → b ≡ nat_eq d c → (Contains u c → 1 ≤ listed u c) → 1 ≤ listed (d ∷ u) c
    by_first true t rest =
        let e = listed-cons d u c in
        let a = bit_on (nat_eq d c) (sym t) in
        omega arith
    by_first false t rest =
        let e = listed-cons d u c in
        let other : d ≡ c → ⊥ = (λ s. both_ways (nat_eq d c) (sym t) (grind (arith, nat_tests))) in
        let r = rest (Contains-tail d u c other m) in
        omega arith

-- cells none of which is listed twice
pub once_from : (u : List ℕ) → ((c : ℕ) → listed u c ≤ 1) → AllPairs ◌≢◌ u
once_from [] h = λ i j d a b. absurd (omega arith)
once_from (c ∷ u) h = AllPairs-cons ◌≢◌ c u
    (all_from (λ d. c ≢ d) u (λ d m same.
    let e = listed-cons c u d in
    let own : nat_eq c d ≡ true = grind (arith, nat_tests) in
    let b = bit_on (nat_eq c d) own in
    let t = member_listed u d m in
    let l = h d in
    omega arith))
    (once_from u (λ d. let e = listed-cons c u d in let l = h d in omega arith))
