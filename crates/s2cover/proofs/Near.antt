-- What a set shares with a union, by the cells of the union that lie near it.
use Rattle.std.proofs.Common.{◌≡◌, ℕ, ◌+◌, ◌-◌, ◌<◌, ◌≤◌, Bool, true, false, ◌&&◌, cond, List, [], ◌∷◌, ◌++◌, length}
use Rattle.std.proofs.Common.{◌||◌, get_or, take, drop, refl, sym, ◌∙◌, ap, arith, subst, ⊎_elim, All, suc}
use Rattle.std.specs.List.{filter, list_any}
use Rattle.std.proofs.lemmas.Bool.{and_from, and_parts, le-leb, or_cases, or_left, or_right}
use Rattle.std.proofs.lemmas.List.{append_assoc, append-nil, get_or-drop, get_or-take}
use Rattle.std.proofs.lemmas.List.{get_or_default, length-drop, length-take-le, take_all}
use Rattle.std.proofs.lemmas.List.Elements.{filter-append, filter_more}
use Rattle.std.proofs.lemmas.List.Folds.{Any-from_list_any, list_any-append, list_any_at, list_any_more}
use Rattle.s2cell.specs.Cell.{IsCell, covers, level_of}
use Rattle.s2cell.proofs.Calls.{shallow}
use Rattle.s2list.specs.Search.{IsRunAt}
use Rattle.s2list.specs.Union.{IsWithin, ShareSome, has_leaf}
use Rattle.s2cover.specs.Cut.{cells_kept, reaches}
use Rattle.s2cover.specs.Coverings.{outer_set}
use Rattle.s2cover.specs.Working.Cut.{cells_met, meets}
use Rattle.s2cover.proofs.Clips.{met_true, outer_same}
use Rattle.s2cover.proofs.OwnCells.{filter_any}
use Rattle.s2cover.proofs.Squares.{same_bool}

-- ---- the numbers that are added

kept_met : (p : ℕ → Bool) (b : Bool) (c : ℕ) → filter p (cond b (c ∷ []) []) ≡ cond (b && p c) (c ∷ []) []
kept_met p true c = refl
kept_met p false c = refl

-- the next of the numbers from a place on
met_next : (S : ℕ → Bool) (level : ℕ) (u : List ℕ) (first count k c : ℕ) → first + count ≤ length u → k < count →
    c ≡ get_or u (first + k) 0 → cells_met S (cells_kept level (take (k + 1) (drop first u)))
    ≡ cells_met S (cells_kept level (take k (drop first u))) ++ cond (reaches level c && meets S c) (c ∷ []) []
met_next S level u first count k c within h is =
    let left = length-drop first u in
    let front = cells_kept level (take k (drop first u)) in
    let e : get_or (drop first u) k 0 ≡ c = get_or-drop first u k 0 ∙ sym is in
    ap (cells_met S) (filter_more (reaches level) (drop first u) k 0 (omega arith))
    ∙ ap (λ d. cells_met S (front ++ cond (reaches level d) (d ∷ []) [])) e
    ∙ filter-append (meets S) front (cond (reaches level c) (c ∷ []) [])
    ∙ ap (λ v. cells_met S front ++ v) (kept_met (meets S) (reaches level c) c)

-- it is added, or left out
pub met_taken : (S : ℕ → Bool) (level : ℕ) (u front : List ℕ) {list : List ℕ} (first count k c : ℕ) →
    first + count ≤ length u → k < count → c ≡ get_or u (first + k) 0 → (reaches level c && meets S c) ≡ true →
    list ≡ front ++ cells_met S (cells_kept level (take k (drop first u))) →
    list ++ c ∷ [] ≡ front ++ cells_met S (cells_kept level (take (k + 1) (drop first u)))
met_taken S level u front first count k c within h is passes e =
    let so_far = cells_met S (cells_kept level (take k (drop first u))) in
    ap (λ v. v ++ c ∷ []) e ∙ append_assoc front so_far (c ∷ []) ∙ ap (λ v. front ++ v)
    (sym (met_next S level u first count k c within h is ∙ ap (λ b. so_far ++ cond b (c ∷ []) []) passes))

pub met_left : (S : ℕ → Bool) (level : ℕ) (u front : List ℕ) {list : List ℕ} (first count k c : ℕ) →
    first + count ≤ length u → k < count → c ≡ get_or u (first + k) 0 → (reaches level c && meets S c) ≡ false →
    list ≡ front ++ cells_met S (cells_kept level (take k (drop first u))) →
    list ≡ front ++ cells_met S (cells_kept level (take (k + 1) (drop first u)))
met_left S level u front first count k c within h is fails e =
    let so_far = cells_met S (cells_kept level (take k (drop first u))) in
    e ∙ ap (λ v. front ++ v) (sym (met_next S level u first count k c within h is
    ∙ ap (λ b. so_far ++ cond b (c ∷ []) []) fails ∙ append-nil so_far))

-- all numbers of a list, added to none
pub added_all : (S : ℕ → Bool) (level n : ℕ) (u v front list : List ℕ) → v ≡ u → front ≡ [] → length v ≤ n →
    All IsCell u → (All IsCell v → list ≡ front ++ cells_met S (cells_kept level (take n (drop 0 v)))) →
    list ≡ cells_met S (cells_kept level u)
added_all S level n u v front list same none h cells e =
    e (subst (All IsCell) (sym same) cells)
    ∙ ap (λ w. w ++ cells_met S (cells_kept level (take n v))) none
    ∙ ap (λ w. cells_met S (cells_kept level w)) (take_all n v h ∙ same)

-- ---- the cells in the cells around a set

near_at : (u : List ℕ) (first count k : ℕ) → k < count → get_or (take count (drop first u)) k 0 ≡ get_or u (first + k) 0
near_at u first count k h = get_or-take count (drop first u) k 0 h ∙ get_or-drop first u k 0

-- if one of a run of cells passes a test, one of all does
any_of_run : (p : ℕ → Bool) (u : List ℕ) (first count : ℕ) → first + count ≤ length u →
    list_any p (take count (drop first u)) ≡ true → list_any p u ≡ true
any_of_run p u first count within t =
    let run = take count (drop first u) in
    let left = length-drop first u in
    let len = length-take-le count (drop first u) (omega arith) in
    let (i, d, below, at, holds) = Any-from_list_any p run t in
    let e : get_or u (first + i) 0 ≡ d = sym (near_at u first count i (omega arith)) ∙ get_or_default run i 0 d below
    ∙ at in
    list_any_at p u (first + i) 0 (omega arith) (ap p e ∙ holds)

-- if one of all passes, and what passes shares a leaf with the cell of the run, one of the run does
any_in_run : (p : ℕ → Bool) (u : List ℕ) {c first count : ℕ} → IsRunAt u c first count →
    ((d : ℕ) → p d ≡ true → ShareSome (covers c) (covers d)) → list_any p u ≡ true →
    list_any p (take count (drop first u)) ≡ true
any_in_run p u {c} {first} {count} run shares t =
    let near = take count (drop first u) in
    let within = run.within in
    let left = length-drop first u in
    let len = length-take-le count (drop first u) (omega arith) in
    let (i, d, below, at, holds) = Any-from_list_any p u t in
    let own : get_or u i 0 ≡ d = get_or_default u i 0 d below ∙ at in
    let there = (run.members i below).1 (subst (λ z. ShareSome (covers c) (covers z)) (sym own) (shares d holds)) in
    let after = there.0 in let before = there.1 in
    let k = i - first in
    let place : first + k ≡ i = omega arith in
    let e : get_or near k 0 ≡ d = near_at u first count k (omega arith) ∙ ap (λ n. get_or u n 0) place ∙ own in
    list_any_at p near k 0 (omega arith) (ap p e ∙ holds)

-- of the set, the cells `list` have no more than those of `u` down to the level have, and all that these have in the
-- cells `around`
pub record HasNear (S : ℕ → Bool) (level : ℕ) (u around list : List ℕ) : Type 0 where
  pub from : (x : ℕ) → S x ≡ true → has_leaf list x ≡ true → has_leaf (cells_kept level u) x ≡ true
  pub all : (x : ℕ) → S x ≡ true → has_leaf around x ≡ true → has_leaf (cells_kept level u) x ≡ true →
      has_leaf list x ≡ true

-- the cells that meet the set, of those that share a leaf with one more cell around it
pub near_more : (S : ℕ → Bool) (level : ℕ) (u around : List ℕ) {list : List ℕ} (i d : ℕ) {c first count : ℕ} →
    i < length around → c ≡ get_or around i d → IsRunAt u c first count → HasNear S level u (take i around) list →
    HasNear S level u (take (i + 1) around) (list ++ cells_met S (cells_kept level (take count (drop first u))))
near_more S level u around {list} i d {c} {first} {count} h at run n =
    let is : c ≡ get_or around i 0 = at ∙ get_or_default around i d 0 h in
    let near = take count (drop first u) in
    let kept = cells_kept level near in
    let met = cells_met S kept in
    let test : ℕ → ℕ → Bool = λ x d. reaches level d && covers d x in
    let both : (x : ℕ) → has_leaf (list ++ met) x ≡ (has_leaf list x || has_leaf met x) = λ x.
    list_any-append (λ d. covers d x) list met in
    let more : (x : ℕ) → has_leaf (take (i + 1) around) x ≡ (has_leaf (take i around) x || covers c x) = λ x.
    list_any_more (λ d. covers d x) around i 0 h ∙ ap (λ d. has_leaf (take i around) x || covers d x) (sym is) in
    record {
      from = λ x s t. ⊎_elim
          (n.from x s)
          (λ (a : has_leaf met x ≡ true). filter_any (reaches level) x u
          ∙ any_of_run (test x) u first count run.within
          (sym (filter_any (reaches level) x near) ∙ sym (met_true S x s kept) ∙ a))
          (or_cases (has_leaf list x) (has_leaf met x) (sym (both x) ∙ t));
      all = λ x s a t. both x ∙ ⊎_elim
          (λ (b : has_leaf (take i around) x ≡ true). or_left (has_leaf list x) (has_leaf met x) (n.all x s b t))
          (λ (b : covers c x ≡ true). or_right (has_leaf list x) (has_leaf met x)
          (met_true S x s kept ∙ filter_any (reaches level) x near
          ∙ any_in_run (test x) u run (λ d e. (x, b, (and_parts (reaches level d) (covers d x) e).1))
          (sym (filter_any (reaches level) x u) ∙ t)))
          (or_cases (has_leaf (take i around) x) (covers c x) (sym (more x) ∙ a));
    }

-- a cell around the set that is the one before it
pub near_same : (S : ℕ → Bool) (level : ℕ) (u around list : List ℕ) (i : ℕ) → i < length around → 0 < i →
    get_or around i 0 ≡ get_or around (i - 1) 0 → HasNear S level u (take i around) list →
    HasNear S level u (take (i + 1) around) list
near_same S level u around list i h some same n = record {
  from = n.from;
  all = λ x s a t.
      let more = list_any_more (λ d. covers d x) around i 0 h in
      let len = length-take-le i around (omega arith) in
      n.all x s (⊎_elim
      (λ (b : has_leaf (take i around) x ≡ true). b)
      (λ (b : covers (get_or around i 0) x ≡ true). list_any_at (λ d. covers d x) (take i around) (i - 1) 0
      (omega arith) (ap (λ d. covers d x) (get_or-take i around (i - 1) 0 (omega arith) ∙ sym same) ∙ b))
      (or_cases (has_leaf (take i around) x) (covers (get_or around i 0) x) (sym more ∙ a))) t;
}

-- the cells around the set have all of it
pub near_all : (S : ℕ → Bool) {level : ℕ} (u : List ℕ) {around list : List ℕ} → HasNear S level u around list →
    IsWithin S (has_leaf around) → (x : ℕ) → (has_leaf list x && S x) ≡ (has_leaf (cells_kept level u) x && S x)
near_all S {level} u {around} {list} n within x =
    let kept = cells_kept level u in
    same_bool (has_leaf list x && S x) (has_leaf kept x && S x)
    (λ t. let both = and_parts (has_leaf list x) (S x) t in
    and_from (has_leaf kept x) (S x) (n.from x both.1 both.0) both.1)
    (λ t. let both = and_parts (has_leaf kept x) (S x) t in
    and_from (has_leaf list x) (S x) (n.all x both.1 (within x both.1) both.0) both.1)

-- ---- the level of leaves leaves out no cell

kept_here : (c : ℕ) (u v : List ℕ) → level_of c ≤ 30 → v ≡ u → cond (reaches 30 c) (c ∷ v) v ≡ c ∷ u
kept_here c u v h e = ap (λ b. cond b (c ∷ v) v) (le-leb (level_of c) 30 h) ∙ ap (λ w. c ∷ w) e

pub kept_all : (u : List ℕ) → All IsCell u → cells_kept 30 u ≡ u
kept_all [] all = refl
kept_all (c ∷ u) all = kept_here c u (cells_kept 30 u) (shallow c (all 0 c (omega arith)))
    (kept_all u (λ i d h. all (suc i) d (omega arith)))

-- so what has the cells of a union down to that level has all of it
pub outer_near : (k : ℕ) (u v : List ℕ) (S : ℕ → Bool) → k ≤ 30 → All IsCell u →
    ((x : ℕ) → (has_leaf v x && S x) ≡ (has_leaf (cells_kept 30 u) x && S x)) →
    (x : ℕ) → outer_set (λ y. has_leaf v y && S y) k x ≡ outer_set (λ y. has_leaf u y && S y) k x
outer_near k u v S h all e x = outer_same (λ y. has_leaf v y && S y) (λ y. has_leaf u y && S y) k x h
    (λ y. e y ∙ ap (λ w. has_leaf w y && S y) (kept_all u all))
