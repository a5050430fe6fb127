-- The leaves of two lists of cells, merged in order.
use Rattle.std.proofs.Common.{◌≡◌, ℕ, ◌+◌, ◌-◌, ◌*◌, ◌<◌, ◌≤◌, refl, sym, ◌∙◌, ap, arith, Bool, true}
use Rattle.std.proofs.Common.{false, ◌||◌, List, length, get_or, take, drop, All, nat_cmp, is_lt}
use Rattle.std.proofs.Math.Bool.{or_comm}
use Rattle.std.proofs.lemmas.Bool.Decides.{nat_tests}
use Rattle.std.proofs.lemmas.List.Elements.{All-weaker}
use Rattle.std.proofs.lemmas.List.{take_all, take-append-drop, length-drop}
use Rattle.std.proofs.lemmas.List.Folds.{list_any_more, list_any-append}
use Rattle.std.specs.List.{list_any}
use Rattle.s2cell.specs.Cell.{first_leaf, covers}
use Rattle.s2list.specs.Union.{has_leaf, IsLocal}
use Rattle.s2list.specs.Packed.{IsPacked}
use Rattle.s2list.proofs.Packing.{read_at}

-- the cells of `u` begin before the middle of the cell `n`
abbrev pub Start : List ℕ → ℕ → Type 0
Start u n = All (λ c. 2 * first_leaf c < n) u

-- the first i cells of `cells` are merged with `old` into `list`
pub record Adding (old cells list : List ℕ) (i : ℕ) : Type 0 where
  pub packed : IsPacked list
  pub leaves : (x : ℕ) → has_leaf list x ≡ (has_leaf old x || has_leaf (take i cells) x)
  pub start : i < length cells → Start list (get_or cells i 0)
  pub later : (n : ℕ) → Start old n → All (λ c. c < n) cells → Start list n

-- the first i cells of xs and the first j of ys are merged into `list`
pub record Uniting (xs ys list : List ℕ) (i j : ℕ) : Type 0 where
  pub packed : IsPacked list
  pub leaves : (x : ℕ) → has_leaf list x ≡ (has_leaf (take i xs) x || has_leaf (take j ys) x)
  pub start_x : i < length xs → Start list (get_or xs i 0)
  pub start_y : j < length ys → Start list (get_or ys j 0)

pub or_last : (a b c : Bool) → ((a || b) || c) ≡ ((a || c) || b)
or_last true b c = refl
or_last false b c = or_comm b c

pub uniting_swap : {xs ys list : List ℕ} {i j : ℕ} → Uniting xs ys list i j → Uniting ys xs list j i
uniting_swap {xs} {ys} {i} {j} s = record {
  packed = s.packed;
  leaves = λ x. s.leaves x ∙ or_comm (has_leaf (take i xs) x) (has_leaf (take j ys) x);
  start_x = s.start_y;
  start_y = s.start_x;
}

-- the next cell of xs is added, which is no later than the next of ys
pub unite_x : {xs ys list new : List ℕ} {i j : ℕ} (x : ℕ) → IsLocal xs →
    Uniting xs ys list i j → i < length xs → x ≡ get_or xs i x → (j < length ys → x ≤ get_or ys j 0) → IsPacked new →
    Start new x → ((n : ℕ) → has_leaf new n ≡ (has_leaf list n || covers x n)) → Uniting xs ys new (i + 1) j
unite_x {xs} {ys} {new} {i} {j} x lx s h rx le packed start leaves =
    let ex : get_or xs i 0 ≡ x = read_at xs i i x h refl rx in
    record {
      packed = packed;
      leaves = λ n.
          let p = λ (c : ℕ). covers c n in
          let more : list_any p (take (i + 1) xs) ≡ (list_any p (take i xs) || p (get_or xs i 0)) =
          list_any_more p xs i 0 h in
          leaves n ∙ ap (λ v. v || covers x n) (s.leaves n)
          ∙ or_last (has_leaf (take i xs) n) (has_leaf (take j ys) n) (covers x n)
          ∙ ap (λ v. (has_leaf (take i xs) n || covers v n) || has_leaf (take j ys) n) (sym ex)
          ∙ ap (λ v. v || has_leaf (take j ys) n) (sym more);
      start_x = λ g.
          let up : get_or xs i 0 < get_or xs (i + 1) 0 = lx.ascending i g in
          All-weaker (λ c. 2 * first_leaf c < x) (λ c. 2 * first_leaf c < get_or xs (i + 1) 0) (λ c b. omega arith)
          new start;
      start_y = λ g.
          let up = le g in
          All-weaker (λ c. 2 * first_leaf c < x) (λ c. 2 * first_leaf c < get_or ys j 0) (λ c b. omega arith) new start;
    }

pub unite_y : {xs ys list new : List ℕ} {i j : ℕ} (y : ℕ) → IsLocal ys →
    Uniting xs ys list i j → j < length ys → y ≡ get_or ys j y → (i < length xs → y ≤ get_or xs i 0) → IsPacked new →
    Start new y → ((n : ℕ) → has_leaf new n ≡ (has_leaf list n || covers y n)) → Uniting xs ys new i (j + 1)
unite_y {xs} {ys} {list} {new} {i} {j} y ly s h ry le packed start leaves =
    uniting_swap (unite_x y ly (uniting_swap s) h ry le packed start leaves)

-- the rest of one list, if the other has ended
pub uniting_rest : {xs ys list : List ℕ} (new : List ℕ) {i j : ℕ} → Uniting xs ys list i j → i ≤ length xs →
    length ys ≤ j → ((x : ℕ) → has_leaf new x ≡ (has_leaf list x || has_leaf (take (length xs - i) (drop i xs)) x)) →
    (x : ℕ) → has_leaf new x ≡ (has_leaf xs x || has_leaf ys x)
uniting_rest {xs} {ys} {list} new {i} {j} s within b leaves x =
    let ey : take j ys ≡ ys = take_all j ys b in
    let parts : has_leaf xs x ≡ (has_leaf (take i xs) x || has_leaf (drop i xs) x) =
    ap (λ v. has_leaf v x) (sym (take-append-drop i xs))
    ∙ list_any-append (λ (c : ℕ). covers c x) (take i xs) (drop i xs) in
    let whole : take (length xs - i) (drop i xs) ≡ drop i xs =
    take_all (length xs - i) (drop i xs) (let len = length-drop i xs in omega arith) in
    leaves x ∙ ap (λ v. has_leaf list x || has_leaf v x) whole ∙ ap (λ v. v || has_leaf (drop i xs) x) (s.leaves x)
    ∙ ap (λ v. (has_leaf (take i xs) x || has_leaf v x) || has_leaf (drop i xs) x) ey
    ∙ or_last (has_leaf (take i xs) x) (has_leaf ys x) (has_leaf (drop i xs) x)
    ∙ ap (λ v. v || has_leaf ys x) (sym parts)

pub uniting_rest_swap : {xs ys list : List ℕ} (new : List ℕ) {i j : ℕ} → Uniting xs ys list i j → j ≤ length ys →
    length xs ≤ i → ((x : ℕ) → has_leaf new x ≡ (has_leaf list x || has_leaf (take (length ys - j) (drop j ys)) x)) →
    (x : ℕ) → has_leaf new x ≡ (has_leaf xs x || has_leaf ys x)
uniting_rest_swap {xs} {ys} {list} new {i} {j} s within a leaves x =
    uniting_rest new (uniting_swap s) within a leaves x ∙ or_comm (has_leaf ys x) (has_leaf xs x)

pub lt_from_test : (a b : ℕ) (r : Bool) → r ≡ is_lt (nat_cmp a b) → r ≡ true → a < b
lt_from_test a b r e t = grind (arith, nat_tests)

pub le_from_test : (a b : ℕ) (r : Bool) → r ≡ is_lt (nat_cmp a b) → r ≡ false → b ≤ a
le_from_test a b r e t = grind (arith, nat_tests)
