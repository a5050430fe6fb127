-- The leaves of cells in order, counted.
use Rattle.std.proofs.Common.{◌≡◌, ℕ, zero, suc, ◌+◌, ◌<◌, ◌≤◌, refl, ap, arith, Bool, true, false, ◌||◌, List}
use Rattle.std.proofs.Common.{length, get_or, take, min, length-take-le}
use Rattle.std.proofs.Math.Logic.{⊎_elim}
use Rattle.std.proofs.lemmas.Bool.{cases_lt}
use Rattle.std.proofs.lemmas.Bool.Decides.{nat_tests}
use Rattle.std.proofs.lemmas.List.{get_or-take, length-take-le}
use Rattle.std.proofs.lemmas.List.Folds.{list_any_more}
use Rattle.s2cell.specs.Cell.{size_of, first_leaf, covers}
use Rattle.s2cell.proofs.CellLemmas.{cell_leaves}
use Rattle.s2cell.proofs.Leaves.{covers_from}
use Rattle.s2list.specs.Union.{has_leaf, between}
use Rattle.s2list.specs.Packed.{IsPacked}
use Rattle.s2list.specs.Count.{one_if, count_below}
use Rattle.s2list.proofs.Walking.{leaf_at}

one_or : (a b c : Bool) → c ≡ (a || b) → (a ≡ true → b ≡ true → ⊥) → one_if c ≡ one_if a + one_if b
one_or true true c e h = absurd (h refl refl)
one_or true false c e h = ap one_if e
one_or false b c e h = let f : one_if c ≡ one_if b = ap one_if e in omega arith

-- two sets that share nothing
pub count_or : (S T U : ℕ → Bool) (n : ℕ) → ((x : ℕ) → U x ≡ (S x || T x)) →
    ((x : ℕ) → S x ≡ true → T x ≡ true → ⊥) → count_below U n ≡ count_below S n + count_below T n
unfolding count_below
count_or S T U zero e h = refl
count_or S T U (suc n) e h =
    let a : one_if (U n) ≡ one_if (S n) + one_if (T n) = one_or (S n) (T n) (U n) (e n) (h n) in
    let b : count_below U n ≡ count_below S n + count_below T n = count_or S T U n e h in
    omega arith

one_between : (lo hi n : ℕ) → lo ≤ hi → one_if (between lo hi n) + min n hi + min (suc n) lo ≡ min (suc n) hi
    + min n lo + 0
one_between lo hi n h =
    ⊎_elim
    (λ (a : n < lo). let f : between lo hi n ≡ false = grind (arith, nat_tests) in rw f (omega arith))
    (λ (a : lo ≤ n). ⊎_elim
    (λ (b : n < hi). let f : between lo hi n ≡ true = grind (arith, nat_tests) in rw f (omega arith))
    (λ (b : hi ≤ n). let f : between lo hi n ≡ false = grind (arith, nat_tests) in rw f (omega arith)) (cases_lt n hi))
    (cases_lt n lo)

-- a block of leaves
pub count_between : (lo hi n : ℕ) → lo ≤ hi → count_below (between lo hi) n + min n lo ≡ min n hi
unfolding count_below
count_between lo hi zero h = omega arith
count_between lo hi (suc n) h =
    let a = one_between lo hi n h in
    let b : count_below (between lo hi) n + min n lo ≡ min n hi = count_between lo hi n h in
    omega arith

pub count_most : (S : ℕ → Bool) (n : ℕ) → count_below S n ≤ n
unfolding count_below
count_most S zero = omega arith
count_most S (suc n) =
    let a : one_if (S n) ≤ 1 = one_most (S n) in
    let b : count_below S n ≤ n = count_most S n in
    omega arith
  where
    one_most : (b : Bool) → one_if b ≤ 1
    one_most true = omega arith
    one_most false = omega arith

pub count_none : (S : ℕ → Bool) (n : ℕ) → ((x : ℕ) → S x ≡ false) → count_below S n ≡ 0
unfolding count_below
count_none S zero e = refl
count_none S (suc n) e = let a : one_if (S n) ≡ 0 = ap one_if (e n) in let b : count_below S n ≡ 0 =
    count_none S n e in omega arith

-- one more cell
pub count_more : (u : List ℕ) (i n : ℕ) → IsPacked u → i < length u → first_leaf (get_or u i 0) + size_of (get_or u
    i 0) ≤ n → count_below (has_leaf (take (i + 1) u)) n ≡ count_below (has_leaf (take i u)) n + size_of (get_or u i 0)
count_more u i n packed h w =
    let c = get_or u i 0 in
    let s = (cell_leaves c (packed.cells i 0 h)).some in
    let len : length (take i u) ≡ i = length-take-le i u (omega arith) in
    let e : count_below (has_leaf (take (i + 1) u)) n ≡ count_below (has_leaf (take i u)) n + count_below (covers c) n =
    count_or (has_leaf (take i u)) (covers c) (has_leaf (take (i + 1) u)) n
    (λ x. list_any_more (λ (v : ℕ). covers v x) u i 0 h)
    (λ x a b.
    let l = leaf_at (take i u) x a in
    let k = l.at in
    let lb = l.below in
    let lh = l.high in
    let g : get_or (take i u) k 0 ≡ get_or u k 0 = get_or-take i u k 0 (omega arith) in
    let gf = ap first_leaf g in
    let gs = ap size_of g in
    let r = (covers_from c x b).0 in
    let p : first_leaf (get_or u k 0) + size_of (get_or u k 0) ≤ first_leaf c = packed.chain k i 0 (omega arith) h in
    omega arith) in
    let b : count_below (between (first_leaf c) (first_leaf c + size_of c)) n + min n (first_leaf c)
    ≡ min n (first_leaf c + size_of c) = count_between (first_leaf c) (first_leaf c + size_of c) n (omega arith) in
    let d : count_below (covers c) n ≡ size_of c = omega arith in
    omega arith
