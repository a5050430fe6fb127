-- Two lists of cells, walked side by side from the first leaf to the last.
use Rattle.std.proofs.Common.{◌≡◌, ℕ, ◌+◌, ◌<◌, ◌≤◌, refl, sym, ◌∙◌, ap, arith, Bool, true, false, ◌||◌}
use Rattle.std.proofs.Common.{◌&&◌, ltb, List, length, get_or}
use Rattle.std.proofs.Math.Bool.{or-false}
use Rattle.std.proofs.Math.Logic.{⊎_elim}
use Rattle.std.proofs.lemmas.Bool.{cases_lt, false≢true}
use Rattle.std.proofs.lemmas.Bool.Decides.{nat_tests}
use Rattle.s2cell.specs.Cell.{size_of, first_leaf}
use Rattle.s2cell.proofs.Leaves.{covers_there}
use Rattle.s2list.specs.Union.{has_leaf, between}
use Rattle.s2list.specs.Working.Union.{EndsBy}
use Rattle.s2list.specs.Packed.{IsPacked, FirstEndBy}
use Rattle.s2list.proofs.Normal.{leaf_to, leaf_from}
use Rattle.s2list.proofs.PackedLocal.{place}
use Rattle.s2list.proofs.Checking.{member_at}

-- a leaf of a cell at a place
pub leaf_there : (u : List ℕ) (k x : ℕ) → k < length u → first_leaf (get_or u k 0) ≤ x →
    x < first_leaf (get_or u k 0) + size_of (get_or u k 0) → has_leaf u x ≡ true
leaf_there u k x h a b = leaf_to u (get_or u k 0) x (member_at u k (get_or u k 0) h refl)
    (covers_there (get_or u k 0) x a b)

-- the place of the cell that has a leaf
pub record LeafAt (u : List ℕ) (x : ℕ) : Type 0 where
  pub at : ℕ
  pub below : at < length u
  pub low : first_leaf (get_or u at 0) ≤ x
  pub high : x < first_leaf (get_or u at 0) + size_of (get_or u at 0)

pub leaf_at : (u : List ℕ) (x : ℕ) → has_leaf u x ≡ true → LeafAt u x
leaf_at u x h =
    let l = leaf_from u x h in
    let p = place u l.cell l.member in
    let e = p.is in
    let ef = ap first_leaf e in
    let es = ap size_of e in
    let lo = l.low in
    let hi = l.high in
    record { at = p.at; below = p.below; low = omega arith; high = omega arith }

pub not_true : (b : Bool) → (b ≡ true → ⊥) → b ≡ false
not_true true h = absurd (h refl)
not_true false h = refl

-- no leaf lies between the cells that end by `lo` and the next
pub gap : {u : List ℕ} (n lo hi x : ℕ) → IsPacked u →
    FirstEndBy u n lo → (n < length u → hi ≤ first_leaf (get_or u n 0)) → lo ≤ x → x < hi → has_leaf u x ≡ false
gap {u} n lo hi x packed ended next a b = not_true (has_leaf u x) (λ h.
    let l = leaf_at u x h in
    let low = l.low in
    let high = l.high in
    ⊎_elim
    (λ (g : l.at < n). let e = ended l.at g in omega arith)
    (λ (g : n ≤ l.at).
    let f = next (let w = l.below in omega arith) in
    ⊎_elim
    (λ (m : n < l.at).
    let c : first_leaf (get_or u n 0) + size_of (get_or u n 0) ≤ first_leaf (get_or u l.at 0) =
    packed.chain n l.at 0 m l.below in
    omega arith)
    (λ (m : l.at ≤ n). let e : l.at ≡ n = omega arith in let ee = ap (λ k. first_leaf (get_or u k 0)) e in omega arith)
    (cases_lt n l.at))
    (cases_lt l.at n))

-- `list` has the leaves of `S` before `lo`; the first i cells of `xs` and the first j of `ys` end by it
pub record Walk (S : ℕ → Bool) (xs ys list : List ℕ) (i j lo : ℕ) : Type 0 where
  pub ended_x : FirstEndBy xs i lo
  pub ended_y : FirstEndBy ys j lo
  pub leaves : (x : ℕ) → has_leaf list x ≡ (ltb x lo && S x)

pub walk_below : {S : ℕ → Bool} {xs ys list : List ℕ} {i j lo : ℕ} (start : ℕ) →
    Walk S xs ys list i j lo → lo ≤ start → EndsBy list start
walk_below {S} {lo} start w h x l =
    let e : (ltb x lo && S x) ≡ true = sym (w.leaves x) ∙ l in
    ⊎_elim
    (λ (a : x < lo). omega arith)
    (λ (a : lo ≤ x). let f : ltb x lo ≡ false = grind (arith, nat_tests) in absurd (false≢true (rw f at e)))
    (cases_lt x lo)

walk_bool : (x lo next : ℕ) (l b s : Bool) → lo ≤ next → l ≡ (ltb x lo && s) → (x < lo → b ≡ false) →
    (next ≤ x → b ≡ false) → (lo ≤ x → x < next → b ≡ s) → (l || b) ≡ (ltb x next && s)
walk_bool x lo next l b s w e before after here =
    ⊎_elim
    (λ (a : x < lo).
    let f : b ≡ false = before a in
    let t : ltb x lo ≡ true = grind (arith, nat_tests) in
    let u : ltb x next ≡ true = grind (arith, nat_tests) in
    grind arith)
    (λ (a : lo ≤ x).
    let t : ltb x lo ≡ false = grind (arith, nat_tests) in
    let le : l ≡ false = e ∙ ap (λ v. v && s) t in
    ⊎_elim
    (λ (c : x < next).
    let f : b ≡ s = here a c in
    let u : ltb x next ≡ true = grind (arith, nat_tests) in
    rw (le, u) f)
    (λ (c : next ≤ x).
    let f : b ≡ false = after c in
    let u : ltb x next ≡ false = grind (arith, nat_tests) in
    rw (le, u) f)
    (cases_lt x next))
    (cases_lt x lo)

-- the walk goes on to `next`, over the leaves from `start` to `end` that are added
pub walk_more : {S : ℕ → Bool} {xs ys list : List ℕ} (new : List ℕ) {i j lo : ℕ} (m n next start end : ℕ) →
    Walk S xs ys list i j lo → lo ≤ start → start ≤ next →
    end ≤ next → ((x : ℕ) → has_leaf new x ≡ (has_leaf list x || between start end x)) → FirstEndBy xs m next →
    FirstEndBy ys n next → ((x : ℕ) → lo ≤ x → x < next → between start end x ≡ S x) → Walk S xs ys new m n next
walk_more {S} {list} new {lo} m n next start end w a b c leaves bx by here = record {
  ended_x = bx;
  ended_y = by;
  leaves = λ x. leaves x ∙ walk_bool x lo next (has_leaf list x) (between start end x) (S x) (omega arith) (w.leaves x)
      (λ l. grind (arith, nat_tests)) (λ l. grind (arith, nat_tests)) (here x);
}

-- the walk goes on to `next`, over leaves that the set doesn't have
pub walk_on : {S : ℕ → Bool} {xs ys list : List ℕ} {i j lo : ℕ} (m n next : ℕ) → Walk S xs ys list i j lo →
    lo ≤ next → FirstEndBy xs m next → FirstEndBy ys n next → ((x : ℕ) → lo ≤ x → x < next → S x ≡ false) →
    Walk S xs ys list m n next
walk_on {S} {list = list} {lo = lo} m n next w le bx by none = record {
  ended_x = bx;
  ended_y = by;
  leaves = λ x. sym (or-false (has_leaf list x)) ∙ walk_bool x lo next (has_leaf list x) false (S x) le (w.leaves x)
      (λ l. refl) (λ l. refl) (λ a b. sym (none x a b));
}

-- past the last cell of `xs`, beyond which the set has no leaf
pub walk_done : {S : ℕ → Bool} {xs ys list : List ℕ} {i j lo : ℕ} → Walk S xs ys list i j lo → length xs ≤ i →
    ((x : ℕ) → has_leaf xs x ≡ false → S x ≡ false) → (x : ℕ) → has_leaf list x ≡ S x
walk_done {S} {xs} {lo = lo} w h within x =
    ⊎_elim
    (λ (a : x < lo). let t : ltb x lo ≡ true = grind (arith, nat_tests) in w.leaves x ∙ ap (λ v. v && S x) t)
    (λ (a : lo ≤ x).
    let t : ltb x lo ≡ false = grind (arith, nat_tests) in
    let n : has_leaf xs x ≡ false = not_true (has_leaf xs x) (λ l.
    let p = leaf_at xs x l in
    let hi = p.high in
    let e = w.ended_x p.at (let b = p.below in omega arith) in
    omega arith) in
    w.leaves x ∙ ap (λ v. v && S x) t ∙ sym (within x n))
    (cases_lt x lo)

pub ended_more : (u : List ℕ) (n lo next : ℕ) → FirstEndBy u n lo → lo ≤ next →
    first_leaf (get_or u n 0) + size_of (get_or u n 0) ≤ next → FirstEndBy u (n + 1) next
ended_more u n lo next b h e k l =
    ⊎_elim
    (λ (g : k < n). let f = b k g in omega arith)
    (λ (g : n ≤ k). let f : k ≡ n = omega arith in rw f e)
    (cases_lt k n)

pub ended_later : (u : List ℕ) (n lo next : ℕ) → FirstEndBy u n lo → lo ≤ next → FirstEndBy u n next
ended_later u n lo next b h k l = let f = b k l in omega arith
