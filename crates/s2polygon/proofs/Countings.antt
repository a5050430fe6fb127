-- The steps of a count of the cells of a level that cross a region.
use Rattle.std.proofs.Common.{◌≡◌, ℕ, suc, zero, ◌+◌, ◌-◌, ◌*◌, ◌/◌, ◌^◌, ◌<◌, ◌≤◌, Bool, true, false, not, ◌&&◌}
use Rattle.std.proofs.Common.{refl, sym, ◌∙◌, ap, arith, subst, ⊎_elim}
use Rattle.std.proofs.lemmas.Bool.{and_parts, cases_lt, or_parts, false_from_ne_true, true_from_ne_false}
use Rattle.std.proofs.Math.Nat.{div-one, mul-le-mul_right, pow-suc}
use Rattle.s2cell.specs.Cell.{IsCell, child_of, covers, face_of, first_leaf, level_of, place_of, size_of}
use Rattle.s2cell.proofs.CellLemmas.{level_of_cell, place_of_cell}
use Rattle.s2cell.proofs.Calls.{IsCellAt-child_of}
use Rattle.s2cell.proofs.Leaves.{covers_from}
use Rattle.s2cover.specs.Coverings.{LiesOutside, filled, touched}
use Rattle.s2list.specs.Count.{count_below, one_if}
use Rattle.s2list.specs.Union.{LiesIn}
use Rattle.s2polygon.specs.Counts.{crosses_at, crossing_below}
use Rattle.s2polygon.specs.Working.Counting.{after_within, first_within}

-- ---- how many numbers are in a set

one_more : (S : ℕ → Bool) (n : ℕ) → count_below S n ≤ count_below S (suc n)
unfolding count_below
one_more S n = omega arith

pub count_further : (S : ℕ → Bool) (n d : ℕ) → count_below S n ≤ count_below S (n + d)
count_further S n zero = let e : n ≡ n + 0 = omega arith in
    subst (λ (z : ℕ). count_below S n ≤ count_below S z) e (omega arith)
count_further S n (suc d) =
    let e : suc (n + d) ≡ n + suc d = omega arith in
    let a = count_further S n d in
    let b = one_more S (n + d) in
    subst (λ (z : ℕ). count_below S n ≤ count_below S z) e (omega arith)

pub count_grows : (S : ℕ → Bool) (n m : ℕ) → n ≤ m → count_below S n ≤ count_below S m
count_grows S n m h = let e : n + (m - n) ≡ m = omega arith in
    subst (λ (z : ℕ). count_below S n ≤ count_below S z) e (count_further S n (m - n))

pub count_one : (S : ℕ → Bool) (n : ℕ) → S n ≡ true → count_below S n + 1 ≡ count_below S (suc n)
unfolding count_below
count_one S n h = let e : one_if (S n) ≡ 1 = ap one_if h in omega arith

-- ---- a cell that crosses

leaf_of : (c x : ℕ) → covers c x ≡ true → (place_of c * 4 ^ (30 - level_of c) ≤ x)
    × (x < place_of c * 4 ^ (30 - level_of c) + 4 ^ (30 - level_of c))
unfolding first_leaf size_of
leaf_of c x h = covers_from c x h

missed : (S : ℕ → Bool) (lo n x : ℕ) → touched S lo n ≡ false → lo ≤ x → x < lo + n → S x ≡ false
unfolding touched
missed S lo zero x h a b = absurd (omega arith)
missed S lo (suc n) x h a b =
    let both = or_parts (touched S lo n) (S (lo + n)) h in
    ⊎_elim (λ below. missed S lo n x both.0 a below)
    (λ last. let e : lo + n ≡ x = omega arith in subst (λ (z : ℕ). S z ≡ false) e both.1) (cases_lt x (lo + n))

held : (S : ℕ → Bool) (lo n x : ℕ) → filled S lo n ≡ true → lo ≤ x → x < lo + n → S x ≡ true
unfolding filled
held S lo zero x h a b = absurd (omega arith)
held S lo (suc n) x h a b =
    let both = and_parts (filled S lo n) (S (lo + n)) h in
    ⊎_elim (λ below. held S lo n x both.0 a below)
    (λ last. let e : lo + n ≡ x = omega arith in subst (λ (z : ℕ). S z ≡ true) e both.1) (cases_lt x (lo + n))

and_not : (a b : Bool) → a ≡ true → b ≡ false → a && not b ≡ true
and_not a b p q = rw (p, q) refl

pub crosses : (outer inner : ℕ → Bool) (k c : ℕ) → level_of c ≡ k → ¬ (LiesOutside outer c) → ¬ (LiesIn inner c)
    → crosses_at outer inner k (place_of c) ≡ true
crosses outer inner k c level some rest =
    let lo = place_of c * 4 ^ (30 - level_of c) in
    let n = 4 ^ (30 - level_of c) in
    let t = true_from_ne_false (touched outer lo n)
    (λ none. some (λ x w. let l = leaf_of c x w in missed outer lo n x none l.0 l.1)) in
    let f = false_from_ne_true (filled inner lo n)
    (λ all. rest (λ x w. let l = leaf_of c x w in held inner lo n x all l.0 l.1)) in
    subst (λ (z : ℕ). crosses_at outer inner z (place_of c) ≡ true) level
    (and_not (touched outer lo n) (filled inner lo n) t f)

-- ---- the places of the cells of a level

-- the place that is `p` cells of the level below `c` after the first one
abbrev pub place_at : ℕ → ℕ → ℕ → ℕ
place_at k c p = first_within k c + p * 4 ^ (k - level_of c - 1)

pub at_level : (k c : ℕ) → level_of c ≡ k → (first_within k c ≡ place_of c) × (after_within k c ≡ suc (place_of c))
at_level k c e =
    let none : k - level_of c ≡ 0 = omega arith in
    let one : 4 ^ (k - level_of c) ≡ 1 = ap (λ z. 4 ^ z) none in (
      ap (λ z. place_of c * z) one ∙ (let e : place_of c * 1 ≡ place_of c = omega arith in e),
      ap (λ z. (place_of c + 1) * z) one ∙ (let e : (place_of c + 1) * 1 ≡ suc (place_of c) = omega arith in e),
    )

step : (k l : ℕ) → l < k → 4 ^ (k - l) ≡ 4 * 4 ^ (k - l - 1)
step k l h =
    let e : k - l ≡ suc (k - l - 1) = omega arith in
    let back : 4 ^ (k - l - 1) * 4 ≡ 4 * 4 ^ (k - l - 1) = omega arith in
    ap (λ z. 4 ^ z) e ∙ pow-suc 4 (k - l - 1) ∙ back

spread : (m p G F : ℕ) → F ≡ 4 * G → (4 * m + p) * G ≡ m * F + p * G
spread m p G F e =
    let a : (4 * m + p) * G ≡ m * (4 * G) + p * G = omega arith in
    a ∙ sym (ap (λ z. m * z + p * G) e)

pub from_child : (k c child p : ℕ) → level_of c < k → level_of child ≡ level_of c + 1
    → place_of child ≡ 4 * place_of c + p
    → (first_within k child ≡ place_at k c p) × (after_within k child ≡ place_at k c (p + 1))
from_child k c child p above level place =
    let G = 4 ^ (k - level_of c - 1) in
    let s = step k (level_of c) above in
    let q : k - level_of child ≡ k - level_of c - 1 = omega arith in
    let one : 4 * place_of c + p + 1 ≡ 4 * place_of c + (p + 1) = omega arith in (
      ap (λ z. z * 4 ^ (k - level_of child)) place ∙ ap (λ z. (4 * place_of c + p) * 4 ^ z) q
          ∙ spread (place_of c) p G (4 ^ (k - level_of c)) s,
      ap (λ z. (z + 1) * 4 ^ (k - level_of child)) place ∙ ap (λ z. (4 * place_of c + p + 1) * 4 ^ z) q
          ∙ ap (λ z. z * G) one ∙ spread (place_of c) (p + 1) G (4 ^ (k - level_of c)) s,
    )

pub to_end : (k c : ℕ) → level_of c < k → after_within k c ≡ place_at k c 4
to_end k c above = let s = step k (level_of c) above in omega arith

pub before_end : (k c p : ℕ) → level_of c < k → p ≤ 4 → place_at k c p ≤ after_within k c
before_end k c p above h =
    let t = to_end k c above in
    let m = mul-le-mul_right {m = p} {n = 4} (4 ^ (k - level_of c - 1)) h in
    omega arith

-- ---- the steps of the count

-- a cell with its part of the count: as many are known as before it
pub passed : (outer inner : ℕ → Bool) (k c n : ℕ) → n ≤ crossing_below outer inner k (first_within k c)
    → n ≤ crossing_below outer inner k (after_within k c)
passed outer inner k c n h =
    let e : (place_of c + 1) * 4 ^ (k - level_of c) ≡ place_of c * 4 ^ (k - level_of c) + 4 ^ (k - level_of c) =
    omega arith in
    let g = count_grows (crosses_at outer inner k) (first_within k c) (after_within k c) (omega (arith, e)) in
    omega arith

-- one more, at the level
pub one_crossing : (outer inner : ℕ → Bool) (k c n : ℕ) → level_of c ≡ k → ¬ (LiesOutside outer c)
    → ¬ (LiesIn inner c) → n ≤ crossing_below outer inner k (first_within k c)
    → n + 1 ≤ crossing_below outer inner k (after_within k c)
one_crossing outer inner k c n level some rest h =
    let S = crosses_at outer inner k in
    let a = at_level k c level in
    let f : count_below S (first_within k c) ≡ count_below S (place_of c) = ap (count_below S) a.0 in
    let l : count_below S (after_within k c) ≡ count_below S (suc (place_of c)) = ap (count_below S) a.1 in
    let o = count_one S (place_of c) (crosses outer inner k c level some rest) in
    omega arith

-- what is counted before the child `p`, and then before the next one
pub to_child : (outer inner : ℕ → Bool) (k c child p n : ℕ) → level_of c < k → level_of child ≡ level_of c + 1
    → place_of child ≡ 4 * place_of c + p → n ≤ crossing_below outer inner k (place_at k c p)
    → n ≤ crossing_below outer inner k (first_within k child)
to_child outer inner k c child p n above level place h =
    let e = (from_child k c child p above level place).0 in
    let f : count_below (crosses_at outer inner k) (first_within k child)
    ≡ count_below (crosses_at outer inner k) (place_at k c p) = ap (count_below (crosses_at outer inner k)) e in
    omega arith

pub past_child : (outer inner : ℕ → Bool) (k c child p n : ℕ) → level_of c < k → level_of child ≡ level_of c + 1
    → place_of child ≡ 4 * place_of c + p → n ≤ crossing_below outer inner k (after_within k child)
    → n ≤ crossing_below outer inner k (place_at k c (p + 1))
past_child outer inner k c child p n above level place h =
    let e = (from_child k c child p above level place).1 in
    let f : count_below (crosses_at outer inner k) (after_within k child)
    ≡ count_below (crosses_at outer inner k) (place_at k c (p + 1)) =
    ap (count_below (crosses_at outer inner k)) e in
    omega arith

-- what is counted before the child `p` is counted in the cell
pub in_cell : (outer inner : ℕ → Bool) (k c p n : ℕ) → level_of c < k → p ≤ 4
    → n ≤ crossing_below outer inner k (place_at k c p) → n ≤ crossing_below outer inner k (after_within k c)
in_cell outer inner k c p n above few h =
    let g = count_grows (crosses_at outer inner k) (place_at k c p) (after_within k c) (before_end k c p above few) in
    omega arith

-- what is counted before the first child
pub at_first : (outer inner : ℕ → Bool) (k c n : ℕ) → n ≤ crossing_below outer inner k (first_within k c)
    → n ≤ crossing_below outer inner k (place_at k c 0)
at_first outer inner k c n h =
    let e : first_within k c ≡ place_at k c 0 = omega arith in
    let f : count_below (crosses_at outer inner k) (first_within k c)
    ≡ count_below (crosses_at outer inner k) (place_at k c 0) = ap (count_below (crosses_at outer inner k)) e in
    omega arith

-- a child, by its place and its sets
pub child_is : {c : ℕ} (p : ℕ) → IsCell c → level_of c < 30 → p < 4
    → (level_of (child_of c p) ≡ level_of c + 1) × (place_of (child_of c p) ≡ 4 * place_of c + p)
child_is {c} p i h q =
    let w = IsCellAt-child_of c p i h q in (
      level_of_cell (level_of c + 1) (4 * place_of c + p) (child_of c p) w,
      place_of_cell (level_of c + 1) (4 * place_of c + p) (child_of c p) w,
    )

module _ {outer inner outer2 inner2 : ℕ → Bool} (k c child p n : ℕ) (o : outer2 ≡ outer) (i : inner2 ≡ inner)
    (is : IsCell c) (above : level_of c < k) (deep : k ≤ 30) (digit : p < 4) (e : child ≡ child_of c p) where
  level_is : level_of child ≡ level_of c + 1
  level_is = ap level_of e ∙ (child_is p is (omega arith) digit).0

  place_is : place_of child ≡ 4 * place_of c + p
  place_is = ap place_of e ∙ (child_is p is (omega arith) digit).1

  pub child_above : level_of child ≤ k
  child_above = let l = level_is in omega arith

  pub child_less : k - level_of child < k - level_of c
  child_less = let l = level_is in omega arith

  same : (m : ℕ) → crossing_below outer2 inner2 k m ≡ crossing_below outer inner k m
  same m = ap (λ f. crossing_below f inner2 k m) o ∙ ap (λ f. crossing_below outer f k m) i

  pub child_counted : n ≤ crossing_below outer inner k (place_at k c p)
      → n ≤ crossing_below outer2 inner2 k (first_within k child)
  child_counted h =
      let s = same (first_within k child) in
      let t = to_child outer inner k c child p n above level_is place_is h in
      omega arith

  pub child_added : n ≤ crossing_below outer2 inner2 k (after_within k child)
      → n ≤ crossing_below outer inner k (place_at k c (p + 1))
  child_added h =
      let s = same (after_within k child) in
      past_child outer inner k c child p n above level_is place_is (omega arith)

-- ---- the faces

place_of_face : (c face : ℕ) → level_of c ≡ 0 → face_of c ≡ face → place_of c ≡ face
unfolding face_of
place_of_face c face level is =
    let one : place_of c / 4 ^ level_of c ≡ place_of c = ap (λ z. place_of c / 4 ^ z) level ∙ div-one (place_of c) in
    sym one ∙ is

at_face : (k c face : ℕ) → level_of c ≡ 0 → face_of c ≡ face
    → (first_within k c ≡ face * 4 ^ k) × (after_within k c ≡ (face + 1) * 4 ^ k)
at_face k c face level is =
    let p = place_of_face c face level is in
    let d : k - level_of c ≡ k = omega arith in (
      ap (λ z. z * 4 ^ (k - level_of c)) p ∙ ap (λ z. face * 4 ^ z) d,
      ap (λ z. (z + 1) * 4 ^ (k - level_of c)) p ∙ ap (λ z. (face + 1) * 4 ^ z) d,
    )

module _ {outer inner outer2 inner2 : ℕ → Bool} (k c face n : ℕ) (o : outer2 ≡ outer) (i : inner2 ≡ inner)
    (level : level_of c ≡ 0) (is : face_of c ≡ face) where
  same_sets : (m : ℕ) → crossing_below outer2 inner2 k m ≡ crossing_below outer inner k m
  same_sets m = ap (λ f. crossing_below f inner2 k m) o ∙ ap (λ f. crossing_below outer f k m) i

  pub to_face : n ≤ crossing_below outer inner k (face * 4 ^ k)
      → n ≤ crossing_below outer2 inner2 k (first_within k c)
  to_face h =
      let e = ap (crossing_below outer inner k) (at_face k c face level is).0 in
      let s = same_sets (first_within k c) in
      omega arith

  pub past_face : n ≤ crossing_below outer2 inner2 k (after_within k c)
      → n ≤ crossing_below outer inner k ((face + 1) * 4 ^ k)
  past_face h =
      let e = ap (crossing_below outer inner k) (at_face k c face level is).1 in
      let s = same_sets (after_within k c) in
      omega arith

-- what is counted up to a face is counted on all
pub in_all : (outer inner : ℕ → Bool) (k face n : ℕ) → face < 6
    → n ≤ crossing_below outer inner k ((face + 1) * 4 ^ k) → n ≤ crossing_below outer inner k (6 * 4 ^ k)
in_all outer inner k face n within h =
    let m : (face + 1) * 4 ^ k ≤ 6 * 4 ^ k = mul-le-mul_right {m = face + 1} {n = 6} (4 ^ k) (omega arith) in
    let g = count_grows (crosses_at outer inner k) ((face + 1) * 4 ^ k) (6 * 4 ^ k) m in
    omega arith
