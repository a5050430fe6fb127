-- Questions about a short list in a much longer one.
use Rattle.std.proofs.Common.{◌≡◌, ℕ, ◌+◌, ◌*◌, ◌^◌, ◌<◌, ◌≤◌, refl, sym, ap, arith}
use Rattle.std.proofs.Common.{Bool, true, false, ◌||◌, List, length, get_or, min, max}
use Rattle.std.proofs.Math.Logic.{⊎_elim}
use Rattle.std.proofs.Math.Nat.{mul-le-mul_right}
use Rattle.std.proofs.lemmas.Bool.{cases_lt, false≢true}
use Rattle.std.proofs.lemmas.Nat.{pow_below}
use Rattle.s2cell.specs.Cell.{IsInside, covers, first_leaf, size_of}
use Rattle.s2cell.proofs.Leaves.{inside_from_within, within_from_inside}
use Rattle.s2list.specs.Union.{has_leaf, IsLocal, ShareSome}
use Rattle.s2list.specs.Packed.{IsPacked, FirstEndBy}
use Rattle.s2list.specs.Looks.{FewForUnion}
use Rattle.s2list.proofs.Finding.{shared_none, starts_later}
use Rattle.s2list.proofs.Looking.{above, Sought}

-- what holds at four places in a row
four_places : (P : ℕ → Type 0) (at k : ℕ) → P at → P (at + 1) → P (at + 2) → P (at + 3) → at ≤ k → k < at + 4 → P k
four_places P at k a b c d h l =
    ⊎_elim
    (λ (m : k < at + 1). let e : k ≡ at = omega arith in rw e a)
    (λ (m : at + 1 ≤ k). ⊎_elim
    (λ (n : k < at + 2). let e : k ≡ at + 1 = omega arith in rw e b)
    (λ (n : at + 2 ≤ k). ⊎_elim
    (λ (o : k < at + 3). let e : k ≡ at + 2 = omega arith in rw e c)
    (λ (o : at + 3 ≤ k). let e : k ≡ at + 3 = omega arith in rw e d) (cases_lt k (at + 3))) (cases_lt k (at + 2)))
    (cases_lt k (at + 1))

-- what is known of each of them, once an answer says whether one of them decides
abbrev pub FourJudged : (P Q : ℕ → Type 0) (at : ℕ) (b : Bool) → Type 0
FourJudged P Q at b = (b ≡ true → (k : ℕ) × (at ≤ k) × (k < at + 4) × P k)
    × (b ≡ false → (k : ℕ) → at ≤ k → k < at + 4 → Q k)

pub four_judged : (a b c d : Bool) (P Q : ℕ → Type 0) (at : ℕ) → (a ≡ true → P at) → (a ≡ false → Q at) →
    (b ≡ true → P (at + 1)) → (b ≡ false → Q (at + 1)) → (c ≡ true → P (at + 2)) → (c ≡ false → Q (at + 2)) →
    (d ≡ true → P (at + 3)) → (d ≡ false → Q (at + 3)) → FourJudged P Q at (((a || b) || c) || d)
four_judged true b c d P Q at p pn q qn r rn s sn =
    (λ _. (at, omega arith, omega arith, p refl), λ f. absurd (false≢true (sym f)))
four_judged false true c d P Q at p pn q qn r rn s sn =
    (λ _. (at + 1, omega arith, omega arith, q refl), λ f. absurd (false≢true (sym f)))
four_judged false false true d P Q at p pn q qn r rn s sn =
    (λ _. (at + 2, omega arith, omega arith, r refl), λ f. absurd (false≢true (sym f)))
four_judged false false false true P Q at p pn q qn r rn s sn =
    (λ _. (at + 3, omega arith, omega arith, s refl), λ f. absurd (false≢true (sym f)))
four_judged false false false false P Q at p pn q qn r rn s sn =
    (λ t. absurd (false≢true t), λ _ k h l. four_places Q at k (pn refl) (qn refl) (rn refl) (sn refl) h l)

-- ---- looks

-- the power is at least 32
power_five : (m n k : ℕ) → 0 < m → 64 * m ≤ n → n ≤ (m + 1) * 2 ^ k → 5 ≤ k
power_five m n k some few fits =
    ⊎_elim
    (λ (a : k < 5).
    let p : 2 ^ k < 2 ^ 5 = pow_below k 5 a in
    let e : 2 ^ 5 ≡ 32 = refl in
    let q : 2 ^ k * (m + 1) ≤ 31 * (m + 1) = mul-le-mul_right (m + 1) (omega arith) in
    absurd (omega arith))
    (λ (a : 5 ≤ k). a)
    (cases_lt k 5)

-- a search that ends near looks at few cells
pub sought_near : (before after far : ℕ) → Sought before after far → after ≤ before + 2 + 2 * far
sought_near before after far sought =
    let a = above far in
    let s = sought far (omega arith) in
    omega arith

-- 250 looks for each cell of the shorter list
pub few_looks : (n m looks : ℕ) → 64 * m ≤ n → looks ≤ 250 * m → FewForUnion n m looks
few_looks n m looks few most k h =
    ⊎_elim
    (λ (a : 0 < m).
    let less : min n m ≡ m = omega arith in
    let more : max n m ≡ n = omega arith in
    let same : (min n m + 1) * 2 ^ k ≡ (m + 1) * 2 ^ k = ap (λ x. (x + 1) * 2 ^ k) less in
    let fits : n ≤ (m + 1) * 2 ^ k = omega arith in
    let five = power_five m n k a few fits in
    let p : 5 * m ≤ k * m = mul-le-mul_right m five in
    let twice : min n m * k ≡ m * k = ap (λ x. x * k) less in
    omega arith)
    (λ (a : m ≤ 0). omega arith)
    (cases_lt 0 m)

-- ---- cells that cost no search

-- one cell
pub one_place : (P : ℕ → Type 0) (at : ℕ) → P at → (k : ℕ) → at ≤ k → k < at + 1 → P k
one_place P at p k h l = let e : k ≡ at = omega arith in rw e p

-- cells up to a place and those after it
pub more_places : (P : ℕ → Type 0) (from at to : ℕ) → ((k : ℕ) → from ≤ k → k < at → P k) →
    ((k : ℕ) → at ≤ k → k < to → P k) → (k : ℕ) → from ≤ k → k < to → P k
more_places P from at to before after k h l =
    ⊎_elim
    (λ (a : k < at). before k h a)
    (λ (a : at ≤ k). after k a l)
    (cases_lt k at)

-- a run of cells that begins in a cell and ends by its end lies in it
pub run_held : {u : List ℕ} (from next x : ℕ) → IsPacked u → from < length u → IsInside (get_or u from 0) x → next ≤
    length u → FirstEndBy u next (first_leaf x + size_of x) → (k : ℕ) → from ≤ k → k < next → IsInside (get_or u k 0) x
run_held {u} from next x p there inside within ended k h l =
    let w = (within_from_inside (get_or u from 0) x (p.cells from 0 there) inside).low in
    let s = starts_later u from k p h (omega arith) in
    let e = ended k l in
    inside_from_within (get_or u k 0) x (record { low = omega arith; high = omega arith })

-- cells that end before the next cell of a list begins share nothing with it
pub run_missed : (u v : List ℕ) (from at next : ℕ) →
    IsLocal v → IsPacked u → from ≤ next → next ≤ length u → FirstEndBy v at (first_leaf (get_or u from 0)) →
    ((k : ℕ) → from + 1 ≤ k → k < next → at < length v → first_leaf (get_or u k 0) + size_of (get_or u k 0) ≤ first_leaf
    (get_or v at 0)) → (k : ℕ) → from + 1 ≤ k → k < next → ShareSome (covers (get_or u k 0)) (has_leaf v) → ⊥
run_missed u v from at next lv p le within ended free k h l =
    let s = starts_later u from k p (omega arith) (omega arith) in
    shared_none v at (get_or u k 0) lv (λ i b. let z = ended i b in omega arith) (free k h l)
