-- What the place of a cell's first leaf says about the leaves of a union.
use Rattle.std.proofs.Common.{◌≡◌, ℕ, ◌+◌, ◌<◌, ◌≤◌, ◌↔◌, refl, arith, Bool, true, false}
use Rattle.std.proofs.Common.{not, IsTrue, List, length, get_or}
use Rattle.std.proofs.Math.Logic.{⊎_elim}
use Rattle.std.proofs.lemmas.Bool.{cases_lt, false≢true}
use Rattle.s2cell.specs.Cell.{IsCell, IsInside, covers, first_leaf, size_of}
use Rattle.s2cell.proofs.CellLemmas.{cell_leaves}
use Rattle.s2cell.proofs.Leaves.{covers_there, inside_from_within}
use Rattle.s2list.specs.Union.{IsLocal, IsWithin, ShareSome, has_leaf}
use Rattle.s2list.specs.Packed.{FirstEndBy}
use Rattle.s2list.proofs.Checking.{member_at, packed_from_local}
use Rattle.s2list.proofs.Normal.{leaf_to}
use Rattle.s2list.proofs.Walking.{ended_later, leaf_at}
use Rattle.s2list.proofs.Finding.{held_at, within_from_place, shared_at, shared_none}

-- the first cell that ends after the first leaf of `c` holds `c` exactly where the union does
pub held_there : (u : List ℕ) (at c : ℕ) → IsLocal u → IsCell c → FirstEndBy u at (first_leaf c)
    → (at < length u → first_leaf c < first_leaf (get_or u at 0) + size_of (get_or u at 0))
    → ((at < length u) × IsInside c (get_or u at 0)) ↔ IsWithin (covers c) (has_leaf u)
held_there u at c local own ended next = (
  λ h. within_from_place u at c (get_or u at 0) h.0 refl h.1,
  λ lies. let h = held_at u at c local own ended next lies in (h.there, inside_from_within c (get_or u at 0) h.within),
)

-- and begins before the last leaf of `c` exactly where the union has a leaf of `c`
pub begun_there : (u : List ℕ) (at c : ℕ) → IsLocal u → IsCell c → FirstEndBy u at (first_leaf c)
    → (at < length u → first_leaf c < first_leaf (get_or u at 0) + size_of (get_or u at 0))
    → ((at < length u) × (first_leaf (get_or u at 0) < first_leaf c + size_of c)) ↔ ShareSome (covers c) (has_leaf u)
begun_there u at c local own ended next = (
  λ h. shared_at u at c local.cells own h.0 (next h.0) h.1,
  λ s. ⊎_elim
      (λ (a : at < length u). ⊎_elim
      (λ (b : first_leaf (get_or u at 0) < first_leaf c + size_of c). (a, b))
      (λ (b : first_leaf c + size_of c ≤ first_leaf (get_or u at 0)). absurd (shared_none
      u at c local ended (λ _. b) s)) (cases_lt (first_leaf (get_or u at 0)) (first_leaf c + size_of c)))
      (λ (a : length u ≤ at). absurd (shared_none u at c local ended (λ (h : at < length u). absurd (omega arith)) s))
      (cases_lt at (length u)),
)

-- two equivalences, one after the other
pub both : {A B C : Type 0} → (A ↔ B) → (B ↔ C) → A ↔ C
both f g = (λ a. g.0 (f.0 a), λ c. f.1 (g.1 c))

-- the cells of a union that come after one begin after it
pub ended_on : (xs ys : List ℕ) (at k j : ℕ) → IsLocal ys → k ≤ j → j < length ys
    → FirstEndBy xs at (first_leaf (get_or ys k 0)) → FirstEndBy xs at (first_leaf (get_or ys j 0))
ended_on xs ys at k j local h l b =
    let p = packed_from_local ys local in
    ⊎_elim
    (λ (a : k < j).
    let s = (cell_leaves (get_or ys k 0) (p.cells k 0 (omega arith))).some in
    let e : first_leaf (get_or ys k 0) + size_of (get_or ys k 0) ≤ first_leaf (get_or ys j 0) = p.chain k j 0 a l in
    ended_later xs at (first_leaf (get_or ys k 0)) (first_leaf (get_or ys j 0)) b (omega arith))
    (λ (a : j ≤ k). let e : k ≡ j = omega arith in rw e at b)
    (cases_lt k j)

-- a part is within a set of leaves if no cell of it decides that it is not
pub none_lacks : (S : ℕ → Bool) (ys : List ℕ) (b : Bool) →
    (b ≡ false → (k : ℕ) → k < length ys → IsWithin (covers (get_or ys k 0)) S) →
    (b ≡ true → (k : ℕ) × (k < length ys) × (IsWithin (covers (get_or ys k 0)) S → ⊥)) →
    IsTrue (not b) ↔ IsWithin (has_leaf ys) S
none_lacks S ys true none found = (
  λ e. absurd (false≢true e),
  λ w. let (k, h, lacks) = found refl in
      absurd (lacks (λ x v. w x (leaf_to ys (get_or ys k 0) x (member_at ys k (get_or ys k 0) h refl) v))),
)
none_lacks S ys false none found = (
  λ _ x v. let l = leaf_at ys x v in none refl l.at l.below x (covers_there (get_or ys l.at 0) x l.low l.high),
  λ _. refl,
)

-- and shares a leaf with it if one of its cells does
pub one_shares : (S : ℕ → Bool) (ys : List ℕ) (b : Bool) →
    (b ≡ false → (k : ℕ) → k < length ys → ShareSome (covers (get_or ys k 0)) S → ⊥) →
    (b ≡ true → (k : ℕ) × (k < length ys) × ShareSome (covers (get_or ys k 0)) S) →
    IsTrue b ↔ ShareSome S (has_leaf ys)
one_shares S ys true none found = (
  λ _. let (k, h, shares) = found refl in
      let (x, v, s) = shares in
      (x, s, leaf_to ys (get_or ys k 0) x (member_at ys k (get_or ys k 0) h refl) v),
  λ _. refl,
)
one_shares S ys false none found = (
  λ e. absurd (false≢true e),
  λ (x, s, v). let l = leaf_at ys x v in
      absurd (none refl l.at l.below (x, covers_there (get_or ys l.at 0) x l.low l.high, s)),
)
