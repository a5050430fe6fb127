-- Local lists are packed, and when packed cells stay packed with one more.
use Rattle.std.proofs.Common.{◌≡◌, ℕ, ◌+◌, ◌-◌, ◌<◌, ◌≤◌, refl, ◌∙◌, arith, List, [], ◌∷◌, ◌++◌, length, get_or}
use Rattle.std.proofs.Common.{Contains, length-append}
use Rattle.std.proofs.Math.Logic.{⊎_elim}
use Rattle.std.proofs.lemmas.Bool.{cases_lt}
use Rattle.std.proofs.lemmas.Option.{gets}
use Rattle.std.proofs.lemmas.List.{get_or_append_left, get_or_push}
use Rattle.std.proofs.lemmas.List.Kept.{AllPairs-from_increasing}
use Rattle.s2cell.specs.Cell.{IsCell, size_of, first_leaf, child_of}
use Rattle.s2cell.proofs.CellLemmas.{cell_leaves}
use Rattle.s2cell.proofs.Leaves.{covers_there, before, after, within, around, meeting}
use Rattle.s2list.specs.Union.{IsLocal}
use Rattle.s2list.specs.Packed.{EndsBefore, IsFamily, IsPacked}
use Rattle.s2list.proofs.Normal.{four_cases}
use Rattle.s2list.proofs.Packing.{packed_push, read_at}

pub member_at : (u : List ℕ) (k x : ℕ) → k < length u → get_or u k 0 ≡ x → Contains u x
member_at u k x h e = (k, h, grind (arith, gets))

pub packed_from_local : (u : List ℕ) → IsLocal u → IsPacked u
packed_from_local u l = record {
  cells = l.cells;
  chain = λ i j d h le.
      let a = get_or u i d in
      let b = get_or u j d in
      let ca : IsCell a = l.cells i d (omega arith) in
      let cb : IsCell b = l.cells j d le in
      let lt : a < b = AllPairs-from_increasing u l.ascending i j d h le in
      let la = cell_leaves a ca in
      let lb = cell_leaves b cb in
      let ma = la.middle in
      let mb = lb.middle in
      let sa = la.some in
      let sb = lb.some in
      elim (meeting a b ca cb) [
        | before m ↦ m
        | after m ↦ absurd (omega arith)
        | within m ↦ let lo = m.low in let hi = m.high in
            absurd (l.apart i j d h le (first_leaf a) (covers_there a (first_leaf a) (omega arith) (omega arith))
            (covers_there b (first_leaf a) lo (omega arith)))
        | around m ↦ let lo = m.low in let hi = m.high in
            absurd (l.apart i j d h le (first_leaf b) (covers_there a (first_leaf b) lo (omega arith))
            (covers_there b (first_leaf b) (omega arith) (omega arith)))
      ];
  unmerged = λ k p h f. l.unmerged p f.cell f.inner (four_cases (λ i. Contains u (child_of p i))
      (member_at u k (child_of p 0) (omega arith) f.zero) (member_at u (k + 1) (child_of p 1) (omega arith) f.one)
      (member_at u (k + 2) (child_of p 2) (omega arith) f.two) (member_at u (k + 3) (child_of p 3) h f.three));
}

-- a cell that comes after the last comes after all
pub fits : (u : List ℕ) (cell : ℕ) → IsPacked u →
    IsCell cell → (0 < length u → EndsBefore (get_or u (length u - 1) 0) cell) → ((less p : ℕ) → less + 3 ≡ length u →
    IsFamily (get_or u less 0) (get_or u (less + 1) 0) (get_or u (less + 2) 0) cell p → ⊥) → IsPacked (u ++ cell ∷ [])
fits u cell packed c last none =
    packed_push packed c
    (λ k h.
    let e : first_leaf (get_or u (length u - 1) 0) + size_of (get_or u (length u - 1) 0) ≤ first_leaf cell =
    last (omega arith) in
    ⊎_elim
    (λ (g : k < length u - 1). let f : first_leaf (get_or u k 0) + size_of (get_or u k 0)
    ≤ first_leaf (get_or u (length u - 1) 0) = packed.chain k (length u - 1) 0 g (omega arith) in omega arith)
    (λ (g : length u - 1 ≤ k). let s : k ≡ length u - 1 = omega arith in rw s e)
    (cases_lt k (length u - 1))) none

pub pushed_after : (u : List ℕ) (cell x : ℕ) → IsPacked (u ++ cell ∷ []) → 0 < length u →
    x ≡ get_or u (length u - 1) x → EndsBefore x cell
pushed_after u cell x p h r =
    let len : length (u ++ cell ∷ []) ≡ length u + 1 = length-append u (cell ∷ []) in
    let is : get_or u (length u - 1) 0 ≡ x = read_at u (length u - 1) (length u - 1) x (omega arith) refl r in
    let a : get_or (u ++ cell ∷ []) (length u - 1) 0 ≡ get_or u (length u - 1) 0 =
    get_or_append_left u (cell ∷ []) 0 (length u - 1) (omega arith) in
    let b : get_or (u ++ cell ∷ []) (length u) 0 ≡ cell = get_or_push u cell 0 (length u) refl in
    let c : EndsBefore (get_or (u ++ cell ∷ []) (length u - 1) 0) (get_or (u ++ cell ∷ []) (length u) 0) =
    p.chain (length u - 1) (length u) 0 (omega arith) (omega arith) in
    rw (a, b, is) at c

pub pushed_unmerged : (u : List ℕ) (cell x y z p : ℕ) → IsPacked (u ++ cell ∷ []) → 3 ≤ length u → x ≡ get_or
    u (length u - 3) x → y ≡ get_or u (length u - 2) y → z ≡ get_or u (length u - 1) z → IsFamily x y z cell p → ⊥
pushed_unmerged u cell x y z p packed h rx ry rz f =
    let len : length (u ++ cell ∷ []) ≡ length u + 1 = length-append u (cell ∷ []) in
    let k = length u - 3 in
    let v = u ++ cell ∷ [] in
    let a : get_or v k 0 ≡ x = get_or_append_left u (cell ∷ []) 0 k (omega arith)
    ∙ read_at u (length u - 3) k x (omega arith) refl rx in
    let b : get_or v (k + 1) 0 ≡ y = get_or_append_left u (cell ∷ []) 0 (k + 1) (omega arith)
    ∙ read_at u (length u - 2) (k + 1) y (omega arith) (omega arith) ry in
    let c : get_or v (k + 2) 0 ≡ z = get_or_append_left u (cell ∷ []) 0 (k + 2) (omega arith)
    ∙ read_at u (length u - 1) (k + 2) z (omega arith) (omega arith) rz in
    let d : get_or v (k + 3) 0 ≡ cell = get_or_push u cell 0 (k + 3) (omega arith) in
    packed.unmerged k p (omega arith) (rw (a, b, c, d) f)
