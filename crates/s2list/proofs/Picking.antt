-- A list of greatest cells, put together from the first leaf to the last.
use Rattle.std.proofs.Common.{◌≡◌, ℕ, ◌+◌, ◌-◌, ◌<◌, ◌≤◌, ◌||◌, refl, sym, ap, subst, ◌∙◌, arith}
use Rattle.std.proofs.Common.{Bool, true, List, [], ◌∷◌, ◌++◌, length, get_or, All, AllPairs, Contains}
use Rattle.std.proofs.Math.Logic.{⊎_elim}
use Rattle.std.proofs.lemmas.Bool.{cases_lt}
use Rattle.std.proofs.lemmas.Bool.Decides.{nat_tests}
use Rattle.std.proofs.lemmas.List.{get_or_append_left, get_or-append-add, length-append}
use Rattle.std.proofs.lemmas.List.Folds.{list_any-append}
use Rattle.std.proofs.lemmas.Option.{gets}
use Rattle.std.proofs.lemmas.List.Elements.{All-push, All-append, All-contains, Contains-get_or}
use Rattle.std.proofs.lemmas.List.Quantifiers.{all_pairs_push}
use Rattle.s2cell.specs.Cell.{IsCell, level_of, size_of, first_leaf, covers, parent_of}
use Rattle.s2cell.proofs.CellLemmas.{cell_leaves}
use Rattle.s2cell.proofs.Calls.{IsCell-parent_of}
use Rattle.s2cell.proofs.Leaves.{covers_there, inside_from_within}
use Rattle.s2cell.proofs.Family.{parent_around}
use Rattle.s2list.specs.Union.{has_leaf, between, LiesIn, IsGreatestIn, IsLocal, IsNormalForm}
use Rattle.s2list.specs.Working.Union.{EndsBy}
use Rattle.s2list.specs.Packed.{EndsBefore, FillsGap}
use Rattle.s2list.proofs.Normal.{leaf_from, greatest_apart, local_from_normal, member_greatest}
use Rattle.s2list.proofs.Checking.{packed_from_local}
use Rattle.s2list.proofs.Walking.{leaf_there}

pub between_ends : (lo hi x : ℕ) → between lo hi x ≡ true → (lo ≤ x) × (x < hi)
between_ends lo hi x h = grind (arith, nat_tests)

-- the cells of `u` are greatest in `S`, each ending before the next
pub record Picked (S : ℕ → Bool) (u : List ℕ) : Type 0 where
  pub chain : AllPairs EndsBefore u
  pub greatest : All (IsGreatestIn S) u

pub picked_none : (S : ℕ → Bool) → Picked S []
picked_none S = record { chain = λ i j d h l. absurd (omega arith); greatest = λ k d h. absurd (omega arith) }

pub picked_push : (S : ℕ → Bool) (u : List ℕ) (c lo : ℕ) → Picked S u → EndsBy u lo → lo ≤ first_leaf c →
    IsGreatestIn S c → Picked S (u ++ c ∷ [])
picked_push S u c lo p below h g = record {
  chain = all_pairs_push EndsBefore u c p.chain (λ k d l.
      let e : get_or u k d ≡ get_or u k 0 = grind (arith, gets) in
      let s = (cell_leaves (get_or u k 0) (p.greatest k 0 l).cell).some in
      let b : first_leaf (get_or u k 0) + size_of (get_or u k 0) - 1 < lo =
      below (first_leaf (get_or u k 0) + size_of (get_or u k 0) - 1)
      (leaf_there u k (first_leaf (get_or u k 0) + size_of (get_or u k 0) - 1) l (omega arith) (omega arith)) in
      rw e (omega arith));
  greatest = All-push (IsGreatestIn S) u c p.greatest g;
}

pub picked_normal : (S : ℕ → Bool) (u : List ℕ) → Picked S u → ((x : ℕ) → has_leaf u x ≡ S x) → IsNormalForm S u
picked_normal S u p same = record {
  ascending = λ k h.
      let x : first_leaf (get_or u k 0) + size_of (get_or u k 0) ≤ first_leaf (get_or u (k + 1) 0) =
      p.chain k (k + 1) 0 (omega arith) h in
      let a = cell_leaves (get_or u k 0) (p.greatest k 0 (omega arith)).cell in
      let b = cell_leaves (get_or u (k + 1) 0) (p.greatest (k + 1) 0 h).cell in
      let am = a.middle in
      let bm = b.middle in
      let s = a.some in
      omega arith;
  members = λ c. (
    λ m. All-contains (IsGreatestIn S) u c p.greatest m,
    λ g.
        let s = (cell_leaves c g.cell).some in
        let v : covers c (first_leaf c) ≡ true = covers_there c (first_leaf c) (omega arith) (omega arith) in
        let l = leaf_from u (first_leaf c) (same (first_leaf c) ∙ g.inside (first_leaf c) v) in
        let e : c ≡ l.cell = greatest_apart S c l.cell (first_leaf c) g
        (All-contains (IsGreatestIn S) u l.cell p.greatest l.member) v
        (covers_there l.cell (first_leaf c) l.low l.high) in
        rw e l.member,
  );
}

pub picked_local : (S : ℕ → Bool) (u : List ℕ) → Picked S u → ((x : ℕ) → has_leaf u x ≡ S x) → IsLocal u
picked_local S u p same = local_from_normal S u (picked_normal S u p same)

-- a cell of a local list is greatest in each smaller set that it lies in
pub greatest_below : (S : ℕ → Bool) (u : List ℕ) (c : ℕ) → IsLocal u → Contains u c →
    ((x : ℕ) → S x ≡ true → has_leaf u x ≡ true) → LiesIn S c → IsGreatestIn S c
greatest_below S u c local m within lies =
    let g = member_greatest u local c m in
    record { cell = g.cell; inside = lies; greatest = λ h p. g.greatest h (λ x v. within x (p x v)) }

-- ---- a gap of the set, filled

-- the leaves from `lo` to before `hi` are in `S`, and no cell inside `S` reaches beyond them
pub record IsGap (S : ℕ → Bool) (lo hi : ℕ) : Type 0 where
  pub inside : (x : ℕ) → between lo hi x ≡ true → S x ≡ true
  pub closed : (p x : ℕ) → IsCell p → LiesIn S p → covers p x ≡ true → between lo hi x ≡ true → LiesIn (between lo hi) p

gap_greatest : {S : ℕ → Bool} {lo hi c : ℕ} → IsGap S lo hi → IsGreatestIn (between lo hi) c → IsGreatestIn S c
gap_greatest {c} g t =
    let cc = t.cell in
    let some = (cell_leaves c cc).some in
    let x = first_leaf c in
    let here : covers c x ≡ true = covers_there c x (omega arith) (omega arith) in
    let k = level_of c - 1 in
    let le : k ≤ level_of c = omega arith in
    let cp : IsCell (parent_of c k) = IsCell-parent_of c k (parent_of c k) cc le refl in
    record {
      cell = cc;
      inside = λ y h. g.inside y (t.inside y h);
      greatest = λ deep h. t.greatest deep (g.closed (parent_of c k) x cp h
          (inside_from_within c (parent_of c k) (parent_around c k cc le) x here) (t.inside x here));
    }

all_pairs_append : (R : ℕ → ℕ → Type 0) (xs ys : List ℕ) → AllPairs R xs → AllPairs R ys →
    ((i j d : ℕ) → i < length xs → j < length ys → R (get_or xs i d) (get_or ys j d)) → AllPairs R (xs ++ ys)
all_pairs_append R xs ys px py across i j d h l =
    let len = length-append xs ys in
    let n = length xs in
    ⊎_elim
    (λ (jl : j < n).
    let a : get_or (xs ++ ys) i d ≡ get_or xs i d = get_or_append_left xs ys d i (omega arith) in
    let b : get_or (xs ++ ys) j d ≡ get_or xs j d = get_or_append_left xs ys d j jl in
    rw (a, b) (px i j d h jl))
    (λ (jr : n ≤ j).
    let ej : n + (j - n) ≡ j = omega arith in
    let b : get_or (xs ++ ys) j d ≡ get_or ys (j - n) d = ap (λ k. get_or (xs ++ ys) k d) (sym ej)
    ∙ get_or-append-add xs ys (j - n) d in
    ⊎_elim
    (λ (il : i < n).
    let a : get_or (xs ++ ys) i d ≡ get_or xs i d = get_or_append_left xs ys d i il in
    rw (a, b) (across i (j - n) d il (omega arith)))
    (λ (ir : n ≤ i).
    let ei : n + (i - n) ≡ i = omega arith in
    let a : get_or (xs ++ ys) i d ≡ get_or ys (i - n) d = ap (λ k. get_or (xs ++ ys) k d) (sym ei)
    ∙ get_or-append-add xs ys (i - n) d in
    rw (a, b) (py (i - n) (j - n) d (omega arith) (omega arith)))
    (cases_lt i n))
    (cases_lt j n)

pub picked_fill : (S : ℕ → Bool) (old new : List ℕ) (lo hi : ℕ) → Picked S old → EndsBy old lo →
    (lo < hi → IsGap S lo hi) → FillsGap old new lo hi → Picked S new
picked_fill S old new lo hi p below gap f =
    let chain : AllPairs EndsBefore f.tiles =
    (packed_from_local f.tiles (local_from_normal (between lo hi) f.tiles f.normal)).chain in
    let great : (k d : ℕ) → k < length f.tiles → IsGreatestIn (between lo hi) (get_or f.tiles k d) =
    λ k d l. (f.normal.members (get_or f.tiles k d)).0 (Contains-get_or f.tiles k d l) in
    let bounds : (k d : ℕ) → k < length f.tiles → (lo ≤ first_leaf (get_or f.tiles k d))
    × (first_leaf (get_or f.tiles k d) < hi) =
    λ k d l.
    let c = get_or f.tiles k d in
    let g = great k d l in
    let some = (cell_leaves c g.cell).some in
    let b : between lo hi (first_leaf c) ≡ true =
    g.inside (first_leaf c) (covers_there c (first_leaf c) (omega arith) (omega arith)) in
    between_ends lo hi (first_leaf c) b in
    let made : Picked S (old ++ f.tiles) =
    record {
      chain = all_pairs_append EndsBefore old f.tiles p.chain chain (λ i j d li lj.
          let e : get_or old i d ≡ get_or old i 0 = grind (arith, gets) in
          let s = (cell_leaves (get_or old i 0) (p.greatest i 0 li).cell).some in
          let x = first_leaf (get_or old i 0) + size_of (get_or old i 0) - 1 in
          let b : x < lo = below x (leaf_there old i x li (omega arith) (omega arith)) in
          let t = (bounds j d lj).0 in
          rw e (omega arith));
      greatest = All-append (IsGreatestIn S) old f.tiles p.greatest (λ k d l.
          let b = bounds k d l in
          gap_greatest (gap (let b0 = b.0 in let b1 = b.1 in omega arith)) (great k d l));
    } in
    subst (Picked S) (sym f.is) made

pub fill_leaves : (old new : List ℕ) (lo hi : ℕ) → FillsGap old new lo hi → (x : ℕ) →
    has_leaf new x ≡ (has_leaf old x || between lo hi x)
fill_leaves old new lo hi f x =
    ap (λ v. has_leaf v x) f.is ∙ list_any-append (λ (v : ℕ). covers v x) old f.tiles
    ∙ ap (λ v. has_leaf old x || v) (f.leaves x)

-- from an empty list on
pub fill_alone : (new : List ℕ) (lo hi : ℕ) → FillsGap [] new lo hi → IsNormalForm (between lo hi) new
fill_alone new lo hi f = subst (IsNormalForm (between lo hi)) (sym f.is) f.normal

pub fill_alone_leaves : (new : List ℕ) (lo hi : ℕ) → FillsGap [] new lo hi → (x : ℕ) → has_leaf new x ≡ between lo hi x
fill_alone_leaves new lo hi f x = ap (λ v. has_leaf v x) f.is ∙ f.leaves x
