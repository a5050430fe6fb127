-- How many cells the normal form of a set has at most. Each lies around a cell of the lists that the set was made of,
-- or beside such a cell or an ancestor of it.
use Rattle.std.proofs.Common.{◌≡◌, ℕ, suc, zero, ◌+◌, ◌-◌, ◌*◌, ◌/◌, ◌%◌, ◌^◌, ◌<◌, ◌≤◌, ◌⊎◌, inl, inr, refl, sym}
use Rattle.std.proofs.Common.{◌∙◌, ap, subst, arith, Bool, true, false, cond, ltb, List, [], ◌∷◌, ◌++◌, length, map}
use Rattle.std.proofs.Common.{flat_map}
use Rattle.std.proofs.Common.{get_or, All, AllPairs, Contains, ◌||◌, ◌&&◌, not}
use Rattle.std.specs.List.{range_with_len, remove}
use Rattle.std.proofs.Math.Bool.{or_comm}
use Rattle.std.proofs.Math.Logic.{⊎_elim}
use Rattle.std.proofs.Math.Nat.{div-eq_of_lt-le, mul-suc}
use Rattle.std.proofs.lemmas.Bool.{cases_lt, cases_order, cond-true, cond-false, lt-ltb, le-ltb, false≢true}
use Rattle.std.proofs.lemmas.Bool.{and_from, and_parts, cases_Bool, not-true, or_cases, or_left, or_right}
use Rattle.std.proofs.lemmas.Bool.Decides.{nat_tests}
use Rattle.std.proofs.lemmas.List.{length-append}
use Rattle.std.proofs.lemmas.List.Edits.{get_or-remove_above, get_or-remove_below, length-remove}
use Rattle.std.proofs.lemmas.List.Elements.{All-contains, Contains-append_left, Contains-append_right}
use Rattle.std.proofs.lemmas.List.FromFn.{get_or-map-range_with_len, length-map-range_with_len}
use Rattle.std.proofs.lemmas.Option.{gets}
use Rattle.s2cell.specs.Cell.{IsCell, IsCellAt, level_of, place_of, size_of, first_leaf, covers, child_of, id_at}
use Rattle.s2cell.specs.Cell.{parent_of}
use Rattle.s2cell.specs.declared.TheConstants.{LEAVES}
use Rattle.s2cell.proofs.CellLemmas.{cell_leaves, first_leaf_of_cell, own_place, size_of_cell}
use Rattle.s2cell.proofs.Calls.{child_leaves, leaf_cell, IsCell-child_of, IsCell-leaf, IsCell-parent_of}
use Rattle.s2cell.proofs.Leaves.{Within, before, after, within, around, meeting, covers_from, covers_there}
use Rattle.s2cell.proofs.Leaves.{inside_from_within}
use Rattle.s2cell.proofs.Family.{deeper_inside, level_of_child, parent_around, parent_larger, parent_level}
use Rattle.s2cell.proofs.Family.{parent_within, within_trans}
use Rattle.s2cell.proofs.Squares.{first_leaf_covered}
use Rattle.s2list.specs.Sets.{union_of, symmetric_difference_of, intersection_of, difference_of}
use Rattle.s2list.specs.Union.{between, has_leaf, IsGreatestIn, IsNormalForm, LiesIn}
use Rattle.s2list.proofs.Checking.{packed_from_local}
use Rattle.s2list.proofs.Normal.{child_of_leaf, leaf_from, leaf_to, local_from_normal, same_level_same}
use Rattle.s2list.proofs.Picking.{between_ends}
use Rattle.s2list.proofs.Shortest.{Hit, shorter}
use Rattle.s2list.proofs.Walking.{not_true}

-- the cell around a cell that is no face
abbrev pub parent : ℕ → ℕ
parent c = parent_of c (level_of c - 1)

-- ---- the cells beside a cell and its ancestors, three of each level

-- the number of the child of `p` that has the leaf `x`
abbrev index : ℕ → ℕ → ℕ
index p x = (x - first_leaf p) / size_of (child_of p 0)

-- the child of `p` that has the number `r` if the one with the leaf `x` is left out
abbrev other : ℕ → ℕ → ℕ → ℕ
other p x r = child_of p (cond (ltb r (index p x)) r (r + 1))

abbrev beside_at : ℕ → ℕ → ℕ
beside_at y k = other (parent_of y (k / 3)) (first_leaf y) (k % 3)

abbrev pub besides : ℕ → List ℕ
besides y = map (beside_at y) (range_with_len 0 90)

index_is : {p : ℕ} (x i : ℕ) → IsCell p → level_of p < 30 → i < 4 → covers (child_of p i) x ≡ true → index p x ≡ i
index_is {p} x i c h q v =
    let ends = covers_from (child_of p i) x v in
    let zeroth = child_leaves p 0 c h (omega arith) in
    let child = child_leaves p i c h q in
    let size_0 = zeroth.size in
    let size_i = child.size in
    let start = child.first in
    let low = ends.0 in
    let high = ends.1 in
    let same : size_of (child_of p i) ≡ size_of (child_of p 0) = omega arith in
    let from : first_leaf (child_of p i) ≡ first_leaf p + i * size_of (child_of p 0) = start
    ∙ ap (λ s. first_leaf p + i * s) same in
    div-eq_of_lt-le {k = i} (size_of (child_of p 0)) (omega arith) (omega arith)

-- a child with another number than the one that has a leaf
other_is : (p x i j : ℕ) → index p x ≡ j → (i ≡ j → ⊥) → i < 4 → j < 4
    → (r : ℕ) × (r < 3) × (other p x r ≡ child_of p i)
other_is p x i j e different h l =
    ⊎_elim
    (λ (same : i ≡ j). absurd (different same))
    (⊎_elim
    (λ (less : i < j). (
      i,
      omega arith,
      ap (child_of p) (cond-true (ltb i (index p x)) i (i + 1)
          (lt-ltb i (index p x) (omega arith))),
    ))
    (λ (more : j < i).
    let back : i - 1 + 1 ≡ i = omega arith in (
      i - 1,
      omega arith,
      ap (child_of p) (cond-false (ltb (i - 1) (index p x)) (i - 1) (i - 1 + 1)
          (le-ltb (i - 1) (index p x) (omega arith)) ∙ back),
    )))
    (cases_order i j)

pub level_from_within : (y p : ℕ) → IsCell y → IsCell p → Within y p → level_of p ≤ level_of y
level_from_within y p cy cp w =
    let some = (cell_leaves y cy).some in
    let wl = w.low in
    let wh = w.high in
    ⊎_elim
    (λ (l : level_of y < level_of p).
    let back = deeper_inside p y (first_leaf y) cp cy (omega arith) wl (omega arith) (omega arith) (omega arith) in
    let around = parent_within p y cp cy l back in
    let larger = parent_larger p cp (omega arith) in
    let low = around.low in
    let high = around.high in
    absurd (omega arith))
    (λ h. h)
    (cases_lt (level_of y) (level_of p))

-- a cell without a leaf of `y`, whose parent is around `y`
pub beside : (c y : ℕ) → IsCell c → IsCell y → 0 < level_of c → Within y (parent c)
    → covers c (first_leaf y) ≡ false → Contains (besides y) c
beside c y cc cy deep w free =
    let k = level_of c - 1 in
    let le : k ≤ level_of c = omega arith in
    let p = parent c in
    let cp : IsCell p = IsCell-parent_of c k p cc le refl in
    let lp = parent_level c k cc le in
    let shallow_c = (cell_leaves c cc).shallow in
    let shallow_y = (cell_leaves y cy).shallow in
    let some_c = (cell_leaves c cc).some in
    let some_y = (cell_leaves y cy).some in
    let wl = w.low in
    let wh = w.high in
    let v = parent_around c k cc le in
    let vl = v.low in
    let vh = v.high in
    let (i, hi, at_i) = child_of_leaf (first_leaf c) cp (omega arith)
    (covers_there p (first_leaf c) vl (omega arith)) in
    let (j, hj, at_j) = child_of_leaf (first_leaf y) cp (omega arith)
    (covers_there p (first_leaf y) wl (omega arith)) in
    let here = first_leaf_covered c cc in
    let ci = IsCell-child_of p i (child_of p i) cp (omega arith) hi refl in
    let li = level_of_child p i cp (omega arith) hi in
    let is_i : c ≡ child_of p i = same_level_same (first_leaf c) cc ci (omega arith) here at_i in
    let apart : i ≡ j → ⊥ = λ e. false≢true (sym free
    ∙ ap (λ n. covers n (first_leaf y)) is_i ∙ ap (λ n. covers (child_of p n) (first_leaf y)) e ∙ at_j) in
    let (r, hr, is_r) = other_is p (first_leaf y) i j
    (index_is (first_leaf y) j cp (omega arith) hj at_j) apart hi hj in
    let deeper : level_of p ≤ level_of y = level_from_within y p cy cp w in
    let up : k ≤ level_of y = omega arith in
    let a = parent_around y k cy up in
    let al = a.low in
    let ah = a.high in
    let is_p : parent_of y k ≡ p = same_level_same (first_leaf y) (IsCell-parent_of y k (parent_of y k) cy up refl) cp
    (parent_level y k cy up ∙ sym lp) (covers_there (parent_of y k) (first_leaf y) al (omega arith))
    (covers_there p (first_leaf y) wl (omega arith)) in
    let third : (3 * k + r) / 3 ≡ k = omega arith in
    let rest : (3 * k + r) % 3 ≡ r = omega arith in (
      3 * k + r,
      rw (length-map-range_with_len (beside_at y) 0 90) (omega arith),
      get_or-map-range_with_len (beside_at y) 0 90 (3 * k + r) (3 * k + r) c (omega arith) (omega arith)
          ∙ ap (λ n. other (parent_of y n) (first_leaf y) ((3 * k + r) % 3)) third
          ∙ ap (λ n. other (parent_of y k) (first_leaf y) n) rest ∙ ap (λ n. other n (first_leaf y) r) is_p
          ∙ is_r ∙ sym is_i,
    )

-- ---- cells in the parent of a cell

-- a cell of `ys` in the parent of `c`, beside which or an ancestor of which `c` lies
pub record Near (ys : List ℕ) (c : ℕ) : Type 0 where
  pub cell : ℕ
  pub member : Contains ys cell
  pub own : IsCell cell
  pub inside : Within cell (parent c)
  pub near : Contains (besides cell) c

-- no leaf of `ys` is in the cell
abbrev pub IsFree : List ℕ → ℕ → Type 0
IsFree ys c = (x : ℕ) → covers c x ≡ true → has_leaf ys x ≡ false

-- a cell of `ys` shares a leaf with the cell, and so one lies in the other
abbrev Meets : List ℕ → ℕ → Type 0
Meets ys p = (y : ℕ) × Contains ys y × IsCell y × (Within y p ⊎ Within p y)

later : (y : ℕ) (ys : List ℕ) (p : ℕ) → ((x : ℕ) → covers p x ≡ true → covers y x ≡ true → ⊥)
    → Meets ys p ⊎ IsFree ys p → Meets (y ∷ ys) p ⊎ IsFree (y ∷ ys) p
later y ys p apart rest =
    ⊎_elim
    (λ (m : Meets ys p). let (z, (k, l, e), cz, w) = m in inl (z, (suc k, omega arith, e), cz, w))
    (λ (f : IsFree ys p). inr (λ x v. ap (λ b. b || has_leaf ys x) (not_true (covers y x) (apart x v)) ∙ f x v))
    rest

-- some cell of `ys` shares a leaf with the cell, or none does
meets_or_free : (ys : List ℕ) (p : ℕ) → All IsCell ys → IsCell p → Meets ys p ⊎ IsFree ys p
meets_or_free [] p all cp = inr (λ x v. refl)
meets_or_free (y ∷ ys) p all cp =
    let cy : IsCell y = all zero 0 (omega arith) in
    let rest = meets_or_free ys p (λ k d h. all (suc k) d (omega arith)) cp in
    elim (meeting y p cy cp) [
      | within w ↦ inl (y, (zero, omega arith, refl), cy, inl w)
      | around w ↦ inl (y, (zero, omega arith, refl), cy, inr w)
      | before m ↦ later y ys p (λ x v t. let e = covers_from p x v in let f = covers_from y x t in
          let a = e.0 in let b = f.1 in omega arith) rest
      | after m ↦ later y ys p (λ x v t. let e = covers_from p x v in let f = covers_from y x t in
          let a = e.1 in let b = f.0 in omega arith) rest
    ]

-- a cell without a leaf of `ys` has one beside it, or its parent has no leaf of `ys` either
pub near_or_free : (ys : List ℕ) {c : ℕ} → All IsCell ys → IsCell c → 0 < level_of c → IsFree ys c
    → Near ys c ⊎ IsFree ys (parent c)
near_or_free ys {c} all cc deep free =
    let k = level_of c - 1 in
    let cp : IsCell (parent c) = IsCell-parent_of c k (parent c) cc (omega arith) refl in
    let here = first_leaf_covered c cc in
    ⊎_elim
    (λ (m : Meets ys (parent c)).
    let (y, member, cy, nested) = m in
    let first = first_leaf_covered y cy in
    ⊎_elim
    (λ (w : Within y (parent c)). inl (record {
      cell = y;
      member = member;
      own = cy;
      inside = w;
      near = beside c y cc cy deep w (not_true (covers c (first_leaf y)) (λ t.
          false≢true (sym (free (first_leaf y) t) ∙ leaf_to ys y (first_leaf y) member first)));
    }))
    (λ (w : Within (parent c) y).
    let v = within_trans c (parent c) y (parent_around c k cc (omega arith)) w in
    absurd (false≢true (sym (free (first_leaf c) here)
    ∙ leaf_to ys y (first_leaf c) member (inside_from_within c y v (first_leaf c) here))))
    nested)
    (λ (f : IsFree ys (parent c)). inr f)
    (meets_or_free ys (parent c) all cp)

-- a cell with a leaf of `xs` at its front is around a cell of `xs`, or its parent lies in one
pub around_or_in : (xs : List ℕ) {c : ℕ} → All IsCell xs → IsCell c → has_leaf xs (first_leaf c) ≡ true
    → ((x : ℕ) × Contains xs x × IsCell x × Within x c)
    ⊎ ((0 < level_of c) × ((x : ℕ) × Contains xs x × IsCell x × Within (parent c) x))
around_or_in xs {c} all cc h =
    let l = leaf_from xs (first_leaf c) h in
    let x = l.cell in
    let cx : IsCell x = All-contains IsCell xs x all l.member in
    let some = (cell_leaves c cc).some in
    let low = l.low in
    let high = l.high in
    ⊎_elim
    (λ (less : level_of x < level_of c). inr (
      omega arith,
      (
        x,
        l.member,
        cx,
        parent_within c x cc cx less (deeper_inside c x (first_leaf c) cc cx (omega arith) (omega arith) (omega arith)
            low high),
      ),
    ))
    (λ (more : level_of c ≤ level_of x). inl (
      x,
      l.member,
      cx,
      deeper_inside x c (first_leaf c) cx cc more low high (omega arith) (omega arith),
    ))
    (cases_lt (level_of x) (level_of c))

-- ---- how many

hit : {v : List ℕ} {z d : ℕ} → Contains v z → IsCell z → Within z d → Hit v d
hit {v} {z} {d} (k, l, e) cz w =
    let is : z ≡ get_or v k 0 = grind (arith, gets) in
    record { at = k; below = l; cell = subst IsCell is cz; within = subst (λ x. Within x d) is w }

self : (d : ℕ) → Within d d
self d = record { low = omega arith; high = omega arith }

-- a greatest cell of a set has its first leaf there
first_in : {S : ℕ → Bool} {d : ℕ} → IsGreatestIn S d → S (first_leaf d) ≡ true
first_in {d = d} g = g.inside (first_leaf d) (first_leaf_covered d g.cell)

-- a cell that begins with a leaf of `xs` is around a cell of it, or its parent lies in it
hit_or_in : (xs : List ℕ) {v : List ℕ} {c : ℕ} → All IsCell xs → IsCell c → has_leaf xs (first_leaf c) ≡ true
    → ((x : ℕ) → Contains xs x → Contains v x) → Hit v c ⊎ ((0 < level_of c) × LiesIn (has_leaf xs) (parent c))
hit_or_in xs {v} {c} all cc h from =
    ⊎_elim
    (λ a. let (x, m, cx, w) = a in inl (hit (from x m) cx w))
    (λ b.
    let (deep, (x, m, cx, w)) = b in
    inr (deep, λ p t. leaf_to xs x p m (inside_from_within (parent c) x w p t)))
    (around_or_in xs all cc h)

-- a greatest cell of a set that has all leaves of `xs`
hit_own : {S : ℕ → Bool} (xs : List ℕ) {v : List ℕ} {d : ℕ} → All IsCell xs → IsGreatestIn S d
    → has_leaf xs (first_leaf d) ≡ true → ((x : ℕ) → Contains xs x → Contains v x)
    → ((x : ℕ) → has_leaf xs x ≡ true → S x ≡ true) → Hit v d
hit_own xs {v} {d} all g h from own =
    ⊎_elim
    (λ (a : Hit v d). a)
    (λ b. absurd (g.greatest b.0 (λ p t. own p (b.1 p t))))
    (hit_or_in xs all g.cell h from)

-- a normal form has no more cells than a list that has a cell inside each greatest one
pub few : {S : ℕ → Bool} {u : List ℕ} (v : List ℕ) → IsNormalForm S u
    → ((d : ℕ) → IsGreatestIn S d → Hit v d) → length u ≤ length v
few {S} {u} v n hits = shorter u v (packed_from_local u (local_from_normal S u n)).chain
    (λ d m. hits d ((n.members d).0 m))

pub flat_member : (f : ℕ → List ℕ) (xs : List ℕ) (x c : ℕ) → Contains xs x → Contains (f x) c
    → Contains (flat_map f xs) c
flat_member f [] x c (k, l, e) m = absurd (omega arith)
flat_member f (y ∷ xs) x c (zero, l, e) m = Contains-append_left (f y) (flat_map f xs) c
    (subst (λ z. Contains (f z) c) (sym e) m)
flat_member f (y ∷ xs) x c (suc k, l, e) m = Contains-append_right (f y) (flat_map f xs) c
    (flat_member f xs x c (k, omega arith, e) m)

pub flat_few : (k : ℕ) (f : ℕ → List ℕ) (xs : List ℕ) → ((x : ℕ) → length (f x) ≤ k)
    → length (flat_map f xs) ≤ k * length xs
flat_few k f [] h = omega arith
flat_few k f (x ∷ xs) h =
    let both = length-append (f x) (flat_map f xs) in
    let one = h x in
    let rest = flat_few k f xs h in
    let more : k * suc (length xs) ≡ k * length xs + k = mul-suc k (length xs) in
    omega arith

-- what a list has stays there without another number
kept : (ys : List ℕ) (k x c : ℕ) → k < length ys → get_or ys k x ≡ x → x < c → Contains ys c
    → Contains (remove ys k) c
kept ys k x c l e less (j, h, f) =
    let len = length-remove ys k l in
    ⊎_elim
    (λ (same : j ≡ k).
    let a : get_or ys k 0 ≡ x = grind (arith, gets) in
    let b : get_or ys j 0 ≡ c = grind (arith, gets) in
    let is : get_or ys j 0 ≡ get_or ys k 0 = ap (λ i. get_or ys i 0) same in
    absurd (omega arith))
    (⊎_elim
    (λ (below : j < k). (j, omega arith, get_or-remove_below ys k c j below l ∙ f))
    (λ (above : k < j).
    let back : j - 1 + 1 ≡ j = omega arith in (
      j - 1,
      omega arith,
      get_or-remove_above ys k c (j - 1) (omega arith) l ∙ ap (λ i. get_or ys i c) back ∙ f,
    )))
    (cases_order j k)

-- an ascending list is no longer than one that has all its numbers
pub fewer : (xs ys : List ℕ) → AllPairs (λ a b. a < b) xs → ((c : ℕ) → Contains xs c → Contains ys c)
    → length xs ≤ length ys
fewer [] ys rising f = omega arith
fewer (x ∷ xs) ys rising f =
    let (k, l, e) = f x (zero, omega arith, refl) in
    let len = length-remove ys k l in
    let less = fewer xs (remove ys k) (λ i j d h m. rising (suc i) (suc j) d (omega arith) (omega arith))
    (λ c m.
    let (j, h, g) = m in
    let after : x < get_or xs j c = rising zero (suc j) c (omega arith) (omega arith) in
    kept ys k x c l e (rw g at after) (f c (suc j, omega arith, g))) in
    omega arith

besides_few : (y : ℕ) → length (besides y) ≤ 90
besides_few y =
    let e = length-map-range_with_len (beside_at y) 0 90 in
    omega arith

between_there : (lo hi x : ℕ) → lo ≤ x → x < hi → between lo hi x ≡ true
between_there lo hi x low high = grind (arith, nat_tests)

-- ---- of each operation

pub union_few : (xs ys : List ℕ) {u : List ℕ} → All IsCell xs → All IsCell ys
    → IsNormalForm (union_of (has_leaf xs) (has_leaf ys)) u → length u ≤ length xs + length ys
union_few xs ys ax ay n =
    let both = length-append xs ys in
    let within = few (xs ++ ys) n (λ d g.
    ⊎_elim
    (λ (h : has_leaf xs (first_leaf d) ≡ true).
    hit_own xs ax g h (λ x. Contains-append_left xs ys x) (λ x. or_left (has_leaf xs x) (has_leaf ys x)))
    (λ (h : has_leaf ys (first_leaf d) ≡ true).
    hit_own ys ay g h (λ y. Contains-append_right xs ys y) (λ x. or_right (has_leaf xs x) (has_leaf ys x)))
    (or_cases (has_leaf xs (first_leaf d)) (has_leaf ys (first_leaf d)) (first_in g))) in
    omega arith

pub intersection_few : (xs ys : List ℕ) {u : List ℕ} → All IsCell xs → All IsCell ys
    → IsNormalForm (intersection_of (has_leaf xs) (has_leaf ys)) u → length u ≤ length xs + length ys
intersection_few xs ys ax ay n =
    let both = length-append xs ys in
    let within = few (xs ++ ys) n (λ d g.
    let h = and_parts (has_leaf xs (first_leaf d)) (has_leaf ys (first_leaf d)) (first_in g) in
    ⊎_elim
    (λ (a : Hit (xs ++ ys) d). a)
    (λ x. ⊎_elim
    (λ (a : Hit (xs ++ ys) d). a)
    (λ y. absurd (g.greatest x.0 (λ p v. and_from (has_leaf xs p) (has_leaf ys p) (x.1 p v) (y.1 p v))))
    (hit_or_in ys ay g.cell h.1 (λ y. Contains-append_right xs ys y)))
    (hit_or_in xs ax g.cell h.0 (λ x. Contains-append_left xs ys x))) in
    omega arith

pub difference_few : (xs ys : List ℕ) {u : List ℕ} → All IsCell xs → All IsCell ys
    → IsNormalForm (difference_of (has_leaf xs) (has_leaf ys)) u → length u ≤ length xs + 90 * length ys
difference_few xs ys ax ay n =
    let beside_ys = flat_map besides ys in
    let both = length-append xs beside_ys in
    let most = flat_few 90 besides ys besides_few in
    let within = few (xs ++ beside_ys) n (λ d g.
    let none : IsFree ys d = λ x v. not-true (has_leaf ys x)
    (and_parts (has_leaf xs x) (not (has_leaf ys x)) (g.inside x v)).1 in
    ⊎_elim
    (λ (a : Hit (xs ++ beside_ys) d). a)
    (λ b. ⊎_elim
    (λ (near : Near ys d). hit (Contains-append_right xs beside_ys d
    (flat_member besides ys near.cell d near.member near.near)) g.cell (self d))
    (λ (free : IsFree ys (parent d)). absurd (g.greatest b.0 (λ p v. and_from (has_leaf xs p) (not (has_leaf ys p))
    (b.1 p v) (ap not (free p v)))))
    (near_or_free ys ay g.cell b.0 none))
    (hit_or_in xs ax g.cell (and_parts (has_leaf xs (first_leaf d)) (not (has_leaf ys (first_leaf d))) (first_in g)).0
    (λ x. Contains-append_left xs beside_ys x))) in
    omega arith

-- what a cell adds to what only one list has: itself, or what is beside it if the other list has its first leaf too
abbrev parts : List ℕ → ℕ → List ℕ
parts ys x = cond (has_leaf ys (first_leaf x)) (besides x) (x ∷ [])

parts_few : (ys : List ℕ) (x : ℕ) → length (parts ys x) ≤ 90
parts_few ys x =
    let some = besides_few x in
    ⊎_elim
    (λ t. rw (cond-true (has_leaf ys (first_leaf x)) (besides x) (x ∷ []) t) some)
    (λ f. rw (cond-false (has_leaf ys (first_leaf x)) (besides x) (x ∷ []) f) (omega arith))
    (cases_Bool (has_leaf ys (first_leaf x)))

only_first : (a b : Bool) → ((a && not b) || (b && not a)) ≡ true → a ≡ true → b ≡ false
only_first a true h e = absurd (false≢true (rw e at h))
only_first a false h e = refl

-- a greatest cell of what only one list has that begins with a leaf of `xs`
symmetric_difference_hit : {S : ℕ → Bool} (xs ys v : List ℕ) {d : ℕ} → All IsCell xs → All IsCell ys → IsGreatestIn S d
    → ((x : ℕ) → S x ≡ symmetric_difference_of (has_leaf xs) (has_leaf ys) x) → has_leaf xs (first_leaf d) ≡ true
    → ((x c : ℕ) → Contains xs x → Contains (parts ys x) c → Contains v c)
    → ((y c : ℕ) → Contains ys y → Contains (parts xs y) c → Contains v c) → Hit v d
symmetric_difference_hit {S} xs ys v {d} ax ay g same h from_x from_y =
    let one : (x : ℕ) → S x ≡ true → has_leaf xs x ≡ true → has_leaf ys x ≡ false = λ x s t.
    only_first (has_leaf xs x) (has_leaf ys x) (sym (same x) ∙ s) t in
    ⊎_elim
    (λ a.
    let (x, m, cx, w) = a in
    let first = first_leaf_covered x cx in
    let alone = one (first_leaf x) (g.inside (first_leaf x) (inside_from_within x d w (first_leaf x) first))
    (leaf_to xs x (first_leaf x) m first) in
    hit (from_x x x m (rw (cond-false (has_leaf ys (first_leaf x)) (besides x) (x ∷ []) alone)
    (zero, omega arith, refl))) cx w)
    (λ b.
    let (deep, (x, m, cx, w)) = b in
    let inside = inside_from_within (parent d) x w in
    let own = inside_from_within d x
    (within_trans d (parent d) x (parent_around d (level_of d - 1) g.cell (omega arith)) w) in
    ⊎_elim
    (λ (near : Near ys d).
    let there = leaf_to xs x (first_leaf near.cell) m (inside (first_leaf near.cell)
    (inside_from_within near.cell (parent d) near.inside (first_leaf near.cell)
    (first_leaf_covered near.cell near.own))) in
    hit (from_y near.cell d near.member
    (rw (cond-true (has_leaf xs (first_leaf near.cell)) (besides near.cell) (near.cell ∷ []) there) near.near))
    g.cell (self d))
    (λ (free : IsFree ys (parent d)).
    absurd (g.greatest deep (λ p t. same p ∙ or_left (difference_of (has_leaf xs) (has_leaf ys) p)
    (difference_of (has_leaf ys) (has_leaf xs) p)
    (and_from (has_leaf xs p) (not (has_leaf ys p)) (leaf_to xs x p m (inside p t)) (ap not (free p t))))))
    (near_or_free ys ay g.cell deep (λ p t. one p (g.inside p t) (leaf_to xs x p m (own p t)))))
    (around_or_in xs ax g.cell h)

pub symmetric_difference_few : (xs ys : List ℕ) {u : List ℕ} → All IsCell xs → All IsCell ys
    → IsNormalForm (symmetric_difference_of (has_leaf xs) (has_leaf ys)) u → length u ≤ 90 * length xs + 90 * length ys
symmetric_difference_few xs ys ax ay n =
    let X = flat_map (parts ys) xs in
    let Y = flat_map (parts xs) ys in
    let both = length-append X Y in
    let most_x = flat_few 90 (parts ys) xs (parts_few ys) in
    let most_y = flat_few 90 (parts xs) ys (parts_few xs) in
    let from_x : (x c : ℕ) → Contains xs x → Contains (parts ys x) c → Contains (X ++ Y) c = λ x c m k.
    Contains-append_left X Y c (flat_member (parts ys) xs x c m k) in
    let from_y : (y c : ℕ) → Contains ys y → Contains (parts xs y) c → Contains (X ++ Y) c = λ y c m k.
    Contains-append_right X Y c (flat_member (parts xs) ys y c m k) in
    let S = has_leaf xs in
    let T = has_leaf ys in
    let within = few (X ++ Y) n (λ d g.
    ⊎_elim
    (λ h. symmetric_difference_hit xs ys (X ++ Y) ax ay g (λ x. refl) (and_parts (S (first_leaf d))
    (not (T (first_leaf d))) h).0 from_x from_y)
    (λ h. symmetric_difference_hit ys xs (X ++ Y) ay ax g (λ x. or_comm (difference_of S T x) (difference_of T S x))
    (and_parts (T (first_leaf d)) (not (S (first_leaf d))) h).0 from_y from_x)
    (or_cases (difference_of S T (first_leaf d)) (difference_of T S (first_leaf d)) (first_in g))) in
    omega arith

-- the faces from `a` on, `n` of them
abbrev faces : ℕ → ℕ → List ℕ
faces a n = map (id_at 0) (range_with_len a n)

-- a face, and its leaves
record Face (d : ℕ) : Type 0 where
  pub number : ℕ
  pub below : number < 6
  pub is : d ≡ id_at 0 number
  pub start : first_leaf d ≡ number * 4 ^ 30
  pub size : size_of d ≡ 4 ^ 30

face : (d : ℕ) → IsCell d → level_of d ≡ 0 → Face d
face d c e =
    let o = own_place d c in
    let at : IsCellAt 0 (place_of d) d = subst (λ k. IsCellAt k (place_of d) d) e o in
    let below = at.place in
    record {
      number = place_of d;
      below = omega arith;
      is = at.id;
      start = first_leaf_of_cell 0 (place_of d) d at;
      size = size_of_cell 0 (place_of d) d at;
    }

among_faces : {d : ℕ} (a n : ℕ) (f : Face d) → a ≤ f.number → f.number < a + n → Contains (faces a n) d
among_faces {d} a n f low high = (
  f.number - a,
  rw (length-map-range_with_len (id_at 0) a n) (omega arith),
  get_or-map-range_with_len (id_at 0) a n (f.number - a) f.number d (omega arith) (omega arith) ∙ sym f.is,
)

pub complement_few : (ids : List ℕ) {u : List ℕ} → All IsCell ids
    → IsNormalForm (λ x. between 0 LEAVES x && not (has_leaf ids x)) u → length u ≤ 6 + 90 * length ids
complement_few ids all n =
    let beside_ids = flat_map besides ids in
    let six = length-map-range_with_len (id_at 0) 0 6 in
    let both = length-append (faces 0 6) beside_ids in
    let most = flat_few 90 besides ids besides_few in
    let within = few (faces 0 6 ++ beside_ids) n (λ d g.
    ⊎_elim
    (λ (deep : 0 < level_of d).
    let none : IsFree ids d = λ x v. not-true (has_leaf ids x)
    (and_parts (between 0 LEAVES x) (not (has_leaf ids x)) (g.inside x v)).1 in
    ⊎_elim
    (λ (near : Near ids d). hit (Contains-append_right (faces 0 6) beside_ids d
    (flat_member besides ids near.cell d near.member near.near)) g.cell (self d))
    (λ (free : IsFree ids (parent d)).
    let cp : IsCell (parent d) = IsCell-parent_of d (level_of d - 1) (parent d) g.cell (omega arith) refl in
    let last = (cell_leaves (parent d) cp).within in
    absurd (g.greatest deep (λ p v.
    let ends = covers_from (parent d) p v in
    let high = ends.1 in
    and_from (between 0 LEAVES p) (not (has_leaf ids p)) (between_there 0 LEAVES p (omega arith) (omega arith))
    (ap not (free p v)))))
    (near_or_free ids all g.cell deep none))
    (λ (top : level_of d ≤ 0).
    let f = face d g.cell (omega arith) in
    let below = f.below in
    hit (Contains-append_left (faces 0 6) beside_ids d (among_faces 0 6 f (omega arith) (omega arith))) g.cell (self d))
    (cases_lt 0 (level_of d))) in
    omega arith

-- what lies beside the leaf `x`, or the face with the number `k` if there is no such leaf
abbrev outer : ℕ → ℕ → List ℕ
outer x k = cond (ltb x LEAVES) (besides (2 * x + 1)) (faces k 1)

-- the leaf before an interval that begins at `lo`, if there is one
abbrev before_leaf : ℕ → ℕ
before_leaf lo = cond (ltb 0 lo) (lo - 1) LEAVES

outer_few : (x k : ℕ) → length (outer x k) ≤ 90
outer_few x k =
    let e = length-map-range_with_len (id_at 0) k 1 in
    let some = besides_few (2 * x + 1) in
    ⊎_elim
    (λ (h : x < LEAVES). rw (cond-true (ltb x LEAVES) (besides (2 * x + 1)) (faces k 1) (lt-ltb x LEAVES h)) some)
    (λ (h : LEAVES ≤ x). rw (cond-false (ltb x LEAVES) (besides (2 * x + 1)) (faces k 1) (le-ltb x LEAVES h))
    (omega arith))
    (cases_lt x LEAVES)

-- a cell without a leaf that its parent has
in_outer : (d x k : ℕ) → IsCell d → 0 < level_of d → x < LEAVES → first_leaf (parent d) ≤ x
    → x < first_leaf (parent d) + size_of (parent d) → x < first_leaf d ⊎ first_leaf d + size_of d ≤ x
    → Contains (outer x k) d
in_outer d x k c deep h low high out =
    let at = leaf_cell x h in
    let cx : IsCell (2 * x + 1) = IsCell-leaf x (2 * x + 1) h refl in
    let start = first_leaf_of_cell 30 x (2 * x + 1) at in
    let one = size_of_cell 30 x (2 * x + 1) at in
    let first : first_leaf (2 * x + 1) ≡ x = omega arith in
    rw (cond-true (ltb x LEAVES) (besides (2 * x + 1)) (faces k 1) (lt-ltb x LEAVES h))
    (beside d (2 * x + 1) c cx deep (record { low = omega arith; high = omega arith })
    (ap (covers d) first ∙ not_true (covers d x) (λ t.
    let ends = covers_from d x t in
    let from = ends.0 in
    let to = ends.1 in
    ⊎_elim (λ (h : x < first_leaf d). omega arith) (λ (h : first_leaf d + size_of d ≤ x). omega arith) out)))

outer_face : {d : ℕ} (x k : ℕ) (f : Face d) → LEAVES ≤ x → f.number ≡ k → Contains (outer x k) d
outer_face x k f h e = rw (cond-false (ltb x LEAVES) (besides (2 * x + 1)) (faces k 1) (le-ltb x LEAVES h))
    (among_faces k 1 f (omega arith) (omega arith))

-- a cell that begins in an interval, and its parent before it
in_left : (lo d : ℕ) → IsCell d → lo ≤ first_leaf d → 0 < level_of d → first_leaf (parent d) < lo
    → Contains (outer (before_leaf lo) 0) d
in_left lo d c h deep p =
    let around = parent_around d (level_of d - 1) c (omega arith) in
    let low = around.low in
    let high = around.high in
    let own = cell_leaves d c in
    let some = own.some in
    let last = own.within in
    rw (cond-true (ltb 0 lo) (lo - 1) LEAVES (lt-ltb 0 lo (omega arith)))
    (in_outer d (lo - 1) 0 c deep (omega arith) (omega arith) (omega arith) (inl (omega arith)))

-- a cell that ends in an interval, and its parent after it
in_right : (hi d : ℕ) → IsCell d → first_leaf d + size_of d ≤ hi → 0 < level_of d
    → hi < first_leaf (parent d) + size_of (parent d) → Contains (outer hi 5) d
in_right hi d c h deep p =
    let k = level_of d - 1 in
    let around = parent_around d k c (omega arith) in
    let low = around.low in
    let last = (cell_leaves (parent d) (IsCell-parent_of d k (parent d) c (omega arith) refl)).within in
    in_outer d hi 5 c deep (omega arith) (omega arith) p (inr h)

pub range_few : (lo hi : ℕ) {u : List ℕ} → IsNormalForm (between lo hi) u → length u ≤ 184
range_few lo hi n =
    let left = outer (before_leaf lo) 0 in
    let right = outer hi 5 in
    let ends = left ++ right in
    let four = length-map-range_with_len (id_at 0) 1 4 in
    let most_left = outer_few (before_leaf lo) 0 in
    let most_right = outer_few hi 5 in
    let both = length-append left right in
    let all = length-append (faces 1 4) ends in
    let at_left : (d : ℕ) → Contains left d → Contains (faces 1 4 ++ ends) d = λ d m.
    Contains-append_right (faces 1 4) ends d (Contains-append_left left right d m) in
    let at_right : (d : ℕ) → Contains right d → Contains (faces 1 4 ++ ends) d = λ d m.
    Contains-append_right (faces 1 4) ends d (Contains-append_right left right d m) in
    let within = few (faces 1 4 ++ ends) n (λ d g.
    let some = (cell_leaves d g.cell).some in
    let low = (between_ends lo hi (first_leaf d) (first_in g)).0 in
    let high = (between_ends lo hi (first_leaf d + size_of d - 1)
    (g.inside (first_leaf d + size_of d - 1)
    (covers_there d (first_leaf d + size_of d - 1) (omega arith) (omega arith)))).1 in
    ⊎_elim
    (λ (deep : 0 < level_of d).
    ⊎_elim
    (λ (h : first_leaf (parent d) < lo). hit (at_left d (in_left lo d g.cell low deep h)) g.cell (self d))
    (λ (h : lo ≤ first_leaf (parent d)). ⊎_elim
    (λ (k : hi < first_leaf (parent d) + size_of (parent d)).
    hit (at_right d (in_right hi d g.cell (omega arith) deep k)) g.cell (self d))
    (λ (k : first_leaf (parent d) + size_of (parent d) ≤ hi). absurd (g.greatest deep (λ p v.
    let at = covers_from (parent d) p v in
    let a = at.0 in
    let b = at.1 in
    between_there lo hi p (omega arith) (omega arith))))
    (cases_lt hi (first_leaf (parent d) + size_of (parent d))))
    (cases_lt (first_leaf (parent d)) lo))
    (λ (top : level_of d ≤ 0).
    let f = face d g.cell (omega arith) in
    let below = f.below in
    let start = f.start in
    let size = f.size in
    ⊎_elim
    (λ (z : f.number < 1).
    let none : before_leaf lo ≡ LEAVES = cond-false (ltb 0 lo) (lo - 1) LEAVES (le-ltb 0 lo (omega arith)) in
    hit (at_left d (outer_face (before_leaf lo) 0 f (omega arith) (omega arith))) g.cell (self d))
    (λ (a : 1 ≤ f.number). ⊎_elim
    (λ (b : f.number < 5). hit (Contains-append_left (faces 1 4) ends d (among_faces 1 4 f a (omega arith))) g.cell
    (self d))
    (λ (b : 5 ≤ f.number). hit (at_right d (outer_face hi 5 f (omega arith) (omega arith))) g.cell (self d))
    (cases_lt f.number 5))
    (cases_lt f.number 1))
    (cases_lt 0 (level_of d))) in
    omega arith

pub normal_few : (ids : List ℕ) {u : List ℕ} → All IsCell ids → IsNormalForm (has_leaf ids) u
    → length u ≤ length ids
normal_few ids all n = few ids n (λ d g. hit_own ids all g (first_in g) (λ x m. m) (λ x t. t))
