-- A local list is the normal form of its leaves.
use Rattle.std.proofs.Common.{◌≡◌, ℕ, suc, zero, ◌+◌, ◌-◌, ◌*◌, ◌/◌, ◌<◌, ◌≤◌, refl, sym, ◌∙◌, ap, arith, subst, ◌⊎◌}
use Rattle.std.proofs.Common.{inl, inr, Bool, true, List, [], ◌∷◌, length, get_or, All, AllPairs, Contains}
use Rattle.std.proofs.Math.Logic.{⊎_elim}
use Rattle.std.proofs.lemmas.Bool.{cases_lt, cases_order}
use Rattle.std.proofs.lemmas.List.Folds.{Any-from_list_any, list_any_at}
use Rattle.std.proofs.lemmas.List.Elements.{All-contains, Contains-get_or}
use Rattle.std.proofs.lemmas.List.Kept.{AllPairs-from_increasing}
use Rattle.std.proofs.lemmas.Map.Made.{Contains-tail}
use Rattle.std.specs.List.Sorted.{IsStrictlyIncreasing}
use Rattle.std.proofs.lemmas.Nat.{div_below}
use Rattle.std.proofs.Math.Nat.{div-mul-le_self, lt-div-mul-add}
use Rattle.std.proofs.lemmas.Option.{gets}
use Rattle.s2cell.specs.Cell.{IsCell, level_of, size_of, first_leaf, covers, child_of, parent_of}
use Rattle.s2cell.proofs.CellLemmas.{cell_leaves}
use Rattle.s2cell.proofs.Calls.{child_leaves, IsCell-child_of, shallow, IsCell-parent_of}
use Rattle.s2cell.proofs.Leaves.{Within, covers_there, covers_from, inside_from_within}
use Rattle.s2list.specs.Union.{has_leaf, ShareNone, IsLocal, LiesIn, IsGreatestIn, IsNormalForm}
use Rattle.s2cell.proofs.Family.{same_from_within, level_of_child, same_ends, size_le, deeper_inside, within_trans}
use Rattle.s2cell.proofs.Family.{child_within, holder_step, parent_level, parent_around, parent_within, parent_larger}

-- a leaf of the list is a leaf of one of its cells
pub record LeafOf (u : List ℕ) (x : ℕ) : Type 0 where
  pub cell : ℕ
  pub member : Contains u cell
  pub low : first_leaf cell ≤ x
  pub high : x < first_leaf cell + size_of cell

pub leaf_from : (u : List ℕ) (x : ℕ) → has_leaf u x ≡ true → LeafOf u x
leaf_from u x h =
    let r = Any-from_list_any (λ c. covers c x) u h in
    let e : get_or u r.0 r.1 ≡ r.1 = r.3 in
    let i = covers_from r.1 x r.4 in
    record { cell = r.1; member = (r.0, r.2, r.3); low = i.0; high = i.1 }

pub leaf_to : (u : List ℕ) (c x : ℕ) → Contains u c → covers c x ≡ true → has_leaf u x ≡ true
leaf_to u c x (k, l, e) h = list_any_at (λ d. covers d x) u k c l (ap (λ d. covers d x) e ∙ h)

-- a cell of the list around p, or four siblings in the list
pub data Held (u : List ℕ) (p : ℕ) : Type 0 where
  holder : (d : ℕ) → Contains u d → Within p d → Held u p
  family : (q : ℕ) → IsCell q → level_of q < 30 → ((i : ℕ) → i < 4 → Contains u (child_of q i)) → Held u p

pub four_cases : (P : ℕ → Type 0) → P 0 → P 1 → P 2 → P 3 → (i : ℕ) → i < 4 → P i
four_cases P a b c d zero h = a
four_cases P a b c d (suc zero) h = b
four_cases P a b c d (suc (suc zero)) h = c
four_cases P a b c d (suc (suc (suc zero))) h = d
four_cases P a b c d (suc (suc (suc (suc n)))) h = absurd (omega arith)

child_held : {u : List ℕ} {p : ℕ} (i : ℕ) →
    All IsCell u → IsCell p → level_of p < 30 → i < 4 → Held u (child_of p i) → Held u p ⊎ Contains u (child_of p i)
child_held {u} {p} i all c h q (holder d m w) =
    ⊎_elim
    (λ (v : Within p d). inl (holder d m v))
    (λ (e : d ≡ child_of p i). inr (subst (λ x. Contains u x) e m))
    (holder_step p i d c h q (All-contains IsCell u d all m) w)
child_held i all c h q (family r cr l f) = inl (family r cr l f)

-- a cell whose leaves are all in the list is held, or the list has four siblings
pub all_held : (fuel : ℕ) (u : List ℕ) (p : ℕ) → All IsCell u → IsCell p → fuel + level_of p ≡ 30 →
    LiesIn (has_leaf u) p → Held u p
all_held zero u p all c e h =
    let some = (cell_leaves p c).some in
    let r = leaf_from u (first_leaf p) (h (first_leaf p) (covers_there p (first_leaf p) (omega arith) (omega arith))) in
    let cd : IsCell r.cell = All-contains IsCell u r.cell all r.member in
    let sh = shallow r.cell cd in
    let lo = r.low in
    let hi = r.high in
    holder r.cell r.member (deeper_inside p r.cell (first_leaf p) c cd (omega arith) (omega arith) (omega arith) lo hi)
all_held (suc fuel) u p all c e h =
    let l : level_of p < 30 = omega arith in
    let one : (i : ℕ) → i < 4 → Held u p ⊎ Contains u (child_of p i) =
    λ i q.
    let lc = level_of_child p i c l q in
    child_held i all c l q
    (all_held fuel u (child_of p i) all (IsCell-child_of p i (child_of p i) c l q refl) (omega arith)
    (λ x v. h x (inside_from_within (child_of p i) p (child_within p i c l q) x v))) in
    ⊎_elim (λ (r : Held u p). r) (λ (a : Contains u (child_of p 0)). ⊎_elim (λ (r : Held u p). r) (λ (b : Contains
    u (child_of p 1)). ⊎_elim (λ (r : Held u p). r) (λ (d : Contains u (child_of p 2)). ⊎_elim (λ (r : Held u p). r)
    (λ (f : Contains u (child_of p 3)). family p c l (four_cases (λ i. Contains u (child_of p i)) a b d f))
    (one 3 (omega arith))) (one 2 (omega arith))) (one 1 (omega arith))) (one 0 (omega arith))

-- two members are one, or share no leaf
members_apart : (u : List ℕ) (c d : ℕ) → AllPairs ShareNone u → Contains u c → Contains u d → (c ≡ d) ⊎ ShareNone c d
members_apart u c d apart (i, li, ei) (j, lj, ej) =
    let same_i : get_or u i 0 ≡ c = grind (arith, gets) in
    let same_j : get_or u j 0 ≡ d = grind (arith, gets) in
    ⊎_elim
    (λ (e : i ≡ j). inl (sym same_i ∙ ap (λ k. get_or u k 0) e ∙ same_j)) (⊎_elim
    (λ (h : i < j). inr (λ x hc hd. apart i j 0 h lj x (ap (λ y. covers y x) same_i ∙ hc)
    (ap (λ y. covers y x) same_j ∙ hd)))
    (λ (h : j < i). inr (λ x hc hd. apart j i 0 h li x (ap (λ y. covers y x) same_j ∙ hd)
    (ap (λ y. covers y x) same_i ∙ hc))))
    (cases_order i j)

-- a member around a member is that member
member_around : (u : List ℕ) {c d : ℕ} →
    All IsCell u → AllPairs ShareNone u → Contains u c → Contains u d → Within c d → c ≡ d
member_around u {c} {d} all apart mc md w =
    let cc : IsCell c = All-contains IsCell u c all mc in
    let some = (cell_leaves c cc).some in
    let wl = w.low in
    let wh = w.high in
    ⊎_elim
    (λ (e : c ≡ d). e)
    (λ (n : ShareNone c d). absurd (n (first_leaf c) (covers_there c (first_leaf c) (omega arith) (omega arith))
    (covers_there d (first_leaf c) wl (omega arith)))) (members_apart u c d apart mc md)

pub member_greatest : (u : List ℕ) → IsLocal u → (c : ℕ) → Contains u c → IsGreatestIn (has_leaf u) c
member_greatest u l c m =
    let cc : IsCell c = All-contains IsCell u c l.cells m in
    record {
      cell = cc;
      inside = λ x h. leaf_to u c x m h;
      greatest = λ deep h.
          let k = level_of c - 1 in
          let le : k ≤ level_of c = omega arith in
          let p = parent_of c k in
          let cp : IsCell p = IsCell-parent_of c k p cc le refl in
          let sh = shallow p cp in
          elim (all_held (30 - level_of p) u p l.cells cp (omega arith) h) [
            | holder d md w ↦
                let e : c ≡ d = member_around u l.cells l.apart m md (within_trans c p d (parent_around c k cc le) w) in
                let s : size_of d ≡ size_of c = ap size_of (sym e) in
                let g = parent_larger c cc deep in
                let wl = w.low in
                let wh = w.high in
                absurd (omega arith)
            | family q cq lq f ↦ absurd (l.unmerged q cq lq f)
          ];
    }

greatest_member : {u : List ℕ} → IsLocal u → (c : ℕ) → IsGreatestIn (has_leaf u) c → Contains u c
greatest_member {u} l c g =
    let cc = g.cell in
    let sh = shallow c cc in
    elim (all_held (30 - level_of c) u c l.cells cc (omega arith) g.inside) [
      | holder d md w ↦
          let cd : IsCell d = All-contains IsCell u d l.cells md in
          ⊎_elim
          (λ (h : level_of d < level_of c). absurd (g.greatest (omega arith) (λ x v. leaf_to
          u d x md (inside_from_within (parent_of c (level_of c - 1)) d (parent_within c d cc cd h w) x v))))
          (λ (h : level_of c ≤ level_of d).
          let s = size_le d c cd cc h in
          let wl = w.low in
          let wh = w.high in
          let e : d ≡ c = same_ends d c cd cc (omega arith) (omega arith) in
          subst (λ x. Contains u x) e md)
          (cases_lt (level_of d) (level_of c))
      | family q cq lq f ↦ absurd (l.unmerged q cq lq f)
    ]

-- a local list is the normal form of its leaves
pub normal_from_local : (u : List ℕ) → IsLocal u → IsNormalForm (has_leaf u) u
normal_from_local u l = record {
  ascending = l.ascending;
  members = λ c. (member_greatest u l c, greatest_member l c);
}

-- ---- the way back

nested_greatest : {S : ℕ → Bool} {c d : ℕ} (x : ℕ) →
    IsGreatestIn S c → IsGreatestIn S d → covers c x ≡ true → covers d x ≡ true → level_of d ≤ level_of c → c ≡ d
nested_greatest {c} {d} x gc gd hc hd h =
    let cc = gc.cell in
    let cd = gd.cell in
    let ic = covers_from c x hc in
    let id = covers_from d x hd in
    let w = deeper_inside c d x cc cd h ic.0 ic.1 id.0 id.1 in
    ⊎_elim
    (λ (l : level_of d < level_of c). absurd (gc.greatest (omega arith)
    (λ y v. gd.inside y (inside_from_within (parent_of c (level_of c - 1)) d (parent_within c d cc cd l w) y v))))
    (λ (l : level_of c ≤ level_of d).
    let s = size_le d c cd cc l in
    let wl = w.low in
    let wh = w.high in
    same_ends c d cc cd (omega arith) (omega arith))
    (cases_lt (level_of d) (level_of c))

pub greatest_apart : (S : ℕ → Bool) (c d x : ℕ) → IsGreatestIn S c → IsGreatestIn S d → covers c x ≡ true →
    covers d x ≡ true → c ≡ d
greatest_apart S c d x gc gd hc hd =
    ⊎_elim
    (λ (l : level_of d < level_of c). nested_greatest x gc gd hc hd (omega arith))
    (λ (l : level_of c ≤ level_of d). sym (nested_greatest x gd gc hd hc l)) (cases_lt (level_of d) (level_of c))

-- the leaves of a cell are those of its children
pub child_of_leaf : {p : ℕ} (x : ℕ) → IsCell p → level_of p < 30 → covers p x ≡ true → (i : ℕ) × (i < 4)
    × (covers (child_of p i) x ≡ true)
child_of_leaf {p} x c h v =
    let r = covers_from p x v in
    let l0 = child_leaves p 0 c h (omega arith) in
    let q = size_of (child_of p 0) in
    let s0 = l0.size in
    let some = (cell_leaves (child_of p 0) (IsCell-child_of p 0 (child_of p 0) c h (omega arith) refl)).some in
    let low = r.0 in
    let high = r.1 in
    let i = (x - first_leaf p) / q in
    let below : i < 4 = div_below (x - first_leaf p) q 4 some (omega arith) in
    let li = child_leaves p i c h below in
    let si = li.size in
    let fi = li.first in
    let same : size_of (child_of p i) ≡ q = omega arith in
    let start : first_leaf (child_of p i) ≡ first_leaf p + i * q = fi ∙ ap (λ y. first_leaf p + i * y) same in
    let floor : i * q ≤ x - first_leaf p = div-mul-le_self (x - first_leaf p) q in
    let ceil : x - first_leaf p < i * q + q = lt-div-mul-add some in
    (i, below, covers_there (child_of p i) x (omega arith) (omega arith))

pub same_level_same : {a b : ℕ} (x : ℕ) →
    IsCell a → IsCell b → level_of a ≡ level_of b → covers a x ≡ true → covers b x ≡ true → a ≡ b
same_level_same {a} {b} x ca cb e ha hb =
    let ia = covers_from a x ha in
    let ib = covers_from b x hb in
    same_from_within a b ca cb (deeper_inside a b x ca cb (omega arith) ia.0 ia.1 ib.0 ib.1)
    (deeper_inside b a x cb ca (omega arith) ib.0 ib.1 ia.0 ia.1)

pub parent_of_child : (p i : ℕ) → IsCell p → level_of p < 30 → i < 4 →
    parent_of (child_of p i) (level_of (child_of p i) - 1) ≡ p
parent_of_child p i c h q =
    let d = child_of p i in
    let cd : IsCell d = IsCell-child_of p i d c h q refl in
    let ld = level_of_child p i c h q in
    let k = level_of d - 1 in
    let le : k ≤ level_of d = omega arith in
    let cp : IsCell (parent_of d k) = IsCell-parent_of d k (parent_of d k) cd le refl in
    let lp = parent_level d k cd le in
    let some = (cell_leaves d cd).some in
    let here : covers d (first_leaf d) ≡ true = covers_there d (first_leaf d) (omega arith) (omega arith) in
    same_level_same (first_leaf d) cp c (omega arith)
    (inside_from_within d (parent_of d k) (parent_around d k cd le) (first_leaf d) here)
    (inside_from_within d p (child_within p i c h q) (first_leaf d) here)

family_inside : (S : ℕ → Bool) {p : ℕ} →
    IsCell p → level_of p < 30 → ((i : ℕ) → i < 4 → IsGreatestIn S (child_of p i)) → LiesIn S p
family_inside S {p} c h all x v = let r = child_of_leaf x c h v in (all r.0 r.1).inside x r.2

-- a normal form is a local list
pub local_from_normal : (S : ℕ → Bool) (u : List ℕ) → IsNormalForm S u → IsLocal u
local_from_normal S u n =
    let rising = AllPairs-from_increasing u n.ascending in
    let great : (k d : ℕ) → k < length u → IsGreatestIn S (get_or u k d) =
    λ k d h. (n.members (get_or u k d)).0 (Contains-get_or u k d h) in
    record {
      cells = λ k d h. (great k d h).cell;
      ascending = n.ascending;
      apart = λ i j d h l x a b.
          let e : get_or u i d ≡ get_or u j d = greatest_apart S (get_or u i d) (get_or u j d) x
          (great i d (omega arith)) (great j d l) a b in
          let lt : get_or u i d < get_or u j d = rising i j d h l in
          absurd (omega arith);
      unmerged = λ p c h all.
          let kids : (i : ℕ) → i < 4 → IsGreatestIn S (child_of p i) = λ i q. (n.members (child_of p i)).0 (all i q) in
          let first = kids 0 (omega arith) in
          let l = level_of_child p 0 c h (omega arith) in
          let e = parent_of_child p 0 c h (omega arith) in
          first.greatest (omega arith) (rw e (family_inside S c h kids));
    }

-- ---- one list for each set

abbrev Rising : List ℕ → Type 0
Rising = AllPairs (λ x y. x < y)

member_later : (y : ℕ) (ys : List ℕ) (c : ℕ) → Contains ys c → Contains (y ∷ ys) c
member_later y ys c (k, l, e) = (suc k, omega arith, e)

member_first : (y : ℕ) (ys : List ℕ) → Contains (y ∷ ys) y
member_first y ys = (zero, omega arith, refl)

pub no_member : (c : ℕ) → Contains [] c → ⊥
no_member c (k, l, e) = absurd (omega arith)

rising_rest : (y : ℕ) (ys : List ℕ) → Rising (y ∷ ys) → Rising ys
rising_rest y ys r i j d h l = r (suc i) (suc j) d (omega arith) (omega arith)

first_least : (y : ℕ) (ys : List ℕ) (c : ℕ) → Rising (y ∷ ys) → Contains ys c → y < c
first_least y ys c r (k, l, e) =
    let lt : y < get_or ys k c = r zero (suc k) c (omega arith) (omega arith) in
    rw e at lt

head_le : (y : ℕ) (ys : List ℕ) (c : ℕ) → Rising (y ∷ ys) → Contains (y ∷ ys) c → y ≤ c
head_le y ys c r (zero, l, e) = omega arith
head_le y ys c r (suc k, l, e) = let lt = first_least y ys c r (k, omega arith, e) in omega arith

rest_member : (x : ℕ) (xs : List ℕ) (y : ℕ) (ys : List ℕ) → x ≡ y → Rising (x ∷ xs) →
    ((c : ℕ) → Contains (x ∷ xs) c → Contains (y ∷ ys) c) → (c : ℕ) → Contains xs c → Contains ys c
rest_member x xs y ys e r f c m =
    let lt = first_least x xs c r m in
    Contains-tail y ys c (λ g. absurd (omega arith)) (f c (member_later x xs c m))

same_by_members : (xs ys : List ℕ) → Rising xs → Rising ys → ((c : ℕ) → Contains xs c → Contains ys c) →
    ((c : ℕ) → Contains ys c → Contains xs c) → xs ≡ ys
same_by_members [] [] ux uy f g = refl
same_by_members [] (y ∷ ys) ux uy f g = absurd (no_member y (g y (member_first y ys)))
same_by_members (x ∷ xs) [] ux uy f g = absurd (no_member x (f x (member_first x xs)))
same_by_members (x ∷ xs) (y ∷ ys) ux uy f g =
    let low : x ≤ y = head_le x xs y ux (g y (member_first y ys)) in
    let high : y ≤ x = head_le y ys x uy (f x (member_first x xs)) in
    let e : x ≡ y = omega arith in
    let rest : xs ≡ ys = same_by_members xs ys (rising_rest x xs ux) (rising_rest y ys uy)
    (rest_member x xs y ys e ux f) (rest_member y ys x xs (sym e) uy g) in
    cc

-- two ascending lists with the same members are one
pub same_from_members : (xs ys : List ℕ) → IsStrictlyIncreasing xs → IsStrictlyIncreasing ys →
    ((c : ℕ) → Contains xs c → Contains ys c) → ((c : ℕ) → Contains ys c → Contains xs c) → xs ≡ ys
same_from_members xs ys ux uy f g = same_by_members xs ys (AllPairs-from_increasing xs ux)
    (AllPairs-from_increasing ys uy) f g

-- a set has one normal form
pub one_normal_form : (S : ℕ → Bool) (u v : List ℕ) → IsNormalForm S u → IsNormalForm S v → u ≡ v
one_normal_form S u v nu nv = same_from_members u v nu.ascending nv.ascending
    (λ c m. (nv.members c).1 ((nu.members c).0 m)) (λ c m. (nu.members c).1 ((nv.members c).0 m))

greatest_same : {S : ℕ → Bool} (T : ℕ → Bool) → ((x : ℕ) → S x ≡ T x) → (c : ℕ) → IsGreatestIn S c → IsGreatestIn T c
greatest_same T e c g = record {
  cell = g.cell;
  inside = λ x h. sym (e x) ∙ g.inside x h;
  greatest = λ d h. g.greatest d (λ x v. e x ∙ h x v);
}

pub normal_form_same : (S T : ℕ → Bool) (u : List ℕ) → ((x : ℕ) → S x ≡ T x) → IsNormalForm S u → IsNormalForm T u
normal_form_same S T u e n = record {
  ascending = n.ascending;
  members = λ c. (
    λ m. greatest_same T e c ((n.members c).0 m),
    λ g. (n.members c).1 (greatest_same S (λ x. sym (e x)) c g),
  );
}

-- local lists with the same leaves are one list
pub same_from_leaves : (u v : List ℕ) → IsLocal u → IsLocal v → ((x : ℕ) → has_leaf u x ≡ has_leaf v x) → u ≡ v
same_from_leaves u v lu lv e = one_normal_form (has_leaf v) u v
    (normal_form_same (has_leaf u) (has_leaf v) u e (normal_from_local u lu)) (normal_from_local v lv)

-- a local list is the normal form of each set that has its leaves
pub normal_from_leaves : (S : ℕ → Bool) (u : List ℕ) → IsLocal u → ((x : ℕ) → has_leaf u x ≡ S x) → IsNormalForm S u
normal_from_leaves S u l e = normal_form_same (has_leaf u) S u e (normal_from_local u l)
