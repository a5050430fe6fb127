-- The coverings of a clipped union, by its cells cut to the level and the rectangle rounded to it.
use Rattle.std.proofs.Common.{◌≡◌, ℕ, suc, zero, ◌+◌, ◌-◌, ◌*◌, ◌/◌, ◌^◌, ◌<◌, ◌≤◌, Bool, true}
use Rattle.std.proofs.Common.{false, Result, IfOk, ◌&&◌, ◌||◌, nat_lt, List, [], ◌∷◌, length, All, Contains, refl}
use Rattle.std.proofs.Common.{sym, ◌∙◌, ap, arith, ⊎_elim}
use Rattle.std.specs.List.{filter}
use Rattle.std.proofs.lemmas.Bool.{cases_lt, cases_Bool, and_right, and_parts, and_from, both_ways, true_from_ne_false}
use Rattle.std.proofs.lemmas.List.Elements.{All-contains, All-filter}
use Rattle.std.proofs.lemmas.List.Folds.{Any-from_list_any}
use Rattle.std.proofs.lemmas.List.Sums.{length-filter, count_by-le-length}
use Rattle.std.proofs.lemmas.Result.{IfOk-weaker}
use Rattle.s2cell.specs.Cell.{IsCell, level_of, first_leaf, size_of, covers}
use Rattle.s2cell.proofs.Family.{deeper_inside}
use Rattle.s2cell.proofs.Leaves.{covers_from, covers_there, inside_from_within}
use Rattle.s2cell.specs.declared.TheConstants.{LEAVES}
use Rattle.s2list.specs.Union.{has_leaf, IsLocal, IsNormalForm, Union}
use Rattle.s2list.proofs.Normal.{leaf_to, normal_form_same}
use Rattle.s2cover.specs.Coverings.{filled, outer_set, inner_set, IsInOuter, IsInInner}
use Rattle.s2cover.specs.Working.Cut.{cells_cut, meets, cells_met}
use Rattle.s2cover.specs.Cut.{cells_kept}
use Rattle.s2cover.proofs.Runs.{touched_none, touched_from_none}
use Rattle.s2cover.proofs.Squares.{same_bool}
use Rattle.s2cover.proofs.Faces.{and_of}
use Rattle.s2cover.proofs.Coverings.{outer_in, outer_from, inner_in, inner_from, touched_some}
use Rattle.s2cover.proofs.OwnCells.{kept_one, filter_any, outer_cells, inner_cells}

-- ---- the inner covering of two sets

and_swap : (a b c d : Bool) → ((a && b) && (c && d)) ≡ ((a && c) && (b && d))
and_swap true true c d = refl
and_swap true false true d = refl
and_swap true false false d = refl
and_swap false b c d = refl

and_and : (l a b : Bool) → (l && (a && b)) ≡ ((l && a) && (l && b))
and_and true a b = refl
and_and false a b = refl

filled_both : (S T : ℕ → Bool) (lo n : ℕ) → filled (λ x. S x && T x) lo n ≡ (filled S lo n && filled T lo n)
unfolding filled
filled_both S T lo zero = refl
filled_both S T lo (suc n) = ap (λ b. b && (S (lo + n) && T (lo + n))) (filled_both S T lo n)
    ∙ and_swap (filled S lo n) (filled T lo n) (S (lo + n)) (T (lo + n))

-- what lies inside both lies inside each
pub inner_both : (S T : ℕ → Bool) (k x : ℕ) → inner_set (λ y. S y && T y) k x ≡ (inner_set S k x && inner_set T k x)
unfolding inner_set
inner_both S T k x =
    let lo = x / 4 ^ (30 - k) * 4 ^ (30 - k) in
    let n = 4 ^ (30 - k) in
    ap (λ b. nat_lt x LEAVES && b) (filled_both S T lo n) ∙ and_and (nat_lt x LEAVES) (filled S lo n) (filled T lo n)

inner_more : (S T : ℕ → Bool) (k x : ℕ) → ((y : ℕ) → S y ≡ true → T y ≡ true) → IsInInner S k x → IsInInner T k x
inner_more S T k x h (b, ib, lv, vx, inside) = (b, ib, lv, vx, λ y v. h y (inside y v))

pub inner_same : (S T : ℕ → Bool) (k x : ℕ) → k ≤ 30 → ((y : ℕ) → S y ≡ T y) → inner_set S k x ≡ inner_set T k x
inner_same S T k x h e =
    same_bool (inner_set S k x) (inner_set T k x)
    (λ t. inner_from T k x (inner_more S T k x (λ y s. sym (e y) ∙ s) (inner_in S k x h t)))
    (λ t. inner_from S k x (inner_more T S k x (λ y s. e y ∙ s) (inner_in T k x h t)))

again_to : (S : ℕ → Bool) (k x : ℕ) → IsInInner (inner_set S k) k x → inner_set S k x ≡ true
again_to S k x (b, ib, lv, vx, inside) = inside x vx

again_from : (S : ℕ → Bool) (k x : ℕ) → IsInInner S k x → IsInInner (inner_set S k) k x
again_from S k x (b, ib, lv, vx, inside) = (b, ib, lv, vx, λ y v. inner_from S k y (b, ib, lv, v, inside))

-- the inner covering is its own inner covering
inner_again : (S : ℕ → Bool) (k x : ℕ) → k ≤ 30 → inner_set (inner_set S k) k x ≡ inner_set S k x
inner_again S k x h =
    same_bool (inner_set (inner_set S k) k x) (inner_set S k x)
    (λ t. again_to S k x (inner_in (inner_set S k) k x h t))
    (λ t. inner_from (inner_set S k) k x (again_from S k x (inner_in S k x h t)))

-- ---- the cells that meet a set

met_here : (S : ℕ → Bool) (c x : ℕ) → covers c x ≡ true → S x ≡ true → meets S c ≡ true
met_here S c x v t =
    let r = covers_from c x v in
    true_from_ne_false (meets S c) (λ f. both_ways (S x) (touched_none S (first_leaf c) (size_of c) f x r.0 r.1) t)

pub met_true : (S : ℕ → Bool) (x : ℕ) → S x ≡ true → (u : List ℕ) → has_leaf (cells_met S u) x ≡ has_leaf u x
met_true S x t [] = refl
met_true S x t (c ∷ u) =
    kept_one (meets S c) c x (filter (meets S) u)
    ∙ ap (λ b. b || has_leaf (cells_met S u) x) (and_of (meets S c) (covers c x) (λ v. met_here S c x v t))
    ∙ ap (λ b. covers c x || b) (met_true S x t u)

-- what the cells that meet a set have of it is what all have
met_leaves : (S : ℕ → Bool) (u : List ℕ) (x : ℕ) → (has_leaf (cells_met S u) x && S x) ≡ (has_leaf u x && S x)
met_leaves S u x =
    ⊎_elim
    (λ (t : S x ≡ true). ap (λ b. b && S x) (met_true S x t u))
    (λ (f : S x ≡ false). and_right (has_leaf (cells_met S u) x) (S x) f ∙ sym (and_right (has_leaf u x) (S x) f))
    (cases_Bool (S x))

pub met_clip : (S : ℕ → Bool) (u : List ℕ) {v : List ℕ} → v ≡ cells_met S u → (x : ℕ) →
    (has_leaf v x && S x) ≡ (has_leaf u x && S x)
met_clip S u e x = ap (λ w. has_leaf w x && S x) e ∙ met_leaves S u x

-- a cell meets no set that has none of its leaves
pub met_none : (S : ℕ → Bool) (c : ℕ) → ((x : ℕ) → covers c x ≡ true → S x ≡ false) → false ≡ meets S c
met_none S c h = sym (touched_from_none S (first_leaf c) (size_of c) (λ x a b. h x (covers_there c x a b)))

pub met_some : (S : ℕ → Bool) (c : ℕ) → (((x : ℕ) → covers c x ≡ true → S x ≡ false) → ⊥) → true ≡ meets S c
met_some S c h = sym (true_from_ne_false (meets S c)
    (λ f. h (λ x v. let r = covers_from c x v in touched_none S (first_leaf c) (size_of c) f x r.0 r.1)))

-- ---- how many cells are left

filter_few : (p : ℕ → Bool) (u : List ℕ) → length (filter p u) ≤ length u
filter_few p u = let a = length-filter p u in let b = count_by-le-length p u in omega arith

pub met_few : (S : ℕ → Bool) (u : List ℕ) → length (cells_met S u) ≤ length u
met_few S u = filter_few (meets S) u

-- ---- the inner covering of a clipped union

pub kept_clip : (k : ℕ) {u : List ℕ} (v : List ℕ) (N : ℕ → Bool) → k ≤ 30 → IsLocal u →
    ((x : ℕ) → (has_leaf v x && N x) ≡ (has_leaf (cells_kept k u) x && N x)) →
    (x : ℕ) → inner_set (λ y. has_leaf v y && N y) k x ≡ inner_set (λ y. has_leaf u y && N y) k x
kept_clip k {u} v N h l e x =
    let w = cells_kept k u in
    inner_same (λ y. has_leaf v y && N y) (λ y. has_leaf w y && N y) k x h e ∙ inner_both (has_leaf w) N k x
    ∙ ap (λ b. b && inner_set N k x) (inner_same (has_leaf w) (inner_set (has_leaf u) k) k x h
    (λ y. sym (inner_cells k h l y)) ∙ inner_again (has_leaf u) k x h) ∙ sym (inner_both (has_leaf u) N k x)

-- a set may be clipped by the inner covering of another in place of that other
pub narrow_clip : (k : ℕ) (S N R : ℕ → Bool) → k ≤ 30 → ((x : ℕ) → N x ≡ inner_set R k x) → (x : ℕ) →
    inner_set (λ y. S y && N y) k x ≡ inner_set (λ y. S y && R y) k x
narrow_clip k S N R h e x =
    inner_both S N k x ∙ ap (λ b. inner_set S k x && b) (inner_same N (inner_set R k) k x h e ∙ inner_again R k x h)
    ∙ sym (inner_both S R k x)

pub no_clip : (k : ℕ) (S R : ℕ → Bool) → ((x : ℕ) → inner_set R k x ≡ false) → (x : ℕ) →
    inner_set (λ y. S y && R y) k x ≡ false
no_clip k S R h x = inner_both S R k x ∙ and_right (inner_set S k x) (inner_set R k x) (h x)

-- ---- the outer covering of a clipped union

outer_more : (S T : ℕ → Bool) (k x : ℕ) → ((y : ℕ) → S y ≡ true → T y ≡ true) → IsInOuter S k x → IsInOuter T k x
outer_more S T k x h (b, ib, lv, vx, (y, v, s)) = (b, ib, lv, vx, (y, v, h y s))

pub outer_same : (S T : ℕ → Bool) (k x : ℕ) → k ≤ 30 → ((y : ℕ) → S y ≡ T y) → outer_set S k x ≡ outer_set T k x
outer_same S T k x h e =
    same_bool (outer_set S k x) (outer_set T k x)
    (λ t. outer_from T k x (outer_more S T k x (λ y s. sym (e y) ∙ s) (outer_in S k x h t)))
    (λ t. outer_from S k x (outer_more T S k x (λ y s. e y ∙ s) (outer_in T k x h t)))

-- of two cells of one level that share a leaf, each has the leaves of the other
beside : {a b : ℕ} (z x : ℕ) → IsCell a →
    IsCell b → level_of a ≡ level_of b → covers a z ≡ true → covers b z ≡ true → covers a x ≡ true → covers b x ≡ true
beside {a} {b} z x ia ib e va vb v =
    let za = covers_from a z va in
    let zb = covers_from b z vb in
    inside_from_within a b (deeper_inside a b z ia ib (omega arith) za.0 za.1 zb.0 zb.1) x v

cut_clip_to : (k : ℕ) (u : List ℕ) (R : ℕ → Bool) (x : ℕ) {b : ℕ} (z : ℕ) →
    All IsCell u → IsCell b → level_of b ≡ k → covers b x ≡ true → covers b z ≡ true →
    IsInOuter (has_leaf (cells_met R u)) k z → IsInOuter R k z → IsInOuter (λ y. has_leaf u y && R y) k x
cut_clip_to k u R x {b} z all ib lv vx vz (a, ia, la, az, (w, aw, mw)) (d, id, ld, dz, (s, ds, rs)) =
    let r = Any-from_list_any (λ c. meets R c && covers c w) u (sym (filter_any (meets R) w u) ∙ mw) in
    let c = r.1 in
    let mc : Contains u c = (r.0, r.2, r.3) in
    let ic : IsCell c = All-contains IsCell u c all mc in
    let both = and_parts (meets R c) (covers c w) r.4 in
    let wc = covers_from c w both.1 in
    let wa = covers_from a w aw in
    ⊎_elim
    (λ (l : k < level_of c).
    let t = touched_some R (first_leaf c) (size_of c) both.0 in
    let ct : covers c t.leaf ≡ true = covers_there c t.leaf t.after t.before in
    let inside = deeper_inside c a w ic ia (omega arith) wc.0 wc.1 wa.0 wa.1 in
    let bt : covers b t.leaf ≡ true = beside z t.leaf ia ib (la ∙ sym lv) az vz
    (inside_from_within c a inside t.leaf ct) in
    (b, ib, lv, vx, (t.leaf, bt, and_from (has_leaf u t.leaf) (R t.leaf) (leaf_to u c t.leaf mc ct) t.holds)))
    (λ (l : level_of c ≤ k).
    let inside = deeper_inside a c w ia ic (omega arith) wa.0 wa.1 wc.0 wc.1 in
    let in_a : covers a s ≡ true = beside z s id ia (ld ∙ sym la) dz az ds in
    let in_c : covers c s ≡ true = inside_from_within a c inside s in_a in
    let in_b : covers b s ≡ true = beside z s id ib (ld ∙ sym lv) dz vz ds in
    (b, ib, lv, vx, (s, in_b, and_from (has_leaf u s) (R s) (leaf_to u c s mc in_c) rs)))
    (cases_lt k (level_of c))

cut_clip_in : (k : ℕ) (u : List ℕ) (R V W : ℕ → Bool) (x : ℕ) → k ≤ 30 → All IsCell u →
    ((y : ℕ) → V y ≡ outer_set (has_leaf (cells_met R u)) k y) → ((y : ℕ) → W y ≡ outer_set R k y)
    → IsInOuter (λ y. V y && W y) k x → IsInOuter (λ y. has_leaf u y && R y) k x
cut_clip_in k u R V W x h all ev ew (b, ib, lv, vx, (z, vz, t)) =
    let both = and_parts (V z) (W z) t in
    cut_clip_to k u R x z all ib lv vx vz (outer_in (has_leaf (cells_met R u)) k z h (sym (ev z) ∙ both.0))
    (outer_in R k z h (sym (ew z) ∙ both.1))

cut_clip_out : (k : ℕ) (u : List ℕ) (R V W : ℕ → Bool) (x : ℕ) → ((y : ℕ) → V y ≡ outer_set (has_leaf (cells_met R u)) k
    y) → ((y : ℕ) → W y ≡ outer_set R k y) → IsInOuter (λ y. has_leaf u y && R y) k x → IsInOuter (λ y. V y && W y) k x
cut_clip_out k u R V W x ev ew (b, ib, lv, vx, (z, vz, t)) =
    let both = and_parts (has_leaf u z) (R z) t in
    let p : V x ≡ true = ev x ∙ outer_from (has_leaf (cells_met R u)) k x
    (b, ib, lv, vx, (z, vz, met_true R z both.1 u ∙ both.0)) in
    let q : W x ≡ true = ew x ∙ outer_from R k x (b, ib, lv, vx, (z, vz, both.1)) in
    (b, ib, lv, vx, (x, vx, and_from (V x) (W x) p q))

pub cut_clip : (k : ℕ) {u : List ℕ} (v : List ℕ) (R W : ℕ → Bool) → k ≤ 30 → IsLocal u →
    ((x : ℕ) → has_leaf v x ≡ has_leaf (cells_cut k (cells_met R u)) x) → ((x : ℕ) → W x ≡ outer_set R k x) →
    (x : ℕ) → outer_set (λ y. has_leaf v y && W y) k x ≡ outer_set (λ y. has_leaf u y && R y) k x
cut_clip k {u} v R W h l e ew x =
    let ev : (y : ℕ) → has_leaf v y ≡ outer_set (has_leaf (cells_met R u)) k y = λ y. e y
    ∙ sym (outer_cells k (cells_met R u) h (All-filter (meets R) IsCell u l.cells) y) in
    same_bool (outer_set (λ y. has_leaf v y && W y) k x) (outer_set (λ y. has_leaf u y && R y) k x)
    (λ t. outer_from (λ y. has_leaf u y && R y) k x
    (cut_clip_in k u R (has_leaf v) W x h l.cells ev ew (outer_in (λ y. has_leaf v y && W y) k x h t)))
    (λ t. outer_from (λ y. has_leaf v y && W y) k x
    (cut_clip_out k u R (has_leaf v) W x ev ew (outer_in (λ y. has_leaf u y && R y) k x h t)))

-- ---- what the calls answer

pub leaves_ok : {E : Type 0} (r : Result Union E) (S T : ℕ → Bool) → ((x : ℕ) → S x ≡ T x) →
    IfOk r (λ u. (x : ℕ) → has_leaf u.cells x ≡ S x) → IfOk r (λ u. (x : ℕ) → has_leaf u.cells x ≡ T x)
leaves_ok r S T e h = IfOk-weaker r (λ u. (x : ℕ) → has_leaf u.cells x ≡ S x)
    (λ u. (x : ℕ) → has_leaf u.cells x ≡ T x) (λ u p x. p x ∙ e x) h

pub normal_ok : {E : Type 0} (r : Result Union E) (S T : ℕ → Bool) → ((x : ℕ) → S x ≡ T x) →
    IfOk r (λ u. IsNormalForm S u.cells) → IfOk r (λ u. IsNormalForm T u.cells)
normal_ok r S T e h = IfOk-weaker r (λ u. IsNormalForm S u.cells) (λ u. IsNormalForm T u.cells)
    (λ u n. normal_form_same S T u.cells e n) h
