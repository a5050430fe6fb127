-- The coverings of a union are its cells, cut to the level.
use Rattle.std.proofs.Common.{◌≡◌, ℕ, suc, zero, ◌+◌, ◌-◌, ◌*◌, ◌/◌, ◌^◌, ◌<◌, ◌≤◌, Bool, true}
use Rattle.std.proofs.Common.{false, cond, ◌&&◌, ◌||◌, nat_lt, List, [], ◌∷◌, All}
use Rattle.std.proofs.Common.{inl, inr}
use Rattle.std.proofs.Common.{Contains, refl, sym, ◌∙◌, ap, arith, subst, ⊎_elim}
use Rattle.std.specs.List.{filter}
use Rattle.std.proofs.lemmas.Bool.{cases_lt, le-leb, leb-true, and_right, and_parts, and_from}
use Rattle.std.proofs.lemmas.List.Elements.{All-contains}
use Rattle.std.proofs.lemmas.List.Folds.{Any-from_list_any, list_any_at}
use Rattle.std.specs.List.{list_any}
use Rattle.s2cell.specs.Cell.{IsCell, level_of, first_leaf, covers, parent_of, id_at}
use Rattle.s2cell.proofs.CellLemmas.{level_of_cell}
use Rattle.s2cell.proofs.Calls.{IsCell-parent_of, shallow}
use Rattle.s2cell.proofs.Family.{deeper_inside, parent_level, parent_around, same_from_within}
use Rattle.s2cell.proofs.Leaves.{Within, covers_from, inside_from_within}
use Rattle.s2cell.proofs.Squares.{covers_block, first_leaf_covered}
use Rattle.s2cell.specs.declared.TheConstants.{LEAVES}
use Rattle.s2list.specs.Union.{has_leaf, IsLocal, IsNormalForm}
use Rattle.s2list.proofs.Normal.{all_held, holder, family, leaf_to, normal_form_same}
use Rattle.s2list.proofs.Normal.{normal_from_leaves, one_normal_form}
use Rattle.s2list.specs.Room.{PutsUpTo}
use Rattle.s2cover.proofs.Levelling.{cut_parent, cut_same, filter_local}
use Rattle.s2cover.specs.Coverings.{touched, outer_set, inner_set, IsInOuter, IsInInner}
use Rattle.s2cover.specs.Working.Cut.{cut_at, cells_cut}
use Rattle.s2cover.specs.Cut.{reaches, cells_kept}
use Rattle.s2cover.proofs.Runs.{touched_from_none}
use Rattle.s2cover.proofs.Squares.{same_bool}
use Rattle.s2cover.proofs.Coverings.{around_leaf, leaf_limit, outer_in, outer_from, inner_in, inner_from}

or_swap : (a b c d : Bool) → ((a || b) || (c || d)) ≡ ((a || c) || (b || d))
or_swap true b c d = refl
or_swap false true true d = refl
or_swap false true false d = refl
or_swap false false c d = refl

and_or : (l a b : Bool) → (l && (a || b)) ≡ ((l && a) || (l && b))
and_or true a b = refl
and_or false a b = refl

touched_either : (S T : ℕ → Bool) (lo n : ℕ) → touched (λ x. S x || T x) lo n ≡ (touched S lo n || touched T lo n)
unfolding touched
touched_either S T lo zero = refl
touched_either S T lo (suc n) = ap (λ b. b || (S (lo + n) || T (lo + n))) (touched_either S T lo n)
    ∙ or_swap (touched S lo n) (touched T lo n) (S (lo + n)) (T (lo + n))

-- the covering of two sets is that of the one and that of the other
pub outer_either : (S T : ℕ → Bool) (k x : ℕ) → outer_set (λ y. S y || T y) k x ≡ (outer_set S k x || outer_set T k x)
unfolding outer_set
outer_either S T k x =
    let lo = x / 4 ^ (30 - k) * 4 ^ (30 - k) in
    let n = 4 ^ (30 - k) in
    ap (λ b. nat_lt x LEAVES && b) (touched_either S T lo n)
    ∙ and_or (nat_lt x LEAVES) (touched S lo n) (touched T lo n)

pub outer_none : (S : ℕ → Bool) (k x : ℕ) → ((y : ℕ) → S y ≡ false) → outer_set S k x ≡ false
unfolding outer_set
outer_none S k x h =
    let lo = x / 4 ^ (30 - k) * 4 ^ (30 - k) in
    and_right (nat_lt x LEAVES) (touched S lo (4 ^ (30 - k))) (touched_from_none S lo (4 ^ (30 - k)) (λ y a b. h y))

-- ---- one cell

-- a cell of level `k` that shares a leaf with `c` lies inside the cell that stands for `c` there
pub cut_around : (k c b y x : ℕ) → IsCell c → IsCell b → level_of b ≡ k → covers b y ≡ true → covers c y ≡ true →
    covers b x ≡ true → covers (cut_at k c) x ≡ true
cut_around k c b y x i ib lv vb vc vx =
    let yb = covers_from b y vb in
    let yc = covers_from c y vc in
    ⊎_elim
    (λ (l : k < level_of c).
    let p = parent_of c k in
    let le : k ≤ level_of c = omega arith in
    let ip : IsCell p = IsCell-parent_of c k p i le refl in
    let lp = parent_level c k i le in
    let yp = covers_from p y (inside_from_within c p (parent_around c k i le) y vc) in
    let w = deeper_inside b p y ib ip (omega arith) yb.0 yb.1 yp.0 yp.1 in
    subst (λ (z : ℕ). covers z x ≡ true) (sym (cut_parent k c l)) (inside_from_within b p w x vx))
    (λ (l : level_of c ≤ k).
    let w = deeper_inside b c y ib i (omega arith) yb.0 yb.1 yc.0 yc.1 in
    subst (λ (z : ℕ). covers z x ≡ true) (sym (cut_same k c l)) (inside_from_within b c w x vx))
    (cases_lt k (level_of c))

cut_to : (c k x : ℕ) → IsCell c → IsInOuter (covers c) k x → covers (cut_at k c) x ≡ true
cut_to c k x i (b, ib, lv, vx, (y, vb, vc)) = cut_around k c b y x i ib lv vb vc vx

cut_from : (c k x : ℕ) → IsCell c → k ≤ 30 → covers (cut_at k c) x ≡ true → IsInOuter (covers c) k x
cut_from c k x i h v =
    ⊎_elim
    (λ (l : k < level_of c).
    let p = parent_of c k in
    let le : k ≤ level_of c = omega arith in
    let ip : IsCell p = IsCell-parent_of c k p i le refl in
    let own = first_leaf_covered c i in (
      p,
      ip,
      parent_level c k i le,
      subst (λ (z : ℕ). covers z x ≡ true) (cut_parent k c l) v,
      (first_leaf c, inside_from_within c p (parent_around c k i le) (first_leaf c) own, own),
    ))
    (λ (l : level_of c ≤ k).
    let vc : covers c x ≡ true = subst (λ (z : ℕ). covers z x ≡ true) (cut_same k c l) v in
    let m = x / 4 ^ (30 - k) in
    let b = id_at k m in
    let at = around_leaf k x h (leaf_limit x i vc) in
    let vb = covers_block b k m x at refl in
    (b, (k, m, at), level_of_cell k m b at, vb, (x, vb, vc)))
    (cases_lt k (level_of c))

-- the outer covering of a cell is the cell, cut
pub outer_cell : (c k x : ℕ) → IsCell c → k ≤ 30 → outer_set (covers c) k x ≡ covers (cut_at k c) x
outer_cell c k x i h =
    same_bool (outer_set (covers c) k x) (covers (cut_at k c) x)
    (λ t. cut_to c k x i (outer_in (covers c) k x h t))
    (λ v. outer_from (covers c) k x (cut_from c k x i h v))

-- ---- the cells of a union

pub outer_cells : (k : ℕ) (u : List ℕ) → k ≤ 30 → All IsCell u → (x : ℕ) →
    outer_set (has_leaf u) k x ≡ has_leaf (cells_cut k u) x
outer_cells k [] h all x = outer_none (has_leaf []) k x (λ y. refl)
outer_cells k (c ∷ u) h all x =
    outer_either (covers c) (has_leaf u) k x
    ∙ ap (λ b. b || outer_set (has_leaf u) k x) (outer_cell c k x (all 0 c (omega arith)) h)
    ∙ ap (λ b. covers (cut_at k c) x || b) (outer_cells k u h (λ i d l. all (suc i) d (omega arith)) x)

pub kept_one : (b : Bool) (c x : ℕ) (v : List ℕ) → has_leaf (cond b (c ∷ v) v) x ≡ ((b && covers c x) || has_leaf v x)
kept_one true c x v = refl
kept_one false c x v = refl

pub filter_any : (p : ℕ → Bool) (x : ℕ) (u : List ℕ) → has_leaf (filter p u) x ≡ list_any (λ c. p c && covers c x) u
filter_any p x [] = refl
filter_any p x (c ∷ u) = kept_one (p c) c x (filter p u) ∙ ap (λ b. (p c && covers c x) || b) (filter_any p x u)

-- a cell around another lies no deeper
around_level : (b d : ℕ) → IsCell b → IsCell d → Within b d → level_of d ≤ level_of b
around_level b d ib id w =
    ⊎_elim
    (λ (l : level_of b < level_of d).
    let own = first_leaf_covered b ib in
    let yb = covers_from b (first_leaf b) own in
    let yd = covers_from d (first_leaf b) (inside_from_within b d w (first_leaf b) own) in
    let e = same_from_within b d ib id w (deeper_inside d b (first_leaf b) id ib (omega arith) yd.0 yd.1 yb.0 yb.1) in
    let same = ap level_of e in
    absurd (omega arith))
    (λ (l : level_of d ≤ level_of b). l)
    (cases_lt (level_of b) (level_of d))

kept_to : (k x : ℕ) (u : List ℕ) → IsLocal u → IsInInner (has_leaf u) k x →
    list_any (λ c. reaches k c && covers c x) u ≡ true
kept_to k x u l (b, ib, lv, vx, inside) =
    let sb = shallow b ib in
    elim (all_held (30 - level_of b) u b l.cells ib (omega arith) inside) [
      | holder d md w ↦
          let id : IsCell d = All-contains IsCell u d l.cells md in
          let lvl = around_level b d ib id w in
          let both : (reaches k d && covers d x) ≡ true =
          and_from (reaches k d) (covers d x) (le-leb (level_of d) k (omega arith))
          (inside_from_within b d w x vx) in
          let i = md.0 in
          list_any_at (λ c. reaches k c && covers c x) u i d md.1 (ap (λ c. reaches k c && covers c x) md.2 ∙ both)
      | family q cq lq f ↦ absurd (l.unmerged q cq lq f)
    ]

kept_from : (k x : ℕ) (u : List ℕ) → k ≤ 30 → All IsCell u → list_any (λ c. reaches k c && covers c x) u ≡ true →
    IsInInner (has_leaf u) k x
kept_from k x u h all t =
    let r = Any-from_list_any (λ c. reaches k c && covers c x) u t in
    let d = r.1 in
    let md : Contains u d = (r.0, r.2, r.3) in
    let id : IsCell d = All-contains IsCell u d all md in
    let both = and_parts (reaches k d) (covers d x) r.4 in
    let lvl = leb-true (level_of d) k both.0 in
    let m = x / 4 ^ (30 - k) in
    let b = id_at k m in
    let at = around_leaf k x h (leaf_limit x id both.1) in
    let vb = covers_block b k m x at refl in
    let xb = covers_from b x vb in
    let xd = covers_from d x both.1 in
    let lb = level_of_cell k m b at in
    let w = deeper_inside b d x (k, m, at) id (omega arith) xb.0 xb.1 xd.0 xd.1 in
    (b, (k, m, at), lb, vb, λ y v. leaf_to u d y md (inside_from_within b d w y v))

pub inner_cells : (k : ℕ) {u : List ℕ} →
    k ≤ 30 → IsLocal u → (x : ℕ) → inner_set (has_leaf u) k x ≡ has_leaf (cells_kept k u) x
inner_cells k {u} h l x =
    same_bool (inner_set (has_leaf u) k x) (list_any (λ c. reaches k c && covers c x) u)
    (λ t. kept_to k x u l (inner_in (has_leaf u) k x h t))
    (λ v. inner_from (has_leaf u) k x (kept_from k x u h l.cells v))
    ∙ sym (filter_any (reaches k) x u)

-- ---- what the calls answer

pub cut_normal : (k : ℕ) {u : List ℕ} (list : List ℕ) {v : List ℕ} → k ≤ 30 →
    IsLocal u → list ≡ cells_cut k u → IsNormalForm (has_leaf list) v → IsNormalForm (outer_set (has_leaf u) k) v
cut_normal k {u} list {v} h l e n = normal_form_same (has_leaf list) (outer_set (has_leaf u) k) v
    (λ x. ap (λ z. has_leaf z x) e ∙ sym (outer_cells k u h l.cells x)) n

pub kept_normal : (k : ℕ) (u v : List ℕ) → k ≤ 30 → IsLocal u → v ≡ cells_kept k u →
    IsNormalForm (inner_set (has_leaf u) k) v
kept_normal k u v h l e = subst (IsNormalForm (inner_set (has_leaf u) k)) (sym e)
    (normal_from_leaves (inner_set (has_leaf u) k) (cells_kept k u) (filter_local (reaches k) u l)
    (λ x. sym (inner_cells k h l x)))

-- ---- what is put into a room

puts_as : (P Q : List ℕ → Type 0) (most : ℕ) (old new : List ℕ) (n : ℕ) → ((u : List ℕ) → P u → Q u) →
    ((u : List ℕ) → Q u → P u) → PutsUpTo most P old new n → PutsUpTo most Q old new n
puts_as P Q most old new n to from (inl p) = inl (record {
  list = p.list;
  is = to p.list p.is;
  len_is = p.len_is;
  same_length = p.same_length;
  front = p.front;
})
puts_as P Q most old new n to from (inr (more, long)) = inr (more, λ u q. long u (from u q))

pub outer_puts : (k most : ℕ) (u old new : List ℕ) (n : ℕ) → k ≤ 30 → IsLocal u →
    PutsUpTo most (IsNormalForm (has_leaf (cells_cut k u))) old new n →
    PutsUpTo most (IsNormalForm (outer_set (has_leaf u) k)) old new n
outer_puts k most u old new n h l p =
    let S = has_leaf (cells_cut k u) in
    let T = outer_set (has_leaf u) k in
    puts_as (IsNormalForm S) (IsNormalForm T) most old new n
    (λ v. normal_form_same S T v (λ x. sym (outer_cells k u h l.cells x)))
    (λ v. normal_form_same T S v (λ x. outer_cells k u h l.cells x)) p

pub inner_puts : (k most : ℕ) (u old new : List ℕ) (n : ℕ) → k ≤ 30 → IsLocal u →
    PutsUpTo most (λ list. list ≡ cells_kept k u) old new n →
    PutsUpTo most (IsNormalForm (inner_set (has_leaf u) k)) old new n
inner_puts k most u old new n h l p =
    let T = inner_set (has_leaf u) k in
    puts_as (λ list. list ≡ cells_kept k u) (IsNormalForm T) most old new n (λ v e. kept_normal k u v h l e)
    (λ v q. one_normal_form T v (cells_kept k u) q (kept_normal k u (cells_kept k u) h l refl)) p
