-- One more cell after packed cells.
use Rattle.std.proofs.Common.{◌≡◌, ℕ, ◌+◌, ◌-◌, ◌*◌, ◌<◌, ◌≤◌, refl, sym, ◌∙◌, ap, arith, Bool, true, false, ◌||◌, ◌&&◌}
use Rattle.std.proofs.Common.{leb, ltb, List, [], ◌∷◌, ◌++◌, length, take, get_or, AllPairs, length-append}
use Rattle.std.proofs.Math.Logic.{⊎_elim}
use Rattle.std.proofs.lemmas.Bool.{cases_lt}
use Rattle.std.proofs.lemmas.Bool.Decides.{nat_tests}
use Rattle.std.proofs.lemmas.List.{get_or-take, length-take-le, get_or_append_left, get_or_push, take-take}
use Rattle.std.proofs.lemmas.Option.{gets}
use Rattle.std.proofs.lemmas.List.Elements.{All-push, All-take}
use Rattle.std.proofs.lemmas.List.Quantifiers.{all_pairs_push}
use Rattle.std.proofs.lemmas.List.Folds.{list_any_more}
use Rattle.std.specs.List.{list_any}
use Rattle.s2cell.specs.Cell.{IsCell, level_of, size_of, first_leaf, covers, child_of, parent_of}
use Rattle.s2cell.proofs.Calls.{child_leaves, IsCell-child_of}
use Rattle.s2list.specs.Union.{has_leaf}
use Rattle.s2list.specs.Packed.{EndsBefore, IsFamily, IsPacked, Merges}
use Rattle.s2cell.proofs.Family.{level_of_child}
use Rattle.s2list.proofs.Normal.{parent_of_child}

-- ---- families

pub family_deep : (a b c d p : ℕ) → IsFamily a b c d p → level_of d ≡ level_of p + 1
family_deep a b c d p f = ap level_of f.three ∙ level_of_child p 3 f.cell f.inner (omega arith)

pub family_parent : (a b c d p : ℕ) → IsFamily a b c d p → parent_of d (level_of d - 1) ≡ p
family_parent a b c d p f = ap (λ x. parent_of x (level_of x - 1)) f.three
    ∙ parent_of_child p 3 f.cell f.inner (omega arith)

-- the leaves of the four are those of their parent, in order
pub record FamilyLeaves (a b c d p : ℕ) : Type 0 where
  pub size : size_of p ≡ 4 * size_of d
  pub first_a : first_leaf a ≡ first_leaf p
  pub first_b : first_leaf b ≡ first_leaf p + size_of d
  pub first_c : first_leaf c ≡ first_leaf p + 2 * size_of d
  pub first_d : first_leaf d ≡ first_leaf p + 3 * size_of d
  pub size_a : size_of a ≡ size_of d
  pub size_b : size_of b ≡ size_of d
  pub size_c : size_of c ≡ size_of d
  pub cell_d : IsCell d
  pub cell_c : IsCell c
  pub cell_b : IsCell b

pub family_leaves : {a b c d p : ℕ} → IsFamily a b c d p → FamilyLeaves a b c d p
family_leaves {a} {b} {c} {d} {p} f =
    let l0 = child_leaves p 0 f.cell f.inner (omega arith) in
    let l1 = child_leaves p 1 f.cell f.inner (omega arith) in
    let l2 = child_leaves p 2 f.cell f.inner (omega arith) in
    let l3 = child_leaves p 3 f.cell f.inner (omega arith) in
    let s0 = l0.size in let s1 = l1.size in let s2 = l2.size in let s3 = l3.size in
    let f0 = l0.first in let f1 = l1.first in let f2 = l2.first in let f3 = l3.first in
    let fa : first_leaf a ≡ first_leaf (child_of p 0) = ap first_leaf f.zero in
    let fb : first_leaf b ≡ first_leaf (child_of p 1) = ap first_leaf f.one in
    let fc : first_leaf c ≡ first_leaf (child_of p 2) = ap first_leaf f.two in
    let fd : first_leaf d ≡ first_leaf (child_of p 3) = ap first_leaf f.three in
    let sa : size_of a ≡ size_of (child_of p 0) = ap size_of f.zero in
    let sb : size_of b ≡ size_of (child_of p 1) = ap size_of f.one in
    let sc : size_of c ≡ size_of (child_of p 2) = ap size_of f.two in
    let sd : size_of d ≡ size_of (child_of p 3) = ap size_of f.three in
    let q0 : size_of (child_of p 0) ≡ size_of d = omega arith in
    let q1 : size_of (child_of p 1) ≡ size_of d = omega arith in
    let q2 : size_of (child_of p 2) ≡ size_of d = omega arith in
    record {
      size = omega arith;
      first_a = omega arith;
      first_b = omega arith;
      first_c = omega arith;
      first_d = omega arith;
      size_a = omega arith;
      size_b = omega arith;
      size_c = omega arith;
      cell_d = IsCell-child_of p 3 d f.cell f.inner (omega arith) f.three;
      cell_c = IsCell-child_of p 2 c f.cell f.inner (omega arith) f.two;
      cell_b = IsCell-child_of p 1 b f.cell f.inner (omega arith) f.one;
    }

-- four blocks in a row and the one that they make
two_blocks : (f s g t x : ℕ) → g ≡ f + s → ((leb f x && ltb x (f + s)) || (leb g x && ltb x (g + t)))
    ≡ (leb f x && ltb x (f + (s + t)))
two_blocks f s g t x e = grind (arith, nat_tests)

pub family_covers : (a b c d p x : ℕ) → IsFamily a b c d p →
    (((covers a x || covers b x) || covers c x) || covers d x) ≡ covers p x
family_covers a b c d p x f =
    let l = family_leaves f in
    let e0 = l.size in let e1 = l.first_a in let e2 = l.first_b in let e3 = l.first_c in let e4 = l.first_d in
    let e5 = l.size_a in let e6 = l.size_b in let e7 = l.size_c in
    let ab : (covers a x || covers b x) ≡ (leb (first_leaf a) x
    && ltb x (first_leaf a + (size_of a + size_of b))) = two_blocks (first_leaf a) (size_of a) (first_leaf b)
    (size_of b) x (omega arith) in
    let abc : ((leb (first_leaf a) x && ltb x (first_leaf a + (size_of a + size_of b))) || covers c x)
    ≡ (leb (first_leaf a) x && ltb x (first_leaf a + ((size_of a + size_of b) + size_of c))) =
    two_blocks (first_leaf a) (size_of a + size_of b) (first_leaf c) (size_of c) x (omega arith) in
    let abcd : ((leb (first_leaf a) x && ltb x (first_leaf a + ((size_of a + size_of b) + size_of c)))
    || covers d x) ≡ (leb (first_leaf a) x && ltb x
    (first_leaf a + (((size_of a + size_of b) + size_of c) + size_of d))) = two_blocks (first_leaf a)
    ((size_of a + size_of b) + size_of c) (first_leaf d) (size_of d) x (omega arith) in
    let whole : ((size_of a + size_of b) + size_of c) + size_of d ≡ size_of p = omega arith in
    ap (λ v. (v || covers c x) || covers d x) ab ∙ ap (λ v. v || covers d x) abc ∙ abcd
    ∙ ap (λ v. leb (first_leaf a) x && ltb x (first_leaf a + v)) whole ∙ ap (λ v. leb v x && ltb x (v + size_of p)) e1

-- ---- the loop of `merge_families`

-- while families at the end of the front are merged with the cell `last` that follows
pub record Merging (front : List ℕ) (cell kept last : ℕ) : Type 0 where
  pub within : kept ≤ length front
  pub after : (k : ℕ) → k < kept → EndsBefore (get_or front k 0) last
  pub is_cell : IsCell last
  pub leaves : (x : ℕ) → (has_leaf (take kept front) x || covers last x) ≡ (has_leaf front x || covers cell x)
  pub start : first_leaf last ≤ first_leaf cell

or_group : (l a b c d : Bool) → ((((l || a) || b) || c) || d) ≡ (l || (((a || b) || c) || d))
or_group true a b c d = refl
or_group false a b c d = refl

take_three : (front : List ℕ) (k x : ℕ) → k + 3 ≤ length front → has_leaf (take (k + 3) front) x
    ≡ (((has_leaf (take k front) x || covers (get_or front k 0) x) || covers (get_or front (k + 1) 0) x)
    || covers (get_or front (k + 2) 0) x)
take_three front k x h =
    let p = λ (c : ℕ). covers c x in
    let a : list_any p (take (k + 1) front) ≡ (list_any p (take k front) || p (get_or front k 0)) =
    list_any_more p front k 0 (omega arith) in
    let b : list_any p (take (k + 1 + 1) front) ≡ (list_any p (take (k + 1) front) || p (get_or front (k + 1) 0)) =
    list_any_more p front (k + 1) 0 (omega arith) in
    let e : k + 1 + 1 ≡ k + 2 = omega arith in
    let f : k + 2 + 1 ≡ k + 3 = omega arith in
    let c : list_any p (take (k + 2 + 1) front) ≡ (list_any p (take (k + 2) front) || p (get_or front (k + 2) 0)) =
    list_any_more p front (k + 2) 0 (omega arith) in
    ap (λ n. list_any p (take n front)) (sym f) ∙ c
    ∙ ap (λ v. v || p (get_or front (k + 2) 0)) (ap (λ n. list_any p (take n front)) (sym e) ∙ b
    ∙ ap (λ v. v || p (get_or front (k + 1) 0)) a)

pub merging_step : {front : List ℕ} {cell kept last : ℕ} (less : ℕ) {p : ℕ} →
    IsPacked front → Merging front cell kept last → less + 3 ≡ kept → IsFamily
    (get_or front less 0) (get_or front (less + 1) 0) (get_or front (less + 2) 0) last p → Merging front cell less p
merging_step {front} {last} less {p} packed m e f =
    let w = m.within in
    let fl = family_leaves f in
    let fa = fl.first_a in
    let before = m.after less (omega arith) in
    let st = m.start in
    record {
      within = omega arith;
      after = λ k h. let c : first_leaf (get_or front k 0) + size_of (get_or front k 0)
          ≤ first_leaf (get_or front less 0) = packed.chain k less 0 h (omega arith) in omega arith;
      is_cell = f.cell;
      leaves = λ x. ap (λ v. has_leaf (take less front) x || v)
          (sym (family_covers (get_or front less 0) (get_or front (less + 1) 0) (get_or front (less + 2) 0) last p x f))
          ∙ sym (or_group (has_leaf (take less front) x) (covers (get_or front less 0) x)
          (covers (get_or front (less + 1) 0) x) (covers (get_or front (less + 2) 0) x) (covers last x))
          ∙ ap (λ v. v || covers last x)
          (sym (take_three front less x (omega arith)) ∙ ap (λ n. has_leaf (take n front) x) e) ∙ m.leaves x;
      start = omega arith;
    }

all_pairs_take : (R : ℕ → ℕ → Type 0) (n : ℕ) (xs : List ℕ) → n ≤ length xs → AllPairs R xs → AllPairs R (take n xs)
all_pairs_take R n xs w h i j d lt le =
    let len : length (take n xs) ≡ n = length-take-le n xs w in
    let a : get_or (take n xs) i d ≡ get_or xs i d = get_or-take n xs i d (omega arith) in
    let b : get_or (take n xs) j d ≡ get_or xs j d = get_or-take n xs j d (omega arith) in
    rw (a, b) (h i j d lt (omega arith))

-- packed cells, and one more that makes no family with the last three
pub packed_push : {u : List ℕ} {last : ℕ} → IsPacked u →
    IsCell last → ((k : ℕ) → k < length u → EndsBefore (get_or u k 0) last) → ((less p : ℕ) → less + 3 ≡ length u →
    IsFamily (get_or u less 0) (get_or u (less + 1) 0) (get_or u (less + 2) 0) last p → ⊥) → IsPacked (u ++ last ∷ [])
packed_push {u} {last} packed c after none = record {
  cells = All-push IsCell u last packed.cells c;
  chain = all_pairs_push EndsBefore u last packed.chain
      (λ k d h. let e : get_or u k d ≡ get_or u k 0 = grind (arith, gets) in rw e (after k h));
  unmerged = λ k p h f.
      let len : length (u ++ last ∷ []) ≡ length u + 1 = length-append u (last ∷ []) in
      let a : get_or (u ++ last ∷ []) k 0 ≡ get_or u k 0 = get_or_append_left u (last ∷ []) 0 k (omega arith) in
      let b : get_or (u ++ last ∷ []) (k + 1) 0 ≡ get_or u (k + 1) 0 =
      get_or_append_left u (last ∷ []) 0 (k + 1) (omega arith) in
      let e : get_or (u ++ last ∷ []) (k + 2) 0 ≡ get_or u (k + 2) 0 =
      get_or_append_left u (last ∷ []) 0 (k + 2) (omega arith) in
      ⊎_elim
      (λ (i : k + 3 < length u).
      let g : get_or (u ++ last ∷ []) (k + 3) 0 ≡ get_or u (k + 3) 0 = get_or_append_left u (last ∷ []) 0 (k + 3) i in
      packed.unmerged k p i (rw (a, b, e, g) at f))
      (λ (i : length u ≤ k + 3).
      let g : get_or (u ++ last ∷ []) (k + 3) 0 ≡ last = get_or_push u last 0 (k + 3) (omega arith) in
      none k p (omega arith) (rw (a, b, e, g) at f))
      (cases_lt (k + 3) (length u));
}

pub packed_take : (n : ℕ) (u : List ℕ) → n ≤ length u → IsPacked u → IsPacked (take n u)
packed_take n u w packed = record {
  cells = All-take IsCell n u packed.cells;
  chain = all_pairs_take EndsBefore n u w packed.chain;
  unmerged = λ k p h f.
      let len : length (take n u) ≡ n = length-take-le n u w in
      let a : get_or (take n u) k 0 ≡ get_or u k 0 = get_or-take n u k 0 (omega arith) in
      let b : get_or (take n u) (k + 1) 0 ≡ get_or u (k + 1) 0 = get_or-take n u (k + 1) 0 (omega arith) in
      let e : get_or (take n u) (k + 2) 0 ≡ get_or u (k + 2) 0 = get_or-take n u (k + 2) 0 (omega arith) in
      let g : get_or (take n u) (k + 3) 0 ≡ get_or u (k + 3) 0 = get_or-take n u (k + 3) 0 (omega arith) in
      packed.unmerged k p (omega arith) (rw (a, b, e, g) at f);
}

pub merging_done : (front : List ℕ) (cell kept last : ℕ) →
    IsPacked front → Merging front cell kept last → ((less p : ℕ) → less + 3 ≡ kept → IsFamily (get_or front less 0)
    (get_or front (less + 1) 0) (get_or front (less + 2) 0) last p → ⊥) → Merges front cell kept last
merging_done front cell kept last packed m none =
    let w = m.within in
    let len : length (take kept front) ≡ kept = length-take-le kept front w in
    record {
      within = w;
      packed = packed_push (packed_take kept front w packed) m.is_cell
          (λ k h. let e : get_or (take kept front) k 0 ≡ get_or front k 0 = get_or-take kept front k 0
          (omega arith) in rw e (m.after k (omega arith)))
          (λ less p e f.
          let a : get_or (take kept front) less 0 ≡ get_or front less 0 = get_or-take kept front less 0 (omega arith) in
          let b : get_or (take kept front) (less + 1) 0 ≡ get_or front (less + 1) 0 =
          get_or-take kept front (less + 1) 0 (omega arith) in
          let c : get_or (take kept front) (less + 2) 0 ≡ get_or front (less + 2) 0 =
          get_or-take kept front (less + 2) 0 (omega arith) in
          none less p (omega arith) (rw (a, b, c) at f));
      leaves = m.leaves;
      start = m.start;
    }

-- an element that was read, at another spelling of its index
-- what the first `k` become, if the others of the first `n` lie in the cell
pub merges_more : (ids : List ℕ) (n k : ℕ) {cell kept merged : ℕ} → n ≤ length ids → k ≤ n →
    Merges (take k ids) cell kept merged →
    ((x : ℕ) → (has_leaf (take k ids) x || covers cell x) ≡ (has_leaf (take n ids) x || covers cell x)) →
    Merges (take n ids) cell kept merged
merges_more ids n k {kept} {merged} h w m same =
    let long : length (take n ids) ≡ n = length-take-le n ids h in
    let less : length (take k ids) ≡ k = length-take-le k ids (omega arith) in
    let within = m.within in
    let e : take kept (take k ids) ≡ take kept (take n ids) = take-take kept k ids (omega arith)
    ∙ sym (take-take kept n ids (omega arith)) in
    record {
      within = omega arith;
      packed = rw e at m.packed;
      leaves = λ x. ap (λ l. has_leaf l x || covers merged x) (sym e) ∙ m.leaves x ∙ same x;
      start = m.start;
    }

pub read_at : (u : List ℕ) (i j x : ℕ) → i < length u → j ≡ i → x ≡ get_or u i x → get_or u j 0 ≡ x
read_at u i j x h e r = let a : get_or u i 0 ≡ get_or u i x = grind (arith, gets) in ap (λ k. get_or u k 0) e ∙ a
    ∙ sym r

pub reads : (u : List ℕ) (i : ℕ) → i < length u → get_or u i 0 ≡ get_or u i (get_or u i 0)
reads u i h = grind (arith, gets)

pub is_at : (u : List ℕ) (i x : ℕ) → i < length u → x ≡ get_or u i 0 → x ≡ get_or u i x
is_at u i x h e = let a : get_or u i 0 ≡ get_or u i x = grind (arith, gets) in e ∙ a

-- one of the first `n`, at another spelling of its index
pub front_at : (u : List ℕ) (n i j x : ℕ) → i < n → j ≡ i → x ≡ get_or u i 0 → x ≡ get_or (take n u) j 0
front_at u n i j x h e r = r ∙ sym (get_or-take n u i 0 h) ∙ ap (λ k. get_or (take n u) k 0) (sym e)
