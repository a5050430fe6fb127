-- Runs of cells that are added whole.
use Rattle.std.proofs.Common.{◌≡◌, ℕ, ◌+◌, ◌-◌, ◌*◌, ◌<◌, ◌≤◌, refl, sym, ◌∙◌, ap, arith, ◌||◌}
use Rattle.std.proofs.Common.{List, ◌++◌, length, get_or, take, drop, All, length-append, min, AllPairs}
use Rattle.std.proofs.Math.Logic.{⊎_elim}
use Rattle.std.proofs.Math.Bool.{or_assoc}
use Rattle.std.proofs.lemmas.Bool.{cases_lt}
use Rattle.std.proofs.lemmas.Grind.{same_number_lists}
use Rattle.std.proofs.lemmas.List.Elements.{All-weaker, All-append, All-drop, All-take}
use Rattle.std.proofs.lemmas.List.{take_all, take-append-drop, length-drop, get_or-drop, get_or-take}
use Rattle.std.proofs.lemmas.List.{get_or_append_left, get_or-append_right, get_or_default, length-take-le, drop_all}
use Rattle.std.proofs.lemmas.List.{append-nil}
use Rattle.std.proofs.lemmas.List.Folds.{list_any_more, list_any-append}
use Rattle.std.specs.List.{list_any}
use Rattle.s2cell.specs.Cell.{IsCell, first_leaf, covers}
use Rattle.s2cell.proofs.CellLemmas.{cell_leaves}
use Rattle.s2list.specs.Union.{has_leaf, IsLocal}
use Rattle.s2list.specs.Packed.{EndsBefore, IsFamily, IsPacked}
use Rattle.s2union.specs.Working.Tail.{Continues}
use Rattle.s2list.proofs.Packing.{read_at}
use Rattle.s2list.proofs.PackedLocal.{local_from_packed}
use Rattle.s2list.proofs.Checking.{packed_from_local}
use Rattle.s2union.proofs.Uniting.{Start, Adding}

-- the next cell is added
pub adding_step : {old cells list new : List ℕ} {i : ℕ} (x : ℕ) →
    IsPacked cells → Adding old cells list i → i < length cells → x ≡ get_or cells i x → IsPacked new →
    Start new x → ((n : ℕ) → has_leaf new n ≡ (has_leaf list n || covers x n)) → Adding old cells new (i + 1)
adding_step {old} {cells} {new} {i} x run a h rx packed start leaves =
    let ex : get_or cells i 0 ≡ x = read_at cells i i x h refl rx in
    record {
      packed = packed;
      leaves = λ n.
          let p = λ (c : ℕ). covers c n in
          let more : list_any p (take (i + 1) cells) ≡ (list_any p (take i cells) || p (get_or cells i 0)) =
          list_any_more p cells i 0 h in
          leaves n ∙ ap (λ v. v || covers x n) (a.leaves n)
          ∙ or_assoc (has_leaf old n) (has_leaf (take i cells) n) (covers x n)
          ∙ ap (λ v. has_leaf old n || (has_leaf (take i cells) n || covers v n)) (sym ex)
          ∙ ap (λ v. has_leaf old n || v) (sym more);
      start = λ g.
          let up : get_or cells i 0 < get_or cells (i + 1) 0 = (local_from_packed cells run).ascending i g in
          All-weaker (λ c. 2 * first_leaf c < x) (λ c. 2 * first_leaf c < get_or cells (i + 1) 0)
          (λ c b. omega arith) new start;
      later = λ n _ below.
          let up : get_or cells i 0 < n = below i 0 h in
          All-weaker (λ c. 2 * first_leaf c < x) (λ c. 2 * first_leaf c < n) (λ c b. omega arith) new start;
    }

-- after a list that ends as the cells do before place i, the cells from there on follow as they do in their own list
same_place : {list cells : List ℕ} {i : ℕ} (k : ℕ) →
    i ≤ length cells → Continues list cells i → length list ≤ k + 3 → k < length list + (length cells - i) →
    (length list ≤ k + i) × (get_or (list ++ drop i cells) k 0 ≡ get_or cells (k + i - length list) 0)
same_place {list} {cells} {i} k within e last h =
    ⊎_elim
    (λ (l : k < length list). (e.within k last l, get_or_append_left list (drop i cells) 0 k l ∙ e.same k last l))
    (λ (l : length list ≤ k).
    let n : i + (k - length list) ≡ k + i - length list = omega arith in (
      omega arith,
      get_or-append_right list (drop i cells) (length list) k 0 refl l
          ∙ get_or-drop i cells (k - length list) 0 ∙ ap (λ m. get_or cells m 0) n,
    ))
    (cases_lt k (length list))

family_same : {a b c d : ℕ} (x y z w : ℕ) {p : ℕ} →
    a ≡ x → b ≡ y → c ≡ z → d ≡ w → IsFamily a b c d p → IsFamily x y z w p
family_same x y z w ea eb ec ed f = record {
  cell = f.cell;
  inner = f.inner;
  zero = sym ea ∙ f.zero;
  one = sym eb ∙ f.one;
  two = sym ec ∙ f.two;
  three = sym ed ∙ f.three;
}

-- where four in a row stand as they do at another place of packed cells, they are no family
unmerged_there : {u : List ℕ} (v : List ℕ) (k m : ℕ) {p : ℕ} →
    IsPacked u → m + 3 < length u → ((n : ℕ) → n ≤ 3 → get_or v (k + n) 0 ≡ get_or u (m + n) 0) →
    IsFamily (get_or v k 0) (get_or v (k + 1) 0) (get_or v (k + 2) 0) (get_or v (k + 3) 0) p → ⊥
unmerged_there v k m {p} packed h same f =
    let ek : k + 0 ≡ k = omega arith in
    let em : m + 0 ≡ m = omega arith in
    packed.unmerged m p h (family_same _ _
    _ _ (rw (ek, em) at (same 0 (omega arith))) (same 1 (omega arith)) (same 2 (omega arith)) (same 3 (omega arith)) f)

-- one cell ends before another that stands later, whichever value stands for a missing one
apart_at : (v : List ℕ) → ((i j : ℕ) → i < j → j < length v → EndsBefore (get_or v i 0) (get_or v j 0)) →
    AllPairs EndsBefore v
apart_at v h i j d l m = rw (get_or_default v i d 0 (omega arith), get_or_default v j d 0 m) (h i j l m)

-- a part of packed cells is packed
pub part_packed : {u : List ℕ} (i n : ℕ) → IsPacked u → i + n ≤ length u → IsPacked (take n (drop i u))
part_packed {u} i n packed h =
    let left : length (drop i u) ≡ length u - i = length-drop i u in
    let len : length (take n (drop i u)) ≡ n = length-take-le n (drop i u) (omega arith) in
    let at : (k : ℕ) → k < n → get_or (take n (drop i u)) k 0 ≡ get_or u (i + k) 0 =
    λ k l. get_or-take n (drop i u) k 0 l ∙ get_or-drop i u k 0 in
    record {
      cells = All-take IsCell n (drop i u) (All-drop IsCell i u packed.cells);
      chain = apart_at (take n (drop i u)) (λ j k l m.
          rw (at j (omega arith), at k (omega arith)) (packed.chain (i + j) (i + k) 0 (omega arith) (omega arith)));
      unmerged = λ k p l. unmerged_there (take n (drop i u)) k (i + k) packed (omega arith)
          (λ m b. let e : i + (k + m) ≡ i + k + m = omega arith in at (k + m) (omega arith) ∙ ap (λ x. get_or u x 0) e);
    }

pub rest_packed : {u : List ℕ} (i : ℕ) → IsLocal u → i ≤ length u → IsPacked (take (length u - i) (drop i u))
rest_packed {u} i l h = part_packed i (length u - i) (packed_from_local u l) (omega arith)

-- so cells that follow this list overlap none of it, and make no family with its last ones
pub follow_packed : {list cells : List ℕ} {i : ℕ} →
    IsPacked list → IsPacked cells → i ≤ length cells → Continues list cells i → IsPacked (list ++ drop i cells)
follow_packed {list} {cells} {i} packed run within e =
    let len : length (list ++ drop i cells) ≡ length list + (length cells - i) = length-append list (drop i cells)
    ∙ ap (λ n. length list + n) (length-drop i cells) in
    let front : (k : ℕ) → k < length list → get_or (list ++ drop i cells) k 0 ≡ get_or list k 0 =
    λ k h. get_or_append_left list (drop i cells) 0 k h in
    let back : (k : ℕ) → length list ≤ k + 3 → k < length (list ++ drop i cells) → (length list ≤ k + i)
    × (get_or (list ++ drop i cells) k 0 ≡ get_or cells (k + i - length list) 0) =
    λ k a h. same_place k within e a (omega arith) in
    let in_list : (j k : ℕ) → j < k → k < length list →
    EndsBefore (get_or (list ++ drop i cells) j 0) (get_or (list ++ drop i cells) k 0) =
    λ j k l m. rw (front j (omega arith), front k m) (packed.chain j k 0 l m) in
    let in_run : (j k : ℕ) → j < k → length list ≤ j + 3 → k < length (list ++ drop i cells) →
    EndsBefore (get_or (list ++ drop i cells) j 0) (get_or (list ++ drop i cells) k 0) =
    λ j k l a m.
    let b = back j a (omega arith) in
    let c = back k (omega arith) m in
    rw (b.1, c.1) (run.chain (j + i - length list) (k + i - length list) 0 (omega (arith, b.0, c.0))
    (omega (arith, b.0, c.0))) in
    record {
      cells = All-append IsCell list (drop i cells) packed.cells (All-drop IsCell i cells run.cells);
      chain = apart_at (list ++ drop i cells) (λ j k l m. ⊎_elim
          (λ (a : k < length list). in_list j k l a)
          (λ (a : length list ≤ k). ⊎_elim
          (λ (b : j + 3 < length list).
          let x : EndsBefore (get_or (list ++ drop i cells) j 0) (get_or (list ++ drop i cells) (length list - 1) 0) =
          in_list j (length list - 1) (omega arith) (omega arith) in
          let y : EndsBefore (get_or (list ++ drop i cells) (length list - 1) 0)
          (get_or (list ++ drop i cells) k 0) = in_run (length list - 1) k (omega arith) (omega arith) m in
          omega arith)
          (λ (b : length list ≤ j + 3). in_run j k l b m)
          (cases_lt (j + 3) (length list)))
          (cases_lt k (length list)));
      unmerged = λ k p h. ⊎_elim
          (λ (l : k + 3 < length list). unmerged_there (list ++ drop i cells) k k packed l
          (λ n b. front (k + n) (omega arith)))
          (λ (l : length list ≤ k + 3).
          let z = back k l (omega arith) in
          unmerged_there (list ++ drop i cells) k (k + i - length list) run (omega (arith, z.0))
          (λ n b. let e : k + n + i - length list ≡ k + i - length list + n = omega (arith, z.0) in
          (back (k + n) (omega arith) (omega arith)).1 ∙ ap (λ x. get_or cells x 0) e))
          (cases_lt (k + 3) (length list));
    }

part_at : (u : List ℕ) (i n j k : ℕ) → j < n → i + j ≡ k → get_or (take n (drop i u)) j 0 ≡ get_or u k 0
part_at u i n j k h e = get_or-take n (drop i u) j 0 h ∙ get_or-drop i u j 0 ∙ ap (λ x. get_or u x 0) e

-- the last cells of a list, and those before a place, read as slices
pub continues_from : (list cells : List ℕ) (i n : ℕ) → n ≡ min (length list) 3 → n ≤ i → i ≤ length cells →
    take (length list - (length list - n)) (drop (length list - n) list)
    ≡ take (i - (i - n)) (drop (i - n) cells) → Continues list cells i
continues_from list cells i n en h within e = record {
  within = λ k a b. omega arith;
  same = λ k a b.
      let j = k - (length list - n) in
      sym (part_at list (length list - n) (length list - (length list - n)) j k (omega arith) (omega arith))
      ∙ ap (λ l. get_or l j 0) e
      ∙ part_at cells (i - n) (i - (i - n)) j (k + i - length list) (omega arith) (omega arith);
}

pub continues_to : {list cells : List ℕ} {i : ℕ} (n : ℕ) →
    n ≡ min (length list) 3 → n ≤ i → i ≤ length cells → Continues list cells i →
    take (length list - (length list - n)) (drop (length list - n) list) ≡ take (i - (i - n)) (drop (i - n) cells)
continues_to {list} {cells} {i} n en h within c =
    let left : length (take (length list - (length list - n)) (drop (length list - n) list)) ≡ n =
    length-take-le (length list - (length list - n)) (drop (length list - n) list)
    (omega (arith, length-drop (length list - n) list)) ∙ omega arith in
    let right : length (take (i - (i - n)) (drop (i - n) cells)) ≡ n =
    length-take-le (i - (i - n)) (drop (i - n) cells) (omega (arith, length-drop (i - n) cells)) ∙ omega arith in
    same_number_lists (take (length list - (length list - n)) (drop (length list - n) list))
    (take (i - (i - n)) (drop (i - n) cells)) (left ∙ sym right)
    (λ j l.
    let k = length list - n + j in
    part_at list (length list - n) (length list - (length list - n)) j k (omega arith) refl
    ∙ c.same k (omega arith) (omega arith)
    ∙ sym (part_at cells (i - n) (i - (i - n)) j (k + i - length list) (omega arith) (omega arith)))

-- a list does not end as the cells do before a place that is nearer to their front than its last cells are many
pub continues_not : {list cells : List ℕ} {i : ℕ} (n : ℕ) → n ≡ min (length list) 3 → i < n → Continues list cells i → ⊥
continues_not {list} n en h c = let e = c.within (length list - n) (omega arith) (omega arith) in omega arith

-- what is left of the cells is copied
pub record Added (old cells new : List ℕ) : Type 0 where
  pub packed : IsPacked new
  pub leaves : (x : ℕ) → has_leaf new x ≡ (has_leaf old x || has_leaf cells x)
  pub later : (n : ℕ) → Start old n → All (λ c. c < n) cells → Start new n

pub adding_done : {old cells list : List ℕ} (new : List ℕ) {i : ℕ} →
    IsPacked cells → Adding old cells list i → i ≤ length cells → (i < length cells → Continues list cells i) →
    new ≡ list ++ take (length cells - i) (drop i cells) → Added old cells new
adding_done {old} {cells} {list} new {i} run a within e is =
    let rest : take (length cells - i) (drop i cells) ≡ drop i cells =
    take_all (length cells - i) (drop i cells) (omega (arith, length-drop i cells)) in
    let whole : new ≡ list ++ drop i cells = is ∙ ap (λ l. list ++ l) rest in
    let parts : (x : ℕ) → has_leaf cells x ≡ (has_leaf (take i cells) x || has_leaf (drop i cells) x) =
    λ x. ap (λ v. has_leaf v x) (sym (take-append-drop i cells))
    ∙ list_any-append (λ (c : ℕ). covers c x) (take i cells) (drop i cells) in
    record {
      packed = rw whole (⊎_elim
          (λ (l : i < length cells). follow_packed a.packed run within (e l))
          (λ (l : length cells ≤ i). rw (drop_all i cells l, append-nil) a.packed) (cases_lt i (length cells)));
      leaves = λ x. ap (λ l. has_leaf l x) whole ∙ list_any-append (λ (c : ℕ). covers c x) list (drop i cells)
          ∙ ap (λ v. v || has_leaf (drop i cells) x) (a.leaves x)
          ∙ or_assoc (has_leaf old x) (has_leaf (take i cells) x) (has_leaf (drop i cells) x)
          ∙ ap (λ v. has_leaf old x || v) (sym (parts x));
      later = λ n s below. rw whole (All-append (λ c. 2 * first_leaf c < n) list (drop i cells) (a.later n s below)
          (λ k d h.
          let len : length (drop i cells) ≡ length cells - i = length-drop i cells in
          let same : get_or (drop i cells) k d ≡ get_or cells (i + k) d = get_or-drop i cells k d in
          let m = (cell_leaves (get_or cells (i + k) d) (run.cells (i + k) d (omega arith))) in
          let l : get_or cells (i + k) d < n = below (i + k) d (omega arith) in
          let mid = m.middle in
          let some = m.some in
          rw same (omega arith)));
    }
