-- The leaves that two lists of cells share.
use Rattle.std.proofs.Common.{◌≡◌, ℕ, zero, suc, ◌-◌, subst, ◌+◌, ◌<◌, ◌≤◌, refl, sym, ◌∙◌, ap, arith}
use Rattle.std.proofs.Common.{Bool, true, false, ◌||◌, ◌&&◌, List, [], ◌∷◌, ◌++◌, length, get_or, take, drop}
use Rattle.std.proofs.Common.{◌⊎◌, inl, inr, max}
use Rattle.std.proofs.Math.Bool.{and-false, and_comm, or-false}
use Rattle.std.proofs.Math.Logic.{⊎_elim, ⊎_swap}
use Rattle.std.proofs.lemmas.Bool.{and_parts, cases_lt}
use Rattle.std.proofs.lemmas.Bool.Decides.{nat_tests}
use Rattle.std.proofs.lemmas.List.{append-nil, append_assoc, take_more, get_or-drop, length-drop}
use Rattle.std.proofs.lemmas.List.Folds.{list_any-append}
use Rattle.s2cell.specs.Cell.{IsCell, size_of, first_leaf, covers, IsInside}
use Rattle.s2cell.proofs.CellLemmas.{cell_leaves}
use Rattle.s2cell.proofs.Leaves.{Within, before, after, within, around, meeting, inside_from_within, within_from_inside}
use Rattle.s2cell.proofs.Leaves.{covers_from}
use Rattle.s2list.specs.Union.{has_leaf, between, IsLocal}
use Rattle.s2list.specs.Packed.{IsPacked, FirstEndBy}
use Rattle.s2list.proofs.Checking.{packed_from_local, member_at}
use Rattle.s2list.proofs.Packing.{read_at}
use Rattle.s2list.proofs.Walking.{Walk, walk_done, walk_more, walk_on, walk_below, ended_more, ended_later, gap}
use Rattle.s2list.proofs.Walking.{leaf_there}
use Rattle.s2list.proofs.Picking.{Picked, picked_push, greatest_below}
use Rattle.s2list.proofs.Finding.{starts_later}

abbrev pub both : List ℕ → List ℕ → ℕ → Bool
both xs ys x = has_leaf xs x && has_leaf ys x

-- what the lists share before a leaf `lo` is in `list`
pub record Intersecting (S : ℕ → Bool) (xs ys list : List ℕ) (i j : ℕ) : Type 0 where
  pub lo : ℕ
  pub same : (x : ℕ) → S x ≡ (has_leaf xs x && has_leaf ys x)
  pub walk : Walk S xs ys list i j lo
  pub from : (i < length xs → lo ≤ first_leaf (get_or xs i 0)) ⊎ (j < length ys → lo ≤ first_leaf (get_or ys j 0))
  pub picked : Picked S list

pub intersecting_swap : (S : ℕ → Bool) (xs ys list : List ℕ) (i j : ℕ) → Intersecting S xs ys list i j →
    Intersecting S ys xs list j i
intersecting_swap S xs ys list i j s = record {
  lo = s.lo;
  same = λ x. s.same x ∙ and_comm (has_leaf xs x) (has_leaf ys x);
  walk = record { ended_x = s.walk.ended_y; ended_y = s.walk.ended_x; leaves = s.walk.leaves };
  from = ⊎_swap s.from;
  picked = s.picked;
}

next_from : {u : List ℕ} (i : ℕ) → IsPacked u → i < length u →
    i + 1 < length u → first_leaf (get_or u i 0) + size_of (get_or u i 0) ≤ first_leaf (get_or u (i + 1) 0)
next_from i p h g = p.chain i (i + 1) 0 (omega arith) g

pub has_leaf-push : (u : List ℕ) (c x : ℕ) → has_leaf (u ++ c ∷ []) x ≡ (has_leaf u x || covers c x)
has_leaf-push u c x = list_any-append (λ n. covers n x) u (c ∷ [])
    ∙ ap (λ v. has_leaf u x || v) (or-false (covers c x))

-- a list and a run with one cell more
pub run_push : (xs list : List ℕ) (i n : ℕ) → i + n < length xs
    → list ++ take (suc n) (drop i xs) ≡ (list ++ take n (drop i xs)) ++ get_or xs (i + n) 0 ∷ []
run_push xs list i n h =
    let e : n + 1 ≡ suc n = omega arith in
    let more : take (n + 1) (drop i xs) ≡ take n (drop i xs) ++ get_or (drop i xs) n 0 ∷ [] = take_more (drop i xs) n 0
    (let l = length-drop i xs in omega arith) in
    ap (λ k. list ++ take k (drop i xs)) (sym e) ∙ ap (λ l. list ++ l) more
    ∙ ap (λ c. list ++ (take n (drop i xs) ++ c ∷ [])) (get_or-drop i xs n 0)
    ∙ sym (append_assoc list (take n (drop i xs)) (get_or xs (i + n) 0 ∷ []))

-- what each cell of a run keeps holds after the run
pub run_all : (P : List ℕ → ℕ → Type 0) (xs list : List ℕ) (i next : ℕ) → i ≤ next → next ≤ length xs →
    P list i → ((l : List ℕ) (k : ℕ) → i ≤ k → k < next → P l k → P (l ++ get_or xs k 0 ∷ []) (k + 1)) →
    P (list ++ take (next - i) (drop i xs)) next
run_all P xs list i next le in_x start more =
    let e : i + (next - i) ≡ next = omega arith in
    subst (λ k. P (list ++ take (next - i) (drop i xs)) k) e (steps (next - i) (omega arith))
  where
    steps : (n : ℕ) → i + n ≤ next → P (list ++ take n (drop i xs)) (i + n)
    steps zero h =
        let e : i ≡ i + 0 = omega arith in
        let same : list ++ [] ≡ list = append-nil list in
        rw same (subst (λ k. P list k) e start)
    steps (suc n) h =
        let e : (i + n) + 1 ≡ i + suc n = omega arith in
        let l = list ++ take n (drop i xs) in
        rw (run_push xs list i n (omega arith))
        (subst (λ k. P (l ++ get_or xs (i + n) 0 ∷ []) k) e
        (more l (i + n) (omega arith) (omega arith) (steps n (omega arith))))

-- the next cell of xs lies in the next of ys
pub intersecting_push : (S : ℕ → Bool) (xs ys list : List ℕ) (i j c : ℕ) →
    IsLocal xs → IsLocal ys → Intersecting S xs ys list i j → i < length xs →
    j < length ys → get_or xs i 0 ≡ c → Within c (get_or ys j 0) → Intersecting S xs ys (list ++ c ∷ []) (i + 1) j
intersecting_push S xs ys list i j c lx ly s h g e w =
    let px = packed_from_local xs lx in
    let py = packed_from_local ys ly in
    let lo = s.lo in
    let ef = ap first_leaf e in
    let es = ap size_of e in
    let wl = w.low in
    let wh = w.high in
    let sc = (cell_leaves (get_or xs i 0) (px.cells i 0 h)).some in
    let start : lo ≤ first_leaf c = ⊎_elim
    (λ (f : i < length xs → lo ≤ first_leaf (get_or xs i 0)). let a = f h in omega arith)
    (λ (f : j < length ys → lo ≤ first_leaf (get_or ys j 0)). let a = f g in omega arith) s.from in
    let next = first_leaf c + size_of c in
    let shared : (x : ℕ) → first_leaf c ≤ x → x < next → S x ≡ true =
    (λ x a b.
    let tx : has_leaf xs x ≡ true = leaf_there xs i x h (omega arith) (omega arith) in
    let ty : has_leaf ys x ≡ true = leaf_there ys j x g (omega arith) (omega arith) in
    s.same x ∙ ap (λ v. v && has_leaf ys x) tx ∙ ty) in
    record {
      lo = next;
      same = s.same;
      walk = walk_more (list ++ c ∷ []) (i + 1) j next (first_leaf c) next s.walk start (omega arith) (omega arith)
          (λ x. has_leaf-push list c x) (ended_more xs i lo next s.walk.ended_x (omega arith) (omega arith))
          (ended_later ys j lo next s.walk.ended_y (omega arith))
          (λ x a b. ⊎_elim
          (λ (m : x < first_leaf c).
          let f : between (first_leaf c) next x ≡ false = grind (arith, nat_tests) in
          let t : has_leaf xs x ≡ false = gap i lo (first_leaf (get_or xs i 0)) x px s.walk.ended_x
          (λ _. omega arith) a (omega arith) in
          f ∙ sym (s.same x ∙ ap (λ v. v && has_leaf ys x) t))
          (λ (m : first_leaf c ≤ x).
          let f : between (first_leaf c) next x ≡ true = grind (arith, nat_tests) in
          f ∙ sym (shared x m b))
          (cases_lt x (first_leaf c)));
      from = inl (λ k. let n = next_from i px h k in omega arith);
      picked = picked_push S
          list c lo s.picked (walk_below lo s.walk (omega arith)) start (greatest_below S xs c lx (member_at xs i c h e)
          (λ x t. (and_parts (has_leaf xs x) (has_leaf ys x) (sym (s.same x) ∙ t)).0)
          (λ x v. let r = covers_from c x v in let r0 = r.0 in let r1 = r.1 in shared x (omega arith) (omega arith)));
    }

-- the next cell of xs ends before the next of ys, if there is one
pub intersecting_skip : (S : ℕ → Bool) (xs ys list : List ℕ) (i j : ℕ) →
    IsLocal xs → IsLocal ys → Intersecting S xs ys list i j → i < length xs → (j < length ys →
    first_leaf (get_or xs i 0) + size_of (get_or xs i 0) ≤ first_leaf (get_or ys j 0)) →
    Intersecting S xs ys list (i + 1) j
intersecting_skip S xs ys list i j lx ly s h e =
    let px = packed_from_local xs lx in
    let py = packed_from_local ys ly in
    let lo = s.lo in
    let end = first_leaf (get_or xs i 0) + size_of (get_or xs i 0) in
    let next = max lo end in
    let sc = (cell_leaves (get_or xs i 0) (px.cells i 0 h)).some in
    record {
      lo = next;
      same = s.same;
      walk = walk_on (i + 1) j next s.walk (omega arith)
          (ended_more xs i lo next s.walk.ended_x (omega arith) (omega arith))
          (ended_later ys j lo next s.walk.ended_y (omega arith))
          (λ x a b.
          let t : has_leaf ys x ≡ false = gap j lo end x py s.walk.ended_y e a (omega arith) in
          s.same x ∙ ap (λ v. has_leaf xs x && v) t ∙ and-false (has_leaf xs x));
      from = ⊎_elim
          (λ (f : i < length xs → lo ≤ first_leaf (get_or xs i 0)). inl
          (λ k. let n = next_from i px h k in let a = f h in omega arith))
          (λ (f : j < length ys → lo ≤ first_leaf (get_or ys j 0)). inr
          (λ k. let a = f k in let b = e k in omega arith)) s.from;
      picked = s.picked;
    }

-- so do all up to a place
pub intersecting_jump : {S : ℕ → Bool} {xs ys list : List ℕ} {i j : ℕ} (next : ℕ) →
    IsLocal xs → IsLocal ys → Intersecting S xs ys list i j → j < length ys →
    i ≤ next → next ≤ length xs → FirstEndBy xs next (first_leaf (get_or ys j 0)) → Intersecting S xs ys list next j
intersecting_jump {S} {xs} {ys} {list} {i} {j} next lx ly s g le in_x ended =
    let e : i + (next - i) ≡ next = omega arith in
    subst (λ k. Intersecting S xs ys list k j) e (steps (next - i) (omega arith))
  where
    steps : (n : ℕ) → i + n ≤ next → Intersecting S xs ys list (i + n) j
    steps zero h = let e : i ≡ i + 0 = omega arith in subst (λ k. Intersecting S xs ys list k j) e s
    steps (suc n) h =
        let e : (i + n) + 1 ≡ i + suc n = omega arith in
        subst (λ k. Intersecting S xs ys list k j) e (intersecting_skip S xs ys list (i + n) j lx ly
        (steps n (omega arith)) (omega arith)
        (λ _. ended (i + n) (omega arith)))

-- all cells of xs up to a place lie in the next of ys
pub intersecting_run : {S : ℕ → Bool} {xs ys list : List ℕ} (new : List ℕ) {i j : ℕ} (next : ℕ) →
    IsLocal xs → IsLocal ys → Intersecting S xs ys list i j → j < length ys → Within (get_or xs i 0) (get_or ys j 0) →
    i ≤ next → next ≤ length xs → FirstEndBy xs next (first_leaf (get_or ys j 0) + size_of (get_or ys j 0)) →
    new ≡ list ++ take (next - i) (drop i xs) → Intersecting S xs ys new next j
intersecting_run {S} {xs} {ys} {list} new {i} {j} next lx ly s g first le in_x ended is =
    rw is (run_all (λ l k. Intersecting S xs ys l k j) xs list i next le in_x s (λ l k a b t.
    let low = first.low in
    let high = ended k b in
    let from = starts_later xs i k (packed_from_local xs lx) a (omega arith) in
    intersecting_push S xs ys l k j (get_or xs k 0) lx ly t (omega arith) g refl
    (record { low = omega arith; high = high })))

-- one of the lists is at its end
pub intersecting_done : (S : ℕ → Bool) (xs ys list : List ℕ) (i j : ℕ) → Intersecting S xs ys list i j → length xs ≤ i →
    (x : ℕ)
    → has_leaf list x ≡ S x
intersecting_done S xs ys list i j s h = walk_done s.walk h (λ x n. s.same x ∙ ap (λ v. v && has_leaf ys x) n)

-- ---- the steps of the loop, with what was read

-- a cell that held a run holds no more: the cell of ys that stands after the run begins after it
pub run_over : {xs ys : List ℕ} (i j next x y : ℕ) → IsLocal xs → IsLocal ys → i < length xs → j < next → x ≡ get_or
    xs i x → y ≡ get_or ys j y → IsInside y x → (next < length ys → first_leaf x + size_of x < first_leaf (get_or ys
    next 0) + size_of (get_or ys next 0)) → next < length ys → first_leaf x + size_of x ≤ first_leaf (get_or ys next 0)
run_over {xs} {ys} i j next x y lx ly h le rx ry inside later w =
    let ex : get_or xs i 0 ≡ x = read_at xs i i x h refl rx in
    let ey : get_or ys j 0 ≡ y = read_at ys j j y (omega arith) refl ry in
    let cx : IsCell x = rw ex at (lx.cells i 0 h) in
    let cy : IsCell y = rw ey at (ly.cells j 0 (omega arith)) in
    let n = get_or ys next 0 in
    let apart : first_leaf (get_or ys j 0) + size_of (get_or ys j 0) ≤ first_leaf n =
    (packed_from_local ys ly).chain j next 0 le w in
    let fy = ap first_leaf ey in
    let sy = ap size_of ey in
    let some = (cell_leaves y cy).some in
    let low = (within_from_inside y x cy inside).low in
    let high = later w in
    elim (meeting x n cx (ly.cells next 0 w)) [
      | before m ↦ m
      | after m ↦ let sn = (cell_leaves n (ly.cells next 0 w)).some in absurd (omega arith)
      | within m ↦ let l = m.low in absurd (omega arith)
      | around m ↦ let l = m.high in absurd (omega arith)
    ]

-- a run of xs lies in the next cell of ys, which holds no more of them
pub intersect_x : (S : ℕ → Bool) (xs ys list new : List ℕ) (i j next x y : ℕ) →
    IsLocal xs → IsLocal ys → Intersecting S xs ys list i j → i < length xs → j < length ys → x ≡ get_or xs i x →
    y ≡ get_or ys j y → IsInside x y → i < next → next ≤ length xs → FirstEndBy xs next (first_leaf y + size_of y) →
    (next < length xs → first_leaf y + size_of y < first_leaf (get_or xs next 0) + size_of (get_or xs next 0)) →
    new ≡ list ++ take (next - i) (drop i xs) → Intersecting S xs ys new next (j + 1)
intersect_x S xs ys list new i j next x y lx ly s h g rx ry inside le in_x ended later e =
    let ex : get_or xs i 0 ≡ x = read_at xs i i x h refl rx in
    let ey : get_or ys j 0 ≡ y = read_at ys j j y g refl ry in
    let cx : IsCell x = rw ex at (lx.cells i 0 h) in
    let w : Within (get_or xs i 0) (get_or ys j 0) = rw (ex, ey) (within_from_inside x y cx inside) in
    let run = intersecting_run new next lx ly s g w (omega arith) in_x (rw ey ended) e in
    let over = run_over j i next y x ly lx g le ry rx inside later in
    intersecting_swap S ys xs new (j + 1) next (intersecting_skip S ys xs new j next ly lx
    (intersecting_swap S xs ys new next j run) g (rw ey over))

-- of two cells that share a leaf one holds the other
pub held_else : (xs ys : List ℕ) (i j x y : ℕ) → IsLocal xs → IsLocal ys →
    i < length xs → j < length ys → x ≡ get_or xs i x → y ≡ get_or ys j y → first_leaf y < first_leaf x + size_of x →
    first_leaf x < first_leaf y + size_of y → (IsInside x y → ⊥) → IsInside y x
held_else xs ys i j x y lx ly h g rx ry a b not_in =
    let ex : get_or xs i 0 ≡ x = read_at xs i i x h refl rx in
    let ey : get_or ys j 0 ≡ y = read_at ys j j y g refl ry in
    elim (meeting x y (rw ex at (lx.cells i 0 h)) (rw ey at (ly.cells j 0 g))) [
      | before m ↦ absurd (omega arith)
      | after m ↦ absurd (omega arith)
      | within m ↦ absurd (not_in (inside_from_within x y m))
      | around m ↦ inside_from_within y x m
    ]

-- the cells of xs up to a place end before the next of ys
pub skip_x : (S : ℕ → Bool) (xs ys list : List ℕ) (i j next y : ℕ) →
    IsLocal xs → IsLocal ys → Intersecting S xs ys list i j → j < length ys →
    y ≡ get_or ys j y → i ≤ next → next ≤ length xs → FirstEndBy xs next (first_leaf y) →
    Intersecting S xs ys list next j
skip_x S xs ys list i j next y lx ly s g ry le in_x ended =
    let ey : get_or ys j 0 ≡ y = read_at ys j j y g refl ry in
    intersecting_jump next lx ly s g le in_x (rw ey ended)
