-- The leaves of one list of cells that another has not.
use Rattle.std.proofs.Common.{◌≡◌, ℕ, [], ◌∷◌, ◌++◌, take, drop, ◌+◌, ◌-◌, ◌<◌, ◌≤◌, refl}
use Rattle.std.proofs.Common.{sym, ◌∙◌, ap, arith, subst, Bool, true, false, ◌||◌, ◌&&◌, List, length, get_or, not}
use Rattle.std.proofs.Common.{max, ◌⊎◌, inl, inr}
use Rattle.std.proofs.Math.Bool.{and-false}
use Rattle.std.proofs.Math.Logic.{⊎_elim}
use Rattle.std.proofs.lemmas.Bool.{and_parts, cases_lt, false≢true}
use Rattle.std.proofs.lemmas.Bool.Decides.{nat_tests}
use Rattle.s2cell.specs.Cell.{IsCell, level_of, size_of, first_leaf, covers}
use Rattle.s2cell.proofs.CellLemmas.{cell_leaves}
use Rattle.s2cell.proofs.Calls.{shallow}
use Rattle.s2cell.proofs.Leaves.{Within, covers_there, covers_from, inside_from_within}
use Rattle.s2list.specs.Union.{has_leaf, between, LiesIn, IsLocal}
use Rattle.s2list.specs.Packed.{IsPacked, FirstEndBy, FillsGap}
use Rattle.s2list.proofs.Normal.{holder, family, all_held, member_greatest, greatest_apart}
use Rattle.s2list.proofs.Checking.{packed_from_local, member_at}
use Rattle.s2list.proofs.Walking.{Walk, walk_more, walk_on, walk_below, ended_more, ended_later, gap, leaf_there}
use Rattle.s2list.proofs.Picking.{Picked, IsGap, picked_fill, picked_push, greatest_below, fill_leaves, between_ends}
use Rattle.s2list.proofs.Finding.{starts_later}
use Rattle.s2list.proofs.Intersecting.{has_leaf-push, run_all}

-- the leaves of xs that ys has not
abbrev pub minus : List ℕ → List ℕ → ℕ → Bool
minus xs ys x = has_leaf xs x && not (has_leaf ys x)

-- the leaves of a cell of xs from `start` to before `end` are free of ys, and those after them up to `next` aren't
walk_gap : {xs ys list : List ℕ} (new : List ℕ) {i j lo : ℕ} (m n start end next : ℕ) →
    IsPacked xs → IsPacked ys → Walk (minus xs ys) xs ys list i j lo → i < length xs →
    start ≡ max (first_leaf (get_or xs i 0)) lo → (j < length ys → end ≤ first_leaf (get_or ys j 0)) →
    end ≤ first_leaf (get_or xs i 0) + size_of (get_or xs i 0) → start ≤ next → end ≤ next → FirstEndBy xs m next →
    FirstEndBy ys n next → ((x : ℕ) → start ≤ x → end ≤ x → x < next → has_leaf ys x ≡ true) →
    ((x : ℕ) → has_leaf new x ≡ (has_leaf list x || between start end x)) → Walk (minus xs ys) xs ys new m n next
walk_gap {xs} {ys} {list} new {i} {j} {lo} m n start end next px py w h es free within sn en bx by held leaves =
    walk_more new m n next start end w (omega arith) sn en leaves bx by
    (λ x a b. ⊎_elim
    (λ (g : x < start).
    let f : between start end x ≡ false = grind (arith, nat_tests) in
    let t : has_leaf xs x ≡ false = gap i lo (first_leaf (get_or xs i 0)) x px w.ended_x (λ _. omega arith) a
    (omega arith) in
    f ∙ ap (λ v. v && not (has_leaf ys x)) (sym t))
    (λ (g : start ≤ x). ⊎_elim
    (λ (q : x < end).
    let f : between start end x ≡ true = grind (arith, nat_tests) in
    let t : has_leaf xs x ≡ true = leaf_there xs i x h (omega arith) (omega arith) in
    let none : has_leaf ys x ≡ false = gap j lo end x py w.ended_y free a q in
    f ∙ sym (ap (λ v. v && not (has_leaf ys x)) t ∙ ap not none))
    (λ (q : end ≤ x).
    let f : between start end x ≡ false = grind (arith, nat_tests) in
    f ∙ sym (ap (λ v. has_leaf xs x && not v) (held x g q b) ∙ and-false (has_leaf xs x)))
    (cases_lt x end))
    (cases_lt x start))

-- ---- what is left of a cell of xs before the next cell of ys is a gap

-- if the walk is inside a cell of xs, the leaf before is one of ys
abbrev Edge : List ℕ → List ℕ → ℕ → ℕ → Type 0
Edge xs ys i lo = i < length xs → (lo ≤ first_leaf (get_or xs i 0)) ⊎ ((0 < lo) × (has_leaf ys (lo - 1) ≡ true))

-- up to the next cell of xs
edge_from : (xs ys : List ℕ) (i lo start : ℕ) → Edge xs ys i lo → start ≡ max (first_leaf (get_or xs i 0)) lo →
    Edge xs ys i start
edge_from xs ys i lo start edge es h =
    ⊎_elim
    (λ (a : first_leaf (get_or xs i 0) < lo).
    let same : lo ≡ start = omega arith in
    subst (λ k. Edge xs ys i k) same edge h)
    (λ (a : lo ≤ first_leaf (get_or xs i 0)). inl (omega arith))
    (cases_lt (first_leaf (get_or xs i 0)) lo)

edge_taken : (xs ys : List ℕ) (i j lo start next : ℕ) → Edge xs ys i lo → j < length ys →
    0 < size_of (get_or ys j 0) → start ≡ max (first_leaf (get_or xs i 0)) lo
    → next ≡ max (first_leaf (get_or ys j 0) + size_of (get_or ys j 0)) start → Edge xs ys i next
edge_taken xs ys i j lo start next edge g some es en h =
    ⊎_elim
    (λ (a : first_leaf (get_or ys j 0) + size_of (get_or ys j 0) < start).
    let same : start ≡ next = omega arith in
    subst (λ k. Edge xs ys i k) same (edge_from xs ys i lo start edge es) h)
    (λ (a : start ≤ first_leaf (get_or ys j 0) + size_of (get_or ys j 0)).
    inr (omega arith, leaf_there ys j (next - 1) g (omega arith) (omega arith)))
    (cases_lt (first_leaf (get_or ys j 0) + size_of (get_or ys j 0)) start)

edge_free : {xs : List ℕ} (ys : List ℕ) (i lo start next : ℕ) →
    IsPacked xs → Edge xs ys i lo → i < length xs → start ≡ max (first_leaf (get_or xs i 0)) lo →
    next ≡ max (first_leaf (get_or xs i 0) + size_of (get_or xs i 0)) start → Edge xs ys (i + 1) next
edge_free {xs} ys i lo start next packed edge h es en h2 =
    let x = get_or xs i 0 in
    let c : first_leaf x + size_of x ≤ first_leaf (get_or xs (i + 1) 0) = packed.chain i (i + 1) 0 (omega arith) h2 in
    let some = (cell_leaves x (packed.cells i 0 h)).some in
    ⊎_elim
    (λ (a : first_leaf x + size_of x < start).
    let f : lo ≡ next = omega arith in
    ⊎_elim
    (λ (b : lo ≤ first_leaf x). absurd (omega arith))
    (λ (b : (0 < lo) × (has_leaf ys (lo - 1) ≡ true)). inr
    (let b0 = b.0 in omega arith, subst (λ v. has_leaf ys (v - 1) ≡ true) f b.1)) (edge h))
    (λ (a : start ≤ first_leaf x + size_of x). inl (omega arith))
    (cases_lt (first_leaf x + size_of x) start)

minus_left : (xs ys : List ℕ) (x : ℕ) → minus xs ys x ≡ true → has_leaf xs x ≡ true
minus_left xs ys x h = (and_parts (has_leaf xs x) (not (has_leaf ys x)) h).0

minus_right : (xs ys : List ℕ) (x : ℕ) → minus xs ys x ≡ true → has_leaf ys x ≡ true → ⊥
minus_right xs ys x h g = false≢true (sym (ap not g) ∙ (and_parts (has_leaf xs x) (not (has_leaf ys x)) h).1)

-- how far the gap goes: to the end of the cell of xs, or to the next cell of ys in it
abbrev GapEnd : List ℕ → List ℕ → ℕ → ℕ → ℕ → Type 0
GapEnd xs ys i j end =
    ((end ≡ first_leaf (get_or xs i 0) + size_of (get_or xs i 0)) × (j < length ys → end ≤ first_leaf (get_or ys j 0)))
    ⊎ ((j < length ys) × (end ≡ first_leaf (get_or ys j 0))
    × (end < first_leaf (get_or xs i 0) + size_of (get_or xs i 0)))

gap_free : (xs ys : List ℕ) (i j end : ℕ) → GapEnd xs ys i j end → j < length ys → end ≤ first_leaf (get_or ys j 0)
gap_free xs ys i j end (inl g) h = g.1 h
gap_free xs ys i j end (inr g) h = let e = g.1 in omega arith

gap_within : (xs ys : List ℕ) (i j end : ℕ) → GapEnd xs ys i j end →
    end ≤ first_leaf (get_or xs i 0) + size_of (get_or xs i 0)
gap_within xs ys i j end (inl g) = let e = g.0 in omega arith
gap_within xs ys i j end (inr g) = let e = g.2 in omega arith

-- a cell in the difference that has a leaf of a cell of xs lies in it
difference_within : {xs : List ℕ} (ys : List ℕ) (i : ℕ) {p : ℕ} (x : ℕ) →
    IsLocal xs → i < length xs → IsCell p → LiesIn (minus xs ys) p → covers p x ≡ true →
    first_leaf (get_or xs i 0) ≤ x → x < first_leaf (get_or xs i 0) + size_of (get_or xs i 0) → Within p (get_or xs i 0)
difference_within {xs} ys i {p} x local h cp lies hx low high =
    let c = get_or xs i 0 in
    let m = member_at xs i c h refl in
    let deep = shallow p cp in
    elim (all_held (30 - level_of p) xs p local.cells cp (omega arith) (λ y v. minus_left xs ys y (lies y v))) [
      | holder d md w ↦
          let is : d ≡ c = greatest_apart (has_leaf xs) d c x (member_greatest xs local d md)
          (member_greatest xs local c m) (inside_from_within p d w x hx) (covers_there c x low high) in
          subst (λ v. Within p v) is w
      | family q cq lq f ↦ absurd (local.unmerged q cq lq f)
    ]

difference_gap : {xs ys : List ℕ} (i j lo start end : ℕ) →
    IsLocal xs → IsLocal ys → FirstEndBy xs i lo → FirstEndBy ys j lo → i < length xs →
    Edge xs ys i lo → start ≡ max (first_leaf (get_or xs i 0)) lo → GapEnd xs ys i j end → IsGap (minus xs ys) start end
difference_gap {xs} {ys} i j lo start end lx ly bx by h edge es ee =
    let px = packed_from_local xs lx in
    let py = packed_from_local ys ly in
    let most = gap_within xs ys i j end ee in
    record {
      inside = λ x b.
          let r = between_ends start end x b in
          let r0 = r.0 in
          let r1 = r.1 in
          let t : has_leaf xs x ≡ true = leaf_there xs i x h (omega arith) (omega arith) in
          let n : has_leaf ys x ≡ false = gap j lo end x py by (gap_free xs ys i j end ee) (omega arith) r1 in
          ap (λ v. v && not (has_leaf ys x)) t ∙ ap not n;
      closed = λ p x cp lies hx b.
          let r = between_ends start end x b in
          let r0 = r.0 in
          let r1 = r.1 in
          let w = difference_within ys i x lx h cp lies hx (omega arith) (omega arith) in
          let wl = w.low in
          let wh = w.high in
          let ends = covers_from p x hx in
          let e0 = ends.0 in
          let e1 = ends.1 in
          let low : start ≤ first_leaf p =
          ⊎_elim
          (λ (a : first_leaf p < start). ⊎_elim
          (λ (m : lo ≤ first_leaf (get_or xs i 0)). absurd (omega arith))
          (λ (m : (0 < lo) × (has_leaf ys (lo - 1) ≡ true)). ⊎_elim
          (λ (k : lo < start). absurd (omega arith))
          (λ (k : start ≤ lo).
          let m0 = m.0 in
          absurd (minus_right xs ys (lo - 1)
          (lies (lo - 1) (covers_there p (lo - 1) (omega arith) (omega arith))) m.1)) (cases_lt lo start)) (edge h))
          (λ (a : start ≤ first_leaf p). a)
          (cases_lt (first_leaf p) start) in
          let high : first_leaf p + size_of p ≤ end =
          ⊎_elim
          (λ (g : (end ≡ first_leaf (get_or xs i 0) + size_of (get_or xs i 0))
          × (j < length ys → end ≤ first_leaf (get_or ys j 0))). let e = g.0 in omega arith)
          (λ (g : (j < length ys) × (end ≡ first_leaf (get_or ys j 0))
          × (end < first_leaf (get_or xs i 0) + size_of (get_or xs i 0))).
          let e = g.1 in
          ⊎_elim
          (λ (a : end < first_leaf p + size_of p).
          let some = (cell_leaves (get_or ys j 0) (py.cells j 0 g.0)).some in
          absurd (minus_right xs ys end (lies end (covers_there p end (omega arith) a))
          (leaf_there ys j end g.0 (omega arith) (omega arith))))
          (λ (a : first_leaf p + size_of p ≤ end). a)
          (cases_lt end (first_leaf p + size_of p))) ee in
          λ y v. let q = covers_from p y v in let q0 = q.0 in let q1 = q.1 in grind (arith, nat_tests);
    }

-- ---- the loop

pub record Difference (xs ys list : List ℕ) (i j lo : ℕ) : Type 0 where
  pub in_x : i ≤ length xs
  pub in_y : j ≤ length ys
  pub picked : Picked (minus xs ys) list
  pub walk : Walk (minus xs ys) xs ys list i j lo
  pub edge : Edge xs ys i lo

-- a gap of a cell of xs is filled, after which ys has all leaves up to `next`
gap_filled : {xs ys list new : List ℕ} {i j lo : ℕ} (m n start end next : ℕ) → IsLocal xs → IsLocal ys →
    Difference xs ys list i j lo → i < length xs → start ≡ max (first_leaf (get_or xs i 0)) lo → GapEnd xs ys i j end →
    FillsGap list new start end → start ≤ next → end ≤ next → m ≤ length xs → n ≤ length ys → FirstEndBy xs m next →
    FirstEndBy ys n next → ((x : ℕ) → start ≤ x → end ≤ x → x < next → has_leaf ys x ≡ true) → Edge xs ys m next →
    Difference xs ys new m n next
gap_filled
    {xs} {ys} {list} {new} {i} {j} {lo} m n start end next lx ly s h es ee f sn en in_x in_y bx by held edge = record {
      in_x = in_x;
      in_y = in_y;
      picked = picked_fill (minus xs ys) list new start end s.picked (walk_below start s.walk (omega arith))
          (λ _. difference_gap i j lo start end lx ly s.walk.ended_x s.walk.ended_y h s.edge es ee) f;
      walk = walk_gap new m n start end next (packed_from_local xs lx) (packed_from_local ys ly) s.walk h es
          (gap_free xs ys i j end ee) (gap_within xs ys i j end ee) sn en bx by held (fill_leaves list new start end f);
      edge = edge;
    }

-- the next cell of ys begins before the cell of xs ends
pub difference_taken : (xs ys list new : List ℕ) (i j lo start end next x y : ℕ) →
    IsLocal xs → IsLocal ys → Difference xs ys list i j lo → i < length xs → j < length ys → get_or xs i 0 ≡ x →
    get_or ys j 0 ≡ y → first_leaf y < first_leaf x + size_of x → start ≡ max (first_leaf x) lo → end ≡ first_leaf y →
    next ≡ max (first_leaf y + size_of y) start → FillsGap list new start end → Difference xs ys new i (j + 1) next
difference_taken xs ys list new i j lo start end next x y lx ly s h g ex ey before es ee en f =
    let fx = ap first_leaf ex in
    let sx = ap size_of ex in
    let fy = ap first_leaf ey in
    let sy = ap size_of ey in
    let some = (cell_leaves (get_or ys j 0) (ly.cells j 0 g)).some in
    gap_filled i (j + 1) start end next lx ly s h (omega arith) (inr (g, omega arith, omega arith)) f (omega arith)
    (omega arith) s.in_x (omega arith) (ended_later xs i lo next s.walk.ended_x (omega arith))
    (ended_more ys j lo next s.walk.ended_y (omega arith) (omega arith))
    (λ n a b c. leaf_there ys j n g (omega arith) (omega arith))
    (edge_taken xs ys i j lo start next s.edge g some (omega arith) (omega arith))

-- the rest of the cell of xs is free of ys
pub difference_free : (xs ys list new : List ℕ) (i j lo start end next x : ℕ) →
    IsLocal xs → IsLocal ys → Difference xs ys list i j lo → i < length xs → get_or xs i 0 ≡ x →
    (j < length ys → end ≤ first_leaf (get_or ys j 0)) → start ≡ max (first_leaf x) lo → end ≡ first_leaf
    x + size_of x → next ≡ max end start → FillsGap list new start end → Difference xs ys new (i + 1) j next
difference_free xs ys list new i j lo start end next x lx ly s h ex free es ee en f =
    let fx = ap first_leaf ex in
    let sx = ap size_of ex in
    gap_filled (i + 1) j start end next lx ly s h (omega arith) (inl (omega arith, free)) f (omega arith)
    (omega arith) (omega arith) s.in_y (ended_more xs i lo next s.walk.ended_x (omega arith) (omega arith))
    (ended_later ys j lo next s.walk.ended_y (omega arith)) (λ n a b c. absurd (omega arith))
    (edge_free ys i lo start next (packed_from_local xs lx) s.edge h (omega arith) (omega arith))

-- no leaf of xs lies before the next of its cells
pub difference_from : (xs ys list : List ℕ) (i j lo start x : ℕ) → IsLocal xs → Difference xs ys list i j lo →
    i < length xs → get_or xs i 0 ≡ x → start ≡ max (first_leaf x) lo → Difference xs ys list i j start
difference_from xs ys list i j lo start x lx s h ex es =
    let px = packed_from_local xs lx in
    let fx = ap first_leaf ex in
    record {
      in_x = s.in_x;
      in_y = s.in_y;
      picked = s.picked;
      walk = walk_on i j start s.walk (omega arith) (ended_later xs i lo start s.walk.ended_x (omega arith))
          (ended_later ys j lo start s.walk.ended_y (omega arith))
          (λ n a b. ap (λ v. v && not (has_leaf ys n)) (gap i lo (first_leaf (get_or xs i 0)) n px s.walk.ended_x
          (λ _. omega arith) a (omega arith)));
      edge = edge_from xs ys i lo start s.edge (omega arith);
    }

-- a further place in ys
pub difference_on_y : (xs ys list : List ℕ) (i j lo next : ℕ) → Difference xs ys list i j lo → next ≤ length ys →
    FirstEndBy ys next lo → Difference xs ys list i next lo
difference_on_y xs ys list i j lo next s in_y b =
    record {
      in_x = s.in_x;
      in_y = in_y;
      picked = s.picked;
      walk = record { ended_x = s.walk.ended_x; ended_y = b; leaves = s.walk.leaves };
      edge = s.edge;
    }

-- a further place in xs, which no cell that goes on from before `lo` is passed for
pub difference_on_x : (xs ys list : List ℕ) (i j lo next : ℕ) → IsLocal xs → Difference xs ys list i j lo →
    i ≤ next → next ≤ length xs → FirstEndBy xs next lo → Difference xs ys list next j lo
difference_on_x xs ys list i j lo next lx s le in_x b = record {
  in_x = in_x;
  in_y = s.in_y;
  picked = s.picked;
  walk = record { ended_x = b; ended_y = s.walk.ended_y; leaves = s.walk.leaves };
  edge = λ l. ⊎_elim
      (λ (a : lo ≤ first_leaf (get_or xs i 0)). let f = starts_later xs i next (packed_from_local xs lx) le l in
      inl (omega arith))
      (λ (a : (0 < lo) × (has_leaf ys (lo - 1) ≡ true)). inr a) (s.edge (omega arith));
}

-- a cell of xs that ends before the next of ys
difference_push : {xs ys list : List ℕ} {i j lo : ℕ} →
    IsLocal xs → IsLocal ys → Difference xs ys list i j lo → i < length xs → lo ≤ first_leaf (get_or xs i 0) →
    (j < length ys → first_leaf (get_or xs i 0) + size_of (get_or xs i 0) ≤ first_leaf (get_or ys j 0)) →
    Difference xs ys (list ++ get_or xs i 0 ∷ []) (i + 1) j (first_leaf (get_or xs i 0) + size_of (get_or xs i 0))
difference_push {xs} {ys} {list} {i} {j} {lo} lx ly s h le free =
    let x = get_or xs i 0 in
    let px = packed_from_local xs lx in
    let py = packed_from_local ys ly in
    let start = first_leaf x in
    let end = first_leaf x + size_of x in
    let inside : (n : ℕ) → start ≤ n → n < end → minus xs ys n ≡ true =
    (λ n a b.
    let t : has_leaf xs n ≡ true = leaf_there xs i n h a b in
    let f : has_leaf ys n ≡ false = gap j lo end n py s.walk.ended_y free (omega arith) b in
    ap (λ v. v && not (has_leaf ys n)) t ∙ ap not f) in
    record {
      in_x = omega arith;
      in_y = s.in_y;
      picked = picked_push (minus xs ys) list x lo s.picked (walk_below lo s.walk (omega arith)) le
          (greatest_below (minus xs ys) xs x lx (member_at xs i x h refl) (λ n t. minus_left xs ys n t)
          (λ n v. let r = covers_from x n v in inside n r.0 r.1));
      walk = walk_gap (list ++ x ∷ []) (i + 1) j start end end px py s.walk h (omega arith) free (omega arith)
          (omega arith) (omega arith) (ended_more xs i lo end s.walk.ended_x (omega arith) (omega arith))
          (ended_later ys j lo end s.walk.ended_y (omega arith)) (λ n a b c. absurd (omega arith))
          (λ n. has_leaf-push list x n);
      edge = edge_free ys i lo start end px s.edge h (omega arith) (omega arith);
    }

-- so do all up to a place
pub difference_run : (xs ys list new : List ℕ) (i j lo next end : ℕ) → IsLocal xs →
    IsLocal ys → Difference xs ys list i j lo → lo ≤ first_leaf (get_or xs i 0) → i < next → next ≤ length xs →
    (j < length ys → FirstEndBy xs next (first_leaf (get_or ys j 0))) → end ≡ first_leaf (get_or xs (next - 1)
    0) + size_of (get_or xs (next - 1) 0) → new ≡ list ++ take (next - i) (drop i xs) → Difference xs ys new next j end
difference_run xs ys list new i j lo next end lx ly s first le in_x free ee is =
    let (at, t, low, last) = run_all
    (λ l k. (at : ℕ) × Difference xs ys l k j at × (k < length xs → at ≤ first_leaf (get_or xs k 0))
    × (i < k → at ≡ first_leaf (get_or xs (k - 1) 0) + size_of (get_or xs (k - 1) 0)))
    xs list i next (omega arith) in_x (lo, s, λ _. first, λ h. absurd (omega arith))
    (λ l k a b p.
    let (at, t, low, last) = p in
    let same : k ≡ k + 1 - 1 = omega arith in (
      first_leaf (get_or xs k 0) + size_of (get_or xs k 0),
      difference_push lx ly t (omega arith) (low (omega arith)) (λ g. free g k b),
      λ h. (packed_from_local xs lx).chain k (k + 1) 0 (omega arith) h,
      λ _. ap (λ n. first_leaf (get_or xs n 0) + size_of (get_or xs n 0)) same,
    )) in
    rw is (subst (λ k. Difference xs ys (list ++ take (next - i) (drop i xs)) next j k) (last le ∙ sym ee) t)
