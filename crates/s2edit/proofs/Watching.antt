-- The cells that are watched for changes: those that are named, and those beside them.
use Rattle.std.proofs.Common.{◌≡◌, ℕ, ◌+◌, ◌-◌, ◌*◌, ◌<◌, ◌≤◌, Bool, true, ◌||◌, eqb, List, [], ◌∷◌, ◌++◌, length}
use Rattle.std.proofs.Common.{map, drop, get_or, refl, sym, ap, ◌∙◌, subst, arith}
use Rattle.std.proofs.Math.Logic.{⊎_elim}
use Rattle.std.proofs.lemmas.Bool.{cases_order, cases_lt}
use Rattle.std.proofs.lemmas.Grind.{common_steps}
use Rattle.std.proofs.lemmas.List.Sorted.{Contains-permutation}
use Rattle.std.proofs.lemmas.List.Folds.{list_any-append}
use Rattle.std.specs.List.{AllByRecursion}
use Rattle.std.specs.List.Sorted.{IsPermutation}
use Rattle.s2cell.specs.Cell.{IsCell, level_of, first_leaf, size_of, covers, child_of}
use Rattle.s2cell.proofs.Calls.{IsCell-parent_of, child_leaves, shallow}
use Rattle.s2cell.proofs.Family.{child_within, parent_level, parent_around, deeper_inside}
use Rattle.s2cell.proofs.Leaves.{Within, covers_from, inside_from_within}
use Rattle.s2list.specs.Packed.{IsPacked, IsPlace, FirstEndBy, EndsAfter}
use Rattle.s2list.specs.Union.{has_leaf, IsLocal, IsWithin, LiesIn}
use Rattle.s2list.proofs.Checking.{packed_from_local}
use Rattle.s2list.proofs.PackedLocal.{place}
use Rattle.s2union.specs.Apply.{has}
use Rattle.s2edit.specs.declared.content.Move.{Move}
use Rattle.s2edit.specs.Diff.{Diff}
use Rattle.s2edit.specs.Content.{diff_of}
use Rattle.s2edit.specs.Working.InTurn.{of_register}
use Rattle.s2edit.specs.Working.Part.{around, Grows, IsWatched, HoldsNamed, AllWatched}
use Rattle.s2edit.proofs.Following.{drop_next}
use Rattle.s2edit.proofs.PartLemmas.{by_bool, has_member, member_had, one_cell, is_cell}

-- the leaves of a list with one more cell
module _ (xs ys : List ℕ) (c : ℕ) (e : ys ≡ xs ++ c ∷ []) where
  leaves_more : (x : ℕ) → has_leaf ys x ≡ (has_leaf xs x || has_leaf (c ∷ []) x)
  leaves_more x = ap (λ (l : List ℕ). has_leaf l x) e ∙ list_any-append (λ k. covers k x) xs (c ∷ [])

  pub kept_more : IsWithin (has_leaf xs) (has_leaf ys)
  kept_more x h = grind (arith, common_steps, leaves_more x, h)

  pub own_more : LiesIn (has_leaf ys) c
  own_more x h = grind (arith, common_steps, leaves_more x, h)

  -- the set of leaves grows by a cell that cuts none
  pub grows_by : (u : List ℕ) → ((d x : ℕ) → has u d ≡ true → covers d x ≡ true → covers c x ≡ true →
      LiesIn (has_leaf ys) d) → Grows (has_leaf xs) (has_leaf ys) u
  grows_by u fits = record {
    kept = kept_more;
    uncut = λ none d x h v w. by_bool (has_leaf xs x)
        (λ t. λ y k. kept_more y (none d x h v t y k))
        (λ n. fits d x h v (grind (arith, common_steps, leaves_more x, n, w)));
  }

  -- .. by a cell of the list
  pub grows_by_own : (u : List ℕ) → IsLocal u → has u c ≡ true → Grows (has_leaf xs) (has_leaf ys) u
  grows_by_own u l m = grows_by u (λ d x h v w. subst (LiesIn (has_leaf ys)) (one_cell u c d x l m h w v) own_more)

  -- .. by a cell, if the larger cells of the list that hold it are in the set
  pub grows_within : (u : List ℕ) → IsLocal u → IsCell c
      → ((d : ℕ) → has u d ≡ true → level_of d < level_of c → Within c d → LiesIn (has_leaf xs) d)
      → Grows (has_leaf xs) (has_leaf ys) u
  grows_within u l g held = grows_by u (λ d x h v w.
      let gd = is_cell u d l h in
      let a = covers_from c x w in
      let b = covers_from d x v in
      ⊎_elim
      (λ (less : level_of d < level_of c). λ y k. kept_more y
      (held d h less (deeper_inside c d x g gd (omega (arith, less)) a.0 a.1 b.0 b.1) y k))
      (λ (more : level_of c ≤ level_of d). λ y k. own_more y
      (inside_from_within d c (deeper_inside d c x gd g more b.0 b.1 a.0 a.1) y k))
      (cases_lt (level_of d) (level_of c)))

pub grows_none : (S : ℕ → Bool) (u : List ℕ) → Grows S S u
grows_none S u = record { kept = λ x h. h; uncut = λ none. none }

pub grows_on : {S T V : ℕ → Bool} {u : List ℕ} → Grows S T u → Grows T V u → Grows S V u
grows_on a b = record { kept = λ x h. b.kept x (a.kept x h); uncut = λ none. b.uncut (a.uncut none) }

-- the cell of a local list that has a leaf is the first that ends after it
pub place_is : (u : List ℕ) (c x at : ℕ) → IsLocal u → IsPlace u x at → has u c ≡ true → covers c x ≡ true →
    (at < length u) × (get_or u at 0 ≡ c)
place_is u c x at l p h v =
    let here = place u c (member_had u c h) in
    let r = covers_from c x v in
    ⊎_elim (λ (e : at ≡ here.at). (omega (arith, e, here.below), ap (λ (k : ℕ). get_or u k 0) e ∙ here.is))
    (⊎_elim
    (λ (a : at < here.at).
    let next = p.next (omega (arith, a, here.below)) in
    let after = (packed_from_local u l).chain at here.at 0 a here.below in
    absurd (omega (arith, next, after, ap first_leaf here.is, r.0)))
    (λ (a : here.at < at).
    let ended = p.ended here.at a in
    absurd (omega (arith, ended, ap first_leaf here.is, ap size_of here.is, r.0, r.1))))
    (cases_order at here.at)

-- where a search for the first leaf of a cell ends
pub found_place : (u : List ℕ) (c from at : ℕ) {lo : ℕ} → IsLocal u → lo ≡ first_leaf c →
    FirstEndBy u from (first_leaf c) → at ≤ length u → (IsPacked u → FirstEndBy u from lo → FirstEndBy u at lo) →
    (IsPacked u → FirstEndBy u from lo → EndsAfter u at lo) → IsPlace u (first_leaf c) at
found_place u c from at {lo} l e before within ended next =
    let first : FirstEndBy u from lo = subst (λ (x : ℕ). FirstEndBy u from x) (sym e) before in
    subst (λ (x : ℕ). IsPlace u x at) e (record {
      within = within;
      ended = ended (packed_from_local u l) first;
      next = next (packed_from_local u l) first;
    })

-- what ends by the first leaf of a cell ends by that of its first child
pub first_ended : (u : List ℕ) (at p : ℕ) → IsCell p → level_of p < 30 → FirstEndBy u at (first_leaf p) →
    FirstEndBy u at (first_leaf (child_of p 0))
first_ended u at p g d ended j h =
    let first = (child_leaves p 0 g d (omega arith)).first in
    omega (arith, ended j h, first)

-- what ends by the first leaf of a child ends by that of the next child
pub next_ended : (u : List ℕ) (at p k : ℕ) → IsCell p → level_of p < 30 → k + 1 < 4 →
    FirstEndBy u at (first_leaf (child_of p k)) → FirstEndBy u at (first_leaf (child_of p (k + 1)))
next_ended u at p k g d l ended j h =
    let this = child_leaves p k g d (omega arith) in
    let next = child_leaves p (k + 1) g d l in
    let same : size_of (child_of p k) ≡ size_of (child_of p (k + 1)) = omega (arith, this.size, next.size) in
    let more : (k + 1) * size_of (child_of p (k + 1)) ≡ (k + 1) * size_of (child_of p k) =
    ap (λ (s : ℕ). (k + 1) * s) (sym same) in
    omega (arith, ended j h, this.first, next.first, more)

-- what is watched in a set is watched in a larger one
pub watched_more : {S T : ℕ → Bool} {u : List ℕ} {c : ℕ} → IsWithin S T → IsWatched S u c → IsWatched T u c
watched_more w a = record {
  cell = a.cell;
  own = λ x h. w x (a.own x h);
  siblings = λ i l h x v. w x (a.siblings i l h x v);
}

-- the next of the cells that are left is watched
pub next_watched : {T : ℕ → Bool} {u : List ℕ} (xs : List ℕ) (i c : ℕ) → i < length xs → c ≡ get_or xs i c →
    IsWatched T u c → ((k : ℕ) → has (drop (i + 1) xs) k ≡ true → IsWatched T u k) →
    (k : ℕ) → has (drop i xs) k ≡ true → IsWatched T u k
next_watched {T} {u} xs i c low is w rest k h =
    let here : (eqb c k || has (drop (i + 1) xs) k) ≡ true =
    sym (ap (λ (l : List ℕ). has l k) (drop_next xs i c low is)) ∙ h in
    by_bool (eqb c k)
    (λ e. subst (IsWatched T u) (grind (arith, common_steps, e)) w)
    (λ n. rest k (grind (arith, common_steps, n, here)))

pub around_is_cell : (d : ℕ) → IsCell d → IsCell (around d)
around_is_cell d g = IsCell-parent_of d (level_of d - 1) (around d) g (omega arith) refl

-- a cell is watched if all of its parent is
pub watched_around : {T : ℕ → Bool} {u : List ℕ} (d : ℕ) → IsCell d → LiesIn T (around d) → IsWatched T u d
watched_around d g inside =
    let up : level_of d - 1 ≤ level_of d = omega arith in
    let p : IsCell (around d) = around_is_cell d g in
    let level = parent_level d (level_of d - 1) g up in
    let most = shallow d g in
    record {
      cell = g;
      own = λ x v. inside x (inside_from_within d (around d) (parent_around d (level_of d - 1) g up) x v);
      siblings = λ i l h x v. inside x (inside_from_within (child_of (around d) i) (around d)
          (child_within (around d) i p (omega (arith, level, most)) l) x v);
    }

-- if all cells of a set are watched, so are those that changes name
pub all_watched : {S T : ℕ → Bool} {u : List ℕ} (ds : List Diff) → ((c : ℕ) → S c ≡ true → IsWatched T u c) →
    AllByRecursion (HoldsNamed S) ds → AllWatched T u ds
all_watched [] each a = tt
all_watched (d ∷ ds) each a = (
  record { out = λ c h. each c (a.0.out c h); put = λ c h. each c (a.0.put c h) },
  all_watched ds each a.1,
)

-- in another order it has the same cells
pub still_had : (xs ys : List ℕ) → IsPermutation xs ys → IsWithin (has xs) (has ys)
still_had xs ys p c h = has_member ys c (Contains-permutation xs ys c p (member_had xs c h))

-- ---- the cells that changes name

pub holds_more : {S T : ℕ → Bool} {d : Diff} → IsWithin S T → HoldsNamed S d → HoldsNamed T d
holds_more w a = record { out = λ c h. w c (a.out c h); put = λ c h. w c (a.put c h) }

-- what the next of the changes that are left names, if it is one of the register
pub next_held : {T : ℕ → Bool} (r : ℕ) (ms : List Move) (i : ℕ) (m : Move) → i < length ms → m ≡ get_or ms i m →
    (m.register ≡ r → HoldsNamed T (diff_of m)) →
    AllByRecursion (HoldsNamed T) (of_register r (map diff_of (drop (i + 1) ms))) →
    AllByRecursion (HoldsNamed T) (of_register r (map diff_of (drop i ms)))
next_held {T} r ms i m low is w rest =
    subst (λ (l : List Move). AllByRecursion (HoldsNamed T) (of_register r (map diff_of l)))
    (sym (drop_next ms i m low is))
    (by_bool (eqb m.register r)
    (λ e. rw e (w (grind (arith, common_steps, e)), rest))
    (λ n. rw n rest))

pub has-append : (xs ys : List ℕ) (c : ℕ) → has (xs ++ ys) c ≡ (has xs c || has ys c)
has-append [] ys c = refl
has-append (x ∷ xs) ys c = grind (arith, common_steps, has-append xs ys c)

-- a list with the cells that a change takes out and puts in
module _ (named mid all : List ℕ) (m : Move) (first : mid ≡ named ++ m.out.items)
    (second : all ≡ mid ++ m.put.items) where
  cells_of_all : (c : ℕ) → has all c ≡ ((has named c || has m.out.items c) || has m.put.items c)
  cells_of_all c = ap (λ (l : List ℕ). has l c) second ∙ has-append mid m.put.items c
      ∙ ap (λ b. b || has m.put.items c) (ap (λ (l : List ℕ). has l c) first ∙ has-append named m.out.items c)

  pub named_kept : IsWithin (has named) (has all)
  named_kept c h = grind (arith, common_steps, cells_of_all c, h)

  pub named_held : HoldsNamed (has all) (diff_of m)
  named_held = record {
    out = λ c h. grind (arith, common_steps, cells_of_all c, h);
    put = λ c h. grind (arith, common_steps, cells_of_all c, h);
  }
