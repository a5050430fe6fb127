-- Where the cells that a change takes out are next to each other, and those that it puts in belong in their place, the
-- changed list is the list with the ones in place of the others.
use Rattle.std.proofs.Common.{◌≡◌, ℕ, Bool, zero, ◌+◌, ◌-◌, ◌<◌, ◌≤◌, true, false, not, ◌||◌, ◌&&◌, List, [], ◌∷◌, ◌++◌}
use Rattle.std.proofs.Common.{length, take, drop, get_or, refl, sym, ap, ◌∙◌, subst, arith}
use Rattle.std.proofs.lemmas.Bool.{false≢true}
use Rattle.std.proofs.lemmas.Grind.{common_steps}
use Rattle.std.proofs.lemmas.List.{get_or-take, get_or-drop, length-take-le, length-drop, take-append-drop, drop-drop}
use Rattle.std.proofs.lemmas.List.Kept.{AllPairs-from_increasing}
use Rattle.std.specs.List.Sorted.{IsStrictlyIncreasing}
use Rattle.s2cell.specs.Cell.{IsCell, first_leaf, size_of, IsInside}
use Rattle.s2cell.proofs.CellLemmas.{cell_leaves}
use Rattle.s2cell.proofs.Leaves.{Within, within_from_inside}
use Rattle.s2list.specs.Packed.{IsPlace}
use Rattle.s2list.specs.Union.{has_leaf, IsLocal}
use Rattle.s2list.proofs.Checking.{packed_from_local}
use Rattle.s2list.proofs.Normal.{leaf_to}
use Rattle.s2list.proofs.PackedLocal.{place}
use Rattle.s2union.specs.Apply.{has, applied, Fits}
use Rattle.s2union.proofs.Applied.{local_ascends}
use Rattle.s2union.proofs.CellLists.{AllAbove, IsAscending, same_cells, has-applied, ascends_from}
use Rattle.s2edit.specs.Diff.{Diff}
use Rattle.s2edit.specs.Working.Named.{Gives}
use Rattle.s2edit.specs.Working.Splice.{IsPlaceOf}
use Rattle.s2edit.proofs.PartLemmas.{by_bool, has_member, member_had, is_cell}
use Rattle.s2edit.proofs.Splicing.{of_slice, slice_length, run_order, run_after, only}
use Rattle.s2edit.proofs.Watching.{has-append}

above_each : (x : ℕ) (ys : List ℕ) → ((y : ℕ) → has ys y ≡ true → x < y) → AllAbove x ys
above_each x [] f = tt
above_each x (y ∷ ys) f = (
  f y (has_member (y ∷ ys) y (zero, omega arith, refl)),
  above_each x ys (λ z h. f z (grind (arith, common_steps, h))),
)

AllAbove-append : (x : ℕ) (xs ys : List ℕ) → AllAbove x xs → ((y : ℕ) → has ys y ≡ true → x < y) →
    AllAbove x (xs ++ ys)
AllAbove-append x [] ys a f = above_each x ys f
AllAbove-append x (z ∷ zs) ys a f = (a.0, AllAbove-append x zs ys a.1 f)

IsAscending-append : (xs ys : List ℕ) → IsAscending xs → IsAscending ys →
    ((x y : ℕ) → has xs x ≡ true → has ys y ≡ true → x < y) → IsAscending (xs ++ ys)
IsAscending-append [] ys a b f = b
IsAscending-append (x ∷ xs) ys a b f = (
  AllAbove-append x xs ys a.0 (λ y h. f x y (has_member (x ∷ xs) x (zero, omega arith, refl)) h),
  IsAscending-append xs ys a.1 b (λ y z h k. f y z (grind (arith, common_steps, h)) k),
)

module _ (u put : List ℕ) (from to : ℕ) (local : IsLocal u) (o : from ≤ to) (w : to ≤ length u)
    (fits : Fits (take (to - from) (drop from u)) put u)
    (low : (j e : ℕ) → j < from → has put e ≡ true → get_or u j 0 < e)
    (high : (j e : ℕ) → to ≤ j → j < length u → has put e ≡ true → e < get_or u j 0) where
  rising : (i j : ℕ) → i < j → j < length u → get_or u i 0 < get_or u j 0
  rising i j l h = AllPairs-from_increasing u local.ascending i j 0 l h

  front_at : (d : ℕ) → has (take from u) d ≡ true → (j : ℕ) × (j < from) × (get_or u j 0 ≡ d)
  front_at d h =
      let p = place (take from u) d (member_had (take from u) d h) in
      let l : p.at < from = omega (arith, p.below, length-take-le from u (omega (arith, o, w))) in
      (p.at, l, sym (get_or-take from u p.at 0 l) ∙ p.is)

  back_at : (d : ℕ) → has (drop to u) d ≡ true → (j : ℕ) × (to ≤ j) × (j < length u) × (get_or u j 0 ≡ d)
  back_at d h =
      let p = place (drop to u) d (member_had (drop to u) d h) in
      (to + p.at, omega arith, omega (arith, p.below, length-drop to u), sym (get_or-drop to u p.at 0) ∙ p.is)

  front_rises : IsStrictlyIncreasing (take from u)
  front_rises k l =
      let n : k + 1 < from = omega (arith, l, length-take-le from u (omega (arith, o, w))) in
      let s : get_or u k 0 < get_or u (k + 1) 0 = rising k (k + 1) (omega arith) (omega (arith, n, o, w)) in
      omega (arith, s, get_or-take from u k 0 (omega (arith, n)), get_or-take from u (k + 1) 0 n)

  back_rises : IsStrictlyIncreasing (drop to u)
  back_rises k l =
      let n : to + (k + 1) < length u = omega (arith, l, length-drop to u) in
      let s : get_or u (to + k) 0 < get_or u (to + (k + 1)) 0 = rising (to + k) (to + (k + 1)) (omega arith) n in
      omega (arith, s, get_or-drop to u k 0, get_or-drop to u (k + 1) 0)

  front_stays : (x : ℕ) → has (take from u) x ≡ true → has (take (to - from) (drop from u)) x ≡ false
  front_stays x h = by_bool (has (take (to - from) (drop from u)) x)
      (λ e.
      let (i, l, f) = front_at x h in
      let (j, a, b, g) = of_slice u from to o w x e in
      let s = rising i j (omega (arith, l, a)) (omega (arith, b, w)) in
      absurd (omega (arith, s, f, g)))
      (λ n. n)

  back_stays : (x : ℕ) → has (drop to u) x ≡ true → has (take (to - from) (drop from u)) x ≡ false
  back_stays x h = by_bool (has (take (to - from) (drop from u)) x)
      (λ e.
      let (i, l, m, f) = back_at x h in
      let (j, a, b, g) = of_slice u from to o w x e in
      let s = rising j i (omega (arith, l, b)) m in
      absurd (omega (arith, s, f, g)))
      (λ n. n)

  parts : (x : ℕ) → has u x
      ≡ (has (take from u) x || (has (take (to - from) (drop from u)) x || has (drop to u) x))
  parts x =
      let n : from + (to - from) ≡ to = omega (arith, o) in
      ap (λ (l : List ℕ). has l x) (sym (take-append-drop from u))
      ∙ has-append (take from u) (drop from u) x
      ∙ ap (λ b. has (take from u) x || b)
      (ap (λ (l : List ℕ). has l x) (sym (take-append-drop (to - from) (drop from u)))
      ∙ has-append (take (to - from) (drop from u)) (drop (to - from) (drop from u)) x
      ∙ ap (λ (l : List ℕ). has (take (to - from) (drop from u)) x || has l x)
      (drop-drop (to - from) from u ∙ ap (λ (k : ℕ). drop k u) n))

  front_ascends : IsAscending (take from u ++ put)
  front_ascends = IsAscending-append (take from u) put (ascends_from (take from u) front_rises)
      (ascends_from put fits.put_ascends)
      (λ x y h k. let (j, l, e) = front_at x h in omega (arith, low j y l k, e))

  all_ascends : IsAscending ((take from u ++ put) ++ drop to u)
  all_ascends = IsAscending-append (take from u ++ put) (drop to u) front_ascends
      (ascends_from (drop to u) back_rises)
      (λ x y h k.
      let (j, a, b, e) = back_at y k in
      by_bool (has put x)
      (λ m. omega (arith, high j x a b m, e))
      (λ n.
      let (i, l, f) = front_at x (grind (arith, common_steps, has-append (take from u) put x, h, n)) in
      omega (arith, rising i j (omega (arith, l, a, o)) b, e, f)))

  pub replaced : applied (take (to - from) (drop from u)) put u ≡ (take from u ++ put) ++ drop to u
  replaced = same_cells (applied (take (to - from) (drop from u)) put u) ((take from u ++ put) ++ drop to u)
      (local_ascends (applied (take (to - from) (drop from u)) put u) fits.local) all_ascends
      (λ x. has-applied (take (to - from) (drop from u)) put u x ∙ grind (
        arith,
        common_steps,
        parts x,
        front_stays x,
        back_stays x,
        has-append (take from u ++ put) (drop to u) x,
        has-append (take from u) put x,
      ))

-- ---- where changes by one cell are made

-- of two cells the one whose leaves come first has the lower number
in_turn : (a b : ℕ) → IsCell a → IsCell b → first_leaf a + size_of a ≤ first_leaf b → a < b
in_turn a b ca cb l =
    let la = cell_leaves a ca in
    let lb = cell_leaves b cb in
    omega (arith, l, la.middle, la.some, lb.middle, lb.some)

-- where what is put in takes its place
module _ (u put : List ℕ) (r from to : ℕ) (local : IsLocal u) (o : from ≤ to) (w : to ≤ length u)
    (fits : Fits (take (to - from) (drop from u)) put u) (cells : (e : ℕ) → has put e ≡ true → IsCell e)
    (low : (j e : ℕ) → j < from → has put e ≡ true → first_leaf (get_or u j 0) + size_of (get_or u j 0) ≤ first_leaf e)
    (high : (j e : ℕ) → to ≤ j → j < length u → has put e ≡ true → first_leaf e + size_of e ≤ first_leaf (get_or u j 0))
  where
    end_is : from + length (take (to - from) (drop from u)) ≡ to
    end_is = omega (arith, o, slice_length u from to o w)

    pub belongs : IsPlaceOf (record { register = r; out = take (to - from) (drop from u); put = put }) u from
    belongs = record {
      within = omega (arith, end_is, w);
      made = replaced u put from to local o w fits
          (λ j e l h. in_turn (get_or u j 0) e (local.cells j 0 (omega (arith, l, o, w))) (cells e h) (low j e l h))
          (λ j e l m h. in_turn e (get_or u j 0) (cells e h) (local.cells j 0 m) (high j e l m h))
          ∙ ap (λ (k : ℕ). (take from u ++ put) ++ drop k u) (sym end_is);
    }

module _ (u : List ℕ) (c from to r : ℕ) (local : IsLocal u) (g : IsCell c) (first : IsPlace u (first_leaf c) from)
    (last : IsPlace u (first_leaf c + size_of c) to) (unheld : (d : ℕ) → has u d ≡ true → IsInside c d → ⊥)
    (S : ℕ → Bool) where
  o : from ≤ to
  o = run_order u c from to local g first last unheld

  -- .. of a run, nothing
  pub removed_place : Gives S r u (record { register = r; out = take (to - from) (drop from u); put = [] }) →
      IsPlaceOf (record { register = r; out = take (to - from) (drop from u); put = [] }) u from
  removed_place m = belongs u [] r from to local o last.within m.fits (λ e h. absurd (false≢true h))
      (λ j e l h. absurd (false≢true h)) (λ j e l n h. absurd (false≢true h))

  -- .. or its cell
  pub added_place : Gives S r u (record { register = r; out = take (to - from) (drop from u); put = c ∷ [] }) →
      IsPlaceOf (record { register = r; out = take (to - from) (drop from u); put = c ∷ [] }) u from
  added_place m = belongs u (c ∷ []) r from to local o last.within m.fits
      (λ e h. subst IsCell (only c e h) g)
      (λ j e l h. let b = first.ended j l in omega (arith, b, ap first_leaf (only c e h)))
      (λ j e l n h.
      let a = run_after u c from to local g first last unheld j l n in
      omega (arith, a, ap (λ (k : ℕ). first_leaf k + size_of k) (only c e h)))

module _ (u : List ℕ) (at r : ℕ) (local : IsLocal u) (l : at < length u) (S : ℕ → Bool) where
  -- .. of a cell that stays, nothing
  pub kept_place : Gives S r u (record { register = r; out = take (at - at) (drop at u); put = [] }) →
      IsPlaceOf (record { register = r; out = take (at - at) (drop at u); put = [] }) u at
  kept_place m = belongs u [] r at at local (omega arith) (omega (arith, l)) m.fits (λ e h. absurd (false≢true h))
      (λ j e k h. absurd (false≢true h)) (λ j e k n h. absurd (false≢true h))

  -- .. or what is left of it
  pub cut_place : (put : List ℕ) (c : ℕ) → IsLocal put
      → ((x : ℕ) → has_leaf put x ≡ (has_leaf (get_or u at 0 ∷ []) x && not (has_leaf (c ∷ []) x)))
      → Gives S r u (record { register = r; out = take (at + 1 - at) (drop at u); put = put })
      → IsPlaceOf (record { register = r; out = take (at + 1 - at) (drop at u); put = put }) u at
  cut_place put c put_local leaves m =
      let packed = packed_from_local u local in
      let inner : (e : ℕ) → has put e ≡ true → Within e (get_or u at 0) = λ e h.
      within_from_inside e (get_or u at 0) (is_cell put e put_local h) (λ x v.
      let t : has_leaf put x ≡ true = leaf_to put e x (member_had put e h) v in
      grind (arith, common_steps, leaves x, t)) in
      belongs u put r at (at + 1) local (omega arith) (omega (arith, l)) m.fits (λ e h. is_cell put e put_local h)
      (λ j e k h.
      let a = packed.chain j at 0 k l in
      let w = inner e h in
      omega (arith, a, w.low))
      (λ j e k n h.
      let a = packed.chain at j 0 (omega (arith, k)) n in
      let w = inner e h in
      omega (arith, a, w.high))

-- ---- what is known of a change, said of the lists that its finder names

-- it gives a register's list other leaves
pub found_gives : (F : List ℕ → ℕ → Bool) (r : ℕ) (u v : List ℕ) (d : Diff) (out put made : List ℕ) → u ≡ v →
    made ≡ put → d ≡ record { register = r; out = out; put = made } →
    Gives (F u) r u (record { register = r; out = out; put = put }) → Gives (F v) r v d
found_gives F r u v d out put made e p is g = subst (λ (l : List ℕ). Gives (F l) r l d) e (subst (Gives (F u) r u)
    (ap (λ (l : List ℕ). record { register = r; out = out; put = l }) (sym p) ∙ sym is) g)

-- and where it is made
pub found_place : (r : ℕ) (u v : List ℕ) (d : Diff) (out put made : List ℕ) (from at : ℕ) → u ≡ v → made ≡ put →
    d ≡ record { register = r; out = out; put = made } → at ≡ from →
    IsPlaceOf (record { register = r; out = out; put = put }) u from → IsPlaceOf d v at
found_place r u v d out put made from at e p is f g = subst (λ (l : List ℕ). IsPlaceOf d l at) e
    (subst (IsPlaceOf d u) (sym f) (subst (λ (k : Diff). IsPlaceOf k u from)
    (ap (λ (l : List ℕ). record { register = r; out = out; put = l }) (sym p) ∙ sym is) g))
