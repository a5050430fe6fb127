-- Cells next to each other are taken out of a list, and others put in their place.
use Rattle.std.proofs.Common.{◌≡◌, ℕ, ◌+◌, ◌-◌, ◌<◌, ◌≤◌, Bool, true, false, not, ◌||◌, ◌&&◌}
use Rattle.std.proofs.Common.{List, [], ◌∷◌, length, take, drop, get_or, refl, sym, ap, ◌∙◌, subst, inl, inr, ◌⊎◌}
use Rattle.std.proofs.Common.{Result, Ok, Err, IfOk, arith}
use Rattle.std.proofs.Math.Logic.{⊎_elim}
use Rattle.std.proofs.lemmas.Bool.{cases_lt, false≢true}
use Rattle.std.proofs.lemmas.Grind.{common_steps, get_or_default_zero}
use Rattle.std.proofs.lemmas.List.{get_or-take, get_or-drop, length-take-le, length-drop}
use Rattle.std.specs.List.Sorted.{IsStrictlyIncreasing}
use Rattle.s2cell.specs.Cell.{IsCell, level_of, first_leaf, size_of, covers, child_of, IsInside}
use Rattle.s2cell.proofs.CellLemmas.{cell_leaves}
use Rattle.s2cell.proofs.Calls.{IsCell-child_of, child_leaves}
use Rattle.s2cell.proofs.Family.{holder_step, child_within, level_of_child}
use Rattle.s2cell.proofs.Leaves.{Within, covers_from, covers_there, inside_from_within, within_from_inside}
use Rattle.s2cell.proofs.Leaves.{before, after, within, around, meeting}
use Rattle.s2list.specs.Packed.{IsPlace}
use Rattle.s2list.specs.Union.{has_leaf, IsLocal}
use Rattle.s2list.specs.Sets.{union_of, difference_of}
use Rattle.s2list.proofs.Checking.{packed_from_local}
use Rattle.s2list.proofs.Normal.{leaf_from, leaf_to, parent_of_child}
use Rattle.s2list.proofs.PackedLocal.{place}
use Rattle.s2union.specs.Apply.{has, cells_without, applied, Fits}
use Rattle.s2union.proofs.Applied.{local_ascends}
use Rattle.s2union.proofs.CellLists.{IsAscending, same_cells, has-cells_without, has-applied, IsAscending-applied}
use Rattle.s2union.proofs.CellLists.{IsAscending-cells_without, ascends_from}
use Rattle.s2edit.specs.Diff.{IsDiff, change_between}
use Rattle.s2edit.specs.Working.Named.{Gives}
use Rattle.s2edit.specs.Working.Splice.{Siblings, Completes, above}
use Rattle.s2edit.proofs.PartChange.{gives}
use Rattle.s2edit.proofs.PartLemmas.{by_bool, has_member, member_had, leaf_there, one_cell, is_cell, local_from}

-- ---- the cells of a list between two indexes

module _ (u : List ℕ) (from to : ℕ) (o : from ≤ to) (w : to ≤ length u) where
  pub slice_length : length (take (to - from) (drop from u)) ≡ to - from
  slice_length = length-take-le (to - from) (drop from u) (omega (arith, length-drop from u))

  slice_at : (k d : ℕ) → k < to - from → get_or (take (to - from) (drop from u)) k d ≡ get_or u (from + k) d
  slice_at k d l = get_or-take (to - from) (drop from u) k d l ∙ get_or-drop from u k d

  pub in_slice : (j : ℕ) → from ≤ j → j < to → has (take (to - from) (drop from u)) (get_or u j 0) ≡ true
  in_slice j a b =
      let x = get_or u j 0 in
      let e : from + (j - from) ≡ j = omega arith in
      has_member (take (to - from) (drop from u)) x (
        j - from,
        omega (arith, slice_length),
        slice_at (j - from) x (omega arith) ∙ ap (λ (k : ℕ). get_or u k x) e
            ∙ get_or_default_zero u j x (omega arith),
      )

  pub of_slice : (d : ℕ) → has (take (to - from) (drop from u)) d ≡ true →
      (j : ℕ) × (from ≤ j) × (j < to) × (get_or u j 0 ≡ d)
  of_slice d h =
      let p = place (take (to - from) (drop from u)) d (member_had (take (to - from) (drop from u)) d h) in
      let l : p.at < to - from = omega (arith, p.below, slice_length) in
      (from + p.at, omega arith, omega (arith, l), sym (slice_at p.at 0 l) ∙ p.is)

  pub slice_had : (d : ℕ) → has (take (to - from) (drop from u)) d ≡ true → has u d ≡ true
  slice_had d h =
      let (j, a, b, e) = of_slice d h in
      has_member u d (j, omega (arith, b), get_or_default_zero u j d (omega (arith, b)) ∙ e)

  pub slice_ascends : IsStrictlyIncreasing u → IsStrictlyIncreasing (take (to - from) (drop from u))
  slice_ascends up k l =
      let n : k + 1 < to - from = omega (arith, l, slice_length) in
      let e : from + (k + 1) ≡ from + k + 1 = omega arith in
      let s : get_or u (from + k) 0 < get_or u (from + k + 1) 0 = up (from + k) (omega (arith, n)) in
      omega (arith, s, slice_at k 0 (omega (arith, n)), slice_at (k + 1) 0 n, ap (λ (j : ℕ). get_or u j 0) e)

at_index : (u : List ℕ) (j : ℕ) → j < length u → has u (get_or u j 0) ≡ true
at_index u j l = has_member u (get_or u j 0) (j, l, get_or_default_zero u j (get_or u j 0) l)

-- ---- others in their place

-- what one list lacks of another that has none of its cells
lacks_all : (xs ys : List ℕ) → IsAscending xs → ((x : ℕ) → has xs x ≡ true → has ys x ≡ false) →
    xs ≡ cells_without xs ys
lacks_all xs ys a f = same_cells xs (cells_without xs ys) a (IsAscending-cells_without xs ys a)
    (λ x. grind (arith, common_steps, has-cells_without xs ys x, f x))

module _ (u out put : List ℕ) (local : IsLocal u) (put_local : IsLocal put) (up : IsStrictlyIncreasing out)
    (inside : (c : ℕ) → has out c ≡ true → has u c ≡ true)
    (new : (c : ℕ) → has put c ≡ true → has u c ≡ false)
    (apart : (c d x : ℕ) → has u c ≡ true → has out c ≡ false → has put d ≡ true → covers c x ≡ true →
    covers d x ≡ true → ⊥)
    (family : (p i : ℕ) → IsCell p → level_of p < 30 → i < 4 → has put (child_of p i) ≡ true →
    ((j : ℕ) → j < 4 → has (applied out put u) (child_of p j) ≡ true) → ⊥) where
  stays : (c : ℕ) → has (applied out put u) c ≡ true → has put c ≡ false →
      (has u c ≡ true) × (has out c ≡ false)
  stays c h n = (
    grind (arith, common_steps, has-applied out put u c, h, n),
    grind (arith, common_steps, has-applied out put u c, h, n),
  )

  one : (a b x : ℕ) → has (applied out put u) a ≡ true → has (applied out put u) b ≡ true → covers a x ≡ true →
      covers b x ≡ true → a ≡ b
  one a b x ha hb va vb = by_bool (has put a)
      (λ ea. by_bool (has put b)
      (λ eb. one_cell put a b x put_local ea eb va vb)
      (λ nb. let s = stays b hb nb in absurd (apart b a x s.0 s.1 ea vb va)))
      (λ na. let s = stays a ha na in by_bool (has put b)
      (λ eb. absurd (apart a b x s.0 s.1 eb va vb))
      (λ nb. one_cell u a b x local s.0 (stays b hb nb).0 va vb))

  unmerged : (p : ℕ) → IsCell p → level_of p < 30 →
      ((i : ℕ) → i < 4 → has (applied out put u) (child_of p i) ≡ true) → ⊥
  unmerged p g d all = local.unmerged p g d (λ i l. member_had u (child_of p i) (by_bool (has put (child_of p i))
      (λ e. absurd (family p i g d l e all))
      (λ n. (stays (child_of p i) (all i l) n).0)))

  fits : Fits out put u
  fits = record {
    out_ascends = up;
    put_ascends = put_local.ascending;
    out_is_there = inside;
    put_is_new = new;
    local = local_from (applied out put u)
        (IsAscending-applied out put u (local_ascends put put_local) (local_ascends u local) new)
        (λ c h. by_bool (has put c) (λ e. is_cell put c put_local e)
        (λ n. is_cell u c local (stays c h n).0))
        one unmerged;
  }

  no_put : (c : ℕ) → has out c ≡ true → has put c ≡ false
  no_put c h = by_bool (has put c) (λ e. absurd (false≢true (sym (new c e) ∙ inside c h))) (λ n. n)

  no_out : (c : ℕ) → has put c ≡ true → has out c ≡ false
  no_out c h = by_bool (has out c) (λ e. absurd (false≢true (sym (new c h) ∙ inside c e))) (λ n. n)

  pub splice_lists : IsDiff out put
  splice_lists = record { out_ascends = up; put_ascends = put_local.ascending; apart = no_put }

  pub splice_gives : (r : ℕ) (S : ℕ → Bool)
      → ((x : ℕ) → (has_leaf put x || (has_leaf u x && not (has_leaf out x))) ≡ S x)
      → Gives S r u (record { register = r; out = out; put = put })
  splice_gives r S leaves =
      let e : change_between r out put ≡ record { register = r; out = out; put = put } =
      ap (λ (l : List ℕ). record { register = r; out = l; put = cells_without put out })
      (sym (lacks_all out put (ascends_from out up) no_put))
      ∙ ap (λ (l : List ℕ). record { register = r; out = out; put = l })
      (sym (lacks_all put out (local_ascends put put_local) no_out)) in
      gives u out put local inside r (record { register = r; out = out; put = put }) S (sym e) fits leaves

-- ---- lists of no cell and of one

no_cells_local : IsLocal []
no_cells_local = local_from [] tt (λ c h. absurd (false≢true h)) (λ a b x h. absurd (false≢true h))
    (λ p g d all. false≢true (all 0 (omega arith)))

pub only : (c d : ℕ) → has (c ∷ []) d ≡ true → c ≡ d
only c d h = grind (arith, common_steps, h)

pub one_cell_local : (c : ℕ) → IsCell c → IsLocal (c ∷ [])
one_cell_local c g = local_from (c ∷ []) (tt, tt) (λ d h. subst IsCell (only c d h) g)
    (λ a b x h k v w. sym (only c a h) ∙ only c b k)
    (λ p gp dp all.
    let a = child_leaves p 0 gp dp (omega arith) in
    let b = child_leaves p 1 gp dp (omega arith) in
    let some = (cell_leaves (child_of p 1) (IsCell-child_of p 1 (child_of p 1) gp dp (omega arith) refl)).some in
    let e : child_of p 0 ≡ child_of p 1 = sym (only c (child_of p 0) (all 0 (omega arith)))
    ∙ only c (child_of p 1) (all 1 (omega arith)) in
    absurd (omega (arith, a.first, b.first, some, ap first_leaf e)))

-- a list of one cell
pub single : (xs : List ℕ) (x : ℕ) → length xs ≡ 1 → x ≡ get_or xs 0 x → x ∷ [] ≡ xs
single [] x l e = absurd (omega (arith, l))
single (y ∷ []) x l e = ap (λ (k : ℕ). k ∷ []) e
single (y ∷ z ∷ zs) x l e = absurd (omega (arith, l))

-- ---- a run

module _ (u : List ℕ) (c from to : ℕ) (local : IsLocal u) (g : IsCell c) (first : IsPlace u (first_leaf c) from)
    (last : IsPlace u (first_leaf c + size_of c) to) (unheld : (d : ℕ) → has u d ≡ true → IsInside c d → ⊥) where
  -- a cell at the place of a leaf or after it ends after the leaf
  ends_past : {lo at : ℕ} (j : ℕ) → IsPlace u lo at → at ≤ j → j < length u →
      lo < first_leaf (get_or u j 0) + size_of (get_or u j 0)
  ends_past {lo} {at} j p a l = ⊎_elim
      (λ (m : at < j).
      let n = p.next (omega (arith, m, l)) in
      let chain = (packed_from_local u local).chain at j 0 m l in
      omega (arith, n, chain))
      (λ (m : j ≤ at).
      let e : at ≡ j = omega (arith, a, m) in
      let n = p.next (omega (arith, e, l)) in
      omega (arith, n, ap (λ (k : ℕ). first_leaf (get_or u k 0) + size_of (get_or u k 0)) e))
      (cases_lt at j)

  pub run_order : from ≤ to
  run_order = ⊎_elim
      (λ (l : to < from).
      let a = first.ended to l in
      let b = last.next (omega (arith, l, first.within)) in
      absurd (omega (arith, a, b)))
      (λ (l : from ≤ to). l)
      (cases_lt to from)

  -- the cells after the run begin after the cell
  pub run_after : (j : ℕ) → to ≤ j → j < length u → first_leaf c + size_of c ≤ first_leaf (get_or u j 0)
  run_after j a l =
      let past = ends_past j last a l in
      let there : IsCell (get_or u j 0) = local.cells j 0 l in
      elim (meeting (get_or u j 0) c there g) [
        | before k ↦ let some = (cell_leaves c g).some in absurd (omega (arith, k, past, some))
        | after k ↦ k
        | within k ↦ absurd (omega (arith, k.high, past))
        | around k ↦ absurd (unheld (get_or u j 0) (at_index u j l) (inside_from_within c (get_or u j 0) k))
      ]

  -- a cell of the list that shares a leaf with the cell is in the run
  pub in_run : (d x : ℕ) → has u d ≡ true → covers d x ≡ true → covers c x ≡ true →
      has (take (to - from) (drop from u)) d ≡ true
  in_run d x h v w =
      let p = place u d (member_had u d h) in
      let a = covers_from d x v in
      let b = covers_from c x w in
      let fd = ap first_leaf p.is in
      let sd = ap size_of p.is in
      ⊎_elim
      (λ (l : p.at < from). let e = first.ended p.at l in absurd (omega (arith, e, fd, sd, a.1, b.0)))
      (λ (l : from ≤ p.at). ⊎_elim
      (λ (m : p.at < to). subst (λ (k : ℕ). has (take (to - from) (drop from u)) k ≡ true) p.is
      (in_slice u from to run_order last.within p.at l m))
      (λ (m : to ≤ p.at).
      let e = ends_past p.at last m p.below in
      elim (meeting c d g (is_cell u d local h)) [
        | before k ↦ absurd (omega (arith, k, b.1, a.0))
        | after k ↦ absurd (omega (arith, k, b.0, a.1))
        | within k ↦ absurd (unheld d h (inside_from_within c d k))
        | around k ↦ absurd (omega (arith, k.high, e, fd, sd))
      ])
      (cases_lt p.at to))
      (cases_lt p.at from)

  -- the cells of the run lie in the cell
  pub run_within : (d : ℕ) → has (take (to - from) (drop from u)) d ≡ true → Within d c
  run_within d h =
      let (j, a, b, e) = of_slice u from to run_order last.within d h in
      let there = slice_had u from to run_order last.within d h in
      let past = ends_past j first a (omega (arith, b, last.within)) in
      let ended = last.ended j b in
      let fd = ap first_leaf e in
      let sd = ap size_of e in
      let some = (cell_leaves d (is_cell u d local there)).some in
      elim (meeting d c (is_cell u d local there) g) [
        | before k ↦ absurd (omega (arith, k, past, fd, sd))
        | after k ↦ absurd (omega (arith, k, ended, fd, sd, some))
        | within k ↦ k
        | around k ↦ absurd (unheld d there (inside_from_within c d k))
      ]

  run_ascends : IsStrictlyIncreasing (take (to - from) (drop from u))
  run_ascends = slice_ascends u from to run_order last.within local.ascending

  out_leaf : (x : ℕ) → has_leaf (take (to - from) (drop from u)) x ≡ true → covers c x ≡ true
  out_leaf x t =
      let d = leaf_from (take (to - from) (drop from u)) x t in
      inside_from_within d.cell c (run_within d.cell (has_member (take (to - from) (drop from u)) d.cell d.member)) x
      (covers_there d.cell x d.low d.high)

  leaf_out : (x : ℕ) → has_leaf u x ≡ true → covers c x ≡ true → has_leaf (take (to - from) (drop from u)) x ≡ true
  leaf_out x t w =
      let d = leaf_from u x t in
      let v = covers_there d.cell x d.low d.high in
      leaf_to (take (to - from) (drop from u)) d.cell x
      (member_had (take (to - from) (drop from u)) d.cell (in_run d.cell x (has_member u d.cell d.member) v w)) v

  -- without the run
  gone : (x : Bool) (u o k : Bool) → (o ≡ true → k ≡ true) → (u ≡ true → k ≡ true → o ≡ true) → x ≡ false →
      (x || (u && not o)) ≡ (u && not (k || false))
  gone x true true k f h e = grind (arith, common_steps, f, e)
  gone x true false true f h e = absurd (false≢true (h refl refl))
  gone x true false false f h e = grind (arith, common_steps, e)
  gone x false o k f h e = grind (arith, common_steps, e)

  -- with the cell, or a greater one, in place of the run
  came : (p u o k : Bool) → (k ≡ true → p ≡ true) → (p ≡ true → (u || k) ≡ true) → (o ≡ true → p ≡ true) →
      ((p || false) || (u && not o)) ≡ (u || (k || false))
  came true u o k f h i = grind (arith, common_steps, h refl)
  came false u true k f h i = absurd (false≢true (i refl))
  came false u false true f h i = absurd (false≢true (f refl))
  came false true false false f h i = refl
  came false false false false f h i = refl

  -- if the run is taken out
  pub removed : (r : ℕ) → Gives (difference_of (has_leaf u) (has_leaf (c ∷ []))) r u
      (record { register = r; out = take (to - from) (drop from u); put = [] })
  removed r = splice_gives u (take (to - from) (drop from u)) [] local no_cells_local run_ascends
      (slice_had u from to run_order last.within) (λ d h. absurd (false≢true h))
      (λ d e x h n k. absurd (false≢true k)) (λ p i gp dp l h. absurd (false≢true h)) r
      (difference_of (has_leaf u) (has_leaf (c ∷ [])))
      (λ x. gone (has_leaf [] x) (has_leaf u x) (has_leaf (take (to - from) (drop from u)) x) (covers c x)
      (out_leaf x) (leaf_out x) refl)

  pub removed_lists : IsDiff (take (to - from) (drop from u)) []
  removed_lists = splice_lists u (take (to - from) (drop from u)) [] local no_cells_local run_ascends
      (slice_had u from to run_order last.within) (λ d h. absurd (false≢true h))
      (λ d e x h n k. absurd (false≢true k)) (λ p i gp dp l h. absurd (false≢true h))

  -- if the cell takes the place of the run
  new_cell : (d : ℕ) → has (c ∷ []) d ≡ true → has u d ≡ false
  new_cell d h = by_bool (has u d)
      (λ e. absurd (unheld d e (subst (λ (k : ℕ). IsInside c k) (only c d h) (λ x v. v))))
      (λ n. n)

  cell_apart : (d e x : ℕ) → has u d ≡ true → has (take (to - from) (drop from u)) d ≡ false →
      has (c ∷ []) e ≡ true → covers d x ≡ true → covers e x ≡ true → ⊥
  cell_apart d e x h n k v w = false≢true
      (sym n ∙ in_run d x h v (subst (λ (j : ℕ). covers j x ≡ true) (sym (only c e k)) w))

  module _ (greatest : Siblings u c → ⊥) where
    no_siblings : (p i : ℕ) → IsCell p → level_of p < 30 → i < 4 → has (c ∷ []) (child_of p i) ≡ true →
        ((j : ℕ) → j < 4 → has (applied (take (to - from) (drop from u)) (c ∷ []) u) (child_of p j) ≡ true) → ⊥
    no_siblings p i gp dp l h all =
        let e : c ≡ child_of p i = only c (child_of p i) h in
        let up : above c ≡ p = ap above e ∙ parent_of_child p i gp dp l in
        greatest (record {
          deep = omega (arith, ap level_of e, level_of_child p i gp dp l);
          all = λ j m. subst (λ (q : ℕ). (child_of q j ≡ c) ⊎ (has u (child_of q j) ≡ true)) (sym up)
              (by_bool (has (c ∷ []) (child_of p j))
              (λ k. inl (sym (only c (child_of p j) k)))
              (λ n. inr (grind (
                arith,
                common_steps,
                has-applied (take (to - from) (drop from u)) (c ∷ []) u (child_of p j),
                all j m,
                n,
              ))));
        })

    pub added : (a r : ℕ) → Completes u a c → Gives (union_of (has_leaf u) (has_leaf (a ∷ []))) r u
        (record { register = r; out = take (to - from) (drop from u); put = c ∷ [] })
    added a r done = splice_gives u (take (to - from) (drop from u)) (c ∷ []) local (one_cell_local c g) run_ascends
        (slice_had u from to run_order last.within) new_cell cell_apart no_siblings r
        (union_of (has_leaf u) (has_leaf (a ∷ [])))
        (λ x. came (covers c x) (has_leaf u x) (has_leaf (take (to - from) (drop from u)) x) (covers a x)
        (done.holds x) (done.leaves x) (out_leaf x))

    pub added_lists : IsDiff (take (to - from) (drop from u)) (c ∷ [])
    added_lists = splice_lists u (take (to - from) (drop from u)) (c ∷ []) local (one_cell_local c g) run_ascends
        (slice_had u from to run_order last.within) new_cell cell_apart no_siblings

-- ---- a cell that one of the list holds

module _ (u : List ℕ) (c at : ℕ) (local : IsLocal u) (g : IsCell c) (l : at < length u)
    (inside : IsInside c (get_or u at 0)) where
  holder_had : has u (get_or u at 0) ≡ true
  holder_had = has_member u (get_or u at 0) (at, l, get_or_default_zero u at (get_or u at 0) l)

  -- if it is added, nothing changes
  nothing_out : (d : ℕ) → has (take (at - at) (drop at u)) d ≡ true → ⊥
  nothing_out d h =
      let (j, a, b, e) = of_slice u at at (omega arith) (omega (arith, l)) d h in
      absurd (omega (arith, a, b))

  still : (u o k : Bool) → (k ≡ true → u ≡ true) → (o ≡ true → ⊥) → (false || (u && not o)) ≡ (u || (k || false))
  still u true k f n = absurd (n refl)
  still true false k f n = refl
  still false false true f n = absurd (false≢true (f refl))
  still false false false f n = refl

  pub kept : (r : ℕ) → Gives (union_of (has_leaf u) (has_leaf (c ∷ []))) r u
      (record { register = r; out = take (at - at) (drop at u); put = [] })
  kept r = splice_gives u (take (at - at) (drop at u)) [] local no_cells_local
      (slice_ascends u at at (omega arith) (omega (arith, l)) local.ascending)
      (slice_had u at at (omega arith) (omega (arith, l))) (λ d h. absurd (false≢true h))
      (λ d e x h n k. absurd (false≢true k)) (λ p i gp dp m h. absurd (false≢true h)) r
      (union_of (has_leaf u) (has_leaf (c ∷ [])))
      (λ x. still (has_leaf u x) (has_leaf (take (at - at) (drop at u)) x) (covers c x)
      (λ v. leaf_to u (get_or u at 0) x (member_had u (get_or u at 0) holder_had) (inside x v))
      (λ t. let d = leaf_from (take (at - at) (drop at u)) x t in
      nothing_out d.cell (has_member (take (at - at) (drop at u)) d.cell d.member)))

  pub kept_lists : IsDiff (take (at - at) (drop at u)) []
  kept_lists = splice_lists u (take (at - at) (drop at u)) [] local no_cells_local
      (slice_ascends u at at (omega arith) (omega (arith, l)) local.ascending)
      (slice_had u at at (omega arith) (omega (arith, l))) (λ d h. absurd (false≢true h))
      (λ d e x h n k. absurd (false≢true k)) (λ p i gp dp m h. absurd (false≢true h))

  -- if it is taken out, what is left of that one takes its place
  module _ (put : List ℕ) (put_local : IsLocal put)
      (leaves : (x : ℕ) → has_leaf put x ≡ (has_leaf (get_or u at 0 ∷ []) x && not (has_leaf (c ∷ []) x))) where
    order : at ≤ at + 1
    order = omega arith

    within_list : at + 1 ≤ length u
    within_list = omega (arith, l)

    holder_out : has (take (at + 1 - at) (drop at u)) (get_or u at 0) ≡ true
    holder_out = in_slice u at (at + 1) order within_list at (omega arith) (omega arith)

    out_holder : (d : ℕ) → has (take (at + 1 - at) (drop at u)) d ≡ true → get_or u at 0 ≡ d
    out_holder d h =
        let (j, a, b, e) = of_slice u at (at + 1) order within_list d h in
        let f : at ≡ j = omega (arith, a, b) in
        ap (λ (k : ℕ). get_or u k 0) f ∙ e

    leaf_of_rest : (x : ℕ) → has_leaf put x ≡ true → (covers (get_or u at 0) x ≡ true) × (covers c x ≡ false)
    leaf_of_rest x t = (
      grind (arith, common_steps, leaves x, t),
      grind (arith, common_steps, leaves x, t),
    )

    cell_of_rest : (d x : ℕ) → has put d ≡ true → covers d x ≡ true →
        (covers (get_or u at 0) x ≡ true) × (covers c x ≡ false)
    cell_of_rest d x h v = leaf_of_rest x (leaf_to put d x (member_had put d h) v)

    -- the holder itself isn't left
    rest_is_less : has put (get_or u at 0) ≡ true → ⊥
    rest_is_less h =
        let v = leaf_there c g in
        false≢true (sym (cell_of_rest (get_or u at 0) (first_leaf c) h (inside (first_leaf c) v)).1 ∙ v)

    rest_new : (d : ℕ) → has put d ≡ true → has u d ≡ false
    rest_new d h = by_bool (has u d)
        (λ e.
        let v = leaf_there d (is_cell put d put_local h) in
        let s : d ≡ get_or u at 0 = one_cell u d (get_or u at 0) (first_leaf d) local e holder_had v
        (cell_of_rest d (first_leaf d) h v).0 in
        absurd (rest_is_less (subst (λ (k : ℕ). has put k ≡ true) s h)))
        (λ n. n)

    -- a cell of the list with a leaf of the holder is the holder, which goes
    rest_apart : (d e x : ℕ) → has u d ≡ true → has (take (at + 1 - at) (drop at u)) d ≡ false →
        has put e ≡ true → covers d x ≡ true → covers e x ≡ true → ⊥
    rest_apart d e x h n k v w =
        let s : get_or u at 0 ≡ d = one_cell u (get_or u at 0) d x local holder_had h (cell_of_rest e x k w).0 v in
        false≢true (sym n ∙ subst (λ (j : ℕ). has (take (at + 1 - at) (drop at u)) j ≡ true) s holder_out)

    -- a family with one of the cells that are left would be left whole
    rest_family : (p i : ℕ) → IsCell p → level_of p < 30 → i < 4 → has put (child_of p i) ≡ true →
        ((j : ℕ) → j < 4 → has (applied (take (at + 1 - at) (drop at u)) put u) (child_of p j) ≡ true) → ⊥
    rest_family p i gp dp m h all =
        let hc = is_cell u (get_or u at 0) local holder_had in
        let k = child_of p i in
        let kc = is_cell put k put_local h in
        let inner : Within k (get_or u at 0) = within_from_inside k (get_or u at 0) kc
        (λ x v. (cell_of_rest k x h v).0) in
        let up : Within p (get_or u at 0) = ⊎_elim (λ (w : Within p (get_or u at 0)). w)
        (λ (e : get_or u at 0 ≡ k). absurd (rest_is_less (subst (λ (j : ℕ). has put j ≡ true) (sym e) h)))
        (holder_step p i (get_or u at 0) gp dp m hc inner) in
        put_local.unmerged p gp dp (λ j n. member_had put (child_of p j) (by_bool (has put (child_of p j))
        (λ e. e)
        (λ e.
        let d = child_of p j in
        let dc : IsCell d = IsCell-child_of p j d gp dp n refl in
        let v = leaf_there d dc in
        let w = inside_from_within p (get_or u at 0) up (first_leaf d)
        (inside_from_within d p (child_within p j gp dp n) (first_leaf d) v) in
        let stay : (has u d ≡ true) × (has (take (at + 1 - at) (drop at u)) d ≡ false) = (
          grind (arith, common_steps, has-applied (take (at + 1 - at) (drop at u)) put u d, all j n, e),
          grind (arith, common_steps, has-applied (take (at + 1 - at) (drop at u)) put u d, all j n, e),
        ) in
        let s : get_or u at 0 ≡ d = one_cell u (get_or u at 0) d (first_leaf d) local holder_had stay.0 w v in
        absurd (false≢true (sym stay.1
        ∙ subst (λ (q : ℕ). has (take (at + 1 - at) (drop at u)) q ≡ true) s holder_out)))))

    cut : (p u h o k : Bool) → p ≡ ((h || false) && not (k || false)) → (h ≡ true → u ≡ true) →
        (k ≡ true → h ≡ true) → o ≡ h → (p || (u && not o)) ≡ (u && not (k || false))
    cut p true true o k e f i s = grind (arith, common_steps, e, s)
    cut p false true o k e f i s = absurd (false≢true (f refl))
    cut p u false o true e f i s = absurd (false≢true (i refl))
    cut p true false o false e f i s = grind (arith, common_steps, e, s)
    cut p false false o false e f i s = grind (arith, common_steps, e, s)

    out_leaves : (x : ℕ) → has_leaf (take (at + 1 - at) (drop at u)) x ≡ covers (get_or u at 0) x
    out_leaves x = by_bool (has_leaf (take (at + 1 - at) (drop at u)) x)
        (λ t.
        let d = leaf_from (take (at + 1 - at) (drop at u)) x t in
        let s = out_holder d.cell (has_member (take (at + 1 - at) (drop at u)) d.cell d.member) in
        t ∙ sym (subst (λ (k : ℕ). covers k x ≡ true) (sym s) (covers_there d.cell x d.low d.high)))
        (λ n. by_bool (covers (get_or u at 0) x)
        (λ v. absurd (false≢true (sym n ∙ leaf_to (take (at + 1 - at) (drop at u)) (get_or u at 0) x
        (member_had (take (at + 1 - at) (drop at u)) (get_or u at 0) holder_out) v)))
        (λ m. n ∙ sym m))

    pub cut_out : (r : ℕ) → Gives (difference_of (has_leaf u) (has_leaf (c ∷ []))) r u
        (record { register = r; out = take (at + 1 - at) (drop at u); put = put })
    cut_out r = splice_gives u (take (at + 1 - at) (drop at u)) put local put_local
        (slice_ascends u at (at + 1) order within_list local.ascending) (slice_had u at (at + 1) order within_list)
        rest_new rest_apart rest_family r (difference_of (has_leaf u) (has_leaf (c ∷ [])))
        (λ x. cut (has_leaf put x) (has_leaf u x) (covers (get_or u at 0) x)
        (has_leaf (take (at + 1 - at) (drop at u)) x) (covers c x) (leaves x)
        (λ v. leaf_to u (get_or u at 0) x (member_had u (get_or u at 0) holder_had) v) (inside x) (out_leaves x))

    pub cut_lists : IsDiff (take (at + 1 - at) (drop at u)) put
    cut_lists = splice_lists u (take (at + 1 - at) (drop at u)) put local put_local
        (slice_ascends u at (at + 1) order within_list local.ascending) (slice_had u at (at + 1) order within_list)
        rest_new rest_apart rest_family

-- the leaves that are left, of the cell at an index
pub leaves_at : (u : List ℕ) (at h c : ℕ) (put : List ℕ) → at < length u → h ≡ get_or u at h
    → ((x : ℕ) → has_leaf put x ≡ (has_leaf (h ∷ []) x && not (has_leaf (c ∷ []) x)))
    → (x : ℕ) → has_leaf put x ≡ (has_leaf (get_or u at 0 ∷ []) x && not (has_leaf (c ∷ []) x))
leaves_at u at h c put l e leaves x = leaves x
    ∙ ap (λ (k : ℕ). has_leaf (k ∷ []) x && not (has_leaf (c ∷ []) x)) (e ∙ get_or_default_zero u at h l)

-- what follows from two things that are known of a result
pub ok_both : {X E : Type 0} {P Q R : X → Type 0} (r : Result X E) → IfOk r P → IfOk r Q →
    ((x : X) → P x → Q x → R x) → IfOk r R
ok_both (Ok x) p q f = f x p q
ok_both (Err e) p q f = tt

-- what follows from what is known of a result
pub ok_then : {X E : Type 0} {P Q : X → Type 0} (r : Result X E) → IfOk r P → ((x : X) → P x → Q x) → IfOk r Q
ok_then (Ok x) p f = f x p
ok_then (Err e) p f = tt
