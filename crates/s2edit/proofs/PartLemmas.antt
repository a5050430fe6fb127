-- A change fits a list exactly when it fits the part of the list that it can concern.
use Rattle.std.proofs.Common.{◌≡◌, ℕ, zero, suc, ◌<◌, Bool, true, false, not, ◌&&◌, eqb, List, []}
use Rattle.std.proofs.Common.{◌∷◌, get_or, Contains, refl, sym, ap, ◌∙◌, subst, arith}
use Rattle.std.proofs.lemmas.Grind.{common_steps}
use Rattle.std.proofs.lemmas.Bool.{false≢true}
use Rattle.std.proofs.lemmas.List.Elements.{All-contains, Contains-get_or}
use Rattle.std.proofs.lemmas.List.Kept.{AllPairs-from_increasing}
use Rattle.s2cell.specs.Cell.{IsCell, level_of, first_leaf, covers, child_of}
use Rattle.s2cell.proofs.CellLemmas.{cell_leaves}
use Rattle.s2cell.proofs.Calls.{IsCell-child_of}
use Rattle.s2cell.proofs.Leaves.{covers_there}
use Rattle.s2list.specs.Union.{has_leaf, IsLocal, LiesIn}
use Rattle.s2union.specs.Apply.{has, cells_without, applied, Fits}
use Rattle.s2list.proofs.Normal.{leaf_from, leaf_to, member_greatest, greatest_apart, parent_of_child}
use Rattle.s2union.proofs.CellLists.{IsAscending, same_cells, has-cells_without, has-applied, IsAscending-applied}
use Rattle.s2union.proofs.CellLists.{IsAscending-cells_without, ascends_from, increasing_from}
use Rattle.s2union.proofs.Applied.{local_ascends}
use Rattle.s2edit.specs.Working.Part.{around, IsWatched, IsPart, CutsNone}

pub by_bool : {A : Type 0} (b : Bool) → (b ≡ true → A) → (b ≡ false → A) → A
by_bool true f g = f refl
by_bool false f g = g refl

-- the two ways to say that a cell is in a list
pub has_member : (u : List ℕ) (c : ℕ) → Contains u c → has u c ≡ true
has_member [] c (k, l, e) = absurd (omega arith)
has_member (y ∷ ys) c (zero, l, e) = grind (arith, common_steps, e)
has_member (y ∷ ys) c (suc k, l, e) = grind (arith, common_steps, has_member ys c (k, omega arith, e))

pub member_had : (u : List ℕ) (c : ℕ) → has u c ≡ true → Contains u c
member_had [] c h = absurd (cc)
member_had (y ∷ ys) c h = by_bool (eqb y c)
    (λ e. (zero, omega arith, grind (arith, common_steps, e)))
    (λ n. let m = member_had ys c (grind (arith, common_steps, n, h)) in (suc m.0, omega (arith, m.1), m.2))

-- a cell has leaves
pub leaf_there : (c : ℕ) → IsCell c → covers c (first_leaf c) ≡ true
leaf_there c g = let some = (cell_leaves c g).some in covers_there c (first_leaf c) (omega arith) (omega arith)

-- two cells of a local list that share a leaf are one
pub one_cell : (u : List ℕ) (a b x : ℕ) → IsLocal u → has u a ≡ true → has u b ≡ true → covers a x ≡ true →
    covers b x ≡ true → a ≡ b
one_cell u a b x l ha hb va vb = greatest_apart (has_leaf u) a b x (member_greatest u l a (member_had u a ha))
    (member_greatest u l b (member_had u b hb)) va vb

pub is_cell : (u : List ℕ) (c : ℕ) → IsLocal u → has u c ≡ true → IsCell c
is_cell u c l h = All-contains IsCell u c l.cells (member_had u c h)

-- no four cells of a local list are a family
no_family : (u : List ℕ) (p : ℕ) → IsLocal u → IsCell p → level_of p < 30 →
    ((i : ℕ) → i < 4 → has u (child_of p i) ≡ true) → ⊥
no_family u p l g d all = l.unmerged p g d (λ i h. member_had u (child_of p i) (all i h))

-- that a list is local, said of its members
pub local_from : (u : List ℕ) → IsAscending u
    → ((c : ℕ) → has u c ≡ true → IsCell c)
    → ((a b x : ℕ) → has u a ≡ true → has u b ≡ true → covers a x ≡ true → covers b x ≡ true → a ≡ b)
    → ((p : ℕ) → IsCell p → level_of p < 30 → ((i : ℕ) → i < 4 → has u (child_of p i) ≡ true) → ⊥)
    → IsLocal u
local_from u asc cells one family =
    let rising = AllPairs-from_increasing u (increasing_from u asc) in
    record {
      cells = λ k d h. cells (get_or u k d) (has_member u (get_or u k d) (Contains-get_or u k d h));
      ascending = increasing_from u asc;
      apart = λ i j d h l x a b.
          let e : get_or u i d ≡ get_or u j d = one (get_or u i d) (get_or u j d) x
          (has_member u (get_or u i d) (Contains-get_or u i d (omega arith)))
          (has_member u (get_or u j d) (Contains-get_or u j d l)) a b in
          let lt : get_or u i d < get_or u j d = rising i j d h l in
          absurd (omega arith);
      unmerged = λ p g d all. family p g d (λ i h. has_member u (child_of p i) (all i h));
    }

-- an ascending list of some cells of a local list
pub local_within : (u w : List ℕ) → IsLocal u → IsAscending w → ((c : ℕ) → has w c ≡ true → has u c ≡ true) →
    IsLocal w
local_within u w l asc inside = local_from w asc
    (λ c h. is_cell u c l (inside c h))
    (λ a b x ha hb va vb. one_cell u a b x l (inside a ha) (inside b hb) va vb)
    (λ p g d all. no_family u p l g d (λ i h. inside (child_of p i) (all i h)))

module _ (S : ℕ → Bool) (u s n q : List ℕ) (part : IsPart S u s) (out : (c : ℕ) → has n c ≡ true → IsWatched S u c)
    (put : (c : ℕ) → has q c ≡ true → IsWatched S u c) where
  -- a cell of the list that a change names is in the part
  named_there : (c : ℕ) → IsWatched S u c → has u c ≡ true → has s c ≡ true
  named_there c w h = let v = leaf_there c w.cell in part.rest c (first_leaf c) h v (w.own (first_leaf c) v)

  -- the part of what the change makes
  within : (c : ℕ) → has (applied n q s) c ≡ true → has (applied n q u) c ≡ true
  within c h = grind (arith, common_steps, has-applied n q s c, has-applied n q u c, part.inside c, h)

  beside : (c x : ℕ) → has (applied n q u) c ≡ true → covers c x ≡ true → S x ≡ true → has (applied n q s) c ≡ true
  beside c x h v w = grind (
    arith,
    common_steps,
    has-applied n q s c,
    has-applied n q u c,
    λ (m : has u c ≡ true). part.rest c x m v w,
    h,
  )

  pub fits_part : Fits n q u → Fits n q s
  fits_part f =
      let new : (c : ℕ) → has q c ≡ true → has s c ≡ false =
      λ c h. grind (arith, common_steps, f.put_is_new c, part.inside c, h) in
      record {
        out_ascends = f.out_ascends;
        put_ascends = f.put_ascends;
        out_is_there = λ c h. named_there c (out c h) (f.out_is_there c h);
        put_is_new = new;
        local = local_within (applied n q u) (applied n q s) f.local
            (IsAscending-applied n q s (ascends_from q f.put_ascends) (local_ascends s part.part_local) new)
            within;
      }

  -- a cell of the list that a change makes is a new one, or one of before
  from_before : (c : ℕ) → has (applied n q u) c ≡ true → has q c ≡ false → has u c ≡ true
  from_before c h e = grind (arith, common_steps, has-applied n q u c, h, e)

  -- what is watched in the list is watched after the change
  pub watched_after : (c : ℕ) → IsWatched S u c → IsWatched S (applied n q u) c
  watched_after c w = record {
    cell = w.cell;
    own = w.own;
    siblings = λ i l h. by_bool (has q (child_of (around c) i))
        (λ e. (put (child_of (around c) i) e).own)
        (λ e. w.siblings i l (from_before (child_of (around c) i) h e));
  }

  module _ (f : Fits n q s) where
    put_new : (c : ℕ) → has q c ≡ true → has u c ≡ false
    put_new c h = by_bool (has u c)
        (λ e. absurd (false≢true (sym (f.put_is_new c h) ∙ named_there c (put c h) e)))
        (λ e. e)

    one : (a b x : ℕ) → has (applied n q u) a ≡ true → has (applied n q u) b ≡ true → covers a x ≡ true →
        covers b x ≡ true → a ≡ b
    one a b x ha hb va vb =
        let near : S x ≡ true → a ≡ b =
        λ w. one_cell (applied n q s) a b x f.local (beside a x ha va w) (beside b x hb vb w) va vb in
        by_bool (has q a)
        (λ e. near ((put a e).own x va))
        (λ e. by_bool (has q b)
        (λ k. near ((put b k).own x vb))
        (λ k. one_cell u a b x part.local (from_before a ha e) (from_before b hb k) va vb))

    -- four children of which one is new are in the part
    no_new_family : (p i : ℕ) → IsCell p → level_of p < 30 → i < 4 → has q (child_of p i) ≡ true →
        ((j : ℕ) → j < 4 → has (applied n q u) (child_of p j) ≡ true) → ⊥
    no_new_family p i g d l h all =
        let siblings : (j : ℕ) → j < 4 → has u (child_of p j) ≡ true → LiesIn S (child_of p j) =
        subst (λ (r : ℕ). (j : ℕ) → j < 4 → has u (child_of r j) ≡ true → LiesIn S (child_of r j))
        (parent_of_child p i g d l) (put (child_of p i) h).siblings in
        no_family (applied n q s) p f.local g d (λ j m.
        let k = child_of p j in
        let v = leaf_there k (IsCell-child_of p j k g d m refl) in
        by_bool (has q k)
        (λ e. grind (arith, common_steps, has-applied n q s k, e))
        (λ e. beside k (first_leaf k) (all j m) v (siblings j m (from_before k (all j m) e) (first_leaf k) v)))

    no_family_made : (p : ℕ) → IsCell p → level_of p < 30 →
        ((i : ℕ) → i < 4 → has (applied n q u) (child_of p i) ≡ true) → ⊥
    no_family_made p g d all =
        let old : (i : ℕ) → i < 4 → has u (child_of p i) ≡ true =
        λ i l. by_bool (has q (child_of p i))
        (λ e. absurd (no_new_family p i g d l e all))
        (λ e. from_before (child_of p i) (all i l) e) in
        no_family u p part.local g d old

    pub fits_whole : Fits n q u
    fits_whole = record {
      out_ascends = f.out_ascends;
      put_ascends = f.put_ascends;
      out_is_there = λ c h. part.inside c (f.out_is_there c h);
      put_is_new = put_new;
      local = local_from (applied n q u)
          (IsAscending-applied n q u (ascends_from q f.put_ascends) (local_ascends u part.local) put_new)
          (λ c h. by_bool (has q c) (λ e. (put c e).cell) (λ e. is_cell u c part.local (from_before c h e)))
          one no_family_made;
    }

    pub part_after : IsPart S (applied n q u) (applied n q s)
    part_after = record { local = fits_whole.local; part_local = f.local; inside = within; rest = beside }

    -- the cells outside the part stay
    pub rest_after : (c : ℕ) →
        (has (applied n q u) c && not (has (applied n q s) c)) ≡ (has u c && not (has s c))
    rest_after c = grind (
      arith,
      common_steps,
      has-applied n q s c,
      has-applied n q u c,
      f.out_is_there c,
      f.put_is_new c,
      put_new c,
      part.inside c,
    )

-- what changes have made of a part, as one change of the list
module _ (S : ℕ → Bool) (u s u' s' : List ℕ) (before : IsPart S u s) (after : IsPart S u' s')
    (rest : (c : ℕ) → (has u' c && not (has s' c)) ≡ (has u c && not (has s c))) where
  put_outside : (c : ℕ) → has (cells_without s' s) c ≡ true → has u c ≡ false
  put_outside c h = grind (arith, common_steps, has-cells_without s' s c, rest c, h)

  pub change_of_part : applied (cells_without s s') (cells_without s' s) u ≡ u'
  change_of_part = same_cells (applied (cells_without s s') (cells_without s' s) u) u'
      (IsAscending-applied (cells_without s s') (cells_without s' s) u
      (IsAscending-cells_without s' s (local_ascends s' after.part_local)) (local_ascends u before.local) put_outside)
      (local_ascends u' after.local)
      (λ c. has-applied (cells_without s s') (cells_without s' s) u c ∙ grind (
        arith,
        common_steps,
        has-cells_without s s' c,
        has-cells_without s' s c,
        before.inside c,
        after.inside c,
        rest c,
      ))

  pub change_fits : Fits (cells_without s s') (cells_without s' s) u
  change_fits = record {
    out_ascends = increasing_from (cells_without s s')
        (IsAscending-cells_without s s' (local_ascends s before.part_local));
    put_ascends = increasing_from (cells_without s' s)
        (IsAscending-cells_without s' s (local_ascends s' after.part_local));
    out_is_there = λ c h. before.inside c (grind (arith, common_steps, has-cells_without s s' c, h));
    put_is_new = put_outside;
    local = subst IsLocal (sym change_of_part) after.local;
  }

-- the cells of a list that have leaves of a set, which cuts none of them
pub part_from : (S : ℕ → Bool) (u s : List ℕ) → IsLocal u → IsLocal s
    → ((x : ℕ) → has_leaf s x ≡ (has_leaf u x && S x)) → CutsNone S u → IsPart S u s
part_from S u s lu ls leaves none =
    let lies : (c x : ℕ) → has u c ≡ true → covers c x ≡ true → S x ≡ true → LiesIn (has_leaf s) c =
    λ c x h v w y k. leaves y ∙ ap (λ b. b && S y) (leaf_to u c y (member_had u c h) k) ∙ none c x h v w y k in
    let of_list : (x : ℕ) → has_leaf s x ≡ true → (has_leaf u x ≡ true) × (S x ≡ true) =
    λ x h. both (has_leaf u x) (S x) (sym (leaves x) ∙ h) in
    let one : (c d x : ℕ) → has u c ≡ true → has s d ≡ true → covers c x ≡ true → covers d x ≡ true → c ≡ d =
    λ c d x h m v k.
    let there = of_list x (leaf_to s d x (member_had s d m) k) in
    let g = member_greatest u lu c (member_had u c h) in
    greatest_apart (has_leaf s) c d x (record {
      cell = g.cell;
      inside = lies c x h v there.1;
      greatest = λ deep i. g.greatest deep (λ y l. (of_list y (i y l)).0);
    }) (member_greatest s ls d (member_had s d m)) v k in
    record {
      local = lu;
      part_local = ls;
      inside = λ d m.
          let v = leaf_there d (is_cell s d ls m) in
          let x = first_leaf d in
          let c = leaf_from u x (of_list x (leaf_to s d x (member_had s d m) v)).0 in
          let h = has_member u c.cell c.member in
          subst (λ (k : ℕ). has u k ≡ true) (one c.cell d x h m (covers_there c.cell x c.low c.high) v) h;
      rest = λ c x h v w.
          let d = leaf_from s x (lies c x h v w x v) in
          let m = has_member s d.cell d.member in
          subst (λ (k : ℕ). has s k ≡ true) (sym (one c d.cell x h m v (covers_there d.cell x d.low d.high))) m;
    }
  where
    both : (a b : Bool) → (a && b) ≡ true → (a ≡ true) × (b ≡ true)
    both true true h = (refl, refl)
    both true false h = absurd (false≢true h)
    both false b h = absurd (false≢true h)
