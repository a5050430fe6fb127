-- What is known of a cell says how its leaves lie.
use Rattle.std.proofs.Common.{◌≡◌, refl, sym, ap, ◌∙◌, ℕ, ◌+◌, ◌-◌, ◌/◌, ◌^◌, arith, Bool, true}
use Rattle.std.proofs.Common.{false, not, ◌&&◌, ◌||◌, []}
use Rattle.std.proofs.Math.Bool.{true≢false}
use Rattle.std.specs.List.{list_any}
use Rattle.s2cell.specs.Cell.{level_of, covers}
use Rattle.s2cell.specs.Curve.{i_of, j_of}
use Rattle.s2cell.proofs.Squares.{first_leaf_covered}
use Rattle.s2list.specs.Union.{LiesIn}
use Rattle.s2cover.specs.Coverings.{LiesOutside}
use Rattle.s2polygon.proofs.Cells.{as_above}
use Rattle.s2polygon.proofs.Descents.{none_left}
use Rattle.s2polygon.proofs.Indexes.{cell_on_grid, leaf_at, leaf_of, level_within}
use Rattle.s2polygon.proofs.Insides.{inside_is}
use Rattle.s2polygon.proofs.Picking.{none_picked, picked_none}
use Rattle.s2polygon.proofs.Tests.{leaves_out_near}
use Rattle.s2polygon.proofs.Touching.{meets_around, leaf_touched, none_near, some_kept}
use Rattle.s2polygon.specs.Cells.{odd_of, square_of, widened}
use Rattle.s2polygon.specs.Faces.{edges_on}
use Rattle.s2polygon.specs.Leaves.{Region, inside, is_touched, outer_leaf, inner_leaf}
use Rattle.s2polygon.specs.Tests.{meets_square}
use Rattle.s2polygon.specs.Descents.{IsKnown, face_list, top_in}
use Rattle.s2polygon.specs.declared.descent.Known.{Known}
use Rattle.s2polygon.specs.declared.frames.FramedEdge.{FramedEdge}

-- ---- a cell that no edge is left for
module _ (r : Region) (c face i j size : ℕ) (known : Known) (h : IsKnown r c face i j size known) where
  abbrev kept : FramedEdge → Bool
  kept = meets_square (widened r.margin (square_of (30 - level_of c) (i / size) (j / size)))

  pub bare_inside : known.edges.items ≡ [] → (x : ℕ) → covers c x ≡ true → inside r x ≡ known.odd
  bare_inside none x covered =
      let l = leaf_at x h.cell h.square covered in
      let most = (cell_on_grid h.cell h.square).most in
      let at = inside_is r x in
      let missed = none_left (square_of (30 - level_of c) (i / size) (j / size)) kept
      (leaves_out_near r.margin (30 - level_of c) (i / size) (j / size))
      (edges_on face r.edges) (sym h.right.met ∙ none_picked (face_list r face) known.edges.items none) in
      let depth : 30 - level_of c + level_of c ≡ 30 = level_within c h.cell in
      at ∙ ap (λ (f : ℕ). odd_of (top_in r f) (edges_on f r.edges) 30 0 (i_of x) (j_of x)) l.face_is
      ∙ ap (λ (n : ℕ). odd_of (top_in r face) (edges_on face r.edges) n 0 (i_of x) (j_of x)) (sym depth)
      ∙ as_above (top_in r face) (edges_on face r.edges) (level_of c) (30 - level_of c)
      (i / size) (j / size) missed (30 - level_of c) 0 (i_of x) (j_of x) (omega arith) l.column l.row
      ∙ sym h.right.odd

  pub bare_untouched : known.edges.items ≡ [] → (x : ℕ) → covers c x ≡ true → is_touched r x ≡ false
  unfolding is_touched
  bare_untouched none x covered =
      let l = leaf_at x h.cell h.square covered in
      let far = rw (sym l.column, sym l.row) at
      (sym h.right.met ∙ none_picked (face_list r face) known.edges.items none) in
      ap (λ (f : ℕ). list_any (meets_square (widened r.margin (square_of 0 (i_of x) (j_of x)))) (edges_on f r.edges))
      l.face_is
      ∙ none_near (meets_square (widened r.margin (square_of 0 (i_of x) (j_of x))))
      (meets_square (widened r.margin (square_of (30 - level_of c) (i_of x / 2 ^ (30 - level_of c))
      (j_of x / 2 ^ (30 - level_of c)))))
      (meets_around r.margin (30 - level_of c) (i_of x) (j_of x)) (edges_on face r.edges) far

  -- ---- a cell that an edge is left for
  pub record Touched : Type 0 where
    pub leaf : ℕ
    pub covered : covers c leaf ≡ true
    pub touched : is_touched r leaf ≡ true

  pub some_touched : ¬ (known.edges.items ≡ []) → Touched
  unfolding is_touched
  some_touched some =
      let e = some_kept kept (edges_on face r.edges)
      (λ none. some (picked_none (face_list r face) known.edges.items (h.right.met ∙ none))) in
      let t = leaf_touched r.margin (30 - level_of c) (i / size) (j / size) e.edge e.far_is in
      let l = leaf_of t.x t.y h.cell h.square t.column t.row in
      record {
        leaf = l.leaf;
        covered = l.covered;
        touched =
            rw (l.face_is, l.column, l.row)
            (e.any (meets_square (widened r.margin (square_of 0 t.x t.y))) t.meets);
      }

-- ---- how the cell lies
or_none : (a b : Bool) → a ≡ false → b ≡ false → a || b ≡ false
or_none a b p q = rw (p, q) refl

or_both : (a b : Bool) → b ≡ true → a || b ≡ true
or_both true b p = refl
or_both false b p = p

and_none : (a b : Bool) → a ≡ false → a && b ≡ false
and_none a b p = rw p refl

and_both : (a b : Bool) → a ≡ true → b ≡ false → a && not b ≡ true
and_both a b p q = rw (p, q) refl

and_last : (a b : Bool) → a && not b ≡ true → b ≡ false
and_last true true p = absurd (true≢false (sym p))
and_last true false p = refl
and_last false b p = absurd (true≢false (sym p))

or_start : (a b : Bool) → a || b ≡ false → a ≡ false
or_start true b p = absurd (true≢false p)
or_start false b p = refl

module _ (r : Region) (c face i j size : ℕ) (known : Known) (h : IsKnown r c face i j size known) where
  pub out_of_outer : known.edges.items ≡ [] → known.odd ≡ false → LiesOutside (outer_leaf r) c
  out_of_outer none even x covered =
      or_none (is_touched r x) (inside r x) (bare_untouched r c face i j size known h none x covered)
      (bare_inside r c face i j size known h none x covered ∙ even)

  pub out_of_inner : known.edges.items ≡ [] → known.odd ≡ false → LiesOutside (inner_leaf r) c
  out_of_inner none even x covered = and_none (inside r x) (not (is_touched r x))
      (bare_inside r c face i j size known h none x covered ∙ even)

  pub in_inner : known.edges.items ≡ [] → known.odd ≡ true → LiesIn (inner_leaf r) c
  in_inner none odd x covered =
      and_both (inside r x) (is_touched r x) (bare_inside r c face i j size known h none x covered ∙ odd)
      (bare_untouched r c face i j size known h none x covered)

  pub in_outer : known.edges.items ≡ [] → known.odd ≡ true → LiesIn (outer_leaf r) c
  in_outer none odd x covered = or_both (is_touched r x) (inside r x)
      (bare_inside r c face i j size known h none x covered ∙ odd)

  -- a cell with an edge is neither
  pub crossed_outer : ¬ (known.edges.items ≡ []) → ¬ (LiesOutside (outer_leaf r) c)
  crossed_outer some out =
      let t = some_touched r c face i j size known h some in
      true≢false (sym t.touched ∙ or_start (is_touched r t.leaf) (inside r t.leaf) (out t.leaf t.covered))

  pub crossed_inner : ¬ (known.edges.items ≡ []) → ¬ (LiesIn (inner_leaf r) c)
  crossed_inner some lies =
      let t = some_touched r c face i j size known h some in
      true≢false (sym t.touched ∙ and_last (inside r t.leaf) (is_touched r t.leaf) (lies t.leaf t.covered))

  -- a cell without an edge is not both
  pub odd_outer : known.edges.items ≡ [] → known.odd ≡ true → ¬ (LiesOutside (outer_leaf r) c)
  odd_outer none odd out =
      let covered = first_leaf_covered c h.cell in
      true≢false (sym (in_outer none odd _ covered) ∙ out _ covered)

  pub even_inner : known.edges.items ≡ [] → known.odd ≡ false → ¬ (LiesIn (inner_leaf r) c)
  even_inner none even lies =
      let covered = first_leaf_covered c h.cell in
      true≢false (sym (lies _ covered) ∙ out_of_inner none even _ covered)
