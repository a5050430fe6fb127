-- Lemmas on sets whose normal form has too many cells.
use Rattle.std.proofs.Common.{◌≡◌, ℕ, ◌+◌, ◌*◌, ◌/◌, ◌<◌, ◌&&◌, Bool, true, false}
use Rattle.std.proofs.Common.{List, length, not, ap, arith, refl}
use Rattle.std.proofs.Common.{◌∙◌, nat_lt, ⊎_elim}
use Rattle.std.proofs.lemmas.Bool.{lt-ltb, or_cases}
use Rattle.std.proofs.lemmas.List.Elements.{All-contains}
use Rattle.s2cell.specs.Cell.{IsCell}
use Rattle.s2cell.proofs.CellLemmas.{cell_leaves}
use Rattle.s2cell.specs.declared.TheConstants.{LEAVES}
use Rattle.s2list.specs.Union.{has_leaf, IsLocal, IsNormalForm}
use Rattle.s2list.specs.Sets.{union_of, difference_of}
use Rattle.s2list.proofs.Normal.{leaf_from, normal_form_same}
use Rattle.s2cover.specs.Coverings.{filled, outer_set, inner_set}
use Rattle.s2cover.proofs.NormalForms.{outer_has_normal_form, inner_has_normal_form}
use Rattle.s2calc.specs.Edits.{IsTooLong}

too_long : (S : ℕ → Bool) (limit : ℕ) → ((u : List ℕ) × IsNormalForm S u) →
    ((u : List ℕ) → IsNormalForm S u → limit < length u) → IsTooLong S limit
too_long S limit (u, normal) h = record { list = u; normal = normal; above = h u normal }

pub outer_too_long : (R : ℕ → Bool) (level limit : ℕ) →
    ((u : List ℕ) → IsNormalForm (outer_set R level) u → limit < length u) → IsTooLong (outer_set R level) limit
outer_too_long R level limit h = too_long _ limit (outer_has_normal_form R level) h

pub inner_too_long : (R : ℕ → Bool) (level limit : ℕ) →
    ((u : List ℕ) → IsNormalForm (inner_set R level) u → limit < length u) → IsTooLong (inner_set R level) limit
inner_too_long R level limit h = too_long _ limit (inner_has_normal_form R level) h

-- a test that follows from the other adds nothing
and_known : (a b : Bool) → (b ≡ true → a ≡ true) → (a && b) ≡ b
and_known true b h = refl
and_known false true h = h refl
and_known false false h = refl

-- the inner covering at the level of leaves is the set itself
inner_leaves : (S : ℕ → Bool) (x : ℕ) → (S x ≡ true → x < LEAVES) → inner_set S 30 x ≡ S x
unfolding inner_set filled
inner_leaves S x below =
    let e : x / 1 * 1 + 0 ≡ x = omega arith in
    ap (λ y. nat_lt x LEAVES && S y) e ∙ and_known (nat_lt x LEAVES) (S x) (λ t. lt-ltb x LEAVES (below t))

-- a leaf of cells is one of all leaves
leaf_below : (u : List ℕ) (x : ℕ) → IsLocal u → has_leaf u x ≡ true → x < LEAVES
leaf_below u x local h =
    let l = leaf_from u x h in
    let high = l.high in
    let within = (cell_leaves l.cell (All-contains IsCell u l.cell local.cells l.member)).within in
    omega arith

and_first : (a b : Bool) → (a && b) ≡ true → a ≡ true
and_first true b h = refl
and_first false b h = h

-- the leaves of cells without others have a normal form
rest_has_normal_form : (u : List ℕ) (T : ℕ → Bool) → IsLocal u →
    (v : List ℕ) × IsNormalForm (difference_of (has_leaf u) T) v
rest_has_normal_form u T local =
    let (v, normal) = inner_has_normal_form (difference_of (has_leaf u) T) 30 in (
      v,
      normal_form_same (inner_set (difference_of (has_leaf u) T) 30) (difference_of (has_leaf u) T) v
          (λ x. inner_leaves (difference_of (has_leaf u) T) x (λ h.
          leaf_below u x local (and_first (has_leaf u x) (not (T x)) h)))
          normal,
    )

pub rest_too_long : (u : List ℕ) (T : ℕ → Bool) (limit : ℕ) → IsLocal u →
    ((v : List ℕ) → IsNormalForm (difference_of (has_leaf u) T) v → limit < length v) →
    IsTooLong (difference_of (has_leaf u) T) limit
rest_too_long u T limit local h = too_long _ limit (rest_has_normal_form u T local) h

-- the leaves of cells and of others have a normal form
either_has_normal_form : (u w : List ℕ) → IsLocal u → IsLocal w →
    (v : List ℕ) × IsNormalForm (union_of (has_leaf u) (has_leaf w)) v
either_has_normal_form u w lu lw =
    let (v, normal) = inner_has_normal_form (union_of (has_leaf u) (has_leaf w)) 30 in (
      v,
      normal_form_same (inner_set (union_of (has_leaf u) (has_leaf w)) 30) (union_of (has_leaf u) (has_leaf w)) v
          (λ x. inner_leaves (union_of (has_leaf u) (has_leaf w)) x (λ h.
          ⊎_elim (λ (e : has_leaf u x ≡ true). leaf_below u x lu e) (λ (e : has_leaf w x ≡ true). leaf_below w x lw e)
          (or_cases (has_leaf u x) (has_leaf w x) h)))
          normal,
    )

pub either_too_long : (u w : List ℕ) (limit : ℕ) → IsLocal u → IsLocal w →
    ((v : List ℕ) → IsNormalForm (union_of (has_leaf u) (has_leaf w)) v → limit < length v) →
    IsTooLong (union_of (has_leaf u) (has_leaf w)) limit
either_too_long u w limit lu lw h = too_long _ limit (either_has_normal_form u w lu lw) h
