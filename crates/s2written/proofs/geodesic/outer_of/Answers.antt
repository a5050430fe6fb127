use Rattle.std.proofs.Common.{◌≡◌, ◌∙◌, ◌++◌, ◌<◌, ℕ, List, ap, arith, inl, inr, length, refl, subst, sym}
use Rattle.std.proofs.lemmas.List.{length-append, take_all}
use Rattle.std.proofs.lemmas.List.Elements.{Contains-get_or}
use Rattle.std.specs.List.{sum_by}
use Rattle.std.specs.Prelude.{Contains}
use Rattle.s2cover.proofs.NormalForms.{outer_has_normal_form}
use Rattle.s2cover.specs.Coverings.{outer_set}
use Rattle.s2list.specs.Union.{has_leaf}
use Rattle.s2polygon.specs.Leaves.{Region, outer_leaf}
use Rattle.s2written.proofs.Polygons.{count_more, have_more, have_together, leaves_more, missed_more}
use Rattle.s2written.proofs.geodesic.outer_of.Goals as goal

pub returns-in-Err-TooMany-clause-fault : goal.returns-in-Err-TooMany-clause-fault
returns-in-Err-TooMany-clause-fault c =
    let t = c.loop-i-test.true in
    let l : c.loop-i.i < length c.args.polygons.now = omega (arith, t) in
    inr (
      refl,
      elim c.in-Err-TooMany.ensures.many [
        | inl t ↦ inl (
            have_more (λ r. outer_set (outer_leaf r) c.args.level)
            (λ r. (outer_has_normal_form (outer_leaf r) c.args.level).0)
            (λ r. (outer_has_normal_form (outer_leaf r) c.args.level).1) c.args.polygons.now c.loop-i.i
            c.index-polygons-i.result l c.index-polygons-i.is c.args.max c.len.result
            (omega (arith, c.len.ensures, c.loop-i.cells.ok, c.loop-i.invariant.count)) (t c.in-Err-TooMany.field-0-is)
            )
        | inr w ↦ inr (
            inr record {
              polygon = c.index-polygons-i.result;
              one = subst (Contains c.args.polygons.now) (sym c.index-polygons-i.is)
                  (Contains-get_or c.args.polygons.now c.loop-i.i _ l);
              fine = w.1;
            }
            )
      ],
    )

pub loop-i-preserved : goal.loop-i-preserved
loop-i-preserved c =
    let all = c.args.polygons.now in
    let i = c.loop-i.i in
    let r = c.index-polygons-i.result in
    let read = c.index-polygons-i.is in
    let t = c.loop-i-test.true in
    let l : i < length all = omega (arith, t) in
    let cells = c.loop-i.cells.items in
    let own = c.in-Ok.covering.cells in
    let added : c.extend_from_slice.new.self.items ≡ cells ++ own = c.in_ok-extend_from_slice-in-Ok.ensures.items
    ∙ ap (λ (u : List ℕ). cells ++ u) c.cells.ensures.value in
    let size = ap (λ (u : List ℕ). length u) added in
    record {
      leaves = λ x. ap (λ (u : List ℕ). has_leaf u x) added
          ∙ leaves_more (λ r. outer_set (outer_leaf r) c.args.level) all i r l read cells own
          c.loop-i.invariant.leaves c.in-Ok.ensures.leaves x;
      missed = λ x k is. ap (λ (u : List ℕ). has_leaf u x) added
          ∙ missed_more outer_leaf all i r l read cells own c.loop-i.invariant.missed c.in-Ok.ensures.missed x k is;
      count = size
          ∙ count_more (λ r. outer_set (outer_leaf r) c.args.level)
          (λ r. (outer_has_normal_form (outer_leaf r) c.args.level).0)
          (λ r. (outer_has_normal_form (outer_leaf r) c.args.level).1) all i r l read cells own
          c.loop-i.invariant.count c.in-Ok.ensures.normal;
      few = omega (
        arith,
        size,
        length-append cells own,
        c.in-Ok.ensures.within,
        c.len.ensures,
        c.loop-i.cells.ok,
        c.loop-i.invariant.few,
      );
    }

pub returns-clause-few : goal.returns-clause-few
returns-clause-few c =
    let all = c.args.polygons.now in
    let form = λ (r : Region). (outer_has_normal_form (outer_leaf r) c.args.level).0 in
    let f = c.loop-i-test.false in
    let e = c.loop-i.auto.i-end in
    let whole = ap (λ (rs : List Region). sum_by (λ r. length (form r)) rs)
    (take_all c.loop-i.i all (omega (arith, f, e))) in (
      length c.loop-i.cells.items,
      have_together (λ r. outer_set (outer_leaf r) c.args.level) form
          (λ r. (outer_has_normal_form (outer_leaf r) c.args.level).1) all (length c.loop-i.cells.items)
          (c.loop-i.invariant.count ∙ whole),
      c.loop-i.invariant.few,
    )
