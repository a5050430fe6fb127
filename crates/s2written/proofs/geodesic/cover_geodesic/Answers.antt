use Rattle.std.proofs.Common.{◌≡◌, ◌∙◌, ℕ, ◌<◌, All, length, subst, sym, true}
use Rattle.std.proofs.lemmas.Result.{err_from_is_err_and}
use Rattle.s2cell.specs.declared.TheConstants.{LEAVES}
use Rattle.s2cover.specs.Coverings.{inner_set, outer_set}
use Rattle.s2list.specs.Union.{has_leaf}
use Rattle.s2polygon.specs.Leaves.{inner_leaf, outer_leaf}
use Rattle.s2shape.specs.Reading.{shape_seen}
use Rattle.s2written.proofs.Errors.{geodesic_error_of_any}
use Rattle.s2written.proofs.Polygons.{true_inner, true_outer}
use Rattle.s2written.specs.Geodesics.{ArePolygonsOf, HasTooMany, HaveAtMost, any_inner, any_inner_set, any_outer}
use Rattle.s2written.specs.Geodesics.{any_outer_set, spans}
use Rattle.s2written.specs.Maps.{IsPolygon}
use Rattle.s2written.proofs.geodesic.cover_geodesic.Goals as goal

pub returns-in_err-corners-clause-fault : goal.returns-in_err-corners-clause-fault
returns-in_err-corners-clause-fault c =
    let p = err_from_is_err_and c.from_residual.result c.from_residual.ensures.1 in
    rw (p.1, p.2) (geodesic_error_of_any (HasTooMany c.args.level c.args.max) (shape_seen c.args.shape.now) _
    c.in_err-corners.ensures.fault)

pub returns-in_err-polygons-clause-fault : goal.returns-in_err-polygons-clause-fault
returns-in_err-polygons-clause-fault c =
    let p = err_from_is_err_and c.from_residual-in_err-polygons.result c.from_residual-in_err-polygons.ensures.1 in
    rw (p.1, p.2) (geodesic_error_of_any (HasTooMany c.args.level c.args.max) (shape_seen c.args.shape.now) _
    c.in_err-polygons.ensures.fault)

pub returns-clause-covers : goal.returns-clause-covers
returns-clause-covers c =
    let s = shape_seen c.args.shape.now in
    let level = c.args.level in
    let corners = c.in_ok-corners.corners.items in
    let h = c.in_ok-corners.ensures.corners in
    let polygons = c.in_ok-polygons.polygons.items in
    let outer = c.in_ok-outer.outer.items in
    let inner = c.in_ok-inner.inner.items in
    let ss = spans s.parts (length s.parts) in
    let are = subst (λ cs. ArePolygonsOf cs s (length s.parts) polygons) c.deref-2.ensures.value
    c.in_ok-polygons.ensures.polygons in
    let leaves = subst (λ rs. (x : ℕ) → has_leaf outer x ≡ any_outer_set rs level x) c.deref-3.ensures.value
    c.in_ok-outer.ensures.leaves in
    let missed = subst (λ rs. (x : ℕ) → x < LEAVES → any_outer rs x ≡ true → has_leaf outer x ≡ true)
    c.deref-3.ensures.value c.in_ok-outer.ensures.missed in
    let filled = subst (λ rs. (x : ℕ) → has_leaf inner x ≡ any_inner_set rs level x) c.deref-4.ensures.value
    c.in_ok-inner.ensures.leaves in
    let proper = subst (λ rs. (x : ℕ) → has_leaf inner x ≡ true → any_inner rs x ≡ true) c.deref-4.ensures.value
    c.in_ok-inner.ensures.proper in
    record {
      alone = subst (All IsPolygon) c.deref.ensures.value c.in_default.ensures.none;
      places = h.0;
      corners = corners;
      are_corners = h.1;
      polygons = polygons;
      are_polygons = are;
      outer_is = λ x. c.normalise.ensures.leaves x ∙ leaves x;
      inner_is = λ x. c.normalise-2.ensures.leaves x ∙ filled x;
      outer_few = subst (HaveAtMost (λ r. outer_set (outer_leaf r) level) c.args.max) c.deref-3.ensures.value
          c.in_ok-outer.ensures.few;
      inner_few = subst (HaveAtMost (λ r. inner_set (inner_leaf r) level) c.args.max) c.deref-4.ensures.value
          c.in_ok-inner.ensures.few;
      misses_none = λ moved x t l is. c.normalise.ensures.leaves x ∙ missed x l
          (true_outer h.0 corners moved s.rings h.1.rounded t x l c.law_of_true_corners.ensures.outer ss polygons are
          is);
      none_outside = λ moved x t l is.
          true_inner h.0 corners moved s.rings h.1.rounded t x l c.law_of_true_corners.ensures.inner ss polygons are
          (proper x (sym (c.normalise-2.ensures.leaves x) ∙ is));
      outer_local = c.normalise.ensures.local;
      inner_local = c.normalise-2.ensures.local;
    }
