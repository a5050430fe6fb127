use Rattle.std.proofs.Common.{◌≡◌, ◌∙◌, ◌⊎◌, ℕ, ◌<◌, All, false, inl, inr, length, subst, true}
use Rattle.std.proofs.lemmas.Bool.{both_ways}
use Rattle.std.proofs.lemmas.Result.{err_from_is_err_and}
use Rattle.s2cell.specs.declared.TheConstants.{LEAVES}
use Rattle.s2cover.specs.Rough.{ComesNearInner, ComesNearOuter}
use Rattle.s2list.specs.Union.{has_leaf}
use Rattle.s2polygon.specs.Counts.{edges_met}
use Rattle.s2polygon.specs.Leaves.{inner_leaf, outer_leaf}
use Rattle.s2shape.specs.Reading.{shape_seen}
use Rattle.s2written.proofs.Polygons.{true_inner, true_outer}
use Rattle.s2written.specs.Few.{edges_of_all}
use Rattle.s2written.specs.Geodesics.{ArePolygonsOf, any_inner, any_outer, spans}
use Rattle.s2written.specs.Maps.{IsPolygon}
use Rattle.s2written.specs.Several.{CrossesOne}
use Rattle.s2written.proofs.few.cover_geodesic_up_to.Goals as goal

pub returns-in_err-corners-clause-fault : goal.returns-in_err-corners-clause-fault
returns-in_err-corners-clause-fault c =
    let p = err_from_is_err_and c.from_residual.result c.from_residual.ensures.1 in
    rw (p.1, p.2) c.in_err-corners.ensures.fault

pub returns-in_err-polygons-clause-fault : goal.returns-in_err-polygons-clause-fault
returns-in_err-polygons-clause-fault c =
    let p = err_from_is_err_and c.from_residual-in_err-polygons.result c.from_residual-in_err-polygons.ensures.1 in
    rw (p.1, p.2) c.in_err-polygons.ensures.fault

pub returns-clause-covers : goal.returns-clause-covers
returns-clause-covers c =
    let s = shape_seen c.args.shape.now in
    let deepest = c.args.deepest in
    let most = c.args.most in
    let corners = c.in_ok-corners.corners.items in
    let h = c.in_ok-corners.ensures.corners in
    let polygons = c.in_ok-polygons.polygons.items in
    let outer = c.in_ok-outer.outer.cells in
    let inner = c.in_ok-inner.inner.cells in
    let ss = spans s.parts (length s.parts) in
    let are = subst (λ cs. ArePolygonsOf cs s (length s.parts) polygons) c.deref-2.ensures.value
    c.in_ok-polygons.ensures.polygons in
    let same = c.deref-4.ensures.value ∙ c.in_ok-walks.ensures ∙ c.deref-3.ensures.value in
    let missed = subst (λ rs. (x : ℕ) → x < LEAVES → (has_leaf outer x ≡ true) ⊎ (any_outer rs x ≡ false)) same
    c.in_ok-outer.ensures.leaves in
    let proper = subst (λ rs. (x : ℕ) → has_leaf inner x ≡ true → any_inner rs x ≡ true) same
    c.in_ok-inner.ensures.leaves in
    record {
      alone = subst (All IsPolygon) c.deref.ensures.value c.in_default.ensures.none;
      places = h.0;
      corners = corners;
      are_corners = h.1;
      polygons = polygons;
      are_polygons = are;
      misses_none = λ moved x t l is. elim (missed x l) [
        | inl w ↦ w
        | inr none ↦ absurd (both_ways (any_outer polygons x) none
            (true_outer h.0 corners moved s.rings h.1.rounded t x l c.law_of_true_corners.ensures.outer ss polygons are
            is))
      ];
      none_outside = λ moved x t l is.
          true_inner h.0 corners moved s.rings h.1.rounded t x l c.law_of_true_corners.ensures.inner ss polygons are
          (proper x is);
      near_outer = subst (λ rs. ComesNearOuter (λ x. any_outer rs x ≡ false) (λ x. any_inner rs x ≡ true)
          (CrossesOne outer_leaf inner_leaf edges_met rs) (edges_of_all rs) deepest most outer) same
          c.in_ok-outer.ensures.near;
      near_inner = subst (λ rs. ComesNearInner (λ x. any_outer rs x ≡ false)
          (CrossesOne outer_leaf inner_leaf edges_met rs) (edges_of_all rs) deepest most inner) same
          c.in_ok-inner.ensures.near;
      few_outer = c.in_ok-outer.ensures.within;
      few_inner = c.in_ok-inner.ensures.within;
      level_outer = c.in_ok-outer.ensures.level;
      level_inner = c.in_ok-inner.ensures.level;
      outer_local = c.in_ok-outer.ensures.local;
      inner_local = c.in_ok-inner.ensures.local;
    }
