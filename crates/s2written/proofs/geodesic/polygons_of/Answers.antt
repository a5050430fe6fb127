use Rattle.std.proofs.Common.{◌<◌, arith, length, subst}
use Rattle.std.proofs.lemmas.Result.{err_from_is_err_and}
use Rattle.s2geodesic.specs.Rounded.{IsPolygonOf}
use Rattle.s2shape.specs.Reading.{shape_seen}
use Rattle.s2written.specs.Maps.{corners_of, ends_of}
use Rattle.s2written.proofs.Maps.{ends_at}
use Rattle.s2written.proofs.Polygons.{part_error, span_added, span_left_out}
use Rattle.s2written.proofs.geodesic.polygons_of.Goals.{then-end-first+in_ok-polygon_at+in_ok-push, else-end-first}
use Rattle.s2written.proofs.geodesic.polygons_of.Goals as goal

pub returns-in_err-polygon_at-clause-fault : goal.returns-in_err-polygon_at-clause-fault
returns-in_err-polygon_at-clause-fault c =
    let p = err_from_is_err_and c.from_residual.result c.from_residual.ensures.1 in
    let parts = c.args.shape.now.parts.items in
    let n = c.len-k-end.ensures in
    let l : c.loop-k.k < length parts = omega (arith, n) in
    let at = ends_at parts c.loop-k.k c.index.result.now l c.index.ensures in
    rw (p.1, p.2) (part_error (shape_seen c.args.shape.now) c.loop-k.k c.requires.0 c.args.corners.now c.loop-k.first
    c.index.result.now.end c.deref.result.now l c.requires.1 c.loop-k.invariant.first at c.deref.ensures.value _
    c.in_err-polygon_at.ensures.fault)

pub loop-k-preserved : goal.loop-k-preserved
loop-k-preserved c =
    let s = shape_seen c.args.shape.now in
    let corners = c.args.corners.now in
    let k = c.loop-k.k in
    let first = c.loop-k.first in
    let end = c.index.result.now.end in
    let n = c.len-k-end.ensures in
    let l : k < length s.parts = omega (arith, n) in
    let at = ends_at s.parts k c.index.result.now l c.index.ensures in
    record {
      polygons = elim c.if-end-first.branch [
        | then-end-first+in_ok-polygon_at+in_ok-push w ↦
            rw (w.polygons-is, w.in_ok-push.ensures.items)
            (span_added corners s k first end c.loop-k.polygons.items w.in_ok-polygon_at.field-0
            c.loop-k.invariant.first at w.if-end-first.true
            (subst (λ rs. IsPolygonOf (corners_of corners rs first end) (ends_of rs first end)
            w.in_ok-polygon_at.field-0) w.deref.ensures.value w.in_ok-polygon_at.ensures.polygon)
            c.loop-k.invariant.polygons)
        | else-end-first w ↦
            rw w.polygons-is (span_left_out corners s k first end c.loop-k.polygons.items c.loop-k.invariant.first at
            w.if-end-first.false c.loop-k.invariant.polygons)
      ];
      first = at;
    }
