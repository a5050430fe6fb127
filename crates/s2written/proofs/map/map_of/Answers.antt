use Rattle.std.proofs.Common.{◌<◌, ◌∙◌, All, ap₂, arith, length, sym, subst}
use Rattle.std.proofs.lemmas.Result.{err_from_is_err_and}
use Rattle.s2map.specs.Map.{IsMapPlace}
use Rattle.s2written.specs.Maps.{edges_of}
use Rattle.s2written.proofs.Maps.{added, ends_at, left_out, on_map}
use Rattle.s2written.proofs.map.map_of.Goals.{then-end-first+in_ok-part_of+in_ok-add, else-end-first}
use Rattle.s2written.proofs.map.map_of.Goals as goal

pub returns-in_err-corners-clause-fault : goal.returns-in_err-corners-clause-fault
returns-in_err-corners-clause-fault c =
    let p = err_from_is_err_and c.from_residual.result c.from_residual.ensures.1 in
    rw (p.1, p.2) c.in_err-corners.ensures.fault

pub part_of-requires : goal.part_of-requires
part_of-requires c =
    subst (All IsMapPlace) (sym c.deref.ensures.value)
    (on_map c.args.shape.now.positions.items c.in_ok-corners.corners.items c.in_ok-corners.ensures.places)

pub loop-k-preserved : goal.loop-k-preserved
loop-k-preserved c =
    let corners = c.in_ok-corners.corners.items in
    let rings = c.args.shape.now.rings.items in
    let parts = c.args.shape.now.parts.items in
    let k = c.loop-k.k in
    let end = c.index.result.now.end in
    let n = c.len-k-end.ensures in
    let l : k < length parts = omega (arith, n) in
    let at = ends_at parts k c.index.result.now l c.index.ensures in
    record {
      edges = elim c.if-end-first.branch [
        | then-end-first+in_ok-part_of+in_ok-add w ↦
            let own = w.in_ok-part_of.ensures.edges
            ∙ ap₂ (λ p r. edges_of p r c.loop-k.first end) w.deref.ensures.value w.deref-then-end-first.ensures.value in
            added corners rings parts k c.loop-k.first end c.loop-k.map c.if-end-first.map w.in_ok-part_of.field-0
            c.loop-k.invariant.first at w.if-end-first.true c.loop-k.invariant.edges own
            (w.map-is ∙ w.in_ok-add.ensures.added)
        | else-end-first w ↦
            left_out corners rings parts k c.loop-k.first end c.if-end-first.map c.loop-k.invariant.first at
            w.if-end-first.false (w.map-is ∙ c.loop-k.invariant.edges)
      ];
      first = at;
    }
