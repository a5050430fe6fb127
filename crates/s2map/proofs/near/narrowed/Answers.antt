use Rattle.std.proofs.Common.{All, subst, sym}
use Rattle.std.proofs.lemmas.List.Elements.{All-get_or}
use Rattle.s2map.proofs.Sifting.{none_sifted, sifted_next}
use Rattle.s2map.specs.Rings.{origin}
use Rattle.s2map.specs.Working.Sizes.{IsNearEdge}
use Rattle.s2map.proofs.near.narrowed.Goals as goal

pub loop-e-init : goal.loop-e-init
loop-e-init c =
    none_sifted c.args.from c.args.q c.args.near.now.odd c.deref-e-items.result.now c.new-edges.result.items
    c.new-edges.ensures.items

pub loop-e-preserved : goal.loop-e-preserved
loop-e-preserved c =
    let corner = c.corner_of-to.ensures.value in
    let change = c.changes-odd.ensures in
    let all = subst (All IsNearEdge) (sym c.deref-e-items.ensures.value) c.requires.near in
    sifted_next c.args.from c.args.q c.args.near.now.odd c.deref-e-items.result.now c.loop-e.e-index
    (record { a = origin; b = origin }) c.loop-e.odd c.changes-odd.result c.meets.result c.loop-e.edges.items
    c.keep_if.new.list.items c.loop-e-test.true (rw corner at change) c.meets.ensures c.in_ok-keep_if.ensures
    (All-get_or IsNearEdge c.deref-e-items.result.now c.loop-e.e-index (record { a = origin; b = origin })
    c.loop-e-test.true all) c.loop-e.invariant
